-- The list with another body in its record and a second edit behind it, from the bytes to the items. Assumes nothing.
use mathlib.Core.Path.{◌≡◌, refl, sym, ap, ap₂, ◌∙◌, subst}
use mathlib.Core.List.{List, [], ◌∷◌, ◌++◌, append_assoc, append-nil}
use mathlib.Core.Option.{Option}
use Prim.Native.Nat.{ℕ, ◌+◌, ◌-◌, ◌≤◌}
use native.Mathlib.Omega.{arith}
use lib.Dec.{T, leb}
use lib.ListN.{length, take, drop, length-append, take-append-drop}
use lib.Seq.{take_all}
use Rattle.fields.specs.Lists.{all, Cut}
use Rattle.fields.specs.Numbers.{le_bytes}
use Rattle.fields.specs.Parts.{part, written, spliced}
use Rattle.fields.proofs.Lists.{all-mid, all_rest, all-put}
use Rattle.fields.proofs.Numbers.{length-le_bytes}
use Rattle.fields.proofs.Parts.{length-written, spliced-written}
use Rattle.format.specs.declared.Key.{Key}
use Rattle.std.specs.Prelude.{Result, Ok}
use Rattle.format.specs.declared.Edited.{Edited}
use Rattle.format.specs.declared.Refusal.{Refusal}
use Rattle.format.specs.Questions.{Answer, accepted, bind, needed, if_absent, Answered}
use Rattle.format.specs.Items.{Item, rising, item_bytes, sheet_bytes, data_fits, held_sheet, with_bytes, put_back, without}
use Rattle.format.specs.Apply.{replaced}
use Rattle.format.proofs.Keys.{rising-drop, rising-swap, cut-at-key}
use Rattle.format.proofs.Splices.{sheet-replace, sheet-remove, sheet-data}
use Rattle.item_list.specs.Steps.{list_items}
use Rattle.backref.specs.declared.plan.Plan.{Plan}
use Rattle.backref.specs.declared.plan.Plan.TheVariants.{Absent}
use Rattle.backref.specs.Plans.{plan_answer}
use Rattle.record_edit.specs.declared.SecondEdit.{SecondEdit}
use Rattle.record_edit.specs.declared.RecordAt.{RecordAt}
use Rattle.record_edit.specs.Records.{data_of, edited_sheet, held_record, nothing}
use Rattle.record_edit.proofs.Held.{held_items, held-bind, all_but}
use Rattle.transaction.specs.Drops.{gone, new_count, held_plan}
use Rattle.record_edit.proofs.Stands.{Stands}
use Rattle.transaction.proofs.Turns.{not-absent, stays}
use Rattle.transaction.proofs.Rewrites.{sheet-part}
use Rattle.transaction.proofs.BehindRecord.{BehindAt, rises}

module _ {s : List ℕ} {c : Cut Item} {target : RecordAt} (st : Stands s c target) where
  -- ---- with other items behind the record

  -- the second edit turns what stands behind the record into these items, and makes a list of m
  pub record Second (rest : List Item) (b : SecondEdit) (m : ℕ) : Type 0 where
    pub inner : sheet_bytes (c.front ++ c.hit ∷ rest) ≡ spliced b.from b.to (take b.size b.new) s
    pub many : length (c.front ++ c.hit ∷ rest) ≡ m
    pub fit : T (all (λ i. data_fits i.bytes) (c.front ++ rest))

  module _ {rest : List Item} {b : SecondEdit} {m : ℕ} (second : Second rest b m) (room : ℕ) where
    pub held-second : (d : List ℕ)
        → held_sheet room (accepted (c.front ++ with_bytes c.hit d ∷ rest)) ≡ held_record room m (length d) (edited_sheet s target b d)
    unfolding edited_sheet data_fits
    held-second d =
        held_items room m (length d) (c.front ++ with_bytes c.hit d ∷ rest) (edited_sheet s target b d)
        (sheet-replace (c.front ++ c.hit ∷ rest) c.front c.hit d rest refl
        ∙ (λ j. spliced (st.starts j) (st.ends j) (item_bytes (with_bytes (st.hit-is j) d)) (second.inner j)))
        (length-append c.front (with_bytes c.hit d ∷ rest) ∙ sym (length-append c.front (c.hit ∷ rest)) ∙ second.many)
        (all_but (λ i. leb (length i.bytes) 65535) c.front (with_bytes c.hit d) rest second.fit)

    pub put-answered : (p : Result Plan Refusal) (a : Answer (List ℕ)) (call : Answer (List Item)) (r : Result Edited Refusal) (old new : List ℕ)
        → call ≡ bind a (λ d. accepted (c.front ++ with_bytes c.hit d ∷ rest))
        → plan_answer p (data_of s target.start target.end) ≡ a
        → Answered (held_plan room m s target p b) r old new
        → Answered (held_sheet room call) r old new
    put-answered p a call r old new is says w =
        let put : List ℕ → Answer (List ℕ) = λ d. held_record room m (length d) (edited_sheet s target b d) in
        let h : held_sheet room call ≡ bind a put = ap (held_sheet room) is ∙ held-bind room a _ put (λ d e. held-second d) in
        subst (λ (x : Answer (List ℕ)). Answered x r old new) (ap (λ (x : Answer (List ℕ)). bind x put) says ∙ sym h) w

  -- ---- nothing else changes

  pub as_it_was : Second c.back (nothing (length s)) target.item_count
  as_it_was =
      let whole : spliced (length s) (length s) [] s ≡ s =
      ap (λ (l : List ℕ). l ++ drop (length s) s) (append-nil (take (length s) s)) ∙ take-append-drop (length s) s in
      record {
        inner = ap sheet_bytes (sym st.same) ∙ st.bytes-are ∙ sym whole;
        many = ap length (sym st.same) ∙ st.count;
        fit = all_rest (λ i. data_fits i.bytes) c.front c.hit c.back
            (subst (λ (l : List Item). T (all (λ i. data_fits i.bytes) l)) st.same st.fit);
      }

  pub inline-answered : (p : Result Plan Refusal) (a : Answer (List ℕ)) (other : Answer (List Item)) (room : ℕ) (r : Result Edited Refusal) (old new : List ℕ)
      → (p ≡ Ok Absent → ⊥)
      → plan_answer p (data_of s target.start target.end) ≡ a
      → Answered (held_plan room target.item_count s target p (nothing (length s))) r old new
      → Answered (held_sheet room (if_absent (bind a (λ d. accepted (put_back c d))) other)) r old new
  inline-answered p a other room r old new there says w =
      put-answered as_it_was room p a _ r old new (stays a (put_back c) other (λ e. not-absent p (data_of s target.start target.end) there (says ∙ e))) says w

  -- ---- another body under the record's key

  pub replaced-at : (rest : List Item) → T (rising (c.front ++ c.hit ∷ rest)) → (d : List ℕ)
      → replaced c.hit.key d (c.front ++ c.hit ∷ rest) ≡ accepted (c.front ++ with_bytes c.hit d ∷ rest)
  unfolding replaced bind needed
  replaced-at rest t d =
      ap (λ (o : Option (Cut Item)). bind (needed 5 o) (λ (k : Cut Item). accepted (put_back k d))) (cut-at-key c.front c.hit rest t)

  -- ---- an item behind the record

  module _ {key : Key} {from to : ℕ} (k : BehindAt s c target.end key from to) where
    abbrev i : Cut Item
    i = k.item

    -- what stands before it begins with the record
    pub joined : (l : List Item) → i.front ++ l ≡ c.front ++ c.hit ∷ (k.parts.mid ++ l)
    joined l = ap (λ (x : List Item). x ++ l) k.parts.front-is ∙ append_assoc c.front (c.hit ∷ k.parts.mid) l

    rises-at : T (rising (i.front ++ i.hit ∷ i.back))
    rises-at = subst (λ (l : List Item). T (rising l)) k.same (rises st)

    fit_at : T (all (λ i. data_fits i.bytes) (i.front ++ i.hit ∷ i.back))
    fit_at = subst (λ (l : List Item). T (all (λ i. data_fits i.bytes) l)) k.same st.fit

    -- its data
    pub item-bytes : i.hit.bytes ≡ data_of s from to
    item-bytes =
        let a = k.stands.starts in
        let b = k.stands.ends in
        let size : length i.hit.bytes ≡ to - (from + 21) = omega arith in
        sym (sheet-data (list_items s) i.front i.hit i.back k.same) ∙ (λ j. part (k.stands.starts j + 21) (size j) (st.bytes-are j))

    -- it goes
    pub without-it : Second (k.parts.mid ++ i.back) (gone from to) (target.item_count - 1)
    without-it =
        let l₁ = sym st.count ∙ ap length k.same ∙ length-append i.front (i.hit ∷ i.back) in
        let l₂ = length-append i.front i.back in
        record {
          inner = ap sheet_bytes (sym (joined i.back)) ∙ sheet-remove (list_items s) i.front i.hit i.back k.same
              ∙ (λ j. spliced (k.stands.starts j) (k.stands.ends j) [] (st.bytes-are j));
          many = ap length (sym (joined i.back)) ∙ l₂ ∙ omega (arith, l₁);
          fit = all_rest (λ i. data_fits i.bytes) c.front c.hit (k.parts.mid ++ i.back)
              (subst (λ (l : List Item). T (all (λ i. data_fits i.bytes) l)) (joined i.back)
              (all_rest (λ i. data_fits i.bytes) i.front i.hit i.back fit_at));
        }

    pub replaced-without : (d : List ℕ) → replaced c.hit.key d (without i) ≡ accepted (c.front ++ with_bytes c.hit d ∷ (k.parts.mid ++ i.back))
    replaced-without d =
        ap (replaced c.hit.key d) (joined i.back)
        ∙ replaced-at (k.parts.mid ++ i.back)
        (subst (λ (l : List Item). T (rising l)) (joined i.back) (rising-drop i.front i.hit i.back rises-at)) d

    -- its last four bytes are another count
    module _ (at : ℕ) (ends : at + 4 ≡ length i.hit.bytes) (count : ℕ) where
      abbrev with-count : Item
      with-count = with_bytes i.hit (written at (le_bytes 4 count) i.hit.bytes)

      four : length (le_bytes 4 count) ≡ 4
      four = length-le_bytes 4 count

      fits-it : at + length (le_bytes 4 count) ≤ length i.hit.bytes
      fits-it = let f = four in omega arith

      inner-count : sheet_bytes (i.front ++ with-count ∷ i.back) ≡ spliced (to - 4) to (take 4 (le_bytes 4 count)) s
      inner-count =
          let f = four in
          let a = k.stands.starts in
          let b = k.stands.ends in
          let position : from + 21 + at ≡ to - 4 = omega arith in
          let to_is : from + 21 + at + length (le_bytes 4 count) ≡ to = omega arith in
          let all-four : take 4 (le_bytes 4 count) ≡ le_bytes 4 count = take_all 4 (le_bytes 4 count) (omega arith) in
          sheet-part (list_items s) i.front i.hit at (le_bytes 4 count) i.back k.same fits-it
          ∙ (λ j. written (k.stands.starts j + 21 + at) (le_bytes 4 count) (st.bytes-are j))
          ∙ sym (spliced-written (from + 21 + at) to (le_bytes 4 count) s to_is)
          ∙ ap₂ (λ (n : ℕ) (l : List ℕ). spliced n to l s) position (sym all-four)

      counted-fits : T (data_fits with-count.bytes)
      unfolding data_fits
      counted-fits =
          let l = length-written at (le_bytes 4 count) i.hit.bytes fits-it in
          subst (λ (n : ℕ). T (leb n 65535)) (sym l) (all-mid (λ i. leb (length i.bytes) 65535) i.front i.hit i.back fit_at)

      pub counted-it : Second (k.parts.mid ++ with-count ∷ i.back) (new_count to count) target.item_count
      counted-it =
          let e = joined (with-count ∷ i.back) in
          record {
            inner = ap sheet_bytes (sym e) ∙ inner-count;
            many = ap length (sym e) ∙ length-append i.front (with-count ∷ i.back) ∙ sym (length-append i.front (i.hit ∷ i.back))
                ∙ ap length (sym k.same) ∙ st.count;
            fit = all_rest (λ i. data_fits i.bytes) c.front c.hit (k.parts.mid ++ with-count ∷ i.back)
                (subst (λ (l : List Item). T (all (λ i. data_fits i.bytes) l)) e
                (all-put (λ i. data_fits i.bytes) i.front with-count i.back
                (all_rest (λ i. data_fits i.bytes) i.front i.hit i.back fit_at) counted-fits));
          }

      pub replaced-counted : (d : List ℕ)
          → replaced c.hit.key d (i.front ++ with-count ∷ i.back) ≡ accepted (c.front ++ with_bytes c.hit d ∷ (k.parts.mid ++ with-count ∷ i.back))
      replaced-counted d =
          let e = joined (with-count ∷ i.back) in
          ap (replaced c.hit.key d) e
          ∙ replaced-at (k.parts.mid ++ with-count ∷ i.back)
          (subst (λ (l : List Item). T (rising l)) e (rising-swap i.front i.hit with-count.bytes i.back rises-at)) d
