-- A reference's item stands behind the record of its extent, because keys rise. Assumes nothing.
use mathlib.Core.Path.{◌≡◌, refl, sym, ap, ◌∙◌, subst}
use mathlib.Core.Logic.{◌⊎◌, inl, inr}
use mathlib.Core.Bool.{Bool, not}
use mathlib.Core.Option.{Option, none, some, map}
use mathlib.Core.List.{List, [], ◌∷◌, ◌++◌}
use Prim.Native.Nat.{ℕ, ◌+◌, ◌≤◌, ◌<◌}
use native.Mathlib.Omega.{arith}
use lib.Dec.{T, eqb, eqb→eq}
use lib.ListN.{length, length-append}
use mir.Facts.{or_yes, and_yes}
use Rattle.fields.specs.Lists.{all, Cut, later, first_cut}
use Rattle.fields.proofs.Lists.{cond_no, no-some, all_map, Found, cut-some}
use Rattle.format.specs.declared.Key.{Key}
use Rattle.format.specs.Items.{Item, key_below, rising, item_bytes, items_bytes, sheet_bytes}
use Rattle.format.specs.Sheets.{has_key}
use Rattle.format.specs.Apply.{is_record}
use Rattle.format.proofs.Items.{length-item_bytes, sheet-out}
use Rattle.format.proofs.Keys.{below, below_in, below-trans, below-not-same, rising-before}
use Rattle.format.proofs.Splices.{sheet-join}
use Rattle.item_list.specs.declared.Sought.TheVariants.{Present, Absent}
use Rattle.item_list.specs.Steps.{list_items, list_items_from, ListedFrom}
use Rattle.item_list.specs.Seeks.{seek_in}
use Rattle.item_list.proofs.Positions.{Sits, sits, no_cut, Inside, inside}
use Rattle.item_list.proofs.Behind.{behind-listed, found-behind, seek-behind}
use Rattle.record_edit.specs.declared.RecordAt.{RecordAt}
use Rattle.record_edit.proofs.Stands.{Stands}

-- ---- a cut behind an element that does not pass, and those before it

pub record Beyond {A : Type 0} (front : List A) (hit : A) (back : List A) (k : Cut A) : Type 0 where
  pub mid : List A
  pub front-is : k.front ≡ front ++ hit ∷ mid
  pub back_is : back ≡ mid ++ k.hit ∷ k.back

module _ {A : Type 0} (p : A → Bool) (x : A) (b : List A) (no : T (not (p x))) where
  beyond-later : (w : A) (a : List A) (o : Option (Cut A)) → ((d : Cut A) → o ≡ some d → Beyond a x b d) → {k : Cut A} → map (later w) o ≡ some k
      → Beyond (w ∷ a) x b k
  beyond-later w a none ih e = no-some e
  beyond-later w a (some d) ih {k} e =
      let t : Beyond a x b d = ih d refl in
      let e' : later w d ≡ k = cc in
      subst (Beyond (w ∷ a) x b) e' (record { mid = t.mid; front-is = ap (λ (l : List A). w ∷ l) t.front-is; back_is = t.back_is })

  beyond-first : (o : Option (Cut A)) → first_cut p b ≡ o → {k : Cut A} → map (later x) o ≡ some k → Beyond [] x b k
  beyond-first none f e = no-some e
  beyond-first (some d) f {k} e =
      let e' : later x d ≡ k = cc in
      subst (Beyond [] x b) e' (record { mid = d.front; front-is = refl; back_is = (cut-some p b f).same })

  beyond : (a : List A) → T (all (λ y. not (p y)) a) → {k : Cut A} → first_cut p (a ++ x ∷ b) ≡ some k → Beyond a x b k
  beyond [] t e = beyond-first (first_cut p b) refl (sym (cond_no (p x) _ _ no) ∙ e)
  beyond (w ∷ a) t e =
      let h = and_yes (not (p w)) _ t in
      beyond-later w a (first_cut p (a ++ x ∷ b)) (λ d f. beyond a h.1 f) (sym (cond_no (p w) _ _ h.0) ∙ e)

-- ---- the item of a key above the record's

pub above-record : (i : Item) → T (is_record i) → (key : Key) → key.objectid ≡ i.key.objectid → 170 ≤ key.kind → T (key_below i.key key)
unfolding is_record
above-record i t key extent high =
    let l : i.key.kind ≤ 169 = go (or_yes (eqb i.key.kind 168) _ t) in
    let k : i.key.kind < key.kind = omega arith in
    below_in i.key key (inr (sym extent, inl k))
  where
    go : T (eqb i.key.kind 168) ⊎ T (eqb i.key.kind 169) → i.key.kind ≤ 169
    go (inl h) = let e : i.key.kind ≡ 168 = eqb→eq _ _ h in omega arith
    go (inr h) = let e : i.key.kind ≡ 169 = eqb→eq _ _ h in omega arith

pub record BehindAt (s : List ℕ) (c : Cut Item) (end : ℕ) (key : Key) (from to : ℕ) : Type 0 where
  pub item : Cut Item
  pub finds : first_cut (has_key key) (list_items s) ≡ some item
  pub same : list_items s ≡ item.front ++ item.hit ∷ item.back
  pub parts : Beyond c.front c.hit c.back item
  pub stands : Inside s item.front item.hit from to
  pub after : end ≤ from

module _ {s : List ℕ} {c : Cut Item} {target : RecordAt} (st : Stands s c target) where
  pub rises : T (rising (list_items s))
  rises = (sheet-out s (list_items s) st.reads).3

  rises-at : T (rising (c.front ++ c.hit ∷ c.back))
  rises-at = subst (λ (l : List Item). T (rising l)) st.same rises

  -- what a search from the record's end on asks, and where it finds an item
  pub listed-behind : ListedFrom s target.end
  listed-behind = behind-listed st.list c.front c.hit c.back st.same target.end st.ends

  pub position-behind : (key : Key) (from to : ℕ) → seek_in key target.end (list_items_from s target.end) ≡ Present from to
      → (target.end ≤ from) × (from + 21 ≤ to) × (to ≤ length s)
  position-behind key from to e = found-behind st.list c.front c.hit c.back st.same target.end st.ends key from to e

  module _ (key : Key) (extent : key.objectid ≡ c.hit.key.objectid) (high : 170 ≤ key.kind) where
    key_above : T (key_below c.hit.key key)
    key_above = above-record c.hit st.is-record key extent high

    parts-of : {k : Cut Item} → first_cut (has_key key) (list_items s) ≡ some k → Beyond c.front c.hit c.back k
    parts-of {k} e =
        beyond (has_key key) c.hit c.back (below-not-same c.hit.key key key_above) c.front
        (all_map (below c.hit.key) (λ i. not (has_key key i))
        (λ i h. below-not-same i.key key (below-trans i.key c.hit.key key h key_above)) c.front
        (rising-before c.front c.hit c.back rises-at))
        (ap (first_cut (has_key key)) (sym st.same) ∙ e)

    -- the bytes of the record stand before those of the item
    follows : (k : Cut Item) → Beyond c.front c.hit c.back k → target.end ≤ length (sheet_bytes k.front)
    follows k t =
        let l₁ = ap (λ (l : List Item). length (sheet_bytes l)) t.front-is ∙ ap length (sheet-join c.front c.hit t.mid) in
        let l₂ = length-append (sheet_bytes c.front) (item_bytes c.hit ++ items_bytes t.mid) in
        let l₃ = length-append (item_bytes c.hit) (items_bytes t.mid) in
        let l₄ = length-item_bytes c.hit in
        let l₅ = st.ends in
        omega arith

    pub stands_at : (from to : ℕ) → seek_in key 1 (list_items s) ≡ Present from to → BehindAt s c target.end key from to
    stands_at from to e =
        let t : Sits key (list_items s) 1 from to = sits key 1 (list_items s) from to e in
        let k : Cut Item = t.at_cut in
        let f : Found (has_key key) (list_items s) k = cut-some (has_key key) (list_items s) t.is in
        let i : Inside s k.front k.hit from to =
        inside s (list_items s) k.front k.hit k.back from to st.bytes-are f.same t.stands in
        let parts : Beyond c.front c.hit c.back k = parts-of t.is in
        record {
          item = k;
          finds = t.is;
          same = f.same;
          parts = parts;
          stands = i;
          after = subst (λ (m : ℕ). target.end ≤ m) i.starts (follows k parts);
        }

    -- as the search from the record's end on answers it
    pub behind-is : seek_in key target.end (list_items_from s target.end) ≡ seek_in key 1 (list_items s)
    behind-is = seek-behind st.list c.front c.hit c.back st.same target.end st.ends key key_above

    pub behind-at : (from to : ℕ) → seek_in key target.end (list_items_from s target.end) ≡ Present from to → BehindAt s c target.end key from to
    behind-at from to e = stands_at from to (sym behind-is ∙ e)

    pub behind-none : (at : ℕ) → seek_in key target.end (list_items_from s target.end) ≡ Absent at → first_cut (has_key key) (list_items s) ≡ none
    behind-none at e = no_cut key 1 (list_items s) at rises (sym behind-is ∙ e)
