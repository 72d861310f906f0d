-- A reference dropped, whatever its kind: what the call answers inline, without an item and at an item. Assumes nothing.
use mathlib.Core.Path.{◌≡◌, refl, sym, ap, ap₂, ◌∙◌, subst}
use mathlib.Core.Bool.{Bool, true, false, cond}
use mathlib.Core.Option.{Option, none, some}
use mathlib.Core.List.{List, ◌++◌, append-nil}
use Prim.Native.Nat.{ℕ, ◌+◌, ◌-◌, ◌≤◌, ◌<◌}
use native.Mathlib.Omega.{arith}
use lib.Dec.{T, leb, ltb, eqb, leb→le, ltb→lt}
use lib.ListN.{length, drop_of_length-le}
use lib.Seq.{take_all}
use borrow.Author.Tests.{eqb-true}
use Rattle.fields.specs.Lists.{all, Cut, first_cut}
use Rattle.fields.specs.Numbers.{le, le_bytes}
use Rattle.fields.specs.Parts.{part, written}
use Rattle.fields.proofs.Lists.{all-mid, cut-some}
use Rattle.fields.proofs.Numbers.{length-le_bytes}
use Rattle.fields.proofs.Parts.{written-front}
use Rattle.format.specs.declared.BlockRef.{BlockRef}
use Rattle.format.specs.declared.DataRef.{DataRef}
use Rattle.format.specs.declared.SharedRef.{SharedRef}
use Rattle.format.specs.declared.Key.{Key}
use Rattle.std.specs.Prelude.{Result, Ok}
use Rattle.format.specs.declared.Edited.{Edited}
use Rattle.format.specs.declared.Refusal.{Refusal}
use Rattle.format.specs.Questions.{Answer, refused, absent, remove, accepted, bind, needed, if_absent, held, denied, Answered}
use Rattle.format.specs.References.{known, row_in, total_of, rank_of, make_ref}
use Rattle.format.specs.Bodies.{body_fits, on_head, one, lowered_by_part, on_total, lower_total, drop_inline, drop_inline_tree_ref, keyed_count}
use Rattle.format.specs.Items.{Item, key_of, held_sheet, put_back, without}
use Rattle.format.specs.Sheets.{has_key, deleted}
use Rattle.format.specs.Apply.{is_record, replaced, flagged, drop_tree_ref}
use Rattle.format.specs.Names.{is_ref_item, in_form, view_ref_item, view_of, well_formed, good}
use Rattle.format.specs.Ledger.{dropped_at, drop_data_ref, shared_count, less_item, drop_shared_ref}
use Rattle.format.proofs.Answers.{ask-ok, bind_ok, accepted-inj, remove-not}
use Rattle.format.proofs.Keys.{same_key-yes}
use Rattle.inline_refs.specs.declared.ref_name.RefName.{RefName}
use Rattle.inline_refs.specs.declared.ref_name.RefName.TheVariants.{Block, Data, SharedBlock, SharedData}
use Rattle.inline_refs.specs.Scans.{kind_of, fields_of}
use Rattle.item_list.specs.declared.Sought.TheVariants.{Present, Absent as Missing}
use Rattle.item_list.specs.Steps.{list_items, list_items_from}
use Rattle.item_list.specs.Seeks.{seek_in}
use Rattle.item_list.proofs.ItemWrites.{answered-no}
use Rattle.backref.specs.declared.plan.Plan.{Plan}
use Rattle.backref.specs.declared.plan.Plan.TheVariants.{Absent}
use Rattle.backref.specs.Plans.{plan_answer, Planned}
use Rattle.backref.specs.ByName.{shared_ref, drop_named}
use Rattle.record_edit.specs.declared.RecordAt.{RecordAt}
use Rattle.record_edit.specs.Records.{data_of, edited_sheet, nothing, held_edit}
use Rattle.record_edit.proofs.Held.{held-bind}
use Rattle.transaction.specs.Drops.{held_at, drop_ref, SharedInForm, lowered_total, item_drop, item_left, CountFits}
use Rattle.record_edit.proofs.Stands.{Stands}
use Rattle.transaction.proofs.Turns.{is-absent, turns}
use Rattle.transaction.proofs.BehindRecord.{BehindAt, behind-at, behind-none}
use Rattle.transaction.proofs.Puts.{inline-answered, held-second, item-bytes, without-it, replaced-without, counted-it, replaced-counted}
use Rattle.transaction.proofs.ItemDrops.{keyed-out}
use Rattle.transaction.proofs.Plans.{put-held}
use Rattle.transaction.proofs.Rewrites.{last-four}

-- ---- at the item

module _ (w : RefName) (amount : ℕ) (s : List ℕ) (target : RecordAt) (from to room : ℕ) (r : Result Edited Refusal) (old new : List ℕ) where
  abbrev body : List ℕ
  body = data_of s target.start target.end

  -- the total is lowered so, and so much is left of the item
  abbrev Drops : Answer (List ℕ) → ℕ → Answer (List ℕ) → Type 0
  Drops total left rest = Answered (bind total (held_at room s target from to left rest)) r old new

  abbrev AtItem : Type 0
  AtItem = Drops (lowered_total w amount (data_of s from to) body) (item_left w amount (le (part (to - 4) 4 s))) (item_drop w amount (data_of s from to))

-- ---- the definition in one form

pub kind-high : (w : RefName) → 170 ≤ kind_of w
unfolding kind_of
kind-high (Block name) = omega arith
kind-high (Data name) = omega arith
kind-high (SharedBlock parent) = omega arith
kind-high (SharedData parent) = omega arith

deleted-next : {A : Type 0} (o : Option (Cut Item)) (g : List Item → Answer A)
    → bind (bind (needed 5 o) (λ k. accepted (without k))) g ≡ bind (needed 5 o) (λ k. g (without k))
unfolding bind needed
deleted-next none g = refl
deleted-next (some k) g = refl

same-found : {A : Type 0} (o : Option (Cut Item)) (f g : Cut Item → Answer A) → ((k : Cut Item) → o ≡ some k → f k ≡ g k) → bind (needed 5 o) f ≡ bind (needed 5 o) g
unfolding bind needed
same-found none f g h = refl
same-found (some k) f g h = h k refl

kind-found : (items : List Item) (key : Key) (k : Cut Item) → first_cut (has_key key) items ≡ some k → k.hit.key.kind ≡ key.kind
kind-found items key k e = ap (λ (x : Key). x.kind) (same_key-yes k.hit.key key (cut-some (has_key key) items e).hit)

count-block : (i : Item) → i.key.kind ≡ 182 → shared_count i ≡ 1
unfolding shared_count
count-block i e = rw e

count-data : (i : Item) → i.key.kind ≡ 184 → shared_count i ≡ le i.bytes
unfolding shared_count
count-data i e = rw e

module _ (amount : ℕ) (items : List Item) (c : Cut Item) where
  abbrev at_item : RefName → Cut Item → Answer (List Item)
  at_item w k =
      bind (lowered_total w amount k.hit.bytes c.hit.bytes) (λ body.
      bind (dropped_at k (item_drop w amount k.hit.bytes)) (λ others. replaced c.hit.key body others))

  abbrev own_key : RefName → Key
  own_key w = key_of c.hit.key.objectid (kind_of w) (rank_of (kind_of w) (fields_of w))

  abbrev in_one : RefName → Answer (List Item)
  in_one w =
      if_absent (bind (drop_named c.hit.key.kind c.hit.bytes w amount) (λ body. accepted (put_back c body)))
      (bind (needed 5 (first_cut (has_key (own_key w)) items)) (at_item w))

  one_block : (name : BlockRef) → drop_tree_ref name false items c ≡ in_one (Block name)
  unfolding drop_tree_ref flagged deleted dropped_at lowered_total item_drop kind_of fields_of rank_of bind
  one_block name =
      ap (if_absent (bind (drop_inline_tree_ref c.hit.key.kind c.hit.bytes name) (λ body. accepted (put_back c body))))
      (deleted-next (first_cut (has_key (key_of c.hit.key.objectid 176 name.tree)) items)
      (λ others. bind (lower_total c.hit.bytes) (λ body. replaced c.hit.key body others)))

  one-data : (name : DataRef) → drop_data_ref name items c ≡ in_one (Data name)
  unfolding drop_data_ref lowered_total item_drop kind_of fields_of
  one-data name = refl

  -- at an item that counts so much
  abbrev with_part : Cut Item → ℕ → Answer (List Item)
  with_part k standing =
      bind (on_total c.hit.bytes (lowered_by_part amount standing)) (λ body.
      bind (dropped_at k (less_item standing amount)) (λ others. replaced c.hit.key body others))

  one-shared : (name : SharedRef) (w : RefName)
      → drop_named c.hit.key.kind c.hit.bytes w amount
      ≡ drop_inline c.hit.key.kind c.hit.bytes name.kind (one name.parent) amount (lowered_by_part amount)
      → own_key w ≡ key_of c.hit.key.objectid name.kind name.parent
      → ((k : Cut Item) → k.hit.key.kind ≡ name.kind → with_part k (shared_count k.hit) ≡ at_item w k)
      → drop_shared_ref name amount items c ≡ in_one w
  unfolding drop_shared_ref
  one-shared name w inl-is key-is at =
      let key : Key = key_of c.hit.key.objectid name.kind name.parent in
      ap₂ (λ (a b : Answer (List Item)). if_absent a b)
      (ap (λ (a : Answer (List ℕ)). bind a (λ body. accepted (put_back c body))) (sym inl-is))
      (same-found (first_cut (has_key key) items) _ (at_item w) (λ k e. at k (kind-found items key k e))
      ∙ ap (λ (x : Key). bind (needed 5 (first_cut (has_key x) items)) (at_item w)) (sym key-is))

  in-one-form : (w : RefName) → drop_ref w amount items c ≡ in_one w
  unfolding drop_ref lowered_total item_drop kind_of fields_of rank_of
  in-one-form (Block name) = one_block name
  in-one-form (Data name) = one-data name
  in-one-form (SharedBlock parent) =
      one-shared (shared_ref 182 parent) (SharedBlock parent) refl refl (λ k e. ap (with_part k) (count-block k.hit e))
  in-one-form (SharedData parent) =
      one-shared (shared_ref 184 parent) (SharedData parent) refl refl (λ k e. ap (with_part k) (count-data k.hit e))

-- ---- the item of shared data

-- a 184 item in its form has four bytes
four_bytes : (i : Item) → i.key.kind ≡ 184 → T (good i) → length i.bytes ≡ 4
unfolding view_of is_record is_ref_item known row_in view_ref_item in_form well_formed
four_bytes i e t = go (eqb (length i.bytes) 4) refl (rw e at t)
  where
    go : (b : Bool) → eqb (length i.bytes) 4 ≡ b → T (well_formed (in_form b (make_ref 184 (one i.key.offset) (le i.bytes)))) → length i.bytes ≡ 4
    go true h u = eqb-true _ _ h
    go false h u = absurd u

shared-kind : (parent : ℕ) → kind_of (SharedData parent) ≡ 184
unfolding kind_of
shared-kind parent = refl

-- a total that was lowered by a part: questions 10 and 22
part-asked : (amount standing : ℕ) (d : List ℕ) {body : List ℕ} → on_total d (lowered_by_part amount standing) ≡ accepted body → (1 ≤ amount) × (amount ≤ standing)
unfolding on_total on_head lowered_by_part
part-asked amount standing d e =
    let h₁ = ask-ok (body_fits d) 3 _ e in
    let h₂ = ask-ok (leb 24 (length d)) 6 _ h₁.1 in
    let h₃ = bind_ok (lowered_by_part amount standing (total_of d)) _ h₂.1 in
    let h₄ = ask-ok (leb 1 amount) 10 _ h₃.1 in
    let h₅ = ask-ok (leb amount standing) 22 _ h₄.1 in
    (leb→le _ _ h₄.0, leb→le _ _ h₅.0)

-- an item that is left counts less
part_left : (amount standing : ℕ) {bytes : List ℕ} → less_item standing amount ≡ accepted bytes → (amount < standing) × (bytes ≡ le_bytes 4 (standing - amount))
unfolding less_item
part_left amount standing {bytes} e = go (ltb amount standing) refl e
  where
    go : (b : Bool) → ltb amount standing ≡ b → cond b (accepted (le_bytes 4 (standing - amount))) remove ≡ accepted bytes
        → (amount < standing) × (bytes ≡ le_bytes 4 (standing - amount))
    go true h f = (ltb→lt _ _ (subst T (sym h) tt), sym (accepted-inj f))
    go false h f = remove-not f

written_all : (new old : List ℕ) → length old ≡ length new → written 0 new old ≡ new
written_all new old e =
    let short : length old ≤ length new = omega arith in
    written-front new old ∙ ap (λ (l : List ℕ). new ++ l) (drop_of_length-le old short) ∙ append-nil new

-- an item of data or of shared data that is left has another count in its last four bytes, behind `at`
record LeftOver (w : RefName) (amount : ℕ) (item bytes : List ℕ) (last : ℕ) : Type 0 where
  at : ℕ
  long : length item ≡ at + 4
  written_is : bytes ≡ written at (le_bytes 4 (item_left w amount last)) item

left_over : (w : RefName) (amount : ℕ) (item d : List ℕ) {body bytes : List ℕ} → CountFits w item
    → lowered_total w amount item d ≡ accepted body → item_drop w amount item ≡ accepted bytes
    → (last : ℕ) → ((at : ℕ) → length item ≡ at + 4 → le (part at 4 item) ≡ last) → LeftOver w amount item bytes last
unfolding item_drop lowered_total item_left keyed_count
left_over (Block name) amount item d f l e last is = remove-not e
left_over (Data name) amount item d f l e last is =
    let h = keyed-out item name e in
    record {
      at = 24;
      long = h.0;
      written_is = h.2 ∙ ap (λ (n : ℕ). written 24 (le_bytes 4 (n - 1)) item) (is 24 h.0);
    }
left_over (SharedBlock parent) amount item d f l e last is =
    let a = part-asked amount 1 d l in
    let b = part_left amount 1 e in
    absurd (omega (arith, a.0, b.0))
left_over (SharedData parent) amount item d f l e last is =
    let b = part_left amount (le item) e in
    let whole : part 0 4 item ≡ item = take_all 4 item (omega arith) in
    record {
      at = 0;
      long = f;
      written_is = b.1 ∙ ap (λ (n : ℕ). le_bytes 4 (n - amount)) (ap le (sym whole) ∙ is 0 f) ∙ sym (written_all (le_bytes 4 (last - amount)) item (f ∙ sym (length-le_bytes 4 (last - amount))));
    }

-- ---- the call

module _ {s : List ℕ} {c : Cut Item} {target : RecordAt} (st : Stands s c target) (w : RefName) (amount : ℕ) (p : Result Plan Refusal)
    (planned : Planned p (data_of s target.start target.end) (drop_named target.key.kind (data_of s target.start target.end) w amount)) (room : ℕ) where
  hit-is : record { key = target.key; bytes = data_of s target.start target.end } ≡ c.hit
  hit-is = sym st.hit-is

  says : plan_answer p (data_of s target.start target.end) ≡ drop_named c.hit.key.kind c.hit.bytes w amount
  says = planned.says ∙ ap (λ (i : Item). drop_named i.key.kind i.bytes w amount) hit-is

  abbrev other : Answer (List Item)
  other = bind (needed 5 (first_cut (has_key (own_key amount (list_items s) c w)) (list_items s))) (at_item amount (list_items s) c w)

  pub drop-inline : (p ≡ Ok Absent → ⊥) → (r : Result Edited Refusal) (old new : List ℕ)
      → Answered (bind (plan_answer p (data_of s target.start target.end)) (held_edit room target.item_count 65564 (edited_sheet s target (nothing (length s))))) r old new
      → Answered (held_sheet room (drop_ref w amount (list_items s) c)) r old new
  drop-inline there r old new h =
      subst (λ (a : Answer (List Item)). Answered (held_sheet room a) r old new) (sym (in-one-form amount (list_items s) c w))
      (inline-answered st p (drop_named c.hit.key.kind c.hit.bytes w amount) other room r old new there says
      (put-held s target p (nothing (length s)) room target.item_count r old new planned.inside h))

  module _ (out : p ≡ Ok Absent) (kind rank : ℕ) (kind-is : kind ≡ kind_of w) (rank_is : rank ≡ rank_of (kind_of w) (fields_of w)) where
    abbrev item-key : Key
    item-key = key_of target.key.objectid kind rank

    extent : item-key.objectid ≡ c.hit.key.objectid
    extent = ap (λ (i : Item). i.key.objectid) hit-is

    high : 170 ≤ kind
    high = subst (λ (n : ℕ). 170 ≤ n) (sym kind-is) (kind-high w)

    key-same : item-key ≡ own_key amount (list_items s) c w
    key-same = λ j. key_of (extent j) (kind-is j) (rank_is j)

    turned : (o : Option (Cut Item)) → first_cut (has_key item-key) (list_items s) ≡ o → drop_ref w amount (list_items s) c ≡ bind (needed 5 o) (at_item amount (list_items s) c w)
    turned o e =
        in-one-form amount (list_items s) c w
        ∙ turns (drop_named c.hit.key.kind c.hit.bytes w amount) _ other (sym says ∙ is-absent (data_of s target.start target.end) out)
        ∙ ap (λ (k : Key). bind (needed 5 (first_cut (has_key k) (list_items s))) (at_item amount (list_items s) c w)) (sym key-same)
        ∙ ap (λ (x : Option (Cut Item)). bind (needed 5 x) (at_item amount (list_items s) c w)) e

    pub drop-none : (at : ℕ) (old : List ℕ) → seek_in item-key target.end (list_items_from s target.end) ≡ Missing at
        → Answered (held_sheet room (drop_ref w amount (list_items s) c)) (denied 5) old old
    unfolding bind needed
    drop-none at old e = answered-no _ room 5 old (turned none (behind-none st item-key extent high at e))

    module _ {from to : ℕ} (k : BehindAt s c target.end item-key from to) where
      -- the number in its last four bytes
      last-is : (at : ℕ) → length k.item.hit.bytes ≡ at + 4 → le (part at 4 k.item.hit.bytes) ≡ le (part (to - 4) 4 s)
      last-is at l =
          ap (λ (d : List ℕ). le (part at 4 d)) (item-bytes st k)
          ∙ ap le (last-four s from to at k.stands.ordered k.stands.within (sym (ap length (item-bytes st k)) ∙ l))

      -- by the answer of the item's own drop
      held-at : CountFits w k.item.hit.bytes → (a : Answer (List ℕ)) → item_drop w amount k.item.hit.bytes ≡ a → (body : List ℕ)
          → lowered_total w amount k.item.hit.bytes c.hit.bytes ≡ accepted body
          → held_sheet room (bind (dropped_at k.item a) (λ others. replaced c.hit.key body others))
          ≡ held_at room s target from to (item_left w amount (le (part (to - 4) 4 s))) a body
      unfolding dropped_at held_at bind held_sheet held
      held-at f (refused m) e rest l = refl
      held-at f absent e rest l = refl
      held-at f remove e rest l = ap (held_sheet room) (replaced-without st k rest) ∙ held-second st (without-it st k) room rest
      held-at f (accepted d) e rest l =
          let i : Cut Item = k.item in
          let last : ℕ = le (part (to - 4) 4 s) in
          let h = left_over w amount i.hit.bytes c.hit.bytes f l e last last-is in
          let count : ℕ = item_left w amount last in
          ap (λ (l : List ℕ). held_sheet room (replaced c.hit.key rest (put_back i l))) h.written_is
          ∙ ap (held_sheet room) (replaced-counted st k h.at (sym h.long) count rest)
          ∙ held-second st (counted-it st k h.at (sym h.long) count) room rest

    -- the item of shared data is its count
    pub count_fits : (from to : ℕ) → seek_in item-key target.end (list_items_from s target.end) ≡ Present from to → SharedInForm w (list_items s) → CountFits w (data_of s from to)
    count_fits from to e form =
        let k : BehindAt s c target.end item-key from to = behind-at st item-key extent high from to e in
        go w refl form k
      where
        go : (v : RefName) → w ≡ v → SharedInForm v (list_items s) → BehindAt s c target.end item-key from to → CountFits v (data_of s from to)
        go (Block name) e f k = tt
        go (Data name) e f k = tt
        go (SharedBlock parent) e f k = tt
        go (SharedData parent) e f k =
            let kind-184 : k.item.hit.key.kind ≡ 184 = kind-found (list_items s) item-key k.item k.finds ∙ kind-is ∙ ap kind_of e ∙ shared-kind parent in
            ap length (sym (item-bytes st k))
            ∙ four_bytes k.item.hit kind-184
            (all-mid good k.item.front k.item.hit k.item.back (subst (λ (l : List Item). T (all good l)) k.same f))

    pub drop-item : (from to : ℕ) (r : Result Edited Refusal) (old new : List ℕ) → seek_in item-key target.end (list_items_from s target.end) ≡ Present from to
        → SharedInForm w (list_items s)
        → AtItem w amount s target from to room r old new
        → Answered (held_sheet room (drop_ref w amount (list_items s) c)) r old new
    unfolding bind needed
    drop-item from to r old new e form written =
        let k : BehindAt s c target.end item-key from to = behind-at st item-key extent high from to e in
        let item : List ℕ = k.item.hit.bytes in
        let left : ℕ = item_left w amount (le (part (to - 4) 4 s)) in
        let fits : CountFits w item = subst (CountFits w) (sym (item-bytes st k)) (count_fits from to e form) in
        let put : List ℕ → Answer (List ℕ) = held_at room s target from to left (item_drop w amount item) in
        let h : held_sheet room (drop_ref w amount (list_items s) c) ≡ bind (lowered_total w amount item c.hit.bytes) put =
        ap (held_sheet room) (turned (some k.item) k.finds)
        ∙ held-bind room (lowered_total w amount item c.hit.bytes) _ put (λ body f. held-at k fits (item_drop w amount item) refl body f) in
        subst (λ (a : Answer (List ℕ)). Answered a r old new)
        (ap₂ (λ (x y : List ℕ). bind (lowered_total w amount y x) (held_at room s target from to left (item_drop w amount y)))
        (ap (λ (i : Item). i.bytes) hit-is) (sym (item-bytes st k)) ∙ sym h) written
