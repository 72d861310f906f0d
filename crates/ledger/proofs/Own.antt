-- Question 9 of the ledger: on a list whose keys rise, only the item at a name's key can be the name's own; and one in form that
-- stands there is, unless it is a data reference of another triple. Assumes nothing.
use mathlib.Core.Path.{◌≡◌, refl, sym, ap, ◌∙◌, subst}
use mathlib.Core.Logic.{◌⊎◌, inl, inr}
use Prim.Native.Nat.{ℕ, ◌+◌}
use mathlib.Core.Bool.{Bool, true, false, not, ◌||◌, cond}
use mathlib.Core.Option.{some}
use mathlib.Core.List.{List, [], ◌∷◌, ◌++◌}
use lib.Dec.{T, eqb}
use lib.ListN.{length}
use mir.Facts.{T_not, yes_eqb}
use Rattle.fields.specs.Lists.{sum, all, same, Cut, first_cut}
use Rattle.fields.specs.Numbers.{words}
use Rattle.fields.proofs.Lists.{T-eq, or_left, or_right, all_rest, all_two, same-yes, same_refl, Found, cut-some}
use Rattle.format.specs.declared.Key.{Key}
use Rattle.format.specs.References.{Ref, rank, rank_of}
use Rattle.format.specs.Bodies.{one}
use Rattle.format.specs.Items.{Item, key_of, same_key, rising}
use Rattle.format.specs.Sheets.{has_key}
use Rattle.format.specs.Apply.{is_record}
use Rattle.format.specs.Names.{Name, same_name, Entry, item_entries, good, stands}
use Rattle.format.specs.Ledger.{not_its_own}
use Rattle.format.proofs.Keys.{same_key-yes, same_key-refl, rising-unique}
use Rattle.format.proofs.Items.{sane, sane-out}
use Rattle.theorems.proofs.Naming.{Naming, is176, is178, is182, is184, naming-no-record}
use Rattle.theorems.proofs.Sums.{same_name-yes, same_name-refl}
use Rattle.theorems.proofs.Edit.{only}
use Rattle.theorems.proofs.Facts.{plain_entry, data-entry}
use Rattle.theorems.proofs.Counts.{data-form}
use Rattle.balance.proofs.Sorted.{names, name_of, one-or}
use Rattle.balance.proofs.Says.{Says, a_record, a_reference, nothing, bad, says, entries-ref, entries_none, entries-bad}
use Rattle.inline_refs.specs.declared.ref_name.RefName.{RefName}
use Rattle.inline_refs.specs.declared.ref_name.RefName.TheVariants.{Block, Data, SharedBlock, SharedData}
use Rattle.inline_refs.specs.Scans.{kind_of, fields_of}
use Rattle.item_list.specs.declared.Sought.TheVariants.{Absent}
use Rattle.item_list.specs.Seeks.{seek_in}
use Rattle.item_list.proofs.Positions.{gap}
use Rattle.record_edit.proofs.Held.{all_but}
use Rattle.ledger.specs.Posting.{name_in, is_own_item}

-- the key of an item of that name
abbrev pub own_key : Name → Key
own_key n = key_of n.extent n.kind (rank_of n.kind n.fields)

module _ (n : Name) where
  -- ---- an item with another key is not the name's own

  none-own : (i : Item) → sum (stands n) (item_entries i) ≡ 0 → T (not_its_own n i)
  none-own i e = or_right (is_record i) _ (yes_eqb e)

  own-has-key : (i : Item) (r : Ref) → r.kind ≡ i.key.kind → rank r ≡ i.key.offset → n ≡ name_of i.key.objectid r → T (has_key (own_key n) i)
  unfolding rank
  own-has-key i r k p e =
      let e₁ : i.key.objectid ≡ n.extent = sym (ap (λ (m : Name). m.extent) e) in
      let e₂ : i.key.kind ≡ n.kind = sym k ∙ sym (ap (λ (m : Name). m.kind) e) in
      let e₃ : i.key.offset ≡ rank_of n.kind n.fields = sym p ∙ sym (ap (λ (m : Name). rank_of m.kind m.fields) e) in
      let q : i.key ≡ own_key n = (λ j. record { objectid = e₁ j; kind = e₂ j; offset = e₃ j }) in
      subst (λ (key : Key). T (same_key key (own_key n))) (sym q) (same_key-refl (own_key n))

  other_key : (i : Item) → T (sane i) → T (not (has_key (own_key n) i)) → T (not_its_own n i)
  other_key i b h = go (says i (sane-out i b).bytes_small)
    where
      go : Says i → T (not_its_own n i)
      go (a_record body t v w) = or_left (is_record i) _ t
      go (a_reference r m t k v e p) = none-own i (ap (sum (stands n)) (entries-ref i r v) ∙ by (one-or i.key.objectid n r))
        where
          by : (n ≡ name_of i.key.objectid r) ⊎ (names i.key.objectid n (r ∷ []) ≡ 0) → names i.key.objectid n (r ∷ []) ≡ 0
          by (inl q) = absurd (T_not (has_key (own_key n) i) (own-has-key i r e p q) h)
          by (inr z) = z
      go (nothing m t v) = none-own i (ap (sum (stands n)) (entries_none i v))
      go (bad v) = none-own i (ap (sum (stands n)) (entries-bad i v))

  module _ (items : List Item) (sanes : T (all sane items)) (rises : T (rising items)) where
    pub own-absent : (at start : ℕ) → seek_in (own_key n) at items ≡ Absent start → true ≡ all (not_its_own n) items
    own-absent at start e =
        sym (T-eq _ (all_two sane (λ i. not (has_key (own_key n) i)) (not_its_own n) other_key items sanes (gap (own_key n) at items start rises e).free))

    -- ---- the item at its key

    module _ (c : Cut Item) (e : first_cut (has_key (own_key n)) items ≡ some c) where
      found : Found (has_key (own_key n)) items c
      found = cut-some (has_key (own_key n)) items e

      pub key-is : c.hit.key ≡ own_key n
      key-is = same_key-yes c.hit.key (own_key n) found.hit

      own_at : all (not_its_own n) items ≡ not_its_own n c.hit
      own_at =
          let sane-there : T (all sane (c.front ++ c.hit ∷ c.back)) = subst (λ (l : List Item). T (all sane l)) found.same sanes in
          let rise-there : T (rising (c.front ++ c.hit ∷ c.back)) = subst (λ (l : List Item). T (rising l)) found.same rises in
          let unlike : T (all (λ i. not (has_key (own_key n) i)) (c.front ++ c.back)) =
          subst (λ (key : Key). T (all (λ i. not (has_key key i)) (c.front ++ c.back))) key-is (rising-unique c.front c.hit c.back rise-there) in
          ap (all (not_its_own n)) found.same
          ∙ all_but (not_its_own n) c.front c.hit c.back
          (all_two sane (λ i. not (has_key (own_key n) i)) (not_its_own n) other_key (c.front ++ c.back)
          (all_rest sane c.front c.hit c.back sane-there) unlike)

      module _ (kinds : Naming n.kind) (m : Name) (w : ℕ) (says-m : item_entries c.hit ≡ only m (some w)) where
        hit-own : (b : Bool) → same_name n m ≡ b → not_its_own n c.hit ≡ not b
        hit-own b q = ap₂-or (is_record c.hit) (naming-no-record c.hit (subst Naming (sym (ap (λ (k : Key). k.kind) key-is)) kinds))
            ∙ ap (λ (l : List Entry). eqb (sum (stands n) l) 0) says-m ∙ ap (λ (d : Bool). eqb (cond d 1 0 + 0) 0) q ∙ zero b
          where
            ap₂-or : (r : Bool) → T (not r) → (r || eqb (sum (stands n) (item_entries c.hit)) 0) ≡ eqb (sum (stands n) (item_entries c.hit)) 0
            ap₂-or true t = absurd t
            ap₂-or false t = refl

            zero : (d : Bool) → eqb (cond d 1 0 + 0) 0 ≡ not d
            zero true = refl
            zero false = refl

        pub own-yes : n ≡ m → false ≡ all (not_its_own n) items
        own-yes q = sym (own_at ∙ hit-own true (T-eq _ (subst (λ (x : Name). T (same_name n x)) q (same_name-refl n))))

        pub own-no : (n ≡ m → ⊥) → true ≡ all (not_its_own n) items
        own-no q = sym (own_at ∙ hit-own false (no (same_name n m) refl))
          where
            no : (d : Bool) → same_name n m ≡ d → same_name n m ≡ false
            no true e = absurd (q (same_name-yes n m (subst T (sym e) tt)))
            no false e = e

-- ---- the wanted name, and the item that was found at its key

kinds-of : (w : RefName) → Naming (kind_of w)
unfolding kind_of
kinds-of (Block name) = is176 refl
kinds-of (Data name) = is178 refl
kinds-of (SharedBlock parent) = is182 refl
kinds-of (SharedData parent) = is184 refl

module _ (items : List Item) (sanes : T (all sane items)) (rises : T (rising items)) (extent : ℕ) (w : RefName) (c : Cut Item)
    (e : first_cut (has_key (own_key (name_in extent w))) items ≡ some c) (g : T (good c.hit)) where
  abbrev i : Item
  i = c.hit

  at_key : i.key ≡ own_key (name_in extent w)
  at_key = key-is (name_in extent w) items sanes rises c e

  is_plain : eqb (kind_of w) 178 ≡ false → fields_of w ≡ one (rank_of (kind_of w) (fields_of w)) → false ≡ all (not_its_own (name_in extent w)) items
  is_plain q f =
      let e₁ : extent ≡ i.key.objectid = sym (ap (λ (k : Key). k.objectid) at_key) in
      let e₂ : kind_of w ≡ i.key.kind = sym (ap (λ (k : Key). k.kind) at_key) in
      let e₃ : fields_of w ≡ one i.key.offset = f ∙ ap one (sym (ap (λ (k : Key). k.offset) at_key)) in
      own-yes (name_in extent w) items sanes rises c e (kinds-of w) _ _
      (plain_entry i (subst Naming e₂ (kinds-of w)) (ap (λ (k : ℕ). eqb k 178) (sym e₂) ∙ q) g)
      (λ j. record { extent = e₁ j; kind = e₂ j; fields = e₃ j })

  data-kind : kind_of w ≡ 178 → i.key.kind ≡ 178
  data-kind k = ap (λ (k : Key). k.kind) at_key ∙ k

  is-data : kind_of w ≡ 178 → (b : Bool) → b ≡ same (words 3 i.bytes) (fields_of w) → not b ≡ all (not_its_own (name_in extent w)) items
  is-data k true h =
      let e₁ : extent ≡ i.key.objectid = sym (ap (λ (k : Key). k.objectid) at_key) in
      let e₃ : fields_of w ≡ words 3 i.bytes = sym (same-yes (words 3 i.bytes) (fields_of w) (subst T h tt)) in
      own-yes (name_in extent w) items sanes rises c e (kinds-of w) _ _ (data-entry i (data-kind k) g)
      (λ j. record { extent = e₁ j; kind = k j; fields = e₃ j })
  is-data k false h =
      own-no (name_in extent w) items sanes rises c e (kinds-of w) _ _ (data-entry i (data-kind k) g)
      (λ q. absurd (subst T (sym h) (subst (λ (f : List ℕ). T (same (words 3 i.bytes) f)) (sym (ap (λ (n : Name). n.fields) q)) (same_refl (words 3 i.bytes)))))

  pub data-long : kind_of w ≡ 178 → length i.bytes ≡ 28
  data-long k = (data-form i (data-kind k) g).0

pub own-found : (items : List Item) → T (all sane items) → T (rising items) → (extent : ℕ) (w : RefName) (c : Cut Item)
    → first_cut (has_key (own_key (name_in extent w))) items ≡ some c → T (good c.hit) → (b : Bool) → b ≡ is_own_item w c.hit.bytes
    → not b ≡ all (not_its_own (name_in extent w)) items
unfolding is_own_item kind_of fields_of rank_of
own-found items sanes rises extent (Block name) c e g b h = ap not h ∙ is_plain items sanes rises extent (Block name) c e g refl refl
own-found items sanes rises extent (Data name) c e g b h = is-data items sanes rises extent (Data name) c e g refl b h
own-found items sanes rises extent (SharedBlock parent) c e g b h = ap not h ∙ is_plain items sanes rises extent (SharedBlock parent) c e g refl refl
own-found items sanes rises extent (SharedData parent) c e g b h = ap not h ∙ is_plain items sanes rises extent (SharedData parent) c e g refl refl
