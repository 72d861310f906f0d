-- How large a record's total can be: it is the sum of the weights under its extent, each below 2 ^ 32, and a sheet's bytes hold
-- no more than 262,144 of them. Assumes nothing.
use mathlib.Core.Path.{◌≡◌, refl, sym, ap, ap₂, ◌∙◌, subst}
use mathlib.Core.Logic.{◌⊎◌, inl, inr}
use Prim.Native.Nat.{ℕ, ◌+◌, ◌*◌, ◌≤◌, ◌<◌}
use native.Mathlib.Omega.{arith}
use mathlib.Core.Bool.{Bool, true, false, not, ◌&&◌, cond}
use mathlib.Core.List.{List, [], ◌∷◌, ◌++◌}
use lib.ListN.{length, length-append}
use lib.Dec.{T, eqb, eqb→eq}
use mir.Facts.{and_yes}
use Rattle.fields.specs.Lists.{sum, all, Cut}
use Rattle.fields.specs.Numbers.{le, are_bytes}
use Rattle.fields.proofs.Lists.{imp-out, sum-append, all-mid}
use Rattle.fields.proofs.Numbers.{le-bound}
use Rattle.format.specs.Questions.{Answer, refused, absent, remove, accepted}
use Rattle.format.specs.References.{counted, weight_of, Ref, make_ref, ref_at, ref_bytes, refs_bytes, Body, read_body, rank}
use Rattle.format.specs.Bodies.{one}
use Rattle.format.specs.Items.{Item, read_sheet}
use Rattle.format.specs.Apply.{is_record}
use Rattle.format.specs.Names.{Name, Entry, unrelated, is_ref_item, view_record, in_form, view_ref_item, view_of, ref_entry, ref_entries, view_entries, item_entries, entries, of_extent, view_total, totalled}
use Rattle.format.proofs.Refs.{yes_or_no, whole, whole_out, length-ref_bytes}
use Rattle.format.proofs.Bodies.{length-body_bytes, body_bytes-read, read-sound}
use Rattle.format.proofs.Items.{length-items_bytes, length-sheet_bytes, sheet-sane, sheet_bytes-read}
use Rattle.theorems.proofs.Edit.{Balanced, record-total}
use Rattle.theorems.proofs.Facts.{ref_at-178, count_fits}
use Rattle.theorems.proofs.Steps.{tidy, tidy-bytes, Here, balanced-at}

abbrev pub weight_in : Entry → ℕ
weight_in e = e.weight

-- ---- one reference

fixed-small : (kind : ℕ) → weight_of kind 0 ≤ 1
unfolding weight_of
fixed-small kind = go (counted kind) (eqb kind 172)
  where
    go : (c d : Bool) → cond c 0 (cond d 0 1) ≤ 1
    go true d = omega arith
    go false true = omega arith
    go false false = omega arith

whole-light : (r : Ref) → T (whole r) → r.weight < 4294967296
whole-light r t = go (yes_or_no (counted r.kind))
  where
    go : T (counted r.kind) ⊎ T (not (counted r.kind)) → r.weight < 4294967296
    go (inl h) = (whole_out r t).weighs h
    go (inr h) = let e = (whole_out r t).weight_fixed h in omega (arith, fixed-small r.kind)

entry-light : (x : ℕ) (r : Ref) → r.weight < 4294967296 → sum weight_in (ref_entry x r) ≤ 4294967296
unfolding ref_entry
entry-light x r h = go (eqb r.kind 172)
  where
    go : (c : Bool)
        → sum weight_in (cond c [] (record { name = record { extent = x; kind = r.kind; fields = r.fields }; weight = r.weight } ∷ [])) ≤ 4294967296
    go true = omega arith
    go false = omega arith

refs-bound : (x : ℕ) (refs : List Ref) → T (all whole refs)
    → sum weight_in (ref_entries x refs) ≤ 4294967296 * length (refs_bytes refs)
unfolding ref_entries refs_bytes
refs-bound x [] t = omega arith
refs-bound x (r ∷ refs) t =
    let h = and_yes (whole r) _ t in
    let e₁ = sum-append weight_in (ref_entry x r) (ref_entries x refs) in
    let e₂ = length-append (ref_bytes r) (refs_bytes refs) in
    let e₃ = length-ref_bytes r h.0 in
    let e₄ = entry-light x r (whole-light r h.0) in
    let e₅ = refs-bound x refs h.1 in
    omega arith

-- ---- one item

form-bound : (x : ℕ) (c : Bool) (r : Ref) → (T c → r.weight < 4294967296)
    → sum weight_in (view_entries x (in_form c r)) ≤ 4294967296
unfolding in_form view_entries
form-bound x true r f = entry-light x r (f tt)
form-bound x false r f = omega arith

record-bound : (i : Item) → T (are_bytes i.bytes) → (o : Answer Body) → read_body i.key.kind i.bytes ≡ o
    → sum weight_in (view_entries i.key.objectid (view_record o)) ≤ 4294967296 * (21 + length i.bytes)
unfolding view_record view_entries
record-bound i t (refused n) q = omega arith
record-bound i t absent q = omega arith
record-bound i t remove q = omega arith
record-bound i t (accepted b) q =
    let e₁ = refs-bound i.key.objectid b.refs (read-sound i.key.kind i.bytes b t q).wholes in
    let e₂ = length-body_bytes b in
    let e₃ = ap length (body_bytes-read i.key.kind i.bytes b t q) in
    omega arith

ref-item-bound : (i : Item) → T (are_bytes i.bytes)
    → sum weight_in (view_entries i.key.objectid (view_ref_item i)) ≤ 4294967296
unfolding view_ref_item
ref-item-bound i t = go (eqb i.key.kind 178) (eqb i.key.kind 184)
  where
    four : T (eqb (length i.bytes) 4) → le i.bytes < 4294967296
    four h = let e : length i.bytes ≡ 4 = eqb→eq _ _ h in rw e at (le-bound i.bytes t)

    hash : T (eqb (length i.bytes) 28 && eqb i.key.offset (rank (ref_at 178 i.bytes)))
        → (ref_at 178 i.bytes).weight < 4294967296
    hash h =
        subst (λ (r : Ref). r.weight < 4294967296) (sym (ref_at-178 i.bytes))
        (count_fits i.bytes (eqb→eq _ _ (and_yes (eqb (length i.bytes) 28) _ h).0) t)

    go : (c d : Bool)
        → sum weight_in (view_entries i.key.objectid (cond c
        (in_form (eqb (length i.bytes) 28 && eqb i.key.offset (rank (ref_at 178 i.bytes))) (ref_at 178 i.bytes))
        (cond d (in_form (eqb (length i.bytes) 4) (make_ref 184 (one i.key.offset) (le i.bytes)))
        (in_form (eqb (length i.bytes) 0) (make_ref i.key.kind (one i.key.offset) 1))))) ≤ 4294967296
    go true d = form-bound i.key.objectid _ (ref_at 178 i.bytes) hash
    go false true = form-bound i.key.objectid _ (make_ref 184 (one i.key.offset) (le i.bytes)) four
    go false false = form-bound i.key.objectid _ (make_ref i.key.kind (one i.key.offset) 1) (λ _. omega arith)

item-bound : (i : Item) → T (are_bytes i.bytes) → sum weight_in (item_entries i) ≤ 4294967296 * (21 + length i.bytes)
unfolding item_entries view_of view_entries
item-bound i t = go (is_record i) (is_ref_item i)
  where
    go : (c d : Bool)
        → sum weight_in (view_entries i.key.objectid (cond c (view_record (read_body i.key.kind i.bytes)) (cond d (view_ref_item i) unrelated)))
        ≤ 4294967296 * (21 + length i.bytes)
    go true d = record-bound i t (read_body i.key.kind i.bytes) refl
    go false true = omega (arith, ref-item-bound i t)
    go false false = omega arith

-- ---- a sheet

items-bound : (items : List Item) → T (all tidy items)
    → sum weight_in (entries items) ≤ 4294967296 * sum (λ i. 21 + length i.bytes) items
unfolding entries
items-bound [] t = omega arith
items-bound (i ∷ items) t =
    let h = and_yes (tidy i) _ t in
    let e₁ = sum-append weight_in (item_entries i) (entries items) in
    let e₂ = item-bound i (tidy-bytes i h.0) in
    let e₃ = items-bound items h.1 in
    omega arith

extent-bound : (x : ℕ) (l : List Entry) → sum (of_extent x) l ≤ sum weight_in l
extent-bound x [] = omega arith
extent-bound x (e ∷ l) = go (eqb x e.name.extent) (extent-bound x l)
  where
    go : (c : Bool) → sum (of_extent x) l ≤ sum weight_in l
        → cond c e.weight 0 + sum (of_extent x) l ≤ e.weight + sum weight_in l
    go true h = omega arith
    go false h = omega arith

-- the record's total is the sum
pub total-is : (m : Name) (items : List Item) (c : Cut Item) (b : Body) → Here m items c b → Balanced items → T (all tidy items)
    → b.total ≡ sum (of_extent m.extent) (entries items)
total-is m items c b H balance tidies =
    let B = balanced-at m items c b H balance tidies in
    let l : List Item = c.front ++ c.hit ∷ c.back in
    let t : T (eqb (view_total (view_of c.hit)) (sum (of_extent c.hit.key.objectid) (entries l))) =
    imp-out (is_record c.hit) _ (all-mid (totalled (entries l)) c.front c.hit c.back B.totals) H.is_rec in
    sym (record-total c.hit b H.view) ∙ eqb→eq _ _ t
    ∙ ap₂ (λ (x : ℕ) (k : List Item). sum (of_extent x) (entries k)) H.extent (sym H.found.same)

pub total-bound : (s : List ℕ) (m : Name) (items : List Item) (c : Cut Item) (b : Body) → T (are_bytes s)
    → read_sheet s ≡ accepted items
    → Here m items c b → Balanced items → T (all tidy items) → b.total ≤ 4294967296 * 262144
total-bound s m items c b raw reads H balance tidies =
    let e₁ = total-is m items c b H balance tidies in
    let e₂ = extent-bound m.extent (entries items) in
    let e₃ = items-bound items tidies in
    let e₄ = length-items_bytes items in
    let e₅ = length-sheet_bytes items in
    let e₆ = ap length (sheet_bytes-read s items raw reads) in
    let e₇ = (sheet-sane s items raw reads).3 in
    omega arith
