-- What an item says: a record, a reference, neither, or something that cannot be read; and what each adds to the sums.
-- Assumes nothing.
use mathlib.Core.Path.{◌≡◌, refl, sym, ap, ap₂, ◌∙◌, subst}
use mathlib.Core.Logic.{◌≢◌, ◌⊎◌, inl, inr}
use Prim.Native.Nat.{ℕ, ◌+◌, ◌<◌}
use native.Mathlib.Omega.{arith}
use mathlib.Core.Bool.{Bool, true, false, not, ◌&&◌, ◌||◌, cond}
use mathlib.Core.List.{List, [], ◌∷◌, append-nil}
use lib.ListN.{length}
use lib.Dec.{T, leb, ltb, eqb, eqb→eq, lt→ltb}
use mir.Facts.{and_yes, yes_and, or_yes, T_not, yes_eqb}
use Rattle.fields.specs.Lists.{sum, all}
use Rattle.fields.specs.Numbers.{le, are_bytes}
use Rattle.fields.proofs.Lists.{sum-append, all_both, all_left, all_right, all_map}
use Rattle.format.specs.Questions.{Answer, refused, absent, remove, accepted}
use Rattle.format.specs.References.{known, count_position, counted, row_in, weight_of, Ref, make_ref, ref_at, Body, read_body, rank, rank_of}
use Rattle.format.specs.Bodies.{one}
use Rattle.format.specs.Items.{Item}
use Rattle.format.specs.Apply.{is_record}
use Rattle.format.specs.Names.{Name, View, extent_record, reference, unrelated, malformed, is_ref_item, view_record, in_form, view_ref_item, view_of, ref_entry, ref_entries, view_entries, item_entries, counts, of_extent}
use Rattle.format.proofs.Rows.{Kind, k172, k176, k178, k182, k184, known-kind}
use Rattle.format.proofs.Refs.{whole, whole_out}
use Rattle.format.proofs.Bodies.{read-sound}
use Rattle.theorems.proofs.Naming.{Naming, is176, is178, is182, is184}
use Rattle.balance.specs.Tally.{weighs, weight_in}
use Rattle.balance.proofs.Sorted.{names, name_of, names-cons, one-or}

-- ---- what an item says

pub data Says (i : Item) : Type 0 where
  a_record : (b : Body) → T (is_record i) → view_of i ≡ extent_record b → T (all whole b.refs) → Says i
  a_reference : (r : Ref) → T (not (is_record i)) → T (is_ref_item i) → Naming i.key.kind → view_of i ≡ reference r
      → r.kind ≡ i.key.kind → rank r ≡ i.key.offset → Says i
  nothing : T (not (is_record i)) → T (not (is_ref_item i)) → view_of i ≡ unrelated → Says i
  bad : view_of i ≡ malformed → Says i

module _ (i : Item) where
  view-of : (c d : Bool) → is_record i ≡ c → is_ref_item i ≡ d
      → view_of i ≡ cond c (view_record (read_body i.key.kind i.bytes)) (cond d (view_ref_item i) unrelated)
  unfolding view_of
  view-of c d p q = ap₂ (λ (a b : Bool). cond a (view_record (read_body i.key.kind i.bytes)) (cond b (view_ref_item i) unrelated)) p q

  says-record : T (are_bytes i.bytes) → T (is_record i) → (o : Answer Body) → read_body i.key.kind i.bytes ≡ o → view_of i ≡ view_record o → Says i
  unfolding view_record
  says-record t c (refused n) q e = bad e
  says-record t c absent q e = bad e
  says-record t c remove q e = bad e
  says-record t c (accepted b) q e = a_record b c e (read-sound i.key.kind i.bytes b t q).wholes

  pub naming-of : T (is_ref_item i) → Naming i.key.kind
  unfolding is_ref_item
  naming-of t = let h = and_yes (known i.key.kind) (not (eqb i.key.kind 172)) t in go (known-kind i.key.kind h.0) h.1
    where
      go : Kind i.key.kind → T (not (eqb i.key.kind 172)) → Naming i.key.kind
      go (k172 e) n = absurd (T_not (eqb i.key.kind 172) (yes_eqb e) n)
      go (k176 e) n = is176 e
      go (k178 e) n = is178 e
      go (k182 e) n = is182 e
      go (k184 e) n = is184 e

  module _ (not_rec : T (not (is_record i))) (is_ref : T (is_ref_item i)) (v : view_of i ≡ view_ref_item i) where
    form : (c : Bool) (r : Ref) → view_ref_item i ≡ in_form c r → r.kind ≡ i.key.kind → (T c → rank r ≡ i.key.offset) → Says i
    unfolding in_form
    form true r e k p = a_reference r not_rec is_ref (naming-of is_ref) (v ∙ e) k (p tt)
    form false r e k p = bad (v ∙ e)

    says-ref : Naming i.key.kind → Says i
    unfolding view_ref_item ref_at rank rank_of
    says-ref (is176 e) = form (eqb (length i.bytes) 0) (make_ref i.key.kind (one i.key.offset) 1) (rw e refl) refl (λ _. rw e refl)
    says-ref (is178 e) =
        form (eqb (length i.bytes) 28 && eqb i.key.offset (rank (ref_at 178 i.bytes))) (ref_at 178 i.bytes) (rw e refl) (sym e)
        (λ t. sym (eqb→eq _ _ (and_yes (eqb (length i.bytes) 28) _ t).1))
    says-ref (is182 e) = form (eqb (length i.bytes) 0) (make_ref i.key.kind (one i.key.offset) 1) (rw e refl) refl (λ _. rw e refl)
    says-ref (is184 e) = form (eqb (length i.bytes) 4) (make_ref 184 (one i.key.offset) (le i.bytes)) (rw e refl) (sym e) (λ _. refl)

  pub says : T (are_bytes i.bytes) → Says i
  says t = go (is_record i) (is_ref_item i) refl refl
    where
      go : (c d : Bool) → is_record i ≡ c → is_ref_item i ≡ d → Says i
      go true d p q = says-record t (subst T (sym p) tt) (read_body i.key.kind i.bytes) refl (view-of true d p q)
      go false true p q =
          let f : T (is_ref_item i) = subst T (sym q) tt in
          says-ref (subst (λ (c : Bool). T (not c)) (sym p) tt) f (view-of false true p q) (naming-of f)
      go false false p q =
          nothing (subst (λ (c : Bool). T (not c)) (sym p) tt) (subst (λ (c : Bool). T (not c)) (sym q) tt) (view-of false false p q)

  -- a record is no reference
  pub record-no-ref : T (is_record i) → T (not (is_ref_item i))
  unfolding is_record is_ref_item known row_in
  record-no-ref t = go (or_yes (eqb i.key.kind 168) (eqb i.key.kind 169) t)
    where
      go : T (eqb i.key.kind 168) ⊎ T (eqb i.key.kind 169) → T (not (known i.key.kind && not (eqb i.key.kind 172)))
      go (inl h) = let e : i.key.kind ≡ 168 = eqb→eq _ _ h in rw e tt
      go (inr h) = let e : i.key.kind ≡ 169 = eqb→eq _ _ h in rw e tt

  pub record-low : T (is_record i) → i.key.kind < 170
  unfolding is_record
  record-low t = go (or_yes (eqb i.key.kind 168) (eqb i.key.kind 169) t)
    where
      go : T (eqb i.key.kind 168) ⊎ T (eqb i.key.kind 169) → i.key.kind < 170
      go (inl h) = let e : i.key.kind ≡ 168 = eqb→eq _ _ h in omega arith
      go (inr h) = let e : i.key.kind ≡ 169 = eqb→eq _ _ h in omega arith

-- ---- what references add

-- names of another extent
pub names-far : (x : ℕ) (n : Name) (refs : List Ref) → n.extent ≢ x → names x n refs ≡ 0
unfolding ref_entries
names-far x n [] h = refl
names-far x n (r ∷ refs) h = omega (arith, names-cons x n r refs, go (one-or x n r), names-far x n refs h)
  where
    go : (n ≡ name_of x r) ⊎ (names x n (r ∷ []) ≡ 0) → names x n (r ∷ []) ≡ 0
    go (inl e) = absurd (h (ap (λ (m : Name). m.extent) e))
    go (inr z) = z

-- an owner reference weighs nothing
abbrev pub Idle : Ref → Type 0
Idle r = r.kind ≡ 172 → r.weight ≡ 0

whole-idle : (r : Ref) → T (whole r) → Idle r
unfolding counted count_position row_in weight_of
whole-idle r t e =
    let fixed : T (not (counted r.kind)) = rw e tt in
    (whole_out r t).weight_fixed fixed ∙ rw e refl

entry-weight : (y x : ℕ) (r : Ref) → Idle r → sum (of_extent y) (ref_entry x r) ≡ cond (eqb y x) r.weight 0
unfolding ref_entry
entry-weight y x r f = go (eqb r.kind 172) refl (eqb y x)
  where
    go : (c : Bool) → eqb r.kind 172 ≡ c → (d : Bool)
        → sum (of_extent y) (cond c [] (record { name = name_of x r; weight = r.weight } ∷ [])) ≡ cond (eqb y x) r.weight 0
    go true q d = let z : r.weight ≡ 0 = f (eqb→eq _ _ (subst T (sym q) tt)) in idle (eqb y x) z
      where
        idle : (c : Bool) → r.weight ≡ 0 → 0 ≡ cond c r.weight 0
        idle true z = sym z
        idle false z = refl
    go false q d = omega arith

pub refs-weight : (y x : ℕ) (refs : List Ref) → T (all whole refs) → sum (of_extent y) (ref_entries x refs) ≡ cond (eqb y x) (sum weight_in refs) 0
unfolding ref_entries
refs-weight y x [] t = zero (eqb y x)
  where
    zero : (c : Bool) → ◌≡◌ {A = ℕ} 0 (cond c 0 0)
    zero true = refl
    zero false = refl
refs-weight y x (r ∷ refs) t =
    let h = and_yes (whole r) _ t in
    sum-append (of_extent y) (ref_entry x r) (ref_entries x refs)
    ∙ ap₂ ◌+◌ (entry-weight y x r (whole-idle r h.0)) (refs-weight y x refs h.1)
    ∙ go (eqb y x)
  where
    go : (c : Bool) → cond c r.weight 0 + cond c (sum weight_in refs) 0 ≡ cond c (r.weight + sum weight_in refs) 0
    go true = refl
    go false = refl

entry-heavy : (x : ℕ) (r : Ref) → all counts (ref_entry x r) ≡ weighs r
unfolding ref_entry weighs
entry-heavy x r = go (eqb r.kind 172)
  where
    and-true : (c : Bool) → (c && true) ≡ c
    and-true true = refl
    and-true false = refl

    go : (c : Bool) → all counts (cond c [] (record { name = name_of x r; weight = r.weight } ∷ [])) ≡ (c || leb 1 r.weight)
    go true = refl
    go false = and-true (leb 1 r.weight)

pub heavy-in : (x : ℕ) (refs : List Ref) → T (all weighs refs) → T (all counts (ref_entries x refs))
unfolding ref_entries
heavy-in x [] t = tt
heavy-in x (r ∷ refs) t =
    let h = and_yes (weighs r) _ t in
    all_both counts (ref_entry x r) (ref_entries x refs) (rw (entry-heavy x r) h.0) (heavy-in x refs h.1)

pub heavy-out : (x : ℕ) (refs : List Ref) → T (all counts (ref_entries x refs)) → T (all weighs refs)
unfolding ref_entries
heavy-out x [] t = tt
heavy-out x (r ∷ refs) t =
    let h : T (all counts (ref_entry x r)) = all_left counts (ref_entry x r) (ref_entries x refs) t in
    yes_and (weighs r) _ (rw (entry-heavy x r) at h) (heavy-out x refs (all_right counts (ref_entry x r) (ref_entries x refs) t))

-- types are above 0
pub kinds-above : (refs : List Ref) → T (all whole refs) → T (all (λ r. ltb 0 r.kind) refs)
kinds-above refs t = all_map whole (λ r. ltb 0 r.kind) go refs t
  where
    go : (r : Ref) → T (whole r) → T (ltb 0 r.kind)
    go r h = lt→ltb 0 r.kind (low (known-kind r.kind (whole_out r h).kind_known))
      where
        low : Kind r.kind → 0 < r.kind
        low (k172 e) = omega arith
        low (k176 e) = omega arith
        low (k178 e) = omega arith
        low (k182 e) = omega arith
        low (k184 e) = omega arith

-- ---- what items add

pub entries-of : (i : Item) (v : View) → view_of i ≡ v → item_entries i ≡ view_entries i.key.objectid v
unfolding item_entries
entries-of i v e = ap (view_entries i.key.objectid) e

pub entries-record : (i : Item) (b : Body) → view_of i ≡ extent_record b → item_entries i ≡ ref_entries i.key.objectid b.refs
unfolding view_entries
entries-record i b e = entries-of i (extent_record b) e

pub entries-ref : (i : Item) (r : Ref) → view_of i ≡ reference r → item_entries i ≡ ref_entries i.key.objectid (r ∷ [])
unfolding view_entries ref_entries
entries-ref i r e = entries-of i (reference r) e ∙ sym (append-nil (ref_entry i.key.objectid r))

pub entries_none : (i : Item) → view_of i ≡ unrelated → item_entries i ≡ []
unfolding view_entries
entries_none i e = entries-of i unrelated e

pub entries-bad : (i : Item) → view_of i ≡ malformed → item_entries i ≡ []
unfolding view_entries
entries-bad i e = entries-of i malformed e

-- the weight of one reference that names something
pub ref-weight : (y x : ℕ) (r : Ref) → r.kind ≢ 172 → sum (of_extent y) (ref_entries x (r ∷ [])) ≡ cond (eqb y x) r.weight 0
unfolding ref_entries
ref-weight y x r h = ap (sum (of_extent y)) (append-nil (ref_entry x r)) ∙ entry-weight y x r (λ e. absurd (h e))
