-- Names and entries: when two names are the same, that no name stands twice, and what sums over the entries of items and of
-- references come to. Assumes nothing.
use mathlib.Core.Path.{◌≡◌, refl, sym, ap, ◌∙◌, subst}
use mathlib.Core.Logic.{◌⊎◌, inl, inr}
use Prim.Native.Nat.{ℕ, ◌+◌, ◌≤◌}
use native.Mathlib.Omega.{arith}
use mathlib.Core.Bool.{Bool, true, false, ◌&&◌, cond}
use mathlib.Core.List.{List, [], ◌∷◌, ◌++◌, append_assoc}
use lib.Dec.{T, leb, eqb, eqb_refl, eqb→eq}
use mir.Facts.{and_yes, yes_and, leb_yes, yes_leb}
use Rattle.fields.specs.Lists.{sum, all, same}
use Rattle.fields.proofs.Lists.{sum-append, all-every, same-yes, same_refl}
use Rattle.format.specs.References.{Ref}
use Rattle.format.specs.Items.{Item}
use Rattle.format.specs.Names.{Name, same_name, Entry, ref_entry, ref_entries, item_entries, entries, stands, single, counts}

-- ---- names

pub same_name-yes : (m n : Name) → T (same_name m n) → m ≡ n
unfolding same_name
same_name-yes m n t =
    let b₁ : Bool = eqb m.extent n.extent in
    let h₂ = and_yes (b₁ && eqb m.kind n.kind) (same m.fields n.fields) t in
    let h₁ = and_yes b₁ (eqb m.kind n.kind) h₂.0 in
    let p₁ : m.extent ≡ n.extent = eqb→eq _ _ h₁.0 in
    let p₂ : m.kind ≡ n.kind = eqb→eq _ _ h₁.1 in
    let p₃ : m.fields ≡ n.fields = same-yes m.fields n.fields h₂.1 in
    λ i. record { extent = p₁ i; kind = p₂ i; fields = p₃ i }

pub same_name-refl : (m : Name) → T (same_name m m)
unfolding same_name
same_name-refl m =
    yes_and (eqb m.extent m.extent && eqb m.kind m.kind) (same m.fields m.fields)
    (yes_and (eqb m.extent m.extent) (eqb m.kind m.kind) (eqb_refl m.extent) (eqb_refl m.kind))
    (same_refl m.fields)

-- no name stands twice, as a test and as a fact about every name
module _ (f : Name → ℕ) (n : Name) where
  seek : (l : List Entry) → T (all (λ e. leb (f e.name) 1) l) → (sum (stands n) l ≡ 0) ⊎ (f n ≤ 1)
  seek [] t = inl refl
  seek (e ∷ l) t = go (same_name n e.name) refl (seek l (and_yes (leb (f e.name) 1) _ t).1)
    where
      go : (b : Bool) → same_name n e.name ≡ b → (sum (stands n) l ≡ 0) ⊎ (f n ≤ 1)
          → (cond b 1 0 + sum (stands n) l ≡ 0) ⊎ (f n ≤ 1)
      go true q ih =
          let same : n ≡ e.name = same_name-yes n e.name (subst T (sym q) tt) in
          inr (rw same (leb_yes (and_yes (leb (f e.name) 1) _ t).0))
      go false q (inl h) = inl (omega arith)
      go false q (inr h) = inr h

pub names-out : (l : List Entry) → T (all (single l) l) → (n : Name) → sum (stands n) l ≤ 1
names-out l t n = go (seek (λ m. sum (stands m) l) n l t)
  where
    go : (sum (stands n) l ≡ 0) ⊎ (sum (stands n) l ≤ 1) → sum (stands n) l ≤ 1
    go (inl h) = omega arith
    go (inr h) = h

pub names_in : (l : List Entry) → ((n : Name) → sum (stands n) l ≤ 1) → T (all (single l) l)
names_in l f = all-every _ (λ e. yes_leb (f e.name)) l

-- ---- entries and appends

pub entries-append : (a b : List Item) → entries (a ++ b) ≡ entries a ++ entries b
unfolding entries
entries-append [] b = refl
entries-append (i ∷ a) b =
    ap (λ (l : List Entry). item_entries i ++ l) (entries-append a b)
    ∙ sym (append_assoc (item_entries i) (entries a) (entries b))

pub ref_entries-append : (e : ℕ) (a b : List Ref) → ref_entries e (a ++ b) ≡ ref_entries e a ++ ref_entries e b
unfolding ref_entries
ref_entries-append e [] b = refl
ref_entries-append e (r ∷ a) b =
    ap (λ (l : List Entry). ref_entry e r ++ l) (ref_entries-append e a b)
    ∙ sym (append_assoc (ref_entry e r) (ref_entries e a) (ref_entries e b))

pub sum-mid : (g : Entry → ℕ) (a : List Item) (i : Item) (b : List Item)
    → sum g (entries (a ++ i ∷ b)) ≡ sum g (entries a) + sum g (item_entries i) + sum g (entries b)
unfolding entries
sum-mid g a i b =
    ap (sum g) (entries-append a (i ∷ b)) ∙ sum-append g (entries a) (item_entries i ++ entries b)
    ∙ omega (arith, sum-append g (item_entries i) (entries b))

pub sum-two : (g : Entry → ℕ) (a b : List Item) → sum g (entries (a ++ b)) ≡ sum g (entries a) + sum g (entries b)
sum-two g a b = ap (sum g) (entries-append a b) ∙ sum-append g (entries a) (entries b)

pub sum-refs : (g : Entry → ℕ) (e : ℕ) (a o b : List Ref)
    → sum g (ref_entries e (a ++ (o ++ b))) ≡ sum g (ref_entries e a) + sum g (ref_entries e o) + sum g (ref_entries e b)
sum-refs g e a o b =
    ap (sum g) (ref_entries-append e a (o ++ b) ∙ ap (λ (l : List Entry). ref_entries e a ++ l) (ref_entries-append e o b))
    ∙ sum-append g (ref_entries e a) (ref_entries e o ++ ref_entries e b)
    ∙ omega (arith, sum-append g (ref_entries e o) (ref_entries e b))

-- ---- the entries that count nothing, as a sum

abbrev pub empty : Entry → ℕ
empty e = cond (leb 1 e.weight) 0 1

pub counts-out : (l : List Entry) → T (all counts l) → sum empty l ≡ 0
counts-out [] t = refl
counts-out (e ∷ l) t =
    let h = and_yes (leb 1 e.weight) _ t in
    go (leb 1 e.weight) h.0 (counts-out l h.1)
  where
    go : (b : Bool) → T b → sum empty l ≡ 0 → cond b 0 1 + sum empty l ≡ 0
    go true h ih = omega arith
    go false h ih = absurd h

pub counts-in : (l : List Entry) → sum empty l ≡ 0 → T (all counts l)
counts-in [] e = tt
counts-in (x ∷ l) e = go (leb 1 x.weight) (counts-in l) e
  where
    go : (b : Bool) → (sum empty l ≡ 0 → T (all counts l)) → cond b 0 1 + sum empty l ≡ 0 → T (b && all counts l)
    go true ih h = ih (omega arith)
    go false ih h = absurd (omega arith)
