-- Balance as facts about each extent and each name, over what was passed and what is left. Assumes nothing.
use mathlib.Core.Path.{◌≡◌, refl, sym, ap, ◌∙◌, subst}
use mathlib.Core.Logic.{◌⊎◌, inl, inr}
use Prim.Native.Nat.{ℕ, ◌+◌, ◌≤◌}
use native.Mathlib.Omega.{arith}
use mathlib.Core.Bool.{Bool, true, false, not, ◌&&◌, ◌||◌, cond}
use mathlib.Core.List.{List, [], ◌∷◌}
use lib.Dec.{T, eqb, eqb_refl, eqb→eq}
use mir.Facts.{and_yes, yes_and, yes_eqb}
use Rattle.fields.specs.Lists.{sum, all}
use Rattle.fields.proofs.Lists.{imp-in, cond_yes, sum-append, all_left, all_right, all_both}
use Rattle.format.specs.Items.{Item}
use Rattle.format.specs.Apply.{is_record, record_of}
use Rattle.format.specs.Names.{Name, Entry, is_ref_item, view_of, item_entries, entries, good, is_record_of, records, stands, counts, of_extent, view_total, balanced}
use Rattle.theorems.proofs.Sums.{counts-out, counts-in}
use Rattle.theorems.proofs.Edit.{balanced-out, balanced-in}

-- ---- what an item adds for an extent

abbrev pub is_ref_of : ℕ → Item → ℕ
is_ref_of x i = cond (is_ref_item i && eqb i.key.objectid x) 1 0

abbrev pub total_in : ℕ → Item → ℕ
total_in x i = cond (record_of x i) (view_total (view_of i)) 0

-- the facts, where `R`, `U`, `S` and `N` say what was passed: records, totals, weights, and how often a name stands
pub record Facts (R U S : ℕ → ℕ) (N : Name → ℕ) (rest : List Item) : Type 0 where
  pub goods : T (all good rest)
  pub once : (x : ℕ) → R x + records x rest ≤ 1
  pub owned : (x : ℕ) → 1 ≤ sum (is_ref_of x) rest → 1 ≤ R x + records x rest
  pub names : (n : Name) → N n + sum (stands n) (entries rest) ≤ 1
  pub heavy : T (all counts (entries rest))
  pub totals : (x : ℕ) → 1 ≤ R x + records x rest → U x + sum (total_in x) rest ≡ S x + sum (of_extent x) (entries rest)

abbrev pub nil : ℕ → ℕ
nil x = 0

abbrev pub none_named : Name → ℕ
none_named n = 0

-- ---- a record of an extent, or none

record-one : (x : ℕ) (i : Item) → T (is_record i) → i.key.objectid ≡ x → is_record_of x i ≡ 1
record-one x i t e = cond_yes (record_of x i) 1 0 (yes_and (is_record i) (eqb i.key.objectid x) t (yes_eqb e))

ref-one : (x : ℕ) (i : Item) → T (is_ref_item i) → i.key.objectid ≡ x → is_ref_of x i ≡ 1
ref-one x i t e = cond_yes (is_ref_item i && eqb i.key.objectid x) 1 0 (yes_and (is_ref_item i) (eqb i.key.objectid x) t (yes_eqb e))

-- where no record of the extent stands, there is no total
no-total : (x : ℕ) (l : List Item) → records x l ≡ 0 → sum (total_in x) l ≡ 0
no-total x [] e = refl
no-total x (i ∷ l) e = go (record_of x i) (no-total x l) e
  where
    go : (c : Bool) → (records x l ≡ 0 → sum (total_in x) l ≡ 0) → cond c 1 0 + records x l ≡ 0
        → cond c (view_total (view_of i)) 0 + sum (total_in x) l ≡ 0
    go true ih h = absurd (omega arith)
    go false ih h = let k = ih (omega arith) in omega arith

-- ---- from balance to the facts

module _ (f : ℕ → ℕ) (x : ℕ) where
  abbrev pairs_of : Item → Bool
  pairs_of i = not (is_record i || is_ref_item i) || eqb (f i.key.objectid) 1

  -- neither a record nor a reference item of the extent, or the number is 1
  seek : (l : List Item) → T (all pairs_of l) → ((records x l ≡ 0) × (sum (is_ref_of x) l ≡ 0)) ⊎ (f x ≡ 1)
  seek [] t = inl (refl, refl)
  seek (i ∷ l) t =
      let h = and_yes (pairs_of i) _ t in
      go (is_record i) (is_ref_item i) (eqb i.key.objectid x) refl h.0 (seek l h.1)
    where
      go : (a b c : Bool) → eqb i.key.objectid x ≡ c → T (not (a || b) || eqb (f i.key.objectid) 1)
          → ((records x l ≡ 0) × (sum (is_ref_of x) l ≡ 0)) ⊎ (f x ≡ 1)
          → ((cond (a && c) 1 0 + records x l ≡ 0) × (cond (b && c) 1 0 + sum (is_ref_of x) l ≡ 0)) ⊎ (f x ≡ 1)
      go a b c q t (inr h) = inr h
      go false false c q t (inl (h, k)) = inl (omega arith, omega arith)
      go true b false q t (inl (h, k)) = inl (omega arith, zero b)
        where
          zero : (b : Bool) → cond (b && false) 1 0 + sum (is_ref_of x) l ≡ 0
          zero true = omega arith
          zero false = omega arith
      go false true false q t (inl (h, k)) = inl (omega arith, omega arith)
      go true b true q t (inl h) = inr (ap f (sym (eqb→eq _ _ (subst T (sym q) tt))) ∙ eqb→eq _ _ t)
      go false true true q t (inl h) = inr (ap f (sym (eqb→eq _ _ (subst T (sym q) tt))) ∙ eqb→eq _ _ t)

  abbrev total_of : Item → Bool
  total_of i = not (is_record i) || eqb (view_total (view_of i)) (f i.key.objectid)

  total-is : (l : List Item) → records x l ≤ 1 → T (all total_of l) → 1 ≤ records x l → sum (total_in x) l ≡ f x
  total-is [] few t h = absurd (omega arith)
  total-is (i ∷ l) few t h =
      let k = and_yes (total_of i) _ t in
      go (is_record i) (eqb i.key.objectid x) refl few h k.0 (λ a b. total-is l a k.1 b) (no-total x l)
    where
      go : (a c : Bool) → eqb i.key.objectid x ≡ c → cond (a && c) 1 0 + records x l ≤ 1 → 1 ≤ cond (a && c) 1 0 + records x l
          → T (not a || eqb (view_total (view_of i)) (f i.key.objectid))
          → (records x l ≤ 1 → 1 ≤ records x l → sum (total_in x) l ≡ f x) → (records x l ≡ 0 → sum (total_in x) l ≡ 0)
          → cond (a && c) (view_total (view_of i)) 0 + sum (total_in x) l ≡ f x
      go true true q few h t ih z =
          let e : f i.key.objectid ≡ f x = ap f (eqb→eq _ _ (subst T (sym q) tt)) in
          let v : view_total (view_of i) ≡ f i.key.objectid = eqb→eq _ _ t in
          let n : sum (total_in x) l ≡ 0 = z (omega arith) in
          omega arith
      go true false q few h t ih z = let n = ih (omega arith) (omega arith) in omega arith
      go false c q few h t ih z = let n = ih (omega arith) (omega arith) in omega arith

pub balanced-facts : (items : List Item) → T (balanced items) → Facts nil nil nil none_named items
balanced-facts items t =
    let b = balanced-out items t in
    let once : (x : ℕ) → records x items ≤ 1 = (λ x. few x (seek (λ y. records y items) x items b.pairs)) in
    record {
      goods = b.goods;
      once = λ x. omega (arith, once x);
      owned = λ x h. own x (seek (λ y. records y items) x items b.pairs) h;
      names = λ n. omega (arith, b.names n);
      heavy = counts-in (entries items) b.nonempty;
      totals = λ x h. ap (λ (k : ℕ). 0 + k) (total-is (λ y. sum (of_extent y) (entries items)) x items (once x) b.totals (omega arith));
    }
  where
    few : (x : ℕ) → ((records x items ≡ 0) × (sum (is_ref_of x) items ≡ 0)) ⊎ (records x items ≡ 1) → records x items ≤ 1
    few x (inl (h, k)) = omega arith
    few x (inr h) = omega arith

    own : (x : ℕ) → ((records x items ≡ 0) × (sum (is_ref_of x) items ≡ 0)) ⊎ (records x items ≡ 1) → 1 ≤ sum (is_ref_of x) items
        → 1 ≤ 0 + records x items
    own x (inl (h, k)) l = absurd (omega arith)
    own x (inr h) l = omega arith

-- ---- from the facts to balance

pairs-in : (f : ℕ → ℕ) (l : List Item) → ((x : ℕ) → 1 ≤ records x l → f x ≡ 1) → ((x : ℕ) → 1 ≤ sum (is_ref_of x) l → f x ≡ 1)
    → T (all (λ i. not (is_record i || is_ref_item i) || eqb (f i.key.objectid) 1) l)
pairs-in f [] g h = tt
pairs-in f (i ∷ l) g h =
    yes_and (not (is_record i || is_ref_item i) || eqb (f i.key.objectid) 1) _
    (imp-in (is_record i || is_ref_item i) (eqb (f i.key.objectid) 1) (λ t. yes_eqb (one (is_record i) (is_ref_item i) refl refl t)))
    (pairs-in f l (λ x k. g x (omega arith)) (λ x k. h x (omega arith)))
  where
    one : (a b : Bool) → is_record i ≡ a → is_ref_item i ≡ b → T (a || b) → f i.key.objectid ≡ 1
    one true b q r t = let e = record-one i.key.objectid i (subst T (sym q) tt) refl in g i.key.objectid (omega arith)
    one false true q r t = let e = ref-one i.key.objectid i (subst T (sym r) tt) refl in h i.key.objectid (omega arith)
    one false false q r t = absurd t

totals-in : (f : ℕ → ℕ) (l : List Item) → ((x : ℕ) → records x l ≤ 1) → ((x : ℕ) → 1 ≤ records x l → sum (total_in x) l ≡ f x)
    → T (all (λ i. not (is_record i) || eqb (view_total (view_of i)) (f i.key.objectid)) l)
totals-in f [] few g = tt
totals-in f (i ∷ l) few g =
    yes_and (not (is_record i) || eqb (view_total (view_of i)) (f i.key.objectid)) _
    (imp-in (is_record i) (eqb (view_total (view_of i)) (f i.key.objectid)) (λ t. yes_eqb (here t)))
    (totals-in f l (λ x. omega (arith, few x)) (λ x k. later x k (record_of x i) refl))
  where
    here : T (is_record i) → view_total (view_of i) ≡ f i.key.objectid
    here t =
        let x : ℕ = i.key.objectid in
        let y : T (record_of x i) = yes_and (is_record i) (eqb i.key.objectid x) t (eqb_refl x) in
        let e : is_record_of i.key.objectid i ≡ 1 = record-one i.key.objectid i t refl in
        let v : total_in i.key.objectid i ≡ view_total (view_of i) = cond_yes (record_of x i) (view_total (view_of i)) 0 y in
        let z : sum (total_in i.key.objectid) l ≡ 0 = no-total i.key.objectid l (omega (arith, few i.key.objectid)) in
        let w : total_in i.key.objectid i + sum (total_in i.key.objectid) l ≡ f i.key.objectid = g i.key.objectid (omega arith) in
        omega arith

    later : (x : ℕ) → 1 ≤ records x l → (c : Bool) → record_of x i ≡ c → sum (total_in x) l ≡ f x
    later x k true q =
        let e : is_record_of x i ≡ 1 = ap (λ (c : Bool). cond c 1 0) q in
        absurd (omega (arith, few x))
    later x k false q =
        let v : total_in x i ≡ 0 = ap (λ (c : Bool). cond c (view_total (view_of i)) 0) q in
        let w : total_in x i + sum (total_in x) l ≡ f x = g x (omega arith) in
        omega arith

pub facts-balanced : (items : List Item) → Facts nil nil nil none_named items → T (balanced items)
facts-balanced items F =
    balanced-in items
    (record {
      goods = F.goods;
      pairs = pairs-in (λ y. records y items) items (λ x h. omega (arith, F.once x)) (λ x h. let o = F.owned x h in omega (arith, F.once x));
      names = λ n. omega (arith, F.names n);
      nonempty = counts-out (entries items) F.heavy;
      totals = totals-in (λ y. sum (of_extent y) (entries items)) items (λ x. omega (arith, F.once x)) (λ x h. let e = F.totals x (omega arith) in omega arith);
    })

-- ---- one item more

module _ (R U S : ℕ → ℕ) (N : Name → ℕ) (i : Item) (rest : List Item) where
  abbrev pub R⁺ : ℕ → ℕ
  R⁺ x = R x + is_record_of x i

  abbrev pub U⁺ : ℕ → ℕ
  U⁺ x = U x + total_in x i

  abbrev pub S⁺ : ℕ → ℕ
  S⁺ x = S x + sum (of_extent x) (item_entries i)

  abbrev pub N⁺ : Name → ℕ
  N⁺ n = N n + sum (stands n) (item_entries i)

  entries-cons : (g : Entry → ℕ) → sum g (entries (i ∷ rest)) ≡ sum g (item_entries i) + sum g (entries rest)
  unfolding entries
  entries-cons g = sum-append g (item_entries i) (entries rest)

  pub facts-tail : Facts R U S N (i ∷ rest) → Facts R⁺ U⁺ S⁺ N⁺ rest
  unfolding entries
  facts-tail F = record {
    goods = (and_yes (good i) _ F.goods).1;
    once = λ x. omega (arith, F.once x);
    owned = λ x h. let o = F.owned x (omega arith) in omega arith;
    names = λ n. omega (arith, F.names n, entries-cons (stands n));
    heavy = all_right counts (item_entries i) (entries rest) F.heavy;
    totals = λ x h. let e = F.totals x (omega arith) in omega (arith, entries-cons (of_extent x));
  }

  pub facts-heavy : Facts R U S N (i ∷ rest) → T (all counts (item_entries i))
  unfolding entries
  facts-heavy F = all_left counts (item_entries i) (entries rest) F.heavy

  pub facts-cons : T (good i) → T (all counts (item_entries i)) → ((x : ℕ) → 1 ≤ is_ref_of x i → 1 ≤ R x + (is_record_of x i + records x rest))
      → Facts R⁺ U⁺ S⁺ N⁺ rest → Facts R U S N (i ∷ rest)
  unfolding entries
  facts-cons g c o F = record {
    goods = yes_and (good i) _ g F.goods;
    once = λ x. omega (arith, F.once x);
    owned = λ x h. own x h (ref-or x);
    names = λ n. omega (arith, F.names n, entries-cons (stands n));
    heavy = all_both counts (item_entries i) (entries rest) c F.heavy;
    totals = λ x h. let e = F.totals x (omega arith) in omega (arith, entries-cons (of_extent x));
  }
    where
      ref-or : (x : ℕ) → (1 ≤ is_ref_of x i) ⊎ (is_ref_of x i ≡ 0)
      ref-or x = go (is_ref_item i && eqb i.key.objectid x)
        where
          go : (c : Bool) → (1 ≤ cond c 1 0) ⊎ (◌≡◌ {A = ℕ} (cond c 1 0) 0)
          go true = inl (omega arith)
          go false = inr refl

      own : (x : ℕ) → 1 ≤ is_ref_of x i + sum (is_ref_of x) rest → (1 ≤ is_ref_of x i) ⊎ (is_ref_of x i ≡ 0) → 1 ≤ R x + (is_record_of x i + records x rest)
      own x h (inl k) = o x k
      own x h (inr k) = let w = F.owned x (omega arith) in omega arith

-- ---- the same facts of other sums

pub facts-same : (R U S R' U' S' : ℕ → ℕ) (N N' : Name → ℕ) (rest : List Item)
    → ((x : ℕ) → R x ≡ R' x) → ((x : ℕ) → U x ≡ U' x) → ((x : ℕ) → S x ≡ S' x) → ((n : Name) → N n ≡ N' n)
    → Facts R U S N rest → Facts R' U' S' N' rest
facts-same R U S R' U' S' N N' rest r u s n F = record {
  goods = F.goods;
  once = λ x. omega (arith, F.once x, r x);
  owned = λ x h. let o = F.owned x h in omega (arith, r x);
  names = λ m. omega (arith, F.names m, n m);
  heavy = F.heavy;
  totals = λ x h. let k = r x in let e = F.totals x (omega arith) in omega (arith, u x, s x);
}
