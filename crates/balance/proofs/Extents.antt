-- What a tally says of each extent and name, and what an extent that is left behind says of the rest. Assumes nothing.
use mathlib.Core.Path.{◌≡◌, refl, sym, ap, ◌∙◌, subst}
use mathlib.Core.Logic.{◌≢◌, ◌⊎◌, inl, inr}
use Prim.Native.Nat.{ℕ, ◌+◌, ◌≤◌}
use native.Mathlib.Omega.{arith}
use mathlib.Core.Bool.{Bool, true, false, not, ◌&&◌, cond}
use mathlib.Core.List.{List, [], ◌∷◌}
use lib.Dec.{T, leb, eqb, eqb_refl, eqb→eq, leb→le}
use mir.Facts.{and_yes, yes_and, T_not, yes_eqb, no_eqb}
use Rattle.fields.specs.Lists.{sum, all}
use Rattle.fields.proofs.Lists.{cond_yes, cond_no, sum-append, all_map}
use Rattle.format.specs.Items.{Item, rising}
use Rattle.format.specs.Apply.{is_record}
use Rattle.format.specs.Names.{Name, Entry, is_ref_item, view_of, ref_entries, item_entries, entries, is_record_of, records, stands, of_extent, view_total}
use Rattle.format.proofs.Keys.{Before, below_out, beyond, rising-after}
use Rattle.theorems.proofs.Facts.{entries-here, none_here}
use Rattle.balance.specs.Tally.{GroupTally, fresh, closed}
use Rattle.balance.proofs.Sorted.{names}
use Rattle.balance.proofs.Parts.{is_ref_of, total_in, Facts}
use Rattle.balance.proofs.Says.{names-far}

-- ---- what a tally says of each extent and name

abbrev pub recs : GroupTally → ℕ → ℕ
recs t x = cond (eqb t.extent x) (cond t.marked 1 0) 0

abbrev pub tots : GroupTally → ℕ → ℕ
tots t x = cond (eqb t.extent x) t.total 0

abbrev pub sums : GroupTally → ℕ → ℕ
sums t x = cond (eqb t.extent x) t.weight 0

abbrev pub nams : GroupTally → Name → ℕ
nams t n = names t.extent n t.refs

abbrev pub Of : GroupTally → List Item → Type 0
Of t rest = Facts (recs t) (tots t) (sums t) (nams t) rest

-- no name stands twice inline, and without a record there is nothing
pub record Valid (t : GroupTally) : Type 0 where
  pub single : (n : Name) → nams t n ≤ 1
  pub blank : T (not t.marked) → (t.refs ≡ []) × ((t.total ≡ 0) × (t.weight ≡ 0))

pub fresh-valid : (x : ℕ) → Valid (fresh x)
unfolding ref_entries
fresh-valid x = record { single = λ n. omega arith; blank = λ _. (refl, (refl, refl)) }

pub zero-cond : (c : Bool) → ◌≡◌ {A = ℕ} (cond c 0 0) 0
zero-cond true = refl
zero-cond false = refl

-- ---- items of other extents add nothing

unfoldable pub far : ℕ → Item → Bool
far x i = not (eqb i.key.objectid x)

far-record : (x : ℕ) (i : Item) → T (far x i) → is_record_of x i ≡ 0
unfolding far
far-record x i t = go (is_record i) (eqb i.key.objectid x) t
  where
    go : (a c : Bool) → T (not c) → ◌≡◌ {A = ℕ} (cond (a && c) 1 0) 0
    go a true t = absurd t
    go true false t = refl
    go false false t = refl

far-ref : (x : ℕ) (i : Item) → T (far x i) → is_ref_of x i ≡ 0
unfolding far
far-ref x i t = go (is_ref_item i) (eqb i.key.objectid x) t
  where
    go : (a c : Bool) → T (not c) → ◌≡◌ {A = ℕ} (cond (a && c) 1 0) 0
    go a true t = absurd t
    go true false t = refl
    go false false t = refl

far-total : (x : ℕ) (i : Item) → T (far x i) → total_in x i ≡ 0
unfolding far
far-total x i t = go (is_record i) (eqb i.key.objectid x) t
  where
    go : (a c : Bool) → T (not c) → cond (a && c) (view_total (view_of i)) 0 ≡ 0
    go a true t = absurd t
    go true false t = refl
    go false false t = refl

-- an item's weights are under its own extent
weight-far : (x y : ℕ) (l : List Entry) → T (all (λ e. eqb e.name.extent y) l) → y ≢ x → sum (of_extent x) l ≡ 0
weight-far x y [] t h = refl
weight-far x y (e ∷ l) t h =
    let k = and_yes (eqb e.name.extent y) _ t in
    let z : sum (of_extent x) l ≡ 0 = weight-far x y l k.1 h in
    let w : of_extent x e ≡ 0 =
    cond_no (eqb x e.name.extent) e.weight 0 (no_eqb (λ (q : x ≡ e.name.extent). h (sym (eqb→eq _ _ k.0) ∙ sym q))) in
    omega arith

far-weight : (x : ℕ) (i : Item) → T (far x i) → sum (of_extent x) (item_entries i) ≡ 0
unfolding far
far-weight x i t =
    weight-far x i.key.objectid (item_entries i) (entries-here i) (λ e. T_not (eqb i.key.objectid x) (yes_eqb e) t)

pub far-name : (n : Name) (i : Item) → T (far n.extent i) → sum (stands n) (item_entries i) ≡ 0
unfolding far
far-name n i t =
    none_here n i.key.objectid (item_entries i) (entries-here i) (λ e. T_not (eqb i.key.objectid n.extent) (yes_eqb e) t)

pub record Far (x : ℕ) (l : List Item) : Type 0 where
  pub no_record : records x l ≡ 0
  pub no_ref : sum (is_ref_of x) l ≡ 0
  pub no_total : sum (total_in x) l ≡ 0
  pub no_weight : sum (of_extent x) (entries l) ≡ 0
  pub no_name : (n : Name) → n.extent ≡ x → sum (stands n) (entries l) ≡ 0

pub far-all : (x : ℕ) (l : List Item) → T (all (far x) l) → Far x l
unfolding entries
far-all x [] t = record { no_record = refl; no_ref = refl; no_total = refl; no_weight = refl; no_name = λ n e. refl }
far-all x (i ∷ l) t =
    let h = and_yes (far x i) _ t in
    let f = far-all x l h.1 in
    record {
      no_record = omega (arith, far-record x i h.0, f.no_record);
      no_ref = omega (arith, far-ref x i h.0, f.no_ref);
      no_total = omega (arith, far-total x i h.0, f.no_total);
      no_weight = omega (arith, sum-append (of_extent x) (item_entries i) (entries l), far-weight x i h.0, f.no_weight);
      no_name = λ n e. omega (arith, sum-append (stands n) (item_entries i) (entries l), far-name n i (rw e h.0), f.no_name n e);
    }

-- ---- a new extent

-- the items are of this extent or higher ones
abbrev pub ahead : GroupTally → Item → Bool
ahead t i = leb t.extent i.key.objectid

pub past : (t : GroupTally) (i : Item) (rest : List Item) → T (ahead t i) → i.key.objectid ≢ t.extent → T (rising (i ∷ rest)) → T (all (far t.extent) (i ∷ rest))
unfolding far
past t i rest a ne r =
    let lo : t.extent ≤ i.key.objectid = leb→le _ _ a in
    yes_and (far t.extent i) _ (no_eqb ne)
    (all_map (beyond i.key) (far t.extent) (λ j b. no_eqb (λ (e : j.key.objectid ≡ t.extent). higher j e lo (below_out i.key j.key b))) rest (rising-after i rest r))
  where
    higher : (j : Item) → j.key.objectid ≡ t.extent → t.extent ≤ i.key.objectid → Before i.key j.key → ⊥
    higher j e lo (inl h) = omega arith
    higher j e lo (inr (h, k)) = ne (h ∙ e)

module _ (t : GroupTally) (x : ℕ) (rest : List Item) (v : Valid t) (f : Far t.extent rest) where
  -- an extent is that of the tally, or not
  self-or : (y : ℕ) → (t.extent ≡ y) ⊎ ((recs t y ≡ 0) × ((tots t y ≡ 0) × (sums t y ≡ 0)))
  self-or y = go (eqb t.extent y) refl
    where
      go : (c : Bool) → eqb t.extent y ≡ c → (t.extent ≡ y) ⊎ ((◌≡◌ {A = ℕ} (cond c (cond t.marked 1 0) 0) 0) × ((cond c t.total 0 ≡ 0) × (cond c t.weight 0 ≡ 0)))
      go true q = inl (eqb→eq _ _ (subst T (sym q) tt))
      go false q = inr (refl, (refl, refl))

  recs-few : (y : ℕ) → recs t y ≤ 1
  recs-few y = go (eqb t.extent y) t.marked
    where
      go : (c d : Bool) → cond c (cond d 1 0) 0 ≤ 1
      go true true = omega arith
      go true false = omega arith
      go false d = omega arith

  recs-self : recs t t.extent ≡ cond t.marked 1 0
  recs-self = cond_yes (eqb t.extent t.extent) _ 0 (eqb_refl t.extent)

  tots-self : tots t t.extent ≡ t.total
  tots-self = cond_yes (eqb t.extent t.extent) _ 0 (eqb_refl t.extent)

  sums-self : sums t t.extent ≡ t.weight
  sums-self = cond_yes (eqb t.extent t.extent) _ 0 (eqb_refl t.extent)

  pub leave : Of t rest → T (closed t) × Of (fresh x) rest
  unfolding closed ref_entries
  leave F = (
    yes_eqb (go t.marked refl),
    record {
      goods = F.goods;
      once = λ y. omega (arith, zero-cond (eqb x y), F.once y);
      owned = λ y h. own y h (self-or y);
      names = λ n. omega (arith, F.names n);
      heavy = F.heavy;
      totals = λ y h. tot y h (self-or y);
    },
  )
    where
      go : (c : Bool) → t.marked ≡ c → t.total ≡ t.weight
      go true q =
          let m : recs t t.extent ≡ 1 = recs-self ∙ ap (λ (c : Bool). cond c 1 0) q in
          let e = F.totals t.extent (omega arith) in
          omega (arith, f.no_total, f.no_weight, tots-self, sums-self)
      go false q = let b = v.blank (subst (λ (c : Bool). T (not c)) (sym q) tt) in b.1.0 ∙ sym b.1.1

      own : (y : ℕ) → 1 ≤ sum (is_ref_of y) rest → (t.extent ≡ y) ⊎ ((recs t y ≡ 0) × ((tots t y ≡ 0) × (sums t y ≡ 0))) → 1 ≤ recs (fresh x) y + records y rest
      own y h (inl e) = let z : sum (is_ref_of y) rest ≡ 0 = rw (← e) f.no_ref in absurd (omega arith)
      own y h (inr (a, (b, c))) = let k = F.owned y h in omega (arith, zero-cond (eqb x y))

      tot : (y : ℕ) → 1 ≤ recs (fresh x) y + records y rest → (t.extent ≡ y) ⊎ ((recs t y ≡ 0) × ((tots t y ≡ 0) × (sums t y ≡ 0)))
          → tots (fresh x) y + sum (total_in y) rest ≡ sums (fresh x) y + sum (of_extent y) (entries rest)
      tot y h (inl e) = let z : records y rest ≡ 0 = rw (← e) f.no_record in let w = zero-cond (eqb x y) in absurd (omega arith)
      tot y h (inr (a, (b, c))) =
          let w : recs (fresh x) y ≡ 0 = zero-cond (eqb x y) in
          let k = F.totals y (omega arith) in omega (arith, zero-cond (eqb x y))

  pub return : T (closed t) → Of (fresh x) rest → Of t rest
  unfolding closed ref_entries
  return c F = record {
    goods = F.goods;
    once = λ y. one y (self-or y);
    owned = λ y h. let k = F.owned y h in omega (arith, zero-cond (eqb x y));
    names = λ n. nam n (eqb n.extent t.extent) refl;
    heavy = F.heavy;
    totals = λ y h. tot y h (self-or y);
  }
    where
      one : (y : ℕ) → (t.extent ≡ y) ⊎ ((recs t y ≡ 0) × ((tots t y ≡ 0) × (sums t y ≡ 0))) → recs t y + records y rest ≤ 1
      one y (inl e) = let z : records y rest ≡ 0 = rw (← e) f.no_record in omega (arith, recs-few y)
      one y (inr (a, (b, d))) = omega (arith, F.once y, zero-cond (eqb x y))

      nam : (n : Name) → (d : Bool) → eqb n.extent t.extent ≡ d → nams t n + sum (stands n) (entries rest) ≤ 1
      nam n true q = omega (arith, v.single n, f.no_name n (eqb→eq _ _ (subst T (sym q) tt)))
      nam n false q =
          let z : nams t n ≡ 0 = names-far t.extent n t.refs (λ e. T_not (eqb n.extent t.extent) (yes_eqb e) (subst (λ (d : Bool). T (not d)) (sym q) tt)) in
          omega (arith, F.names n)

      tot : (y : ℕ) → 1 ≤ recs t y + records y rest → (t.extent ≡ y) ⊎ ((recs t y ≡ 0) × ((tots t y ≡ 0) × (sums t y ≡ 0)))
          → tots t y + sum (total_in y) rest ≡ sums t y + sum (of_extent y) (entries rest)
      tot y h (inl e) =
          let k : t.total ≡ t.weight = eqb→eq _ _ c in
          rw (← e) (omega (arith, tots-self, sums-self, f.no_total, f.no_weight))
      tot y h (inr (a, (b, d))) = let w = zero-cond (eqb x y) in let k = F.totals y (omega arith) in omega (arith, zero-cond (eqb x y))
