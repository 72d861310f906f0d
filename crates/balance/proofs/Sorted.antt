-- A record's references pass from left to right exactly if they are in order, count, and no name stands twice among them.
-- Assumes nothing.
use mathlib.Core.Path.{◌≡◌, refl, sym, ap, ap₂, ◌∙◌, subst}
use mathlib.Core.Logic.{◌≢◌, ◌⊎◌, inl, inr}
use Prim.Native.Nat.{ℕ, ◌+◌, ◌≤◌, ◌<◌}
use native.Mathlib.Omega.{arith}
use mathlib.Core.Bool.{Bool, true, false, not, ◌&&◌, ◌||◌, cond}
use mathlib.Core.List.{List, [], ◌∷◌, ◌++◌}
use lib.Dec.{T, leb, ltb, eqb, eqb_refl, eqb→eq, leb→le, ltb→lt, lt→ltb}
use mir.Facts.{and_yes, yes_and, or_yes, T_not, not_T, yes_eqb, no_eqb}
use Rattle.fields.specs.Lists.{sum, all, same}
use Rattle.fields.proofs.Lists.{imp-out, imp-in, or_left, or_right, cond_yes, cond_no, sum-append, all_both, all_map, same-yes}
use Rattle.format.specs.References.{Ref, rank, rank_of, falls, follows, leads, ordered}
use Rattle.format.specs.Bodies.{named}
use Rattle.format.specs.Names.{Name, same_name, ref_entry, ref_entries, stands}
use Rattle.theorems.proofs.Sums.{same_name-yes, same_name-refl, ref_entries-append}
use Rattle.theorems.proofs.Order.{follows-out, named-yes, yes-named}
use Rattle.format.proofs.Refs.{yes_or_no}
use Rattle.balance.specs.Tally.{RefRun, start, joins, kept_run, after, runs_apart, weighs, admits, sound}

-- how often a name stands among the references of an extent
abbrev pub names : ℕ → Name → List Ref → ℕ
names x n refs = sum (stands n) (ref_entries x refs)

abbrev pub name_of : ℕ → Ref → Name
name_of x r = record { extent = x; kind = r.kind; fields = r.fields }

abbrev other : Name → Ref → Bool
other n r = not (named n.kind n.fields r)

-- ---- sums over references

pub names-append : (x : ℕ) (n : Name) (a b : List Ref) → names x n (a ++ b) ≡ names x n a + names x n b
names-append x n a b = ap (sum (stands n)) (ref_entries-append x a b) ∙ sum-append (stands n) (ref_entries x a) (ref_entries x b)

-- one reference: its entry, or none
module _ (x : ℕ) (n : Name) (r : Ref) where
  one-is : (c : Bool) → eqb r.kind 172 ≡ c → names x n (r ∷ []) ≡ cond c 0 (cond (same_name n (name_of x r)) 1 0)
  unfolding ref_entries ref_entry
  one-is true q = rw q refl
  one-is false q = rw q (omega arith)

  pub one-most : names x n (r ∷ []) ≤ 1
  one-most = subst (λ (k : ℕ). k ≤ 1) (sym (one-is (eqb r.kind 172) refl)) (go (eqb r.kind 172) (same_name n (name_of x r)))
    where
      go : (c d : Bool) → cond c 0 (cond d 1 0) ≤ 1
      go true d = omega arith
      go false true = omega arith
      go false false = omega arith

  pub one-other : T (other n r) → names x n (r ∷ []) ≡ 0
  one-other t = one-is (eqb r.kind 172) refl ∙ go (eqb r.kind 172) (same_name n (name_of x r)) refl
    where
      go : (c d : Bool) → same_name n (name_of x r) ≡ d → ◌≡◌ {A = ℕ} (cond c 0 (cond d 1 0)) 0
      go true d q = refl
      go false true q =
          let e : n ≡ name_of x r = same_name-yes n (name_of x r) (subst T (sym q) tt) in
          absurd (T_not (named n.kind n.fields r)
          (yes-named n.kind n.fields r (sym (ap (λ (y : Name). y.kind) e)) (sym (ap (λ (y : Name). y.fields) e))) t)
      go false false q = refl

  -- either it is of the name, or it does not stand
  pub one-or : (n ≡ name_of x r) ⊎ (names x n (r ∷ []) ≡ 0)
  one-or = go (same_name n (name_of x r)) refl
    where
      go : (d : Bool) → same_name n (name_of x r) ≡ d → (n ≡ name_of x r) ⊎ (names x n (r ∷ []) ≡ 0)
      go true q = inl (same_name-yes n (name_of x r) (subst T (sym q) tt))
      go false q = inr (one-is (eqb r.kind 172) refl ∙ ap (λ (d : Bool). cond (eqb r.kind 172) 0 (cond d 1 0)) q ∙ zero (eqb r.kind 172))
        where
          zero : (c : Bool) → ◌≡◌ {A = ℕ} (cond c 0 0) 0
          zero true = refl
          zero false = refl

pub one-self : (x : ℕ) (r : Ref) → T (not (eqb r.kind 172)) → names x (name_of x r) (r ∷ []) ≡ 1
one-self x r t =
    one-is x (name_of x r) r (eqb r.kind 172) refl
    ∙ cond_no (eqb r.kind 172) 0 (cond (same_name (name_of x r) (name_of x r)) 1 0) t
    ∙ cond_yes (same_name (name_of x r) (name_of x r)) 1 0 (same_name-refl (name_of x r))

pub names-cons : (x : ℕ) (n : Name) (r : Ref) (refs : List Ref) → names x n (r ∷ refs) ≡ names x n (r ∷ []) + names x n refs
names-cons x n r refs = names-append x n (r ∷ []) refs

pub names-other : (x : ℕ) (n : Name) (refs : List Ref) → T (all (other n) refs) → names x n refs ≡ 0
unfolding ref_entries
names-other x n [] t = refl
names-other x n (r ∷ refs) t =
    let h = and_yes (other n r) _ t in
    omega (arith, names-cons x n r refs, one-other x n r h.0, names-other x n refs h.1)

-- an owner reference names nothing
pub names-owner : (x : ℕ) (n : Name) (refs : List Ref) → n.kind ≡ 172 → names x n refs ≡ 0
unfolding ref_entries
names-owner x n [] e = refl
names-owner x n (r ∷ refs) e = omega (arith, names-cons x n r refs, go (one-or x n r), names-owner x n refs e)
  where
    go : (n ≡ name_of x r) ⊎ (names x n (r ∷ []) ≡ 0) → names x n (r ∷ []) ≡ 0
    go (inl q) =
        one-is x n r (eqb r.kind 172) refl
        ∙ cond_yes (eqb r.kind 172) 0 _ (yes_eqb (sym (ap (λ (y : Name). y.kind) q) ∙ e))
    go (inr z) = z

-- ---- the references at hand

-- those kept share type and rank
abbrev in_run : RefRun → Ref → Bool
in_run run b = eqb b.kind run.kind && eqb (rank b) run.rank

-- beyond the run: of a higher type, or of a lower rank
abbrev Beyond : RefRun → Ref → Type 0
Beyond run r = (run.kind < r.kind) ⊎ ((run.kind ≡ r.kind) × ((run.kind ≡ 172) ⊎ (rank r < run.rank)))

abbrev beyond : RefRun → Ref → Bool
beyond run r = ltb run.kind r.kind || (eqb run.kind r.kind && (eqb run.kind 172 || ltb (rank r) run.rank))

beyond-in : (run : RefRun) (r : Ref) → Beyond run r → T (beyond run r)
beyond-in run r (inl h) = or_left (ltb run.kind r.kind) _ (lt→ltb _ _ h)
beyond-in run r (inr (e, inl h)) =
    or_right (ltb run.kind r.kind) _ (yes_and (eqb run.kind r.kind) _ (yes_eqb e) (or_left (eqb run.kind 172) _ (yes_eqb h)))
beyond-in run r (inr (e, inr h)) =
    or_right (ltb run.kind r.kind) _ (yes_and (eqb run.kind r.kind) _ (yes_eqb e) (or_right (eqb run.kind 172) _ (lt→ltb _ _ h)))

beyond-out : (run : RefRun) (r : Ref) → T (beyond run r) → Beyond run r
beyond-out run r t = go (or_yes (ltb run.kind r.kind) _ t)
  where
    low : T (eqb run.kind 172) ⊎ T (ltb (rank r) run.rank) → (run.kind ≡ 172) ⊎ (rank r < run.rank)
    low (inl h) = inl (eqb→eq _ _ h)
    low (inr h) = inr (ltb→lt _ _ h)

    go : T (ltb run.kind r.kind) ⊎ T (eqb run.kind r.kind && (eqb run.kind 172 || ltb (rank r) run.rank)) → Beyond run r
    go (inl h) = inl (ltb→lt _ _ h)
    go (inr h) =
        let k = and_yes (eqb run.kind r.kind) _ h in
        inr (eqb→eq _ _ k.0, low (or_yes (eqb run.kind 172) _ k.1))

-- how two ranks of one type follow each other
data Fall (k p q : ℕ) : Type 0 where
  owner : k ≡ 172 → Fall k p q
  hash : k ≡ 178 → q ≤ p → Fall k p q
  lower : q < p → Fall k p q

fall-out : (k p q : ℕ) → T (falls k p q) → Fall k p q
unfolding falls
fall-out k p q t = go (eqb k 172) (eqb k 178) refl refl t
  where
    go : (c d : Bool) → eqb k 172 ≡ c → eqb k 178 ≡ d → T (cond c true (cond d (leb q p) (ltb q p))) → Fall k p q
    go true d e f t = owner (eqb→eq _ _ (subst T (sym e) tt))
    go false true e f t = hash (eqb→eq _ _ (subst T (sym f) tt)) (leb→le _ _ t)
    go false false e f t = lower (ltb→lt _ _ t)

after-out : (run : RefRun) (r : Ref) → T (after run r) → (run.kind < r.kind) ⊎ ((run.kind ≡ r.kind) × T (falls run.kind run.rank (rank r)))
unfolding after
after-out run r t = go (or_yes (ltb run.kind r.kind) _ t)
  where
    go : T (ltb run.kind r.kind) ⊎ T (eqb run.kind r.kind && falls run.kind run.rank (rank r))
        → (run.kind < r.kind) ⊎ ((run.kind ≡ r.kind) × T (falls run.kind run.rank (rank r)))
    go (inl h) = inl (ltb→lt _ _ h)
    go (inr h) = let k = and_yes (eqb run.kind r.kind) _ h in inr (eqb→eq _ _ k.0, k.1)

-- one in order that does not join is beyond
after-beyond : (run : RefRun) (r : Ref) → T (after run r) → T (not (joins run r)) → T (beyond run r)
unfolding joins
after-beyond run r t j = beyond-in run r (go (after-out run r t))
  where
    fall : run.kind ≡ r.kind → Fall run.kind run.rank (rank r) → (run.kind ≡ 172) ⊎ (rank r < run.rank)
    fall e (owner h) = inl h
    fall e (hash h l) =
        let ne : rank r ≢ run.rank =
        (λ q. T_not (eqb run.kind 178 && (eqb r.kind run.kind && eqb (rank r) run.rank))
        (yes_and (eqb run.kind 178) _ (yes_eqb h) (yes_and (eqb r.kind run.kind) _ (yes_eqb (sym e)) (yes_eqb q))) j) in
        inr (omega arith)
    fall e (lower l) = inr l

    go : (run.kind < r.kind) ⊎ ((run.kind ≡ r.kind) × T (falls run.kind run.rank (rank r))) → Beyond run r
    go (inl h) = inl h
    go (inr (e, f)) = inr (e, fall e (fall-out _ _ _ f))

beyond-next : (run : RefRun) (r s : Ref) → T (beyond run r) → T (follows r s) → T (beyond run s)
beyond-next run r s t f = beyond-in run s (go (beyond-out run r t) (follows-out r s f))
  where
    low : run.kind ≡ r.kind → (run.kind ≡ 172) ⊎ (rank r < run.rank) → Fall r.kind (rank r) (rank s) → (run.kind ≡ 172) ⊎ (rank s < run.rank)
    low e (inl h) d = inl h
    low e (inr h) (owner d) = inl (e ∙ d)
    low e (inr h) (hash d l) = inr (omega arith)
    low e (inr h) (lower l) = inr (omega arith)

    go : Beyond run r → (r.kind < s.kind) ⊎ ((r.kind ≡ s.kind) × T (falls r.kind (rank r) (rank s))) → Beyond run s
    go (inl h) (inl k) = inl (omega arith)
    go (inl h) (inr (e, k)) = inl (omega arith)
    go (inr (e, h)) (inl k) = inl (omega arith)
    go (inr (e, h)) (inr (d, k)) = inr (e ∙ d, low e h (fall-out _ _ _ k))

beyond-all : (run : RefRun) (r : Ref) (refs : List Ref) → T (ordered (r ∷ refs)) → T (beyond run r) → T (all (beyond run) (r ∷ refs))
beyond-all run r [] o t = yes_and (beyond run r) _ t tt
beyond-all run r (s ∷ refs) o t =
    let h = and_yes (follows r s) _ o in
    yes_and (beyond run r) _ t (beyond-all run s refs h.1 (beyond-next run r s t h.0))

-- no name stands in the run and beyond it
module _ (x : ℕ) (n : Name) (run : RefRun) where
  at-run : Bool
  at-run = eqb n.kind run.kind && eqb (rank_of n.kind n.fields) run.rank

  run-other : T (not at-run) → (b : Ref) → T (in_run run b) → T (other n b)
  unfolding rank at-run
  run-other t b k = not_T (named n.kind n.fields b) (λ y.
      let e = named-yes n.kind n.fields b y in
      let h = and_yes (eqb b.kind run.kind) (eqb (rank b) run.rank) k in
      let p : rank b ≡ rank_of n.kind n.fields = ap₂ rank_of e.0 e.1 in
      T_not at-run (yes_and (eqb n.kind run.kind) _ (yes_eqb (sym e.0 ∙ eqb→eq _ _ h.0)) (yes_eqb (sym p ∙ eqb→eq _ _ h.1))) t)

  beyond-other : T at-run → n.kind ≢ 172 → (r : Ref) → T (beyond run r) → T (other n r)
  unfolding rank at-run
  beyond-other t z r k = not_T (named n.kind n.fields r) (λ y.
      let e = named-yes n.kind n.fields r y in
      let h = and_yes (eqb n.kind run.kind) (eqb (rank_of n.kind n.fields) run.rank) t in
      let p : rank r ≡ rank_of n.kind n.fields = ap₂ rank_of e.0 e.1 in
      let q : n.kind ≡ run.kind = eqb→eq _ _ h.0 in
      let w : rank_of n.kind n.fields ≡ run.rank = eqb→eq _ _ h.1 in
      go e.0 p q w (beyond-out run r k))
    where
      go : r.kind ≡ n.kind → rank r ≡ rank_of n.kind n.fields → n.kind ≡ run.kind → rank_of n.kind n.fields ≡ run.rank
          → Beyond run r → ⊥
      go e p q w (inl h) = omega arith
      go e p q w (inr (d, inl h)) = z (q ∙ h)
      go e p q w (inr (d, inr h)) = omega arith

  pub disjoint : (refs : List Ref) → T (all (in_run run) run.back) → T (all (beyond run) refs)
      → (names x n run.back ≡ 0) ⊎ (names x n refs ≡ 0)
  disjoint refs ks bs = go at-run refl (eqb n.kind 172) refl
    where
      go : (c : Bool) → at-run ≡ c → (d : Bool) → eqb n.kind 172 ≡ d → (names x n run.back ≡ 0) ⊎ (names x n refs ≡ 0)
      go false q d e = inl (names-other x n run.back (all_map (in_run run) (other n) (run-other (subst (λ (c : Bool). T (not c)) (sym q) tt)) run.back ks))
      go true q true e = inr (names-owner x n refs (eqb→eq _ _ (subst T (sym e) tt)))
      go true q false e =
          inr (names-other x n refs (all_map (beyond run) (other n)
          (beyond-other (subst T (sym q) tt) (λ z. T_not (eqb n.kind 172) (yes_eqb z) (subst (λ (c : Bool). T (not c)) (sym e) tt))) refs bs))

-- ---- the theorem

-- the first may stand after the run
abbrev begins : RefRun → List Ref → Bool
begins run [] = true
begins run (r ∷ refs) = after run r

after-follows : (r s : Ref) (back : List Ref) → after (record { kind = r.kind; rank = rank r; back = back }) s ≡ follows r s
unfolding after follows
after-follows r s back = refl

begins-leads : (r : Ref) (refs back : List Ref) → begins (record { kind = r.kind; rank = rank r; back = back }) refs ≡ leads r refs
begins-leads r [] back = refl
begins-leads r (s ∷ refs) back = after-follows r s back

-- the run after a reference, where it joins and where it does not
module _ (run : RefRun) (r : Ref) where
  pub record Joins : Type 0 where
    pub data178 : run.kind ≡ 178
    pub same_kind : r.kind ≡ run.kind
    pub same_rank : rank r ≡ run.rank

  joins-out : T (joins run r) → Joins
  unfolding joins
  joins-out t =
      let h = and_yes (eqb run.kind 178) _ t in
      let k = and_yes (eqb r.kind run.kind) _ h.1 in
      record { data178 = eqb→eq _ _ h.0; same_kind = eqb→eq _ _ k.0; same_rank = eqb→eq _ _ k.1 }

  abbrev grown : RefRun
  grown = record { kind = r.kind; rank = rank r; back = run.back ++ r ∷ [] }

  abbrev alone : RefRun
  alone = record { kind = r.kind; rank = rank r; back = r ∷ [] }

  kept-joins : T (joins run r) → kept_run run r ≡ grown
  unfolding kept_run
  kept-joins t =
      let j = joins-out t in
      let e : r.kind ≡ run.kind = j.same_kind in
      let f : rank r ≡ run.rank = j.same_rank in
      cond_yes (joins run r) _ alone t ∙ (λ i. record { kind = sym e i; rank = sym f i; back = run.back ++ r ∷ [] })

  kept-alone : T (not (joins run r)) → kept_run run r ≡ alone
  unfolding kept_run
  kept-alone t = cond_no (joins run r) _ alone t

run-self : (r : Ref) (back : List Ref) → T (in_run (record { kind = r.kind; rank = rank r; back = back }) r)
run-self r back = yes_and (eqb r.kind r.kind) _ (eqb_refl r.kind) (eqb_refl (rank r))

-- the references kept with one that joins
run-grown : (run : RefRun) (r : Ref) → T (joins run r) → T (all (in_run run) run.back) → T (all (in_run (grown run r)) (run.back ++ r ∷ []))
run-grown run r t k =
    let j = joins-out run r t in
    let move : (b : Ref) → T (in_run run b) → T (in_run (grown run r) b) =
    (λ b h. let g = and_yes (eqb b.kind run.kind) _ h in
    yes_and (eqb b.kind r.kind) _ (yes_eqb (eqb→eq _ _ g.0 ∙ sym j.same_kind)) (yes_eqb (eqb→eq _ _ g.1 ∙ sym j.same_rank))) in
    all_both (in_run (grown run r)) run.back (r ∷ []) (all_map (in_run run) (in_run (grown run r)) move run.back k)
    (yes_and (in_run (grown run r) r) true (run-self r (run.back ++ r ∷ [])) tt)

-- one apart from those of its hash has another name than each
apart_none : (x : ℕ) (run : RefRun) (r : Ref) → T (joins run r) → T (runs_apart run r) → names x (name_of x r) run.back ≡ 0
unfolding runs_apart named
apart_none x run r j t =
    names-other x (name_of x r) run.back
    (all_map (λ s. not (same s.fields r.fields)) (other (name_of x r)) move run.back (imp-out (joins run r) _ t j))
  where
    move : (s : Ref) → T (not (same s.fields r.fields)) → T (not (eqb s.kind r.kind && same s.fields r.fields))
    move s h = not_T (eqb s.kind r.kind && same s.fields r.fields) (λ y. T_not (same s.fields r.fields) (and_yes (eqb s.kind r.kind) _ y).1 h)

-- and back
none_apart : (x : ℕ) (r : Ref) (back : List Ref) → T (not (eqb r.kind 172)) → T (all (λ b. eqb b.kind r.kind) back)
    → names x (name_of x r) back ≡ 0 → T (all (λ s. not (same s.fields r.fields)) back)
none_apart x r [] o k e = tt
none_apart x r (b ∷ back) o k e =
    let h = and_yes (eqb b.kind r.kind) _ k in
    let c = names-cons x (name_of x r) b back in
    let z : names x (name_of x r) (b ∷ []) ≡ 0 = omega arith in
    let z' : names x (name_of x r) back ≡ 0 = omega arith in
    yes_and (not (same b.fields r.fields)) _ (not_T (same b.fields r.fields) (λ y. clash (eqb→eq _ _ h.0) (same-yes b.fields r.fields y) z))
    (none_apart x r back o h.1 z')
  where
    clash : b.kind ≡ r.kind → b.fields ≡ r.fields → names x (name_of x r) (b ∷ []) ≡ 0 → ⊥
    clash ek ef z =
        let same-name : name_of x r ≡ name_of x b = (λ i. record { extent = x; kind = sym ek i; fields = sym ef i }) in
        let ob : T (not (eqb b.kind 172)) = rw ek o in
        let one : names x (name_of x b) (b ∷ []) ≡ 1 = one-self x b ob in
        let same-one : names x (name_of x r) (b ∷ []) ≡ 1 = ap (λ (n : Name). names x n (b ∷ [])) same-name ∙ one in
        omega arith

-- what the pass over the references of a record says
pub record Clean (x : ℕ) (run : RefRun) (refs : List Ref) : Type 0 where
  pub begin : T (begins run refs)
  pub order : T (ordered refs)
  pub heavy : T (all weighs refs)
  pub once : (n : Name) → names x n run.back + names x n refs ≤ 1

module _ (x : ℕ) where
  -- a name stands once in the run and beyond
  joined_once : (run : RefRun) (r : Ref) → T (joins run r) → T (runs_apart run r) → ((n : Name) → names x n run.back ≤ 1)
      → (n : Name) → names x n (run.back ++ r ∷ []) ≤ 1
  joined_once run r j t f n = go (one-or x n r)
    where
      go : (n ≡ name_of x r) ⊎ (names x n (r ∷ []) ≡ 0) → names x n (run.back ++ r ∷ []) ≤ 1
      go (inl e) =
          let z : names x n run.back ≡ 0 = ap (λ (m : Name). names x m run.back) e ∙ apart_none x run r j t in
          omega (arith, names-append x n run.back (r ∷ []), one-most x n r)
      go (inr z) = omega (arith, names-append x n run.back (r ∷ []), f n)

  module _ (run : RefRun) (r : Ref) (refs : List Ref) (ks : T (all (in_run run) run.back)) (few : (n : Name) → names x n run.back ≤ 1) where
    order-of : (back : List Ref) → Clean x (record { kind = r.kind; rank = rank r; back = back }) refs → T (ordered (r ∷ refs))
    order-of back c = yes_and (leads r refs) _ (rw (begins-leads r refs back) at c.begin) c.order

    clean-joins : T (admits run r) → T (joins run r) → Clean x (grown run r) refs → Clean x run (r ∷ refs)
    unfolding admits
    clean-joins a j c =
        let h = and_yes (after run r) _ a in
        let k = and_yes (runs_apart run r) (weighs r) h.1 in
        record {
          begin = h.0;
          order = order-of (run.back ++ r ∷ []) c;
          heavy = yes_and (weighs r) _ k.1 c.heavy;
          once = λ n. omega (arith, names-append x n run.back (r ∷ []), names-cons x n r refs, c.once n);
        }

    clean-alone : T (admits run r) → T (not (joins run r)) → Clean x (alone run r) refs → Clean x run (r ∷ refs)
    unfolding admits
    clean-alone a j c =
        let h = and_yes (after run r) _ a in
        let k = and_yes (runs_apart run r) (weighs r) h.1 in
        let o : T (ordered (r ∷ refs)) = order-of (r ∷ []) c in
        let bs : T (all (beyond run) (r ∷ refs)) = beyond-all run r refs o (after-beyond run r h.0 j) in
        record {
          begin = h.0;
          order = o;
          heavy = yes_and (weighs r) _ k.1 c.heavy;
          once = λ n. go n (disjoint x n run (r ∷ refs) ks bs);
        }
      where
        go : (n : Name) → (names x n run.back ≡ 0) ⊎ (names x n (r ∷ refs) ≡ 0) → names x n run.back + names x n (r ∷ refs) ≤ 1
        go n (inl z) = omega (arith, names-cons x n r refs, c.once n)
        go n (inr z) = omega (arith, few n)

    admits-clean : Clean x run (r ∷ refs) → T (admits run r)
    unfolding admits runs_apart
    admits-clean c =
        yes_and (after run r) _ c.begin
        (yes_and (not (joins run r) || all (λ s. not (same s.fields r.fields)) run.back) (weighs r)
        (imp-in (joins run r) (all (λ s. not (same s.fields r.fields)) run.back) alone-in)
        (and_yes (weighs r) _ c.heavy).0)
      where
        alone-in : T (joins run r) → T (all (λ s. not (same s.fields r.fields)) run.back)
        alone-in t =
            let j = joins-out run r t in
            let no : T (not (eqb r.kind 172)) = no_eqb (λ (e : r.kind ≡ 172). omega (arith, j.same_kind, j.data178)) in
            let one = one-self x r no in
            let w = c.once (name_of x r) in
            let z : names x (name_of x r) run.back ≡ 0 = omega (arith, names-cons x (name_of x r) r refs) in
            let kinds : T (all (λ b. eqb b.kind r.kind) run.back) =
            all_map (in_run run) (λ b. eqb b.kind r.kind)
            (λ b h. yes_eqb (eqb→eq _ _ (and_yes (eqb b.kind run.kind) _ h).0 ∙ sym j.same_kind)) run.back ks in
            none_apart x r run.back no kinds z

    rest-begins : (back : List Ref) → T (ordered (r ∷ refs)) → T (begins (record { kind = r.kind; rank = rank r; back = back }) refs)
    rest-begins back o = rw (begins-leads r refs back) (and_yes (leads r refs) _ o).0

    joins-clean : Clean x run (r ∷ refs) → Clean x (grown run r) refs
    joins-clean c = record {
      begin = rest-begins (run.back ++ r ∷ []) c.order;
      order = (and_yes (leads r refs) _ c.order).1;
      heavy = (and_yes (weighs r) _ c.heavy).1;
      once = λ n. omega (arith, names-append x n run.back (r ∷ []), names-cons x n r refs, c.once n);
    }

    alone-clean : Clean x run (r ∷ refs) → Clean x (alone run r) refs
    alone-clean c = record {
      begin = rest-begins (r ∷ []) c.order;
      order = (and_yes (leads r refs) _ c.order).1;
      heavy = (and_yes (weighs r) _ c.heavy).1;
      once = λ n. omega (arith, names-cons x n r refs, c.once n);
    }

  run_alone : (run : RefRun) (r : Ref) → T (all (in_run (alone run r)) (r ∷ []))
  run_alone run r = yes_and (in_run (alone run r) r) true (run-self r (r ∷ [])) tt

  pub sound-clean : (run : RefRun) (refs : List Ref) → T (all (in_run run) run.back) → ((n : Name) → names x n run.back ≤ 1)
      → T (sound run refs) → Clean x run refs
  unfolding sound ref_entries admits
  sound-clean run [] ks few t = record { begin = tt; order = tt; heavy = tt; once = λ n. omega (arith, few n) }
  sound-clean run (r ∷ refs) ks few t =
      let h = and_yes (admits run r) (sound (kept_run run r) refs) t in
      go (λ y. sound-clean y refs) h.0 h.1 (yes_or_no (joins run r))
    where
      go : ((y : RefRun) → T (all (in_run y) y.back) → ((n : Name) → names x n y.back ≤ 1) → T (sound y refs) → Clean x y refs)
          → T (admits run r) → T (sound (kept_run run r) refs) → T (joins run r) ⊎ T (not (joins run r)) → Clean x run (r ∷ refs)
      go ih a s (inl j) =
          let k = and_yes (runs_apart run r) (weighs r) (and_yes (after run r) _ a).1 in
          clean-joins run r refs ks few a j
          (ih (grown run r) (run-grown run r j ks) (joined_once run r j k.0 few) (subst (λ (y : RefRun). T (sound y refs)) (kept-joins run r j) s))
      go ih a s (inr j) =
          clean-alone run r refs ks few a j
          (ih (alone run r) (run_alone run r) (λ n. one-most x n r) (subst (λ (y : RefRun). T (sound y refs)) (kept-alone run r j) s))

  pub clean-sound : (run : RefRun) (refs : List Ref) → T (all (in_run run) run.back) → ((n : Name) → names x n run.back ≤ 1)
      → Clean x run refs → T (sound run refs)
  unfolding sound admits
  clean-sound run [] ks few c = tt
  clean-sound run (r ∷ refs) ks few c =
      let a = admits-clean run r refs ks few c in
      yes_and (admits run r) (sound (kept_run run r) refs) a (go (λ y. clean-sound y refs) a (yes_or_no (joins run r)))
    where
      go : ((y : RefRun) → T (all (in_run y) y.back) → ((n : Name) → names x n y.back ≤ 1) → Clean x y refs → T (sound y refs))
          → T (admits run r) → T (joins run r) ⊎ T (not (joins run r)) → T (sound (kept_run run r) refs)
      go ih a (inl j) =
          let k = and_yes (runs_apart run r) (weighs r) (and_yes (after run r) _ a).1 in
          subst (λ (y : RefRun). T (sound y refs)) (sym (kept-joins run r j))
          (ih (grown run r) (run-grown run r j ks) (joined_once run r j k.0 few) (joins-clean run r refs ks few c))
      go ih a (inr j) =
          subst (λ (y : RefRun). T (sound y refs)) (sym (kept-alone run r j))
          (ih (alone run r) (run_alone run r) (λ n. one-most x n r) (alone-clean run r refs ks few c))

-- ---- from the start

start-begins : (refs : List Ref) → T (all (λ r. ltb 0 r.kind) refs) → T (begins start refs)
unfolding after
start-begins [] t = tt
start-begins (r ∷ refs) t = or_left (ltb 0 r.kind) _ (and_yes (ltb 0 r.kind) _ t).0

pub record Tidy (x : ℕ) (refs : List Ref) : Type 0 where
  pub order : T (ordered refs)
  pub heavy : T (all weighs refs)
  pub once : (n : Name) → names x n refs ≤ 1

pub sound-out : (x : ℕ) (refs : List Ref) → T (sound start refs) → Tidy x refs
unfolding ref_entries
sound-out x refs t =
    let c = sound-clean x start refs tt (λ n. omega arith) t in
    record { order = c.order; heavy = c.heavy; once = λ n. omega (arith, c.once n) }

pub sound-in : (x : ℕ) (refs : List Ref) → T (all (λ r. ltb 0 r.kind) refs) → Tidy x refs → T (sound start refs)
unfolding ref_entries
sound-in x refs k c =
    clean-sound x start refs tt (λ n. omega arith)
    (record { begin = start-begins refs k; order = c.order; heavy = c.heavy; once = λ n. omega (arith, c.once n) })
