-- An item of the extent at hand is taken exactly if the facts hold with it. Assumes nothing.
use mathlib.Core.Path.{◌≡◌, refl, sym, ap, ap₂, ◌∙◌, subst}
use mathlib.Core.Logic.{◌≢◌, ◌⊎◌, inl, inr}
use Prim.Native.Nat.{ℕ, ◌+◌, ◌≤◌}
use native.Mathlib.Omega.{arith}
use mathlib.Core.Bool.{Bool, true, false, not, ◌&&◌, ◌||◌, cond}
use mathlib.Core.List.{List, [], ◌∷◌}
use lib.Dec.{T, leb, eqb, eqb_refl, eqb→eq}
use mir.Facts.{and_yes, yes_and, or_yes, T_not, not_T, yes_eqb, no_eqb}
use Rattle.fields.specs.Lists.{sum, all}
use Rattle.fields.proofs.Lists.{T-eq, or_right, cond_yes, cond_no, sum-append}
use Rattle.format.specs.References.{Ref, Body, rank, rank_of, ordered}
use Rattle.format.specs.Bodies.{named}
use Rattle.format.specs.Items.{Item, rising}
use Rattle.format.specs.Apply.{is_record, record_of}
use Rattle.format.specs.Names.{Name, Entry, View, extent_record, reference, unrelated, is_ref_item, view_of, ref_entries, item_entries, entries, well_formed, good, is_record_of, records, stands, counts, of_extent, view_total}
use Rattle.format.proofs.Refs.{whole}
use Rattle.format.proofs.Keys.{Before, below_out, beyond, rising-after}
use Rattle.format.proofs.Items.{sane, sane-out}
use Rattle.theorems.proofs.Naming.{Naming, above-172}
use Rattle.theorems.proofs.Order.{named-yes}
use Rattle.balance.specs.Tally.{start, weighs, sound, GroupTally, weight_in, unnamed}
use Rattle.balance.proofs.Sorted.{names, name_of, one-or, one-most, one-self, names-other, names-cons, sound-out, sound-in}
use Rattle.balance.proofs.Parts.{is_ref_of, total_in, Facts, R⁺, U⁺, S⁺, N⁺, facts-tail, facts-heavy, facts-cons, facts-same}
use Rattle.balance.proofs.Says.{Says, a_record, a_reference, nothing, bad, says, record-no-ref, record-low, refs-weight, heavy-in, heavy-out, kinds-above, entries-record, entries-ref, entries_none, entries-bad, ref-weight}
use Rattle.balance.proofs.Extents.{recs, tots, sums, nams, Of, Valid, zero-cond, far, far-name}

-- ---- an item of the extent at hand

eqb_comm : (a b : ℕ) → eqb a b ≡ eqb b a
eqb_comm a b = go (eqb a b) (eqb b a) refl refl
  where
    go : (c d : Bool) → eqb a b ≡ c → eqb b a ≡ d → c ≡ d
    go true true p q = refl
    go false false p q = refl
    go true false p q = absurd (T_not (eqb b a) (yes_eqb (sym (eqb→eq a b (subst T (sym p) tt)))) (subst (λ (c : Bool). T (not c)) (sym q) tt))
    go false true p q = absurd (T_not (eqb a b) (yes_eqb (sym (eqb→eq b a (subst T (sym q) tt)))) (subst (λ (c : Bool). T (not c)) (sym p) tt))

facts-names : (R U S : ℕ → ℕ) (N N' : Name → ℕ) (rest : List Item) → Facts R U S N rest → ((n : Name) → N' n + sum (stands n) (entries rest) ≤ 1)
    → Facts R U S N' rest
facts-names R U S N N' rest F f =
    record { goods = F.goods; once = F.once; owned = F.owned; names = f; heavy = F.heavy; totals = F.totals }

-- references beside which a name does not stand
none_other : (x : ℕ) (r : Ref) (refs : List Ref) → r.kind ≢ 172 → names x (name_of x r) refs ≡ 0 → T (unnamed refs r)
unfolding unnamed
none_other x r [] h e = tt
none_other x r (s ∷ refs) h e =
    let c = names-cons x (name_of x r) s refs in
    let z : names x (name_of x r) (s ∷ []) ≡ 0 = omega arith in
    let z' : names x (name_of x r) refs ≡ 0 = omega arith in
    yes_and (not (named r.kind r.fields s)) _ (not_T (named r.kind r.fields s) (λ y. clash (named-yes r.kind r.fields s y) z)) (none_other x r refs h z')
  where
    clash : (s.kind ≡ r.kind) × (s.fields ≡ r.fields) → names x (name_of x r) (s ∷ []) ≡ 0 → ⊥
    clash (p, q) z =
        let e : name_of x r ≡ name_of x s = (λ i. record { extent = x; kind = sym p i; fields = sym q i }) in
        let o : names x (name_of x s) (s ∷ []) ≡ 1 = one-self x s (no_eqb (λ (k : s.kind ≡ 172). h (sym p ∙ k))) in
        let w : names x (name_of x r) (s ∷ []) ≡ 1 = ap (λ (n : Name). names x n (s ∷ [])) e ∙ o in
        omega arith

module _ (i : Item) (rest : List Item) (up : T (rising (i ∷ rest))) where
  -- after a reference there is no record of its extent
  later-records : 170 ≤ i.key.kind → records i.key.objectid rest ≡ 0
  later-records h = go rest (rising-after i rest up)
    where
      low : (j : Item) → T (is_record j) → j.key.objectid ≡ i.key.objectid → Before i.key j.key → ⊥
      low j t e (inl k) = omega arith
      low j t e (inr (a, inl k)) = omega (arith, record-low j t)
      low j t e (inr (a, inr (b, k))) = omega (arith, record-low j t)

      go : (l : List Item) → T (all (beyond i.key) l) → records i.key.objectid l ≡ 0
      go [] t = refl
      go (j ∷ l) t =
          let k = and_yes (beyond i.key j) _ t in
          let z : is_record_of i.key.objectid j ≡ 0 =
          cond_no (record_of i.key.objectid j) 1 0 (not_T (record_of i.key.objectid j) (λ y.
          let p = and_yes (is_record j) (eqb j.key.objectid i.key.objectid) y in
          low j p.0 (eqb→eq _ _ p.1) (below_out i.key j.key k.0))) in
          omega (arith, go l k.1)

  -- nor its name
  later-names : T (all sane rest) → (r : Ref) → r.kind ≡ i.key.kind → rank r ≡ i.key.offset → 170 ≤ i.key.kind
      → sum (stands (name_of i.key.objectid r)) (entries rest) ≡ 0
  unfolding entries rank far
  later-names sanes r ek ep low = go rest (rising-after i rest up) sanes
    where
      n : Name
      n = name_of i.key.objectid r

      same_rank : (j : Item) (q : Ref) → n ≡ name_of j.key.objectid q → q.kind ≡ j.key.kind → rank q ≡ j.key.offset
          → Before i.key j.key → ⊥
      same_rank j q e k p (inl h) = let a : i.key.objectid ≡ j.key.objectid = ap (λ (m : Name). m.extent) e in omega arith
      same_rank j q e k p (inr (a, inl h)) = let b : r.kind ≡ q.kind = ap (λ (m : Name). m.kind) e in omega arith
      same_rank j q e k p (inr (a, inr (b, h))) =
          let c : rank r ≡ rank q = ap (λ (m : Name). rank_of m.kind m.fields) e in
          omega arith

      one : (j : Item) → Before i.key j.key → Says j → sum (stands n) (item_entries j) ≡ 0
      one j b (a_record body t v w) = far-name n j (no_eqb (λ (e : j.key.objectid ≡ i.key.objectid). high e b))
        where
          high : j.key.objectid ≡ i.key.objectid → Before i.key j.key → ⊥
          high e (inl h) = omega arith
          high e (inr (a, inl h)) = omega (arith, record-low j t)
          high e (inr (a, inr (c, h))) = omega (arith, record-low j t)
      one j b (a_reference q t u m v k p) = ap (sum (stands n)) (entries-ref j q v) ∙ pick (one-or j.key.objectid n q)
        where
          pick : (n ≡ name_of j.key.objectid q) ⊎ (names j.key.objectid n (q ∷ []) ≡ 0) → names j.key.objectid n (q ∷ []) ≡ 0
          pick (inl e) = absurd (same_rank j q e k p b)
          pick (inr z) = z
      one j b (nothing t u v) = ap (sum (stands n)) (entries_none j v)
      one j b (bad v) = ap (sum (stands n)) (entries-bad j v)

      go : (l : List Item) → T (all (beyond i.key) l) → T (all sane l) → sum (stands n) (entries l) ≡ 0
      go [] t s = refl
      go (j ∷ l) t s =
          let k = and_yes (beyond i.key j) _ t in
          let g = and_yes (sane j) _ s in
          omega (
            arith,
            sum-append (stands n) (item_entries j) (entries l),
            one j (below_out i.key j.key k.0) (says j (sane-out j g.0).bytes_small),
            go l k.1 g.1,
          )

-- ---- an item is taken exactly if the facts hold with it

module _ (t : GroupTally) (i : Item) (rest : List Item) (self : i.key.objectid ≡ t.extent) (v : Valid t) where
  -- what the item adds, by the extent of the tally
  record-adds : T (is_record i) → (y : ℕ) → is_record_of y i ≡ cond (eqb t.extent y) 1 0
  record-adds r y = ap₂ (λ (a : Bool) (z : ℕ). cond (a && eqb z y) 1 0) (T-eq (is_record i) r) self

  total-adds : (b : Body) → T (is_record i) → view_of i ≡ extent_record b → (y : ℕ) → total_in y i ≡ cond (eqb t.extent y) b.total 0
  unfolding view_total
  total-adds b r e y =
      ap₂ (λ (a : Bool) (z : ℕ). cond (a && eqb z y) (view_total (view_of i)) 0) (T-eq (is_record i) r) self
      ∙ ap (λ (w : View). cond (eqb t.extent y) (view_total w) 0) e

  plain-record : T (not (is_record i)) → (y : ℕ) → is_record_of y i ≡ 0
  plain-record r y = cond_no (record_of y i) 1 0 (not_T (record_of y i) (λ k. T_not (is_record i) (and_yes (is_record i) (eqb i.key.objectid y) k).0 r))

  plain-total : T (not (is_record i)) → (y : ℕ) → total_in y i ≡ 0
  plain-total r y = cond_no (record_of y i) (view_total (view_of i)) 0 (not_T (record_of y i) (λ k. T_not (is_record i) (and_yes (is_record i) (eqb i.key.objectid y) k).0 r))

  plain-ref : T (not (is_ref_item i)) → (y : ℕ) → is_ref_of y i ≡ 0
  plain-ref r y =
      cond_no (is_ref_item i && eqb i.key.objectid y) 1 0
      (not_T (is_ref_item i && eqb i.key.objectid y) (λ k. T_not (is_ref_item i) (and_yes (is_ref_item i) (eqb i.key.objectid y) k).0 r))

  -- a record
  module _ (b : Body) (is_rec : T (is_record i)) (e : view_of i ≡ extent_record b) (w : T (all whole b.refs)) where
    abbrev pub marked_by : GroupTally
    marked_by = record { extent = t.extent; marked = true; refs = b.refs; total = b.total; weight = sum weight_in b.refs }

    record-weight : (y : ℕ) → sum (of_extent y) (item_entries i) ≡ cond (eqb t.extent y) (sum weight_in b.refs) 0
    record-weight y =
        ap (sum (of_extent y)) (entries-record i b e)
        ∙ refs-weight y i.key.objectid b.refs w
        ∙ ap₂ (λ (c : Bool) (z : ℕ). cond c (sum weight_in b.refs) 0) (ap (eqb y) self ∙ eqb_comm y t.extent) self

    record-names : (n : Name) → sum (stands n) (item_entries i) ≡ names t.extent n b.refs
    record-names n = ap (sum (stands n)) (entries-record i b e) ∙ ap (λ (z : ℕ). names z n b.refs) self

    record-good : T (ordered b.refs) → T (good i)
    unfolding well_formed
    record-good o = rw e o

    good-record : T (good i) → T (ordered b.refs)
    unfolding well_formed
    good-record g = rw e at g

    module _ (unmarked : T (not t.marked)) where
      blank-recs : (y : ℕ) → recs t y ≡ 0
      blank-recs y = ap (λ (k : ℕ). cond (eqb t.extent y) k 0) (cond_no t.marked 1 0 unmarked) ∙ zero-cond (eqb t.extent y)

      blank-tots : (y : ℕ) → tots t y ≡ 0
      blank-tots y = ap (λ (k : ℕ). cond (eqb t.extent y) k 0) (v.blank unmarked).1.0 ∙ zero-cond (eqb t.extent y)

      blank-sums : (y : ℕ) → sums t y ≡ 0
      blank-sums y = ap (λ (k : ℕ). cond (eqb t.extent y) k 0) (v.blank unmarked).1.1 ∙ zero-cond (eqb t.extent y)

      blank-nams : (n : Name) → nams t n ≡ 0
      unfolding ref_entries
      blank-nams n = ap (names t.extent n) (v.blank unmarked).0

      same-recs : (y : ℕ) → recs t y + is_record_of y i ≡ recs marked_by y
      same-recs y = omega (arith, blank-recs y, record-adds is_rec y)

      same-tots : (y : ℕ) → tots t y + total_in y i ≡ tots marked_by y
      same-tots y = omega (arith, blank-tots y, total-adds b is_rec e y)

      same-sums : (y : ℕ) → sums t y + sum (of_extent y) (item_entries i) ≡ sums marked_by y
      same-sums y = omega (arith, blank-sums y, record-weight y)

      same-nams : (n : Name) → nams t n + sum (stands n) (item_entries i) ≡ nams marked_by n
      same-nams n = omega (arith, blank-nams n, record-names n)

      record-of : Facts (R⁺ (recs t) (tots t) (sums t) (nams t) i rest) (U⁺ (recs t) (tots t) (sums t) (nams t) i rest) (S⁺ (recs t) (tots t) (sums t) (nams t) i rest) (N⁺ (recs t) (tots t) (sums t) (nams t) i rest) rest
          → Of marked_by rest
      record-of F = facts-same _ _ _ _ _ _ _ _ rest same-recs same-tots same-sums same-nams F

      pub take-record : T (sound start b.refs) → Of marked_by rest → Of t (i ∷ rest)
      take-record s F =
          let d = sound-out t.extent b.refs s in
          facts-cons (recs t) (tots t) (sums t) (nams t) i rest (record-good d.order)
          (subst (λ (l : List Entry). T (all counts l)) (sym (entries-record i b e)) (heavy-in i.key.objectid b.refs d.heavy))
          (λ y h. let z = plain-ref (record-no-ref i is_rec) y in absurd (omega arith))
          (facts-same _ _ _ _ _ _ _ _ rest (λ y. sym (same-recs y)) (λ y. sym (same-tots y)) (λ y. sym (same-sums y)) (λ n. sym (same-nams n)) F)

      pub record-sound : Of t (i ∷ rest) → T (sound start b.refs)
      record-sound F =
          let G = facts-tail (recs t) (tots t) (sums t) (nams t) i rest F in
          let c : T (all counts (ref_entries i.key.objectid b.refs)) =
          subst (λ (l : List Entry). T (all counts l)) (entries-record i b e) (facts-heavy (recs t) (tots t) (sums t) (nams t) i rest F) in
          sound-in t.extent b.refs (kinds-above b.refs w)
          (record {
            order = good-record (and_yes (good i) _ F.goods).0;
            heavy = heavy-out i.key.objectid b.refs c;
            once = λ n. omega (arith, G.names n, record-names n);
          })

      pub record-taken : Of t (i ∷ rest) → Of marked_by rest
      record-taken F = record-of (facts-tail (recs t) (tots t) (sums t) (nams t) i rest F)

    pub record-first : Of t (i ∷ rest) → T (not t.marked)
    record-first F = go t.marked refl
      where
        go : (c : Bool) → t.marked ≡ c → T (not c)
        go true q =
            let a : recs t t.extent ≡ 1 =
            cond_yes (eqb t.extent t.extent) (cond t.marked 1 0) 0 (eqb_refl t.extent) ∙ ap (λ (c : Bool). cond c 1 0) q in
            let o : is_record_of t.extent i ≡ 1 = record-adds is_rec t.extent ∙ cond_yes (eqb t.extent t.extent) 1 0 (eqb_refl t.extent) in
            let z = F.once t.extent in
            absurd (omega arith)
        go false q = tt

    pub marked-valid : T (sound start b.refs) → Valid marked_by
    marked-valid s = record { single = λ n. (sound-out t.extent b.refs s).once n; blank = λ z. absurd z }

  -- a reference
  module _ (r : Ref) (not_rec : T (not (is_record i))) (is_ref : T (is_ref_item i)) (naming : Naming i.key.kind)
      (e : view_of i ≡ reference r) (ek : r.kind ≡ i.key.kind) (ep : rank r ≡ i.key.offset)
      (up : T (rising (i ∷ rest))) (sanes : T (all sane rest)) where
    abbrev pub weighed-by : GroupTally
    weighed-by = record { extent = t.extent; marked = t.marked; refs = t.refs; total = t.total; weight = t.weight + r.weight }

    above-170 : 170 ≤ i.key.kind
    above-170 = let h = above-172 i.key.kind naming in omega arith

    no-owner : r.kind ≢ 172
    no-owner z = let h = above-172 i.key.kind naming in omega arith

    ref-names : (n : Name) → sum (stands n) (item_entries i) ≡ names t.extent n (r ∷ [])
    ref-names n = ap (sum (stands n)) (entries-ref i r e) ∙ ap (λ (z : ℕ). names z n (r ∷ [])) self

    ref-adds : (y : ℕ) → sum (of_extent y) (item_entries i) ≡ cond (eqb t.extent y) r.weight 0
    ref-adds y =
        ap (sum (of_extent y)) (entries-ref i r e)
        ∙ ref-weight y i.key.objectid r no-owner
        ∙ ap (λ (c : Bool). cond c r.weight 0) (ap (eqb y) self ∙ eqb_comm y t.extent)

    r-recs : (y : ℕ) → recs t y + is_record_of y i ≡ recs weighed-by y
    r-recs y = omega (arith, plain-record not_rec y)

    r-tots : (y : ℕ) → tots t y + total_in y i ≡ tots weighed-by y
    r-tots y = omega (arith, plain-total not_rec y)

    r-sums : (y : ℕ) → sums t y + sum (of_extent y) (item_entries i) ≡ sums weighed-by y
    r-sums y = ap (λ (k : ℕ). sums t y + k) (ref-adds y) ∙ go (eqb t.extent y)
      where
        go : (c : Bool) → cond c t.weight 0 + cond c r.weight 0 ≡ cond c (t.weight + r.weight) 0
        go true = refl
        go false = refl

    r-ref : (y : ℕ) → 1 ≤ is_ref_of y i → t.extent ≡ y
    r-ref y h = go (eqb i.key.objectid y) refl h
      where
        go : (c : Bool) → eqb i.key.objectid y ≡ c → 1 ≤ cond (is_ref_item i && c) 1 0 → t.extent ≡ y
        go true q k = sym self ∙ eqb→eq _ _ (subst T (sym q) tt)
        go false q k = absurd (none (is_ref_item i) k)
          where
            none : (d : Bool) → 1 ≤ cond (d && false) 1 0 → ⊥
            none true k = omega arith
            none false k = omega arith

    marks : T t.marked → recs t t.extent ≡ 1
    marks m = cond_yes (eqb t.extent t.extent) (cond t.marked 1 0) 0 (eqb_refl t.extent) ∙ cond_yes t.marked 1 0 m

    pub take-ref : T t.marked → T (leb 1 r.weight) → T (unnamed t.refs r) → Of weighed-by rest → Of t (i ∷ rest)
    unfolding well_formed weighs unnamed
    take-ref m heavy un F =
        facts-cons (recs t) (tots t) (sums t) (nams t) i rest (rw e tt)
        (subst (λ (l : List Entry). T (all counts l)) (sym (entries-ref i r e))
        (heavy-in i.key.objectid (r ∷ []) (yes_and (eqb r.kind 172 || leb 1 r.weight) true (or_right (eqb r.kind 172) _ heavy) tt)))
        (λ y h. let q = r-ref y h in let k : recs t y ≡ 1 = subst (λ (z : ℕ). recs t z ≡ 1) q (marks m) in omega arith)
        (facts-names _ _ _ (nams weighed-by) (λ n. nams t n + sum (stands n) (item_entries i)) rest
        (facts-same _ _ _ _ _ _ _ _ rest (λ y. sym (r-recs y)) (λ y. sym (r-tots y)) (λ y. sym (r-sums y)) (λ n. refl) F)
        (λ n. single n (one-or t.extent n r)))
      where
        single : (n : Name) → (n ≡ name_of t.extent r) ⊎ (names t.extent n (r ∷ []) ≡ 0)
            → nams t n + sum (stands n) (item_entries i) + sum (stands n) (entries rest) ≤ 1
        single n (inl q) =
            let z : nams t n ≡ 0 = ap (nams t) q ∙ names-other t.extent (name_of t.extent r) t.refs un in
            let l : sum (stands n) (entries rest) ≡ 0 =
            ap (λ (m : Name). sum (stands m) (entries rest)) (q ∙ ap (λ (x : ℕ). name_of x r) (sym self)) ∙ later-names i rest up sanes r ek ep above-170 in
            omega (arith, ref-names n, one-most t.extent n r)
        single n (inr z) = omega (arith, ref-names n, F.names n)

    pub ref-marked : Of t (i ∷ rest) → T t.marked
    ref-marked F = go t.marked refl
      where
        is : is_ref_of t.extent i ≡ 1
        is = cond_yes (is_ref_item i && eqb i.key.objectid t.extent) 1 0 (yes_and (is_ref_item i) _ is_ref (yes_eqb self))

        go : (c : Bool) → t.marked ≡ c → T c
        go true q = tt
        go false q =
            let a : recs t t.extent ≡ 0 =
            cond_yes (eqb t.extent t.extent) (cond t.marked 1 0) 0 (eqb_refl t.extent) ∙ ap (λ (c : Bool). cond c 1 0) q in
            let z : records t.extent rest ≡ 0 = rw (← self) (later-records i rest up above-170) in
            let p = plain-record not_rec t.extent in
            let k = is in
            let o = F.owned t.extent (omega arith) in
            absurd (omega arith)

    pub ref-heavy : Of t (i ∷ rest) → T (leb 1 r.weight)
    unfolding weighs
    ref-heavy F =
        let c : T (all counts (ref_entries i.key.objectid (r ∷ []))) =
        subst (λ (l : List Entry). T (all counts l)) (entries-ref i r e) (facts-heavy (recs t) (tots t) (sums t) (nams t) i rest F) in
        go (or_yes (eqb r.kind 172) (leb 1 r.weight) (and_yes (eqb r.kind 172 || leb 1 r.weight) true (heavy-out i.key.objectid (r ∷ []) c)).0)
      where
        go : T (eqb r.kind 172) ⊎ T (leb 1 r.weight) → T (leb 1 r.weight)
        go (inl h) = absurd (no-owner (eqb→eq _ _ h))
        go (inr h) = h

    pub ref-unnamed : Of t (i ∷ rest) → T (unnamed t.refs r)
    ref-unnamed F =
        let G = facts-tail (recs t) (tots t) (sums t) (nams t) i rest F in
        let m : Name = name_of t.extent r in
        let o : names t.extent (name_of t.extent r) (r ∷ []) ≡ 1 = one-self t.extent r (no_eqb no-owner) in
        let k = G.names (name_of t.extent r) in
        let q = ref-names (name_of t.extent r) in
        none_other t.extent r t.refs no-owner (omega arith)

    pub ref_taken : Of t (i ∷ rest) → Of weighed-by rest
    ref_taken F =
        let G = facts-tail (recs t) (tots t) (sums t) (nams t) i rest F in
        facts-names _ _ _ (λ n. nams t n + sum (stands n) (item_entries i)) (nams weighed-by) rest
        (facts-same _ _ _ _ _ _ _ _ rest r-recs r-tots r-sums (λ n. refl) G)
        (λ n. omega (arith, G.names n))

    pub weighed-valid : T t.marked → Valid weighed-by
    weighed-valid m = record { single = v.single; blank = λ z. absurd (T_not t.marked m z) }

  -- neither
  module _ (not_rec : T (not (is_record i))) (not_ref : T (not (is_ref_item i))) (e : view_of i ≡ unrelated) where
    n-sums : (y : ℕ) → sums t y + sum (of_extent y) (item_entries i) ≡ sums t y
    n-sums y = ap (λ (l : List Entry). sums t y + sum (of_extent y) l) (entries_none i e) ∙ omega arith

    n-nams : (n : Name) → nams t n + sum (stands n) (item_entries i) ≡ nams t n
    n-nams n = ap (λ (l : List Entry). nams t n + sum (stands n) l) (entries_none i e) ∙ omega arith

    n-recs : (y : ℕ) → recs t y + is_record_of y i ≡ recs t y
    n-recs y = omega (arith, plain-record not_rec y)

    n-tots : (y : ℕ) → tots t y + total_in y i ≡ tots t y
    n-tots y = omega (arith, plain-total not_rec y)

    pub take_none : Of t rest → Of t (i ∷ rest)
    unfolding well_formed
    take_none F =
        facts-cons (recs t) (tots t) (sums t) (nams t) i rest (rw e tt)
        (subst (λ (l : List Entry). T (all counts l)) (sym (entries_none i e)) tt)
        (λ y h. let z = plain-ref not_ref y in absurd (omega arith))
        (facts-same _ _ _ _ _ _ _ _ rest (λ y. sym (n-recs y)) (λ y. sym (n-tots y)) (λ y. sym (n-sums y)) (λ n. sym (n-nams n)) F)

    pub none-taken : Of t (i ∷ rest) → Of t rest
    none-taken F = facts-same _ _ _ _ _ _ _ _ rest n-recs n-tots n-sums n-nams (facts-tail (recs t) (tots t) (sums t) (nams t) i rest F)
