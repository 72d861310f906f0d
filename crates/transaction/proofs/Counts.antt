-- Laws of lent offsets that are counted at a file's references: what the counts and the weights say of them. Assumes nothing.
use mathlib.Core.Path.{◌≡◌, refl, sym, ap, ◌∙◌, subst}
use mathlib.Core.Logic.{◌⊎◌, inl, inr}
use mathlib.Core.Bool.{Bool, true, false, cond}
use mathlib.Core.List.{List, [], ◌∷◌, ◌++◌}
use Prim.Native.Nat.{ℕ, zero, suc, ◌+◌, ◌-◌, ◌≤◌, ◌<◌}
use native.Mathlib.Nat.{zero-add}
use native.Mathlib.Numerals.{add-one}
use native.Mathlib.Omega.{arith}
use lib.Dec.{T, eqb, leb→le, le→leb, eqb→eq}
use lib.ListN.{length, drop, get_or, set, replicate, drop_of_length-le}
use lib.Seq.{drop-cons, get_or-set_same, get_or-set_other}
use mir.Facts.{and_yes, yes_and}
use borrow.Author.Tests.{eq-eqb, ne_eqb, eqb-true, eqb-false}
use Rattle.fields.specs.Lists.{sum, all, same}
use Rattle.fields.proofs.Lists.{by-test, T-eq, and-true, eqb_same, lt-or, sum-append, all_left, all-mid, all_both, same-yes, same_refl}
use Rattle.format.specs.References.{row_in, count_position, counted, field_count, Ref, ref_at}
use Rattle.format.specs.Bodies.{named, times, offset_of}
use Rattle.inline_refs.specs.Steps.{read_from}
use Rattle.data_refs.specs.Triples.{triple_of, Distinct, Repeats}
use Rattle.data_refs.specs.Chains.{Cleared}
use Rattle.data_refs.proofs.Walks.{cleared-none}
use Rattle.transaction.specs.Held.{is_of_file, is_ours, adds_at, is_once, is_counted, agrees, file_ref, file_refs, SideBySide, EqualUpTo, StandsAmong, Tallied}

-- ---- numbers below one more

pub below_suc : (P : ℕ → Type 0) (n : ℕ) → ((k : ℕ) → k < n → P k) → P n → (k : ℕ) → k < n + 1 → P k
below_suc P n h p k l = go (lt-or k n)
  where
    go : (k < n) ⊎ (n ≤ k) → P k
    go (inl g) = h k g
    go (inr g) = let e : n ≡ k = omega arith in subst P e p

eq-T : (a b : ℕ) → a ≡ b → T (eqb a b)
eq-T a b e = subst T (sym (eq-eqb a b e)) tt

-- ---- how often a number stands in a list

times-few : (x : ℕ) (l : List ℕ) → times x l ≤ length l
times-few x [] = omega arith
times-few x (y ∷ l) = by-test (eqb y x) (λ b. rw b (omega (arith, times-few x l))) (λ b. rw b (omega (arith, times-few x l)))

pub times-at : (l : List ℕ) (i : ℕ) → i < length l → 1 ≤ times (get_or l i 0) l
times-at [] i h = absurd (omega arith)
times-at (x ∷ l) zero h = rw (eqb_same x) (omega arith)
times-at (x ∷ l) (suc i) h = let g : i < length l = omega arith in omega (arith, times-at l i g)

all-lent : (p : ℕ → Bool) (l : List ℕ) → ((x : ℕ) → 1 ≤ times x l → T (p x)) → T (all p l)
all-lent p [] h = tt
all-lent p (y ∷ l) h =
    yes_and (p y) _ (let g : 1 ≤ times y (y ∷ l) = rw (eqb_same y) (omega arith) in h y g)
    (all-lent p l (λ x k. let g : 1 ≤ times x (y ∷ l) = omega (arith, k) in h x g))

lent-all : (p : ℕ → Bool) (x : ℕ) (l : List ℕ) → 1 ≤ times x l → T (all p l) → T (p x)
lent-all p x [] h t = absurd (omega arith)
lent-all p x (y ∷ l) h t =
    let both = and_yes (p y) (all p l) t in
    by-test (eqb y x)
    (λ b. subst (λ (m : ℕ). T (p m)) (eqb-true _ _ b) both.0)
    (λ b. lent-all p x l (simp (b, zero-add) at h) both.1)

-- ---- equal numbers side by side

module _ (l : List ℕ) (start x : ℕ) where
  pub equal-none : (y : ℕ) → times y (drop start l) ≡ cond (eqb x y) (start - start) 0 + times y (drop start l)
  equal-none y = by-test (eqb x y) (λ b. rw b (omega arith)) (λ b. rw b (omega arith))

  pub equal-more : (at : ℕ) → start ≤ at → at < length l → get_or l at 0 ≡ x
      → ((y : ℕ) → times y (drop start l) ≡ cond (eqb x y) (at - start) 0 + times y (drop at l))
      → (y : ℕ) → times y (drop start l) ≡ cond (eqb x y) (at + 1 - start) 0 + times y (drop (at + 1) l)
  equal-more at f h e inv y =
      let d : times y (drop at l) ≡ cond (eqb x y) 1 0 + times y (drop (at + 1) l) =
      rw (drop-cons l at 0 h, e, add-one) refl in
      by-test (eqb x y) (λ b. rw b (omega (arith, rw b at (inv y), rw b at d))) (λ b. rw b (omega (arith, rw b at (inv y), rw b at d)))

  -- it is not where it started
  pub equal-some : (end : ℕ) → EqualUpTo l start x end → start < length l → get_or l start 0 ≡ x → start < end
  equal-some end q h e = go (lt-or start end)
    where
      go : (start < end) ⊎ (end ≤ start) → start < end
      go (inl g) = g
      go (inr g) =
          let z : start ≡ end = omega (arith, q.forward) in
          let k : end < length l = omega arith in
          absurd (q.other k (ap (λ (m : ℕ). get_or l m 0) (sym z) ∙ e))

-- ---- sums and tests over references

module _ (body : List ℕ) (from : ℕ) where
  all-refs : (p : Ref → Bool) (n : ℕ) → ((k : ℕ) → k < n → T (p (file_ref body from k))) → T (all p (file_refs body from n))
  unfolding file_refs
  all-refs p zero h = tt
  all-refs p (suc n) h =
      all_both p (file_refs body from n) (file_ref body from n ∷ []) (all-refs p n (λ k l. let g : k < suc n = omega arith in h k g))
      (let g : n < suc n = omega arith in subst T (sym (and-true (p (file_ref body from n)))) (h n g))

  refs-all : (p : Ref → Bool) (n : ℕ) → T (all p (file_refs body from n)) → (k : ℕ) → k < n → T (p (file_ref body from k))
  unfolding file_refs
  refs-all p zero t k h = absurd (omega arith)
  refs-all p (suc n) t k h =
      below_suc (λ j. T (p (file_ref body from j))) n (refs-all p n (all_left p (file_refs body from n) _ t))
      (all-mid p (file_refs body from n) (file_ref body from n) [] t) k (omega arith)

  module _ (f : Ref → ℕ) where
    sum-last : (n : ℕ) → sum f (file_refs body from n ++ (file_ref body from n ∷ [])) ≡ sum f (file_refs body from n) + f (file_ref body from n)
    sum-last n = omega (arith, sum-append f (file_refs body from n) (file_ref body from n ∷ []))

    sum-none : (n : ℕ) → ((k : ℕ) → k < n → f (file_ref body from k) ≡ 0) → sum f (file_refs body from n) ≡ 0
    unfolding file_refs
    sum-none zero h = refl
    sum-none (suc n) h =
        let g : n < suc n = omega arith in
        omega (arith, sum-last n, sum-none n (λ k l. let d : k < suc n = omega arith in h k d), h n g)

    -- one of them alone adds something
    sum_one : (n : ℕ) (j : ℕ) → j < n → ((k : ℕ) → k < n → (k ≡ j → ⊥) → f (file_ref body from k) ≡ 0) → sum f (file_refs body from n) ≡ f (file_ref body from j)
    unfolding file_refs
    sum_one zero j l h = absurd (omega arith)
    sum_one (suc n) j l h =
        below_suc (λ i. ((k : ℕ) → k < suc n → (k ≡ i → ⊥) → f (file_ref body from k) ≡ 0) → sum f (file_refs body from (suc n)) ≡ f (file_ref body from i)) n
        (λ i g o.
        let b : n < suc n = omega arith in
        omega (arith, sum-last n, sum_one n i g (λ k d m. let c : k < suc n = omega arith in o k c m), o n b (λ q. omega arith)))
        (λ o. omega (arith, sum-last n, sum-none n (λ k d. let c : k < suc n = omega arith in o k c (λ m. omega arith))))
        j (omega arith) h

    sum-part : (n k : ℕ) → k < n → f (file_ref body from k) ≤ sum f (file_refs body from n)
    unfolding file_refs
    sum-part zero k h = absurd (omega arith)
    sum-part (suc n) k h =
        below_suc (λ i. f (file_ref body from i) ≤ sum f (file_refs body from (suc n))) n
        (λ i g. omega (arith, sum-last n, sum-part n i g)) (omega (arith, sum-last n)) k (omega arith)

    sum-two : (n i k : ℕ) → i < k → k < n → f (file_ref body from i) + f (file_ref body from k) ≤ sum f (file_refs body from n)
    unfolding file_refs
    sum-two zero i k h g = absurd (omega arith)
    sum-two (suc n) i k h g =
        below_suc (λ j. i < j → f (file_ref body from i) + f (file_ref body from j) ≤ sum f (file_refs body from (suc n))) n
        (λ j d l. omega (arith, sum-last n, sum-two n i j l d)) (λ l. omega (arith, sum-last n, sum-part n i l)) k (omega arith) h

module _ (f : Ref → ℕ) (r : Ref) (offset : ℕ) where
  adds-there : offset_of r ≡ offset → adds_at f offset r ≡ f r
  unfolding adds_at
  adds-there e = simp (eq-eqb _ _ e)

  adds-else : (offset_of r ≡ offset → ⊥) → adds_at f offset r ≡ 0
  unfolding adds_at
  adds-else h = simp (ne_eqb _ _ h)

-- ---- references of a file, by their offsets

-- the offset of a reference is the last number of its triple
offset-last : (body : List ℕ) (from k : ℕ) → offset_of (file_ref body from k) ≡ get_or (triple_of body from k) 2 0
unfolding triple_of file_ref ref_at field_count counted count_position row_in
offset-last body from k = refl

pub same-offset : (body : List ℕ) (from k : ℕ) (t : List ℕ) → same (triple_of body from k) t ≡ true → offset_of (file_ref body from k) ≡ get_or t 2 0
same-offset body from k t e =
    offset-last body from k ∙ ap (λ (l : List ℕ). get_or l 2 0) (same-yes (triple_of body from k) t (subst T (sym e) tt))

not_same : (a b : List ℕ) → same a b ≡ false → a ≡ b → ⊥
not_same a b f e = subst T (ap (same a) e ∙ f) (same_refl a)

module _ (root ino : ℕ) (body : List ℕ) (from n : ℕ) (side : SideBySide root ino body from n) where
  abbrev refs : List Ref
  refs = file_refs body from n

  abbrev ref : ℕ → Ref
  ref k = file_ref body from k

  abbrev offset_at : ℕ → ℕ
  offset_at k = offset_of (ref k)

  abbrev weight_at : ℕ → ℕ
  weight_at k = (ref k).weight

  file-triple : (k : ℕ) → k < n → triple_of body from k ≡ root ∷ ino ∷ offset_at k ∷ []
  unfolding triple_of is_of_file named file_ref ref_at field_count counted count_position row_in
  file-triple k h =
      same-yes (triple_of body from k) (root ∷ ino ∷ offset_at k ∷ [])
      (and_yes (eqb 178 178) (same (ref k).fields (root ∷ ino ∷ offset_at k ∷ [])) (refs-all body from (is_of_file root ino) n side.of_file k h)).1

  pub none-there : (k offset : ℕ) → k < n → same (triple_of body from k) (root ∷ ino ∷ offset ∷ []) ≡ false → offset_at k ≡ offset → ⊥
  none-there k offset h f e = not_same _ _ f (file-triple k h ∙ ap (λ (x : ℕ). root ∷ ino ∷ x ∷ []) e)

  sum-nowhere : (f : Ref → ℕ) (offset : ℕ) → ((k : ℕ) → k < n → offset_at k ≡ offset → ⊥) → sum (adds_at f offset) refs ≡ 0
  sum-nowhere f offset h = sum-none body from (adds_at f offset) n (λ k l. adds-else f (ref k) offset (h k l))

  module _ (distinct : Distinct body from n) where
    below_apart : (i k : ℕ) → i < k → k < n → offset_at i ≡ offset_at k → ⊥
    below_apart i k h l e =
        let g : i < n = omega arith in
        none-there i (offset_at k) g (ap (same (triple_of body from i)) (sym (file-triple k l)) ∙ distinct.differ i k h l) e

    pub apart : (i k : ℕ) → i < n → k < n → (i ≡ k → ⊥) → offset_at i ≡ offset_at k → ⊥
    apart i k h l ne e = go (lt-or i k)
      where
        go : (i < k) ⊎ (k ≤ i) → ⊥
        go (inl g) = below_apart i k g l e
        go (inr g) = let m : k < i = omega (arith, ne) in below_apart k i m h (sym e)

    sum-there : (f : Ref → ℕ) (k offset : ℕ) → k < n → offset_at k ≡ offset → sum (adds_at f offset) refs ≡ f (ref k)
    sum-there f k offset h e =
        sum_one body from (adds_at f offset) n k h (λ j l m. adds-else f (ref j) offset (λ q. apart j k l h m (q ∙ sym e)))
        ∙ adds-there f (ref k) offset e

  -- ---- what it says that references are held

  module _ (offsets : List ℕ) where
    abbrev held : Bool
    held = agrees root ino offsets (read_from body from)

    abbrev ones : ℕ → ℕ
    ones offset = sum (adds_at (λ s. 1) offset) refs

    abbrev weights : ℕ → ℕ
    weights offset = sum (adds_at (λ r. r.weight) offset) refs

    not-held : (T held → ⊥) → false ≡ held
    not-held h = by-test held (λ t. absurd (h (subst T (sym t) tt))) (λ f. sym f)

    held-parts : T held → T (all (is_ours root ino offsets) refs)
        × (T (all (is_once refs) refs) × T (all (is_counted refs offsets) offsets))
    unfolding agrees
    held-parts t =
        let both = and_yes (all (is_ours root ino offsets) refs) _ (subst T (ap (agrees root ino offsets) side.reads) t) in
        (both.0, and_yes (all (is_once refs) refs) _ both.1)

    held-lent : T held → (k : ℕ) → k < n → 1 ≤ times (offset_at k) offsets
    unfolding is_ours
    held-lent t k h =
        leb→le 1 (times (offset_at k) offsets)
        (and_yes (is_of_file root ino (ref k)) _ (refs-all body from (is_ours root ino offsets) n (held-parts t).0 k h)).1

    held-once : T held → (k : ℕ) → k < n → ones (offset_at k) ≡ 1
    unfolding is_once
    held-once t k h = eqb→eq _ 1 (refs-all body from (is_once refs) n (held-parts t).1.0 k h)

    held-counted : T held → (offset : ℕ) → 1 ≤ times offset offsets → weights offset ≡ times offset offsets
    unfolding is_counted
    held-counted t offset h = eqb→eq _ _ (lent-all (is_counted refs offsets) offset offsets h (held-parts t).1.1)

    -- two references at one offset
    pub held-twice : (k : ℕ) → k < n → Repeats body from k → false ≡ held
    held-twice k h r =
        let e : offset_at r.first ≡ offset_at k = same-offset body from r.first (triple_of body from k) r.twice ∙ sym (offset-last body from k) in
        not-held (λ t.
        omega (arith, held-once t k h, sum-two body from (adds_at (λ s. 1) (offset_at k)) n r.first k r.below h, adds-there (λ s. 1) (ref r.first) (offset_at k) e, adds-there (λ s. 1) (ref k) (offset_at k) refl))

    -- a lent offset where there is none
    pub held-nowhere : (offset : ℕ) → 1 ≤ times offset offsets → ((k : ℕ) → k < n → offset_at k ≡ offset → ⊥) → false ≡ held
    held-nowhere offset h none = not-held (λ t. omega (arith, held-counted t offset h, sum-nowhere (λ r. r.weight) offset none))

    module _ (distinct : Distinct body from n) where
      -- a weight that is 0, or another than was lent
      pub held-other : (k : ℕ) → k < n → (1 ≤ weight_at k → weight_at k ≡ times (offset_at k) offsets → ⊥) → false ≡ held
      held-other k h other =
          not-held (λ t.
          let l = held-lent t k h in
          let e : weight_at k ≡ times (offset_at k) offsets = sym (sum-there distinct (λ r. r.weight) k (offset_at k) h refl) ∙ held-counted t (offset_at k) l in
          other (subst (λ (m : ℕ). 1 ≤ m) (sym e) l) e)

      pub held_all : ((k : ℕ) → k < n → (1 ≤ weight_at k) × (weight_at k ≡ times (offset_at k) offsets))
          → ((offset : ℕ) → StandsAmong body from n offset ⊎ (times offset offsets ≡ 0)) → true ≡ held
      unfolding agrees is_ours is_once is_counted
      held_all weighs found =
          sym
          (ap (agrees root ino offsets) side.reads
          ∙ T-eq _
          (yes_and (all (is_ours root ino offsets) refs) _ (all-refs body from (is_ours root ino offsets) n ours)
          (yes_and (all (is_once refs) refs) _ (all-refs body from (is_once refs) n once)
          (all-lent (is_counted refs offsets) offsets (λ offset l. lent offset l (found offset))))))
        where
          ours : (k : ℕ) → k < n → T (is_ours root ino offsets (ref k))
          ours k h =
              yes_and (is_of_file root ino (ref k)) _ (refs-all body from (is_of_file root ino) n side.of_file k h)
              (le→leb 1 (times (offset_at k) offsets) (subst (λ (m : ℕ). 1 ≤ m) (weighs k h).1 (weighs k h).0))

          once : (k : ℕ) → k < n → T (is_once refs (ref k))
          once k h = eq-T (ones (offset_at k)) 1 (sum-there distinct (λ s. 1) k (offset_at k) h refl)

          lent : (offset : ℕ) → 1 ≤ times offset offsets → StandsAmong body from n offset ⊎ (times offset offsets ≡ 0) → T (is_counted refs offsets offset)
          lent offset l (inl s) =
              eq-T (weights offset) (times offset offsets)
              (sum-there distinct (λ r. r.weight) s.number offset s.below s.there ∙ (weighs s.number s.below).1 ∙ ap (λ (m : ℕ). times m offsets) s.there)
          lent offset l (inr z) = absurd (omega arith)

      -- ---- by the counts of all offsets

      module _ (counts : List ℕ) (t : Tallied body from n offsets counts []) where
        counted_is : (k : ℕ) → k < n → get_or counts k 0 ≡ times (offset_at k) offsets
        counted_is k h = omega (arith, t.counted k h)

        pub tallied-other : (k : ℕ) → k < n → (1 ≤ weight_at k → weight_at k ≡ get_or counts k 0 → ⊥) → false ≡ held
        tallied-other k h other = held-other k h (λ l e. other l (e ∙ sym (counted_is k h)))

        pub tallied-held : ((k : ℕ) → k < n → (1 ≤ weight_at k) × (weight_at k ≡ get_or counts k 0)) → true ≡ held
        tallied-held weighs = held_all (λ k h. ((weighs k h).0, (weighs k h).1 ∙ counted_is k h)) (λ offset. go (t.found offset))
          where
            go : {offset : ℕ} → StandsAmong body from n offset ⊎ (times offset [] ≡ times offset offsets) → StandsAmong body from n offset ⊎ (times offset offsets ≡ 0)
            go (inl s) = inl s
            go (inr e) = inr (sym e)

    -- ---- the counts of some

    module _ (counts : List ℕ) where
      pub tallied-none : Cleared counts → Tallied body from n offsets counts offsets
      tallied-none c = record { counted = λ k h. omega (arith, c.none k); found = λ offset. inr refl }

      module _ (rest : List ℕ) (t : Tallied body from n offsets counts rest) where
        pub tallied-few : (k : ℕ) → k < n → get_or counts k 0 ≤ length offsets
        tallied-few k h = omega (arith, t.counted k h, times-few (offset_at k) offsets)

        module _ (distinct : Distinct body from n) (room : n ≤ length counts) (offset k more : ℕ) (inside : k < n) (there : offset_at k ≡ offset)
            (next : List ℕ) (equal : (x : ℕ) → times x rest ≡ cond (eqb offset x) more 0 + times x next) where
          raised : List ℕ
          raised = set counts k (get_or counts k 0 + more)

          raised_at : (j : ℕ) → j < n → get_or raised j 0 + times (offset_at j) next ≡ times (offset_at j) offsets
          unfolding raised
          raised_at j h =
              by-test (eqb j k)
              (λ y.
              let q : j ≡ k = eqb-true _ _ y in
              let room' : k < length counts = omega arith in
              let now : get_or raised j 0 ≡ get_or counts j 0 + more = (λ i. get_or raised (q i) 0) ∙ get_or-set_same counts k _ 0 room' ∙ ap (λ (m : ℕ). get_or counts m 0 + more) (sym q) in
              let here : offset ≡ offset_at j = sym there ∙ ap offset_at (sym q) in
              omega (arith, now, t.counted j h, rw (eq-eqb _ _ here) at (equal (offset_at j))))
              (λ y.
              let now : get_or raised j 0 ≡ get_or counts j 0 = get_or-set_other counts k j _ 0 (eqb-false _ _ y) in
              let else : offset ≡ offset_at j → ⊥ = (λ e. apart distinct j k h inside (eqb-false _ _ y) (sym e ∙ sym there)) in
              omega (arith, now, t.counted j h, rw (ne_eqb _ _ else) at (equal (offset_at j))))

          pub tallied-more : Tallied body from n offsets (set counts k (get_or counts k 0 + more)) next
          unfolding raised
          tallied-more =
              record {
                counted = raised_at;
                found = λ x. by-test (eqb offset x)
                    (λ y. inl (record { number = k; below = inside; there = there ∙ eqb-true _ _ y }))
                    (λ y. go x y (t.found x));
              }
            where
              go : (x : ℕ) → eqb offset x ≡ false → StandsAmong body from n x ⊎ (times x rest ≡ times x offsets) → StandsAmong body from n x ⊎ (times x next ≡ times x offsets)
              go x y (inl s) = inl s
              go x y (inr e) = inr (omega (arith, e, rw y at (equal x)))

-- ---- one reference

pub first-offset : (body : List ℕ) (from : ℕ) (t : List ℕ) → t ≡ triple_of body from 0 → offset_of (file_ref body from 0) ≡ get_or t 2 0
first-offset body from t e = offset-last body from 0 ∙ sym (ap (λ (l : List ℕ). get_or l 2 0) e)

module _ (body : List ℕ) (from n : ℕ) (one : n ≡ 1) where
  pub one-distinct : Distinct body from n
  one-distinct = record { differ = λ i j h l. absurd (omega (arith, one)) }

  module _ (root ino : ℕ) (side : SideBySide root ino body from n) (offsets : List ℕ) (offset end : ℕ)
      (here : offset_of (file_ref body from 0) ≡ offset) (equal : EqualUpTo offsets 0 offset end) where
    pub one-nowhere : end < length offsets → false ≡ agrees root ino offsets (read_from body from)
    one-nowhere h =
        held-nowhere root ino body from n side offsets (get_or offsets end 0) (times-at offsets end h)
        (λ k l e. let z : 0 ≡ k = omega (arith, one) in equal.other h (sym e ∙ ap (λ (m : ℕ). offset_of (file_ref body from m)) (sym z) ∙ here))

    pub one-tallied : length offsets ≤ end → Tallied body from n offsets (end ∷ []) []
    one-tallied h =
        let zeros : List ℕ = replicate 1 0 in
        let inside : 0 < n = omega (arith, one) in
        let room : n ≤ length zeros = omega (arith, one) in
        let none = tallied-none root ino body from n side offsets zeros (cleared-none 1) in
        let all = tallied-more root ino body from n side offsets zeros offsets none one-distinct room offset 0 (end - 0) inside here (drop end offsets) equal.equal in
        let e : 0 + (end - 0) ≡ end = omega arith in
        rw (e, drop_of_length-le offsets h) at all
