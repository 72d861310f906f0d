-- One more reference of a record, as code tests it. Assumes nothing.
use mathlib.Core.Path.{◌≡◌, refl, sym, ap, ap₂, ◌∙◌, subst}
use Rattle.std.specs.Prelude.{Option, Some, None, is_some}
use Prim.Native.Nat.{ℕ, zero, suc, ◌+◌, ◌*◌, ◌≤◌, ◌<◌}
use native.Mathlib.Omega.{arith}
use mathlib.Core.Logic.{◌⊎◌, inl, inr}
use mathlib.Core.Bool.{Bool, true, false, not, ◌&&◌, ◌||◌, cond}
use mathlib.Core.List.{List, [], ◌∷◌, ◌++◌}
use lib.Dec.{T, leb, eqb}
use lib.ListN.{length, drop}
use borrow.Author.Tests.{eq-eqb, ne_eqb, le-leb, lt-leb, lt-ltb, le-ltb}
use Rattle.fields.specs.Lists.{all, same}
use Rattle.fields.specs.Numbers.{words}
use Rattle.fields.proofs.Lists.{and-false, lt-or}
use Rattle.format.specs.References.{row_in, known, payload_length, count_position, counted, field_count, Ref, ref_at, rank, falls}
use Rattle.data_refs.specs.Triples.{triple_size, triple_of, Distinct, LooksUp}
use Rattle.data_refs.proofs.Differing.{none-twice}
use Rattle.balance.specs.Ranks.{span_refs}
use Rattle.balance.specs.Tally.{RefRun, start, joins, kept_run, after, runs_apart, weighs, admits}
use Rattle.balance.proofs.SideBySide.{span-snoc}
use Rattle.balance.specs.declared.record.Run.{Run as Passed}
use Rattle.balance.specs.declared.record.Admitted.{Admitted}
use Rattle.balance.specs.Spans.{clear, last_rank, run_of, OneRank, RunKept, one_more, Admitting}

pub payload-178 : payload_length 178 ≡ 28
unfolding payload_length row_in
payload-178 = refl

pub not-true : (b c : Bool) → b ≡ not c → b ≡ true → c ≡ false
not-true b true e t = let z : T false = subst T (sym t ∙ e) tt in absurd z
not-true b false e t = refl

pub not-false : (b c : Bool) → b ≡ not c → b ≡ false → c ≡ true
not-false b true e t = refl
not-false b false e t = let z : T false = subst T (sym e ∙ t) tt in absurd z

pub no-172 : ◌≡◌ {A = ℕ} 178 172 → ⊥
no-172 e = omega arith

pub known-178 : T (known 178)
unfolding known row_in
known-178 = tt

pub fields-178 : (l : List ℕ) → (ref_at 178 l).fields ≡ words 3 l
unfolding ref_at field_count counted count_position row_in
fields-178 l = refl

-- ---- triples side by side

-- the triple of the data reference at `at` is looked for among those from `from` on
module _ (body : List ℕ) (from at : ℕ) (t : List ℕ) (is : t ≡ words 3 (drop (at + 1) body)) where
  clear_step : (i m : ℕ) → clear body at (from + triple_size * i) (suc m) ≡ (not (same (triple_of body from i) t) && clear body at (from + triple_size * suc i) m)
  unfolding clear span_refs triple_of
  clear_step i m =
      let p : from + triple_size * i + triple_size ≡ from + triple_size * suc i = omega arith in
      ap₂ (λ (b c : Bool). not b && c) (ap₂ same (fields-178 _) (fields-178 _ ∙ sym is)) (ap (λ (k : ℕ). clear body at (from + triple_size * i + (1 + k)) m) payload-178 ∙ ap (λ (q : ℕ). clear body at q m) p)

  clear-from : (m i : ℕ) → ((j : ℕ) → j < i + m → same (triple_of body from j) t ≡ false) → clear body at (from + triple_size * i) m ≡ true
  unfolding clear span_refs
  clear-from zero i none = refl
  clear-from (suc m) i none = clear_step i m ∙ rw (none i (omega arith)) (clear-from m (suc i) (λ j l. none j (omega arith)))

  clear-hit : (j m i k : ℕ) → i + k ≡ j → k < m → same (triple_of body from j) t ≡ true → clear body at (from + triple_size * i) m ≡ false
  clear-hit j zero i k q h e = absurd (omega arith)
  clear-hit j (suc m) i zero q h e =
      let z : j ≡ i = omega arith in
      clear_step i m ∙ rw (rw z at e) refl
  clear-hit j (suc m) i (suc k) q h e =
      let z : suc i + k ≡ j = omega arith in
      let l : k < m = omega arith in
      clear_step i m ∙ rw (clear-hit j m (suc i) k z l e) (and-false (not (same (triple_of body from i) t)))

  module _ (n : ℕ) where
    clear-all : ((j : ℕ) → j < n → same (triple_of body from j) t ≡ false) → clear body at from n ≡ true
    clear-all none =
        let z : from + triple_size * 0 ≡ from = omega arith in
        subst (λ (q : ℕ). clear body at q n ≡ true) z (clear-from n 0 (λ j l. none j (omega arith)))

    pub looked-up : (r : Option ℕ) → LooksUp body from n t r → is_some r ≡ not (clear body at from n)
    looked-up None none = ap not (sym (clear-all none))
    looked-up (Some k) l =
        let z : from + triple_size * 0 ≡ from = omega arith in
        let e : 0 + k ≡ k = omega arith in
        ap not (sym (subst (λ (q : ℕ). clear body at q n ≡ false) z (clear-hit k n 0 k e l.0 l.1)))

-- those that are known to differ from one another differ from one more of them
pub clear-by : (body : List ℕ) (from n known : ℕ) → Distinct body from known → n < known → (at : ℕ) → from + triple_size * n ≡ at → clear body at from n ≡ true
unfolding triple_of
clear-by body from n known d h at e =
    let is : triple_of body from n ≡ words 3 (drop (at + 1) body) = ap (λ (q : ℕ). words 3 (drop (q + 1) body)) e in
    clear-all body from at (triple_of body from n) is n (λ j l. d.differ j n l h)

-- ---- the answer, from the tests

module _ (run : RefRun) (r : Ref) where
  pub admits-lower : r.kind < run.kind → admits run r ≡ false
  unfolding admits after
  admits-lower h =
      let a : r.kind ≤ run.kind = omega arith in
      let b : run.kind ≡ r.kind → ⊥ = (λ e. omega arith) in
      simp (le-ltb _ _ a, ne_eqb _ _ b)

  pub admits-light : (r.kind ≡ 172 → ⊥) → r.weight ≡ 0 → admits run r ≡ false
  unfolding admits weighs
  admits-light h e =
      let w : leb 1 r.weight ≡ false = lt-leb 1 r.weight (omega arith) in
      simp (ne_eqb _ _ h, w) (never (after run r) (runs_apart run r))
    where
      never : (a b : Bool) → (a && (b && false)) ≡ false
      never true true = refl
      never true false = refl
      never false b = refl

  not-joins-kind : (run.kind ≡ r.kind → ⊥) → joins run r ≡ false
  unfolding joins
  not-joins-kind h =
      let k : r.kind ≡ run.kind → ⊥ = (λ e. h (sym e)) in
      simp (ne_eqb _ _ k) (and-false (eqb run.kind 178))

  not-joins-rank : (rank r ≡ run.rank → ⊥) → joins run r ≡ false
  unfolding joins
  not-joins-rank h = simp (ne_eqb _ _ h) (never (eqb run.kind 178) (eqb r.kind run.kind))
    where
      never : (a b : Bool) → (a && (b && false)) ≡ false
      never true true = refl
      never true false = refl
      never false b = refl

  not-joins-178 : (run.kind ≡ 178 → ⊥) → joins run r ≡ false
  unfolding joins
  not-joins-178 h = simp (ne_eqb _ _ h)

  kept-alone : joins run r ≡ false → record { kind = r.kind; rank = rank r; back = r ∷ [] } ≡ kept_run run r
  unfolding kept_run
  kept-alone j = simp j

  -- a new run
  owner-after : (run.kind < r.kind) ⊎ (r.kind ≤ run.kind) → run.kind ≤ r.kind → r.kind ≡ 172 → after run r ≡ true
  unfolding after falls
  owner-after (inl k) h e = simp (lt-ltb _ _ k)
  owner-after (inr k) h e =
      let q : run.kind ≡ r.kind = omega arith in
      let z : run.kind ≡ 172 = omega arith in
      simp (le-ltb _ _ k, eq-eqb _ _ q, eq-eqb _ _ z)

  abbrev pub Begins : Type 0
  Begins = (admits run r ≡ true) × (record { kind = r.kind; rank = rank r; back = r ∷ [] } ≡ kept_run run r)

  pub admits-owner : run.kind ≤ r.kind → r.kind ≡ 172 → Begins
  unfolding admits runs_apart weighs
  admits-owner h e =
      let no178 : run.kind ≡ 178 → ⊥ = (λ q. omega arith) in
      let j : joins run r ≡ false = not-joins-178 no178 in
      (simp (j, eq-eqb _ _ e, owner-after (lt-or run.kind r.kind) h e), kept-alone j)

  pub admits-higher : run.kind < r.kind → 0 < r.weight → Begins
  unfolding admits runs_apart weighs after
  admits-higher h w =
      let ne : run.kind ≡ r.kind → ⊥ = (λ q. omega arith) in
      let j : joins run r ≡ false = not-joins-kind ne in
      let l : leb 1 r.weight ≡ true = le-leb 1 r.weight (omega arith) in
      (simp (j, lt-ltb _ _ h, l) (yes (eqb r.kind 172)), kept-alone j)
    where
      yes : (c : Bool) → (c || true) ≡ true
      yes true = refl
      yes false = refl

  pub admits-falls : run.kind ≡ r.kind → (r.kind ≡ 172 → ⊥) → rank r < run.rank → 0 < r.weight → Begins
  unfolding admits runs_apart weighs after falls
  admits-falls q owner h w =
      let ne : rank r ≡ run.rank → ⊥ = (λ e. omega arith) in
      let j : joins run r ≡ false = not-joins-rank ne in
      let l : leb 1 r.weight ≡ true = le-leb 1 r.weight (omega arith) in
      let n : run.kind ≡ 172 → ⊥ = (λ e. owner (sym q ∙ e)) in
      let o : rank r ≤ run.rank = omega arith in
      let b : leb (rank r) run.rank ≡ true = le-leb _ _ o in
      let u : run.kind ≤ r.kind = omega arith in
      let v : r.kind ≤ run.kind = omega arith in
      (simp (j, le-ltb _ _ v, eq-eqb _ _ q, ne_eqb _ _ n, ne_eqb _ _ owner, lt-ltb _ _ h, b, l) (yes (eqb run.kind 178)), kept-alone j)
    where
      yes : (c : Bool) → (cond c true true && true) ≡ true
      yes true = refl
      yes false = refl

  -- of one type, no lower rank
  pub admits-stays : run.kind ≡ r.kind → (r.kind ≡ 172 → ⊥) → (r.kind ≡ 178 → ⊥) → run.rank ≤ rank r → admits run r ≡ false
  unfolding admits after falls
  admits-stays q owner no178 h =
      let n : run.kind ≡ 172 → ⊥ = (λ e. owner (sym q ∙ e)) in
      let m : run.kind ≡ 178 → ⊥ = (λ e. no178 (sym q ∙ e)) in
      let v : r.kind ≤ run.kind = omega arith in
      simp (le-ltb _ _ v, eq-eqb _ _ q, ne_eqb _ _ n, ne_eqb _ _ m, le-ltb _ _ h)

  module _ (q : run.kind ≡ r.kind) (d : r.kind ≡ 178) where
    pub admits-rises : run.rank < rank r → admits run r ≡ false
    unfolding admits after falls
    admits-rises h =
        let n : run.kind ≡ 172 → ⊥ = (λ e. omega arith) in
        let m : run.kind ≡ 178 = q ∙ d in
        let v : r.kind ≤ run.kind = omega arith in
        simp (le-ltb _ _ v, eq-eqb _ _ q, ne_eqb _ _ n, eq-eqb _ _ m, lt-leb _ _ h)

    module _ (s : rank r ≡ run.rank) where
      joins-yes : joins run r ≡ true
      unfolding joins
      joins-yes = let m : run.kind ≡ 178 = q ∙ d in simp (eq-eqb _ _ m, eq-eqb _ _ (sym q), eq-eqb _ _ s)

      pub admits-twice : all (λ x. not (same x.fields r.fields)) run.back ≡ false → admits run r ≡ false
      unfolding admits runs_apart
      admits-twice a = simp (joins-yes, a) (never (after run r))
        where
          never : (c : Bool) → (c && false) ≡ false
          never true = refl
          never false = refl

      pub admits-joins : all (λ x. not (same x.fields r.fields)) run.back ≡ true → 0 < r.weight
          → (admits run r ≡ true) × (record { kind = run.kind; rank = run.rank; back = run.back ++ r ∷ [] } ≡ kept_run run r)
      unfolding admits after falls runs_apart weighs kept_run
      admits-joins a w =
          let n : run.kind ≡ 172 → ⊥ = (λ e. omega arith) in
          let m : run.kind ≡ 178 = q ∙ d in
          let v : r.kind ≤ run.kind = omega arith in
          let o : rank r ≤ run.rank = omega arith in
          let b : leb (rank r) run.rank ≡ true = le-leb _ _ o in
          let l : leb 1 r.weight ≡ true = le-leb 1 r.weight (omega arith) in
          (simp (joins-yes, a, le-ltb _ _ v, eq-eqb _ _ q, ne_eqb _ _ n, eq-eqb _ _ m, b, l) (yes (eqb r.kind 172)), simp joins-yes)
        where
          yes : (c : Bool) → (c || true) ≡ true
          yes true = refl
          yes false = refl

-- ---- what code answers, from what it tested

pub none_ahead : (body : List ℕ) (from n own : ℕ) → OneRank body from n 0 own
none_ahead body from n own = record { ranks = (λ i l h. absurd (omega arith)) }

-- the passed ones and the weight of one that may stand there
abbrev pub yes : Passed → ℕ → Option Admitted
yes run weight = Some (record { run = run; weight = weight })

pub rank-computed : (body : List ℕ) (p : Passed) (own : ℕ) → p.rank ≡ Some own → own ≡ last_rank body p
unfolding last_rank
rank-computed body p own e = rw e refl

pub rank-open : (body : List ℕ) (p : Passed) (own : ℕ) → p.rank ≡ None → own ≡ rank (ref_at p.kind (drop (p.from + 1) body)) → own ≡ last_rank body p
unfolding last_rank
rank-open body p own e o = rw e o

module _ (body : List ℕ) (p : Passed) (at kind start : ℕ) (s : start ≡ at + 1) (kept : RunKept body p at) where
  abbrev here : Ref
  here = ref_at kind (drop start body)

  pub says-lower : kind < p.kind → Admitting body p here (start + payload_length kind) None
  unfolding run_of ref_at Admitting
  says-lower h = admits-lower (run_of body p) here h

  module _ (weight : ℕ) (w : weight ≡ here.weight) where
    abbrev alone : Option ℕ → Passed
    alone own = record { kind = kind; rank = own; from = at; n = 1; known = 0 }

    module _ (own : Option ℕ) (o : last_rank body (alone own) ≡ rank here) (inside : own ≡ None → at + 1 + payload_length kind ≤ length body) where
      alone-is : run_of body (alone own) ≡ record { kind = here.kind; rank = rank here; back = here ∷ [] }
      unfolding run_of span_refs ref_at
      alone-is = λ i. record { kind = kind; rank = o i; back = ref_at kind (drop (sym s i) body) ∷ [] }

      alone-reaches : kind ≡ 178 → at + triple_size * 1 ≡ start + payload_length kind
      alone-reaches e = rw (e, payload-178) (omega arith)

      kept-one : RunKept body (alone own) (start + payload_length kind)
      kept-one = record { reaches = alone-reaches; inside = inside; apart = none-twice body at; hashed = (λ h. absurd (omega arith)); ahead = none_ahead body at 1 _ }

      says-alone : Begins (run_of body p) here → Admitting body p here (start + payload_length kind) (yes (alone own) weight)
      unfolding Admitting
      says-alone b = (b.0, (alone-is ∙ b.1, (w, kept-one)))

    module _ (long : start + payload_length kind ≤ length body) where
      open_is : last_rank body (alone None) ≡ rank here
      unfolding last_rank
      open_is = ap (λ (q : ℕ). rank (ref_at kind (drop q body))) (sym s)

      says-open : Begins (run_of body p) here → Admitting body p here (start + payload_length kind) (yes (alone None) weight)
      says-open = says-alone None open_is (λ e. omega (arith, s, long))

      pub says-owner : p.kind ≤ kind → kind ≡ 172 → Admitting body p here (start + payload_length kind) (yes (alone None) weight)
      unfolding run_of ref_at
      says-owner h e = says-open (admits-owner (run_of body p) here h e)

      pub says-higher : (weight ≡ 0 → ⊥) → p.kind < kind → Admitting body p here (start + payload_length kind) (yes (alone None) weight)
      unfolding run_of ref_at
      says-higher heavy h = says-open (admits-higher (run_of body p) here h (rw (← w) (omega arith)))

    module _ (owner : kind ≡ 172 → ⊥) where
      pub says-light : weight ≡ 0 → Admitting body p here (start + payload_length kind) None
      unfolding run_of ref_at Admitting
      says-light e = admits-light (run_of body p) here owner (sym w ∙ e)

      module _ (heavy : weight ≡ 0 → ⊥) (same_kind : p.kind ≡ kind) where
        some-weight : 0 < here.weight
        some-weight = rw (← w) (omega arith)

        module _ (last own : ℕ) (l : last ≡ last_rank body p) (o : own ≡ rank here) where
          pub says-falls : own < last → Admitting body p here (start + payload_length kind) (yes (alone (Some own)) weight)
          unfolding run_of ref_at last_rank
          says-falls h = says-alone (Some own) o (λ e. let z : ◌≡◌ {A = ℕ} 0 1 = cc in absurd (omega arith)) (admits-falls (run_of body p) here same_kind owner (rw (← o, ← l) h) some-weight)

          pub says_stays : (kind ≡ 178 → ⊥) → last ≤ own → Admitting body p here (start + payload_length kind) None
          unfolding run_of ref_at Admitting
          says_stays n h = admits-stays (run_of body p) here same_kind owner n (rw (← o, ← l) h)

          pub says-rises : kind ≡ 178 → last < own → Admitting body p here (start + payload_length kind) None
          unfolding run_of ref_at Admitting
          says-rises d h = admits-rises (run_of body p) here same_kind d (rw (← o, ← l) h)

        module _ (d : kind ≡ 178) (e : rank here ≡ last_rank body p) where
          rank_is : rank here ≡ (run_of body p).rank
          unfolding run_of
          rank_is = e

          clear-is : (b : Bool) → clear body at p.from p.n ≡ b
              → all (λ x. not (same x.fields here.fields)) (run_of body p).back ≡ b
          unfolding run_of clear ref_at
          clear-is b c =
              let k : p.kind ≡ 178 = same_kind ∙ d in
              (λ i. all (λ x. not (same x.fields (ref_at (d i) (drop (s i) body)).fields)) (span_refs (k i) body p.from p.n)) ∙ c

          pub says-twice : clear body at p.from p.n ≡ false → Admitting body p here (start + payload_length kind) None
          unfolding run_of ref_at Admitting
          says-twice c = admits-twice (run_of body p) here same_kind d rank_is (clear-is false c)

          module _ (own known : ℕ) (o : own ≡ last_rank body p) (a : Distinct body p.from known) (f : OneRank body p.from (p.n + 1) known own) where
            abbrev pub grown : Passed
            grown = record { kind = kind; rank = Some own; from = p.from; n = p.n + 1; known = known }

            ends-here : p.from + p.n * (1 + payload_length p.kind) + 1 ≡ start
            ends-here =
                let k : p.kind ≡ 178 = same_kind ∙ d in
                let z : p.n * (1 + payload_length p.kind) ≡ p.n * triple_size = ap (λ (j : ℕ). p.n * (1 + payload_length j)) k ∙ ap (λ (j : ℕ). p.n * (1 + j)) payload-178 in
                omega (arith, kept.reaches k)

            grown-is : run_of body grown ≡ record { kind = (run_of body p).kind; rank = (run_of body p).rank; back = (run_of body p).back ++ here ∷ [] }
            unfolding run_of
            grown-is =
                (λ i. record { kind = sym same_kind i; rank = (sym (rank-computed body grown own refl) ∙ o) i; back = span_refs (sym same_kind i) body p.from (p.n + 1) })
                ∙ ap (λ (l : List Ref). record { kind = p.kind; rank = last_rank body p; back = l })
                (span-snoc p.kind body p.from p.n
                ∙ (λ i. span_refs p.kind body p.from p.n ++ ref_at (same_kind i) (drop (ends-here i) body) ∷ []))

            grown-kept : RunKept body grown (start + payload_length kind)
            unfolding last_rank
            grown-kept =
                record {
                  reaches = (λ z. rw (d, payload-178) (omega (arith, kept.reaches (same_kind ∙ d))));
                  inside = (λ e. let z : ◌≡◌ {A = ℕ} 0 1 = cc in absurd (omega arith));
                  apart = a;
                  hashed = (λ z. (d, refl));
                  ahead = f;
                }

            pub says-joins : clear body at p.from p.n ≡ true → Admitting body p here (start + payload_length kind) (yes grown weight)
            unfolding run_of ref_at Admitting
            says-joins c =
                let j = admits-joins (run_of body p) here same_kind d rank_is (clear-is true c) some-weight in
                (j.0, (grown-is ∙ j.1, (w, grown-kept)))

-- ---- and back

pub admitted-yes : (body : List ℕ) (p : Passed) (r : Ref) (next : ℕ) (o : Option Admitted) (a : Admitted) → o ≡ Some a → Admitting body p r next o
    → (admits (run_of body p) r ≡ true) × ((run_of body a.run ≡ kept_run (run_of body p) r) × ((a.weight ≡ r.weight) × RunKept body a.run next))
unfolding Admitting
admitted-yes body p r next o a e h = subst (Admitting body p r next) e h

pub admitted-no : (body : List ℕ) (p : Passed) (r : Ref) (next : ℕ) (o : Option Admitted) → o ≡ None → Admitting body p r next o → admits (run_of body p) r ≡ false
unfolding Admitting
admitted-no body p r next o e h = subst (Admitting body p r next) e h

-- ---- a type that is known

pub at-kind : (body : List ℕ) (start kind own weight own-rank : ℕ) → kind ≡ own → weight ≡ (ref_at kind (drop start body)).weight → own-rank ≡ rank (ref_at kind (drop start body))
    → (weight ≡ (ref_at own (drop start body)).weight) × (own-rank ≡ rank (ref_at own (drop start body)))
at-kind body start kind own weight own-rank e w o =
    subst (λ (k : ℕ). (weight ≡ (ref_at k (drop start body)).weight) × (own-rank ≡ rank (ref_at k (drop start body)))) e (w, o)

pub of-kind : (body : List ℕ) (start kind own weight : ℕ) → kind ≡ own → T (known kind) → (kind ≡ 172 → ⊥) → start + payload_length kind ≤ length body → weight ≡ (ref_at kind (drop start body)).weight
    → T (known own) × ((own ≡ 172 → ⊥) × ((start + payload_length own ≤ length body) × (weight ≡ (ref_at own (drop start body)).weight)))
of-kind body start kind own weight e k n l w =
    subst (λ (j : ℕ). T (known j) × ((j ≡ 172 → ⊥) × ((start + payload_length j ≤ length body) × (weight ≡ (ref_at j (drop start body)).weight)))) e (k, (n, (l, w)))

pub as-kind : (body : List ℕ) (p : Passed) (start kind own : ℕ) (r : Option Admitted) → kind ≡ own
    → Admitting body p (ref_at own (drop start body)) (start + payload_length own) r → Admitting body p (ref_at kind (drop start body)) (start + payload_length kind) r
as-kind body p start kind own r e h = subst (λ (k : ℕ). Admitting body p (ref_at k (drop start body)) (start + payload_length k) r) (sym e) h

pub as-run : (body : List ℕ) (p : Passed) (r : Ref) (next weight : ℕ) (q k : Passed) → q ≡ k → Admitting body p r next (yes k weight) → Admitting body p r next (yes q weight)
as-run body p r next weight q k e h = subst (λ (x : Passed). Admitting body p r next (yes x weight)) (sym e) h

-- ---- one of those that are known to have the hash of those passed and to differ

module _ (body : List ℕ) (p : Passed) (at start : ℕ) (s : start ≡ at + 1) (kept : RunKept body p at) (h : p.n < p.known) where
  rank-ahead : rank (ref_at 178 (drop start body)) ≡ last_rank body p
  rank-ahead =
      let l : p.n ≤ p.n = omega arith in
      let q : p.from + triple_size * p.n + 1 ≡ start = omega (arith, kept.reaches (kept.hashed h).0) in
      subst (λ (k : ℕ). rank (ref_at 178 (drop k body)) ≡ last_rank body p) q (kept.ahead.ranks p.n l h)

  pub says-known : (weight : ℕ) → weight ≡ (ref_at p.kind (drop start body)).weight → (weight ≡ 0 → ⊥)
      → Admitting body p (ref_at p.kind (drop start body)) (start + payload_length p.kind) (yes (one_more p p.rank p.known) weight)
  says-known weight w heavy = go p.rank refl (kept.hashed h).1
    where
      d : p.kind ≡ 178
      d = (kept.hashed h).0

      v : weight ≡ (ref_at 178 (drop start body)).weight
      v = subst (λ (k : ℕ). weight ≡ (ref_at k (drop start body)).weight) d w

      go : (o : Option ℕ) → p.rank ≡ o → is_some o ≡ true
          → Admitting body p (ref_at p.kind (drop start body)) (start + payload_length p.kind) (yes (one_more p o p.known) weight)
      go None e t = absurd (subst T (sym t) tt)
      go (Some own) e t =
          let o : own ≡ last_rank body p = rank-computed body p own e in
          let f : OneRank body p.from (p.n + 1) p.known own = record { ranks = (λ i l m. kept.ahead.ranks i (omega (arith, l)) m ∙ sym o) } in
          as-kind body p start p.kind 178 _ d
          (says-joins body p at 178 start s kept weight v no-172 heavy d refl rank-ahead own p.known o kept.apart f
          (clear-by body p.from p.n p.known kept.apart h at (kept.reaches d)))
