-- The search among references of one type, which narrows two bounds, and the scan over those of one rank. Assumes nothing.
use mathlib.Core.Path.{◌≡◌, refl, sym, ap, ap₂, ◌∙◌, subst}
use mathlib.Core.Logic.{◌≢◌, ◌⊎◌, inl, inr}
use Prim.Native.Nat.{ℕ, ◌+◌, ◌-◌, ◌*◌, ◌≤◌, ◌<◌}
use native.Mathlib.Nat.{mul-le-mul_right}
use native.Mathlib.Omega.{arith}
use mathlib.Core.Bool.{Bool, true, false, not, cond}
use mathlib.Core.List.{List}
use lib.Dec.{T, ltb}
use lib.ListN.{length, drop}
use borrow.Author.Tests.{ltb-true, ltb-false}
use mir.Facts.{T_not, not_T}
use Rattle.fields.specs.Lists.{all}
use Rattle.fields.proofs.Lists.{T-eq, lt-or}
use Rattle.format.specs.References.{payload_length, Ref, ref_at, rank, rank_of}
use Rattle.theorems.proofs.Order.{named-yes}
use Rattle.inline_refs.specs.declared.ref_name.RefName.{RefName}
use Rattle.inline_refs.specs.Scans.{kind_of, fields_of, is_wanted}
use Rattle.balance.specs.Ranks.{span_refs, payload_at, rank_at, Falling, CutsAt, absent_in}
use Rattle.balance.specs.declared.span.Span.{Span}
use Rattle.balance.specs.declared.search.Bounds.{Bounds}
use Rattle.balance.proofs.Steps.{mul_next}
use Rattle.balance.proofs.Spanning.{span-at, span-all}

-- ---- each of so many is inside

pub room : (body : List ℕ) (s : Span) (size : ℕ) → size ≡ 1 + payload_length s.kind → Falling body s → (j : ℕ) → j < s.n
    → s.from + j * size + size ≤ length body
room body s size e f j h =
    let k : ℕ = 1 + payload_length s.kind in
    let more : (j + 1) * k ≤ s.n * k = mul-le-mul_right k (omega arith) in
    let z : j * size ≡ j * k = ap (λ (m : ℕ). j * m) e in
    omega (arith, f.inside, mul_next j k)

pub payload-is : (s : Span) (size j : ℕ) → size ≡ 1 + payload_length s.kind → s.from + j * size + 1 ≡ payload_at s.kind s.from j
payload-is s size j e = ap (λ (m : ℕ). s.from + j * m + 1) e

pub rank_is : (body : List ℕ) (s : Span) (size j own-rank : ℕ) → size ≡ 1 + payload_length s.kind
    → own-rank ≡ rank (ref_at s.kind (drop (s.from + j * size + 1) body)) → own-rank ≡ rank_at body s.kind s.from j
rank_is body s size j own-rank e q = q ∙ ap (λ (m : ℕ). rank (ref_at s.kind (drop m body))) (payload-is s size j e)

-- ---- two bounds

-- while the bounds are apart, the next number looked at is between them
abbrev pub Aims : Bounds → ℕ → ℕ → Type 0
Aims b mid step = b.low < b.high → (b.low ≤ mid) × ((mid < b.high) × (1 ≤ step))

module _ (body : List ℕ) (s : Span) (own-rank : ℕ) where
  pub record Halving (b : Bounds) : Type 0 where
    pub order : b.low ≤ b.high
    pub few : b.high ≤ s.n
    pub above : (j : ℕ) → j < b.low → own-rank < rank_at body s.kind s.from j
    pub below : (j : ℕ) → b.high ≤ j → j < s.n → rank_at body s.kind s.from j ≤ own-rank

  pub halving-start : Halving (record { low = 0; high = s.n })
  halving-start = record { order = omega arith; few = omega arith; above = λ j h. absurd (omega arith); below = λ j h k. absurd (omega arith) }

  pub halving-end : (b : Bounds) → Halving b → b.high ≤ b.low → CutsAt body s own-rank b.low
  halving-end b v h =
      record { few = omega (arith, v.order, v.few); above = v.above; below = λ j k l. v.below j (omega (arith, v.order)) l }

  module _ (b : Bounds) (v : Halving b) (f : Falling body s) (mid here : ℕ) (low : b.low ≤ mid) (high : mid < b.high)
      (at : here ≡ rank_at body s.kind s.from mid) where
    right-half : own-rank < here → Halving (record { low = mid + 1; high = b.high })
    right-half h = record {
      order = omega arith;
      few = v.few;
      above = λ j k. let d = f.falls j mid (omega arith) (omega (arith, v.few)) in omega (arith, at);
      below = v.below;
    }

    left-half : here ≤ own-rank → Halving (record { low = b.low; high = mid })
    left-half h = record {
      order = low;
      few = omega (arith, v.few);
      above = v.above;
      below = λ j k l. let d = f.falls mid j k l in omega (arith, at);
    }

    pub halving-next : (r : Bounds) → r ≡ cond (ltb own-rank here) (record { low = mid + 1; high = b.high }) (record { low = b.low; high = mid })
        → Halving r × (r.high - r.low < b.high - b.low)
    halving-next r e = go (ltb own-rank here) refl e
      where
        go : (c : Bool) → ltb own-rank here ≡ c → r ≡ cond c (record { low = mid + 1; high = b.high }) (record { low = b.low; high = mid })
            → Halving r × (r.high - r.low < b.high - b.low)
        go true q e =
            let z : b.high - (mid + 1) < b.high - b.low = omega arith in
            subst (λ (x : Bounds). Halving x × (x.high - x.low < b.high - b.low)) (sym e) (right-half (ltb-true _ _ q), z)
        go false q e =
            let z : mid - b.low < b.high - b.low = omega arith in
            subst (λ (x : Bounds). Halving x × (x.high - x.low < b.high - b.low)) (sym e) (left-half (ltb-false _ _ q), z)

-- ---- those of one rank

abbrev indexed : List ℕ → Span → ℕ → Ref
indexed body s j = ref_at s.kind (drop (payload_at s.kind s.from j) body)

pub record Scanning (body : List ℕ) (s : Span) (w : RefName) (own-rank j : ℕ) : Type 0 where
  pub few : j ≤ s.n
  pub passed : (i : ℕ) → i < j → T (not (is_wanted w (indexed body s i)))
  pub below : (i : ℕ) → j ≤ i → i < s.n → rank_at body s.kind s.from i ≤ own-rank

pub named-is : (body : List ℕ) (s : Span) (w : RefName) (size j : ℕ) (b : Bool) → size ≡ 1 + payload_length s.kind
    → b ≡ is_wanted w (ref_at s.kind (drop (s.from + j * size + 1) body)) → b ≡ is_wanted w (indexed body s j)
named-is body s w size j b e q = q ∙ ap (λ (m : ℕ). is_wanted w (ref_at s.kind (drop m body))) (payload-is s size j e)

module _ (body : List ℕ) (s : Span) (w : RefName) (own-rank : ℕ) (is : own-rank ≡ rank_of (kind_of w) (fields_of w)) where
  other-rank : (r : Ref) → rank r ≢ own-rank → T (not (is_wanted w r))
  unfolding rank
  other-rank r ne = not_T (is_wanted w r) (λ y. let e = named-yes (kind_of w) (fields_of w) r y in ne (ap₂ rank_of e.0 e.1 ∙ sym is))

  pub scan-start : (j : ℕ) → CutsAt body s own-rank j → Scanning body s w own-rank j
  scan-start j c = record {
    few = c.few;
    passed = λ i h. other-rank (indexed body s i) (λ e. let a = c.above i h in omega arith);
    below = c.below;
  }

  all-absent : ((i : ℕ) → i < s.n → T (not (is_wanted w (indexed body s i)))) → absent_in body s w ≡ true
  unfolding absent_in
  all-absent f = T-eq _ (span-all (λ r. not (is_wanted w r)) s.kind body s.from s.n f)

  pub scan-end : (j : ℕ) → Scanning body s w own-rank j → s.n ≤ j → absent_in body s w ≡ true
  scan-end j c h = all-absent (λ i k. c.passed i (omega (arith, h)))

  module _ (j : ℕ) (c : Scanning body s w own-rank j) (inside : j < s.n) (f : Falling body s) where
    pub scan-stop : (here : ℕ) → here ≡ rank_at body s.kind s.from j → (here ≡ own-rank → ⊥) → absent_in body s w ≡ true
    scan-stop here e ne = all-absent (λ i k. go i k (lt-or i j))
      where
        go : (i : ℕ) → i < s.n → (i < j) ⊎ (j ≤ i) → T (not (is_wanted w (indexed body s i)))
        go i k (inl h) = c.passed i h
        go i k (inr h) = other-rank (indexed body s i) (λ q. let a = f.falls j i h k in let b = c.below j (omega arith) inside in ne (omega arith))

    pub scan-hit : (b : Bool) → b ≡ is_wanted w (indexed body s j) → b ≡ true → absent_in body s w ≡ false
    unfolding absent_in
    scan-hit b e t = go (all (λ r. not (is_wanted w r)) (span_refs s.kind body s.from s.n)) refl
      where
        go : (x : Bool) → all (λ r. not (is_wanted w r)) (span_refs s.kind body s.from s.n) ≡ x → x ≡ false
        go false q = refl
        go true q =
            absurd (T_not (is_wanted w (indexed body s j)) (subst T (sym t ∙ e) tt)
            (span-at (λ r. not (is_wanted w r)) s.kind body s.from s.n (subst T (sym q) tt) j inside))

    pub scan-next : (b : Bool) → b ≡ is_wanted w (indexed body s j) → b ≡ false → Scanning body s w own-rank (j + 1)
    scan-next b e t = record {
      few = omega arith;
      passed = λ i h. go i h (lt-or i j);
      below = λ i h k. c.below i (omega arith) k;
    }
      where
        go : (i : ℕ) → i < j + 1 → (i < j) ⊎ (j ≤ i) → T (not (is_wanted w (indexed body s i)))
        go i h (inl k) = c.passed i k
        go i h (inr k) =
            let z : j ≡ i = omega arith in
            subst (λ (m : ℕ). T (not (is_wanted w (indexed body s m)))) z (subst (λ (x : Bool). T (not x)) (sym t ∙ e) tt)
