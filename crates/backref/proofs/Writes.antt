-- Laws of the writers: their writes one after the other as one edit. Assumes nothing.
use mathlib.Core.Path.{◌≡◌, refl, sym, ap, ap₂, ◌∙◌}
use mathlib.Core.List.{List, ◌++◌, append_assoc}
use Prim.Native.Nat.{ℕ, ◌+◌, ◌-◌, ◌≤◌}
use native.Mathlib.Omega.{arith}
use lib.ListN.{length, take, drop, length-append}
use lib.Seq.{take-add, drop_at, take-append-le, drop-append-le, length-take-le}
use Rattle.fields.specs.Numbers.{le_bytes}
use Rattle.fields.specs.Parts.{part, written, spliced}
use Rattle.fields.proofs.Numbers.{length-le_bytes}
use Rattle.fields.proofs.Parts.{part-rest, length_part, length-written, written-pair, written-front, spliced-written}

-- ---- four writes

-- the first bytes of a list as code lends them, `[0..size]`
pub front_of : (size : ℕ) (new : List ℕ) → part 0 (size - 0) new ≡ take size new
front_of size new = let e : size - 0 ≡ size = omega arith in ap (λ (n : ℕ). take n new) e

-- the next piece behind what is written from `at` on
pub written_then : (a b out one two : List ℕ) (at n : ℕ) → n ≡ at + length a → at + (length a + length b) ≤ length out
    → one ≡ written at a out
    → two ≡ written n b one
    → two ≡ written at (a ++ b) out
written_then a b out one two at n e h e₁ e₂ =
    written-pair at (length a) (length b) a b out one two refl refl h e₁ (e₂ ∙ ap (λ (k : ℕ). written k b one) e)

module _ (from to total : ℕ) (new body : List ℕ) (low : 8 ≤ from) (order : from ≤ to) (high : to ≤ length body) where
  abbrev kept : List ℕ
  kept = part 8 (from - 8) body

  abbrev rest : List ℕ
  rest = part to (length body - to) body

  abbrev whole : List ℕ
  whole = written 0 (le_bytes 8 total) (spliced from to new body)

  length-kept : length kept ≡ from - 8
  length-kept = let h : 8 + (from - 8) ≤ length body = omega arith in length_part (from - 8) 8 body h

  length_rest : length rest ≡ length body - to
  length_rest = let h : to + (length body - to) ≤ length body = omega arith in length_part (length body - to) to body h

  pub parts-edit : whole ≡ ((le_bytes 8 total ++ kept) ++ new) ++ rest
  parts-edit =
      let e : 8 + (from - 8) ≡ from = omega arith in
      let t8 : length (take 8 body) ≡ 8 = length-take-le 8 body (omega arith) in
      let split : take from body ≡ take 8 body ++ kept = ap (λ (k : ℕ). take k body) (sym e) ∙ take-add 8 (from - 8) body in
      let n₁ : 8 ≤ length (take from body) = omega (arith, length-take-le from body (omega arith)) in
      let n₂ : 8 ≤ length (take from body ++ new) = omega (arith, length-append (take from body) new) in
      written-front (le_bytes 8 total) (spliced from to new body)
      ∙ ap (λ (k : ℕ). le_bytes 8 total ++ drop k (spliced from to new body)) (length-le_bytes 8 total)
      ∙ ap (λ (l : List ℕ). le_bytes 8 total ++ l)
      (drop-append-le 8 (take from body ++ new) (drop to body) n₂
      ∙ ap (λ (l : List ℕ). l ++ drop to body)
      (drop-append-le 8 (take from body) new n₁
      ∙ ap (λ (l : List ℕ). drop 8 l ++ new) split
      ∙ ap (λ (l : List ℕ). l ++ new) (drop_at (take 8 body) kept 8 t8)))
      ∙ sym (append_assoc (le_bytes 8 total) (kept ++ new) (drop to body))
      ∙ ap₂ (λ (l r : List ℕ). l ++ r) (sym (append_assoc (le_bytes 8 total) kept new)) (sym (part-rest to body))

  pub length-edit : length whole ≡ from + length new + (length body - to)
  length-edit =
      ap length parts-edit
      ∙ omega (
        arith,
        length-append ((le_bytes 8 total ++ kept) ++ new) rest,
        length-append (le_bytes 8 total ++ kept) new,
        length-append (le_bytes 8 total) kept,
        length-le_bytes 8 total,
        length-kept,
        length_rest,
      )

  -- as four calls in a row leave it: where each ends and what it wrote
  pub four : (out o₁ o₂ o₃ o₄ : List ℕ) (at r₂ r₃ r₄ : ℕ) → at + (from + length new + (length body - to)) ≤ length out
      → o₁ ≡ written at (le_bytes 8 total) out
      → (r₂ ≡ at + 8 + length kept) × (o₂ ≡ written (at + 8) kept o₁)
      → (r₃ ≡ r₂ + length new) × (o₃ ≡ written r₂ new o₂)
      → (r₄ ≡ r₃ + length rest) × (o₄ ≡ written r₃ rest o₃)
      → (r₄ ≡ at + (from + length new + (length body - to))) × (o₄ ≡ written at whole out)
  four out o₁ o₂ o₃ o₄ at r₂ r₃ r₄ room e₁ e₂ e₃ e₄ =
      let a : List ℕ = le_bytes 8 total in
      let la : length a ≡ 8 = length-le_bytes 8 total in
      let lb = length-kept in
      let ld = length_rest in
      let lab : length (a ++ kept) ≡ from = length-append a kept ∙ omega (arith, la, lb, low) in
      let labc : length ((a ++ kept) ++ new) ≡ from + length new = length-append (a ++ kept) new ∙ omega (arith, lab) in
      let n₁ : at + 8 ≡ at + length a = omega (arith, la) in
      let n₂ : r₂ ≡ at + length (a ++ kept) = omega (arith, lab, lb, e₂.0, low) in
      let n₃ : r₃ ≡ at + length ((a ++ kept) ++ new) = omega (arith, labc, lb, e₂.0, e₃.0, low) in
      let h₁ : at + (length a + length kept) ≤ length out = omega (arith, la, lb, low, room) in
      let h₂ : at + (length (a ++ kept) + length new) ≤ length out = omega (arith, lab, room) in
      let h₃ : at + (length ((a ++ kept) ++ new) + length rest) ≤ length out = omega (arith, labc, ld, room) in
      let w₂ : o₂ ≡ written at (a ++ kept) out = written_then a kept out o₁ o₂ at (at + 8) n₁ h₁ e₁ e₂.1 in
      let w₃ : o₃ ≡ written at ((a ++ kept) ++ new) out = written_then (a ++ kept) new out o₂ o₃ at r₂ n₂ h₂ w₂ e₃.1 in
      let w₄ : o₄ ≡ written at (((a ++ kept) ++ new) ++ rest) out = written_then ((a ++ kept) ++ new) rest out o₃ o₄ at r₃ n₃ h₃ w₃ e₄.1 in (
        omega (arith, lb, ld, e₂.0, e₃.0, e₄.0, low),
        w₄ ∙ ap (λ (l : List ℕ). written at l out) (sym parts-edit),
      )

-- ---- an edit that keeps the length: the body, and writes within it

-- a write within what was written at the front
written-within : (at : ℕ) (x body out : List ℕ) → at + length x ≤ length body → written at x (written 0 body out) ≡ written 0 (written at x body) out
written-within at x body out h =
    let rest : List ℕ = drop (length body) out in
    let front : at ≤ length body = omega arith in
    ap (written at x) (written-front body out)
    ∙ ap₂ (λ (f b : List ℕ). f ++ x ++ b) (take-append-le at body rest front) (drop-append-le (at + length x) body rest h)
    ∙ sym (append_assoc (take at body ++ x) (drop (at + length x) body) rest)
    ∙ ap (λ (k : ℕ). written at x body ++ drop k out) (sym (length-written at x body h))
    ∙ sym (written-front (written at x body) out)

pub same : (from to size total : ℕ) (new body out o₁ o₂ o₃ : List ℕ) → 8 ≤ from → from + size ≡ to → to ≤ length body → size ≤ length new
    → o₁ ≡ written 0 body out
    → o₂ ≡ written from (take size new) o₁
    → o₃ ≡ written 0 (le_bytes 8 total) o₂
    → o₃ ≡ written 0 (written 0 (le_bytes 8 total) (spliced from to (take size new) body)) out
same from to size total new body out o₁ o₂ o₃ low whole high full e₁ e₂ e₃ =
    let n : List ℕ = take size new in
    let long : length n ≡ size = length-take-le size new full in
    let inside : from + length n ≤ length body = omega arith in
    let kept : length (written from n body) ≡ length body = length-written from n body inside in
    let head : 0 + length (le_bytes 8 total) ≤ length (written from n body) = omega (arith, length-le_bytes 8 total, kept) in
    e₃
    ∙ ap (written 0 (le_bytes 8 total)) (e₂ ∙ ap (written from n) e₁ ∙ written-within from n body out inside)
    ∙ written-within 0 (le_bytes 8 total) (written from n body) out head
    ∙ ap (λ (l : List ℕ). written 0 (written 0 (le_bytes 8 total) l) out) (sym (spliced-written from to n body (omega arith)))
