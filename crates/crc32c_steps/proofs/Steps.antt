-- Laws of the steps, for any polynomial `p`. Assumes nothing.
use mathlib.Core.Path.{◌≡◌, ap, ◌∙◌}
use Prim.Native.Nat.{ℕ, zero, suc, ◌+◌, ◌-◌, ◌/◌, ◌%◌, ◌≤◌, ◌<◌}
use native.Mathlib.Nat.{zero-add, suc-add}
use native.Mathlib.Omega.{arith}
use lib.Bits.{bit_xor, xor_zero_r}
use Rattle.crc32c_steps.specs.Steps.{feed, step, steps}

module _ (p : ℕ) where
  pub step-even : (r : ℕ) → r % 2 ≡ 0 → step p r ≡ r / 2
  unfolding step
  step-even r e = ap (λ (bit : ℕ). bit_xor (r / 2) (feed bit p)) e ∙ xor_zero_r (r / 2)

  pub step-odd : (r : ℕ) → (r % 2 ≡ 0 → ⊥) → step p r ≡ bit_xor (r / 2) p
  unfolding step
  step-odd r f =
      let e : r % 2 ≡ 1 = omega arith in
      ap (λ (bit : ℕ). bit_xor (r / 2) (feed bit p)) e

  pub steps-add : (m n r : ℕ) → steps p (m + n) r ≡ steps p n (steps p m r)
  unfolding steps
  steps-add zero n r = ap (λ (k : ℕ). steps p k r) (zero-add n)
  steps-add (suc m) n r = ap (λ (k : ℕ). steps p k r) (suc-add m n) ∙ steps-add m n (step p r)

  -- one of so many steps, and the end
  pub one-step : (n k r : ℕ) → k < n → steps p (n - k) r ≡ steps p (n - (k + 1)) (step p r)
  unfolding steps
  one-step n k r h =
      let e : n - k ≡ suc (n - (k + 1)) = omega arith in
      ap (λ (m : ℕ). steps p m r) e

  pub no_step : (n k r : ℕ) → n ≤ k → steps p (n - k) r ≡ r
  unfolding steps
  no_step n k r h =
      let e : n - k ≡ 0 = omega arith in
      ap (λ (m : ℕ). steps p m r) e
