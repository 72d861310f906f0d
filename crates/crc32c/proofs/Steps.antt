-- Laws of the register's steps and runs, for any polynomial `p`. The steps are linear over xor, which is why a table of 256 entries
-- is enough. Assumes nothing.
use mathlib.Core.Path.{◌≡◌, refl, sym, ap, ap₂, ◌∙◌}
use mathlib.Core.List.{List, [], ◌∷◌, ◌++◌}
use Prim.Native.Nat.{ℕ, zero, suc, ◌+◌, ◌*◌, ◌/◌, ◌%◌, ◌^◌, ◌≤◌, ◌<◌}
use native.Mathlib.Nat.{mod-lt, div-eq_of_lt, mul-one}
use lib.ListN.{length, drop, drop_of_length-le}
use lib.Pow.{pow_pos, split}
use lib.Bits.{bit_xor, xor_zero_r, xor_self, xor_shr, xor_shifted, shifted_half, shifted_even}
use Rattle.crc32c_steps.proofs.Steps.{steps-add}
use Rattle.crc32c.specs.Register.{feed, step, steps, byte_step, crc_run}
use Rattle.crc32c.proofs.Xor.{Bit, b0, b1, bit, xor-half, xor-bit, xor-swap}

module _ (p : ℕ) where
  feed-xor : {x y : ℕ} → Bit x → Bit y → feed (bit_xor x y) p ≡ bit_xor (feed x p) (feed y p)
  feed-xor b0 b0 = refl
  feed-xor b0 b1 = refl
  feed-xor b1 b0 = sym (xor_zero_r p)
  feed-xor b1 b1 = sym (xor_self p)

  step-xor : (a b : ℕ) → step p (bit_xor a b) ≡ bit_xor (step p a) (step p b)
  unfolding step
  step-xor a b =
      ap₂ (λ (x y : ℕ). bit_xor x (feed y p)) (xor-half a b) (xor-bit a b)
      ∙ ap (bit_xor (bit_xor (a / 2) (b / 2))) (feed-xor (bit a) (bit b))
      ∙ xor-swap (a / 2) (b / 2) (feed (a % 2) p) (feed (b % 2) p)

  -- linearity: n steps of a xor are the xor of n steps of each
  pub steps-xor : (n a b : ℕ) → steps p n (bit_xor a b) ≡ bit_xor (steps p n a) (steps p n b)
  unfolding steps
  steps-xor zero a b = refl
  steps-xor (suc n) a b = ap (steps p n) (step-xor a b) ∙ steps-xor n (step p a) (step p b)

  step-shifted : (a k : ℕ) → step p (a * 2 ^ suc k) ≡ a * 2 ^ k
  unfolding step
  step-shifted a k =
      ap₂ (λ (x y : ℕ). bit_xor x (feed y p)) (shifted_half a k) (shifted_even a k) ∙ xor_zero_r (a * 2 ^ k)

  -- k steps shift a number with k zeros at its end down, and meet no odd register
  pub steps-shifted : (k a : ℕ) → steps p k (a * 2 ^ k) ≡ a
  unfolding steps
  steps-shifted zero a = mul-one a
  steps-shifted (suc k) a = ap (steps p k) (step-shifted a k) ∙ steps-shifted k a

  -- k steps and more: the high part goes down by k, and the k low bits go their own way
  pub steps-split : (k n x : ℕ) → steps p (k + n) x ≡ bit_xor (steps p n (x / 2 ^ k)) (steps p (k + n) (x % 2 ^ k))
  steps-split k n x =
      ap (steps p (k + n)) (sym (split x k) ∙ sym (xor_shifted (x / 2 ^ k) k (x % 2 ^ k) (mod-lt x (pow_pos k))))
      ∙ steps-xor (k + n) (x / 2 ^ k * 2 ^ k) (x % 2 ^ k)
      ∙ ap (λ (y : ℕ). bit_xor y (steps p (k + n) (x % 2 ^ k)))
      (steps-add p k n (x / 2 ^ k * 2 ^ k) ∙ ap (steps p n) (steps-shifted k (x / 2 ^ k)))

  -- a byte step by a table of eight steps
  pub byte-by-table : (r b : ℕ) → b < 2 ^ 8 → byte_step p r b ≡ bit_xor (r / 2 ^ 8) (steps p 8 (bit_xor r b % 2 ^ 8))
  unfolding byte_step steps
  byte-by-table r b h =
      steps-split 8 0 (bit_xor r b)
      ∙ ap (λ (y : ℕ). bit_xor y (steps p 8 (bit_xor r b % 2 ^ 8)))
      (xor_shr r b 8 ∙ ap (bit_xor (r / 2 ^ 8)) (div-eq_of_lt h) ∙ xor_zero_r (r / 2 ^ 8))

  pub run-append : (xs ys : List ℕ) (r : ℕ) → crc_run p r (xs ++ ys) ≡ crc_run p (crc_run p r xs) ys
  unfolding crc_run
  run-append [] ys r = refl
  run-append (x ∷ xs) ys r = run-append xs ys (byte_step p r x)

  -- the end of a run
  pub run-done : (r : ℕ) (bs : List ℕ) (i : ℕ) → length bs ≤ i → crc_run p r (drop i bs) ≡ r
  unfolding crc_run
  run-done r bs i h = ap (crc_run p r) (drop_of_length-le bs h)
