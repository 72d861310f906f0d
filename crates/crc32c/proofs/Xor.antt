-- Laws of xor that the logic's library lacks: it is associative, and it works on halves and on low bits apart. Assumes nothing.
use mathlib.Core.Path.{◌≡◌, refl, sym, ap, ap₂, ◌∙◌}
use Prim.Native.Nat.{ℕ, zero, suc, ◌+◌, ◌*◌, ◌/◌, ◌%◌, ◌<◌}
use native.Mathlib.Nat.{mod-lt, not-suc-le-zero, le_of_suc-le-suc, zero-lt-suc}
use lib.Arith.{bin_ind}
use lib.Bits.{bit_xor, differ, xor_step, xor_comm, xor_shr, xor_mod}

-- a number that is 0 or 1
pub data Bit : ℕ → Type 0 where
  b0 : Bit 0
  b1 : Bit 1

bit-of : (x : ℕ) → x < 2 → Bit x
bit-of zero h = b0
bit-of (suc zero) h = b1
bit-of (suc (suc x)) h = absurd (not-suc-le-zero (le_of_suc-le-suc (le_of_suc-le-suc h)))

pub bit : (n : ℕ) → Bit (n % 2)
bit n = bit-of (n % 2) (mod-lt n (zero-lt-suc 1))

pub xor-half : (a b : ℕ) → bit_xor a b / 2 ≡ bit_xor (a / 2) (b / 2)
xor-half a b = xor_shr a b 1

pub xor-bit : (a b : ℕ) → bit_xor a b % 2 ≡ bit_xor (a % 2) (b % 2)
xor-bit a b = xor_mod a b 1

bit-assoc : {x y z : ℕ} → Bit x → Bit y → Bit z → differ (bit_xor x y) z ≡ differ x (bit_xor y z)
bit-assoc b0 b0 b0 = refl
bit-assoc b0 b0 b1 = refl
bit-assoc b0 b1 b0 = refl
bit-assoc b0 b1 b1 = refl
bit-assoc b1 b0 b0 = refl
bit-assoc b1 b0 b1 = refl
bit-assoc b1 b1 b0 = refl
bit-assoc b1 b1 b1 = refl

pub xor_assoc : (a b c : ℕ) → bit_xor (bit_xor a b) c ≡ bit_xor a (bit_xor b c)
xor_assoc a =
    bin_ind (λ (n : ℕ). (b c : ℕ) → bit_xor (bit_xor n b) c ≡ bit_xor n (bit_xor b c)) (λ b c. refl)
    (λ n ih b c.
    xor_step (bit_xor n b) c
    ∙ ap₂ (λ (x y : ℕ). bit_xor x (c / 2) * 2 + differ y (c % 2)) (xor-half n b) (xor-bit n b)
    ∙ ap₂ (λ (x y : ℕ). x * 2 + y) (ih (b / 2) (c / 2)) (bit-assoc (bit n) (bit b) (bit c))
    ∙ sym (ap₂ (λ (x y : ℕ). bit_xor (n / 2) x * 2 + differ (n % 2) y) (xor-half b c) (xor-bit b c))
    ∙ sym (xor_step n (bit_xor b c)))
    a

-- the middle two change places
pub xor-swap : (a b c d : ℕ) → bit_xor (bit_xor a b) (bit_xor c d) ≡ bit_xor (bit_xor a c) (bit_xor b d)
xor-swap a b c d =
    xor_assoc a b (bit_xor c d)
    ∙ ap (bit_xor a) (sym (xor_assoc b c d) ∙ ap (λ (x : ℕ). bit_xor x d) (xor_comm b c) ∙ xor_assoc c b d)
    ∙ sym (xor_assoc a c (bit_xor b d))
