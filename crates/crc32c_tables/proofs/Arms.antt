-- What the arms of a `match` over n + 256 know that has an arm for each number from 256 to 511, and one for the rest. Assumes
-- nothing.
use mathlib.Core.Path.{◌≡◌, ap, ◌∙◌}
use mathlib.Core.List.{[], ◌∷◌}
use Prim.Native.Nat.{ℕ, zero, suc, ◌+◌, ◌-◌, ◌*◌, ◌≤◌, ◌<◌}
use native.Mathlib.Omega.{arith}
use types.Run.{OneOf}
use lib.ListN.{get_or}
use Rattle.crc32c_steps.specs.Steps.{crc32c, steps}
use Rattle.crc32c_steps.proofs.Rows.{row_at}
use Rattle.crc32c_tables.proofs.Array.{array, array-rows}

-- an arm's key is a numeral, so the entry at it is at hand; it is that of n
pub arm-of : (k : ℕ) → k < 4 → {n key : ℕ} → n < 256 → n + 256 ≡ key → get_or (get_or array k []) (key - 256) 0 ≡ steps crc32c (8 * (k + 1)) n
arm-of k h {n} {key} b e =
    let byte : key - 256 ≡ n = omega arith in
    ap (λ (m : ℕ). get_or (get_or array k []) m 0) byte ∙ row_at crc32c 4 k n array-rows h b

-- x is none of the n numbers from 256 on
abbrev pub NoneOf : ℕ → ℕ → Type 0
NoneOf zero x = Unit {0}
NoneOf (suc n) x = NoneOf n x × (OneOf ((256 + n) ∷ []) x → ⊥)

past : (n x : ℕ) → 256 ≤ x → NoneOf n x → 256 + n ≤ x
past zero x low h = low
past (suc n) x low h =
    let up : 256 + n ≤ x = past n x low h.0 in
    let no : x ≡ 256 + n → ⊥ = h.1 in
    omega arith

-- the last arm is never taken
pub never : (n : ℕ) → NoneOf 256 (n + 256) → n < 256 → ⊥
never n h b =
    let up : 512 ≤ n + 256 = past 256 (n + 256) (omega arith) h in
    omega arith
