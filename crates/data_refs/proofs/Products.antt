-- A chain is one of those that there are. Assumes nothing.
use Prim.Native.Nat.{ℕ, ◌*◌, ◌/◌, ◌%◌, ◌≤◌, ◌<◌}
use native.Mathlib.Nat.{mul-lt-mul_of_pos_right}
use native.Mathlib.Omega.{arith}

pub scaled-below : (x n : ℕ) → 1 ≤ n → x % 4294967296 * n / 4294967296 < n
scaled-below x n some =
    let h : x % 4294967296 < 4294967296 = omega arith in
    let k : x % 4294967296 * n < 4294967296 * n = mul-lt-mul_of_pos_right h some in
    omega (arith, k)
