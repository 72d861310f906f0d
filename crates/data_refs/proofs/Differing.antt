-- Which triples differ, reference by reference. Assumes nothing.
use mathlib.Core.Path.{◌≡◌, ap}
use mathlib.Core.List.{List}
use Prim.Native.Nat.{ℕ, ◌*◌}
use native.Mathlib.Omega.{arith}
use Rattle.data_refs.specs.Triples.{triple_size, Distinct}

-- the row's number times p, as the checker multiplies
pub times : {size : ℕ} (p : ℕ) → size ≡ triple_size → size * p ≡ triple_size * p
times p e = ap (λ (n : ℕ). n * p) e

pub none-twice : (body : List ℕ) (from : ℕ) → Distinct body from 0
none-twice body from = record { differ = λ i j h l. absurd (omega arith) }
