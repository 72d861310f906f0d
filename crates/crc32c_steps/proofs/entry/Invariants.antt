use mathlib.Core.Path.{◌≡◌}
use Prim.Native.Nat.{◌-◌, ◌≤◌}
use Rattle.crc32c_steps.specs.Steps.{steps}
use Rattle.crc32c_steps.proofs.entry.Given as goal

-- `crc32c_steps::entry` meets its contract. The loop's invariant: the steps that are left lead to the result.
-- Assumes nothing.

abbrev pub invariant-loop-k : goal.invariant-loop-k
invariant-loop-k l = (l.k ≤ 8) × (steps l.polynomial (8 - l.k) l.register ≡ steps l.polynomial 8 l.n)

abbrev pub decreases-loop-k : goal.decreases-loop-k
decreases-loop-k l = 8 - l.k
