use mathlib.Core.Path.{◌≡◌}
use mathlib.Core.Bool.{cond}
use Prim.Native.Nat.{ℕ, ◌+◌, ◌-◌}
use lib.Dec.{eqb}
use lib.ListN.{drop}
use Rattle.format.specs.Bodies.{times}
use Rattle.transaction.proofs.held_counts.equal_end.Given as goal

abbrev pub invariant-loop-at : goal.invariant-loop-at
invariant-loop-at l =
    (x : ℕ) → times x (drop l.start l.offsets) ≡ cond (eqb l.offset x) (l.at - l.start) 0 + times x (drop l.at l.offsets)
