use Prim.Native.Nat.{◌-◌}
use lib.ListN.{length}
use Rattle.balance.proofs.Steps.{Skipping}
use Rattle.balance.proofs.span.skip.Given as goal

abbrev pub invariant-loop-reference : goal.invariant-loop-reference
invariant-loop-reference l = Skipping l.body l.start l.kind l.cursor.at

abbrev pub decreases-loop-reference : goal.decreases-loop-reference
decreases-loop-reference l = length l.body - l.cursor.at
