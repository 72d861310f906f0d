use Prim.Native.Nat.{◌-◌}
use lib.ListN.{length}
use Rattle.balance.proofs.Steps.{Counting}
use Rattle.balance.proofs.span.count.Given as goal

abbrev pub invariant-loop-reference : goal.invariant-loop-reference
invariant-loop-reference l = Counting l.body l.from l.kind l.cursor.at l.n

abbrev pub decreases-loop-reference : goal.decreases-loop-reference
decreases-loop-reference l = length l.body - l.cursor.at
