use Prim.Native.Nat.{◌-◌}
use Rattle.balance.proofs.Halves.{Halving, Aims}
use Rattle.balance.proofs.search.first_below.Given as goal

abbrev pub invariant-loop-bounds : goal.invariant-loop-bounds
invariant-loop-bounds l = Halving l.body l.span l.rank l.bounds × Aims l.bounds l.mid l.step

abbrev pub decreases-loop-bounds : goal.decreases-loop-bounds
decreases-loop-bounds l = l.bounds.high - l.bounds.low
