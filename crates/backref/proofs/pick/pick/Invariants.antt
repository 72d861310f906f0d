use mathlib.Core.Path.{◌≡◌}
use Prim.Native.Nat.{◌-◌}
use lib.ListN.{length}
use Rattle.backref.proofs.Picks.{Going}
use Rattle.backref.proofs.pick.pick.Given as goal

abbrev pub invariant-loop-reference : goal.invariant-loop-reference
invariant-loop-reference l = Going l.body l.start l.index l.reader.at l.left × (l.reader.body.now ≡ l.body)

abbrev pub decreases-loop-reference : goal.decreases-loop-reference
decreases-loop-reference l = length l.body - l.reader.at
