use mathlib.Core.Path.{◌≡◌}
use Prim.Native.Nat.{◌-◌, ◌≤◌}
use lib.ListN.{length}
use Rattle.backref.proofs.RefPositions.{Placing}
use Rattle.backref.proofs.positions.put_positions.Given as goal

abbrev pub invariant-loop-positions : goal.invariant-loop-positions
invariant-loop-positions l =
    Placing l.body l.initial.positions l.positions l.start l.reader.at l.i × (l.i ≤ l.reader.at) × (l.at ≡ l.reader.at) × (l.reader.body.now ≡ l.body)

abbrev pub decreases-loop-positions : goal.decreases-loop-positions
decreases-loop-positions l = length l.body - l.reader.at
