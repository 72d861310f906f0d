use Rattle.std.proofs.Common.{◌≡◌, ◌-◌, length}
use Rattle.input.specs.Reads.{FilledTo}
use Rattle.input.proofs.read_all.Given as goal

abbrev pub invariant-loop-at : goal.invariant-loop-at
invariant-loop-at g l = FilledTo l.at l.initial.buf l.buf × (length l.buf ≡ length l.initial.buf)

abbrev pub decreases-loop-at : goal.decreases-loop-at
decreases-loop-at g l = length l.buf - l.at
