use Rattle.std.proofs.Common.{◌-◌, ◌≤◌, length}
use Rattle.demo.proofs.words.print.Given as goal

abbrev pub invariant-loop-at : goal.invariant-loop-at
invariant-loop-at g l = 1 ≤ l.at

abbrev pub decreases-loop-at : goal.decreases-loop-at
decreases-loop-at g l = length l.list - l.at
