use Rattle.std.proofs.Common.{◌≤◌}
use Rattle.vectors.proofs.tables.agreeing_down.Given as goal

abbrev pub invariant-loop-entry : goal.invariant-loop-entry
invariant-loop-entry l = l.count ≤ l.entry-index
