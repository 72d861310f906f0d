use Rattle.std.proofs.Common.{◌≤◌}
use Rattle.vectors.proofs.checksums.agreeing.Given as goal

abbrev pub invariant-loop-n : goal.invariant-loop-n
invariant-loop-n l = l.count ≤ l.n
