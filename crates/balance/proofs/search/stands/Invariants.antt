use Rattle.balance.proofs.Halves.{Scanning}
use Rattle.balance.proofs.search.stands.Given as goal

abbrev pub invariant-loop-j : goal.invariant-loop-j
invariant-loop-j l = Scanning l.body l.span l.wanted l.rank l.j
