use mathlib.Core.Path.{◌≡◌}
use Prim.Native.Nat.{◌+◌, ◌*◌, ◌≤◌}
use lib.ListN.{length}
use Rattle.data_refs.specs.Triples.{triple_size}
use Rattle.balance.specs.Spans.{OneRank}
use Rattle.balance.proofs.together.count.Given as goal

abbrev pub invariant-loop-n : goal.invariant-loop-n
invariant-loop-n l = (l.next ≡ l.from + triple_size * l.n) × ((l.next ≤ length l.body) × ((l.n ≤ 2259) × OneRank l.body l.from l.passed l.n l.own))
