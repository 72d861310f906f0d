use Rattle.std.proofs.Common.{length}
use Rattle.data_refs.specs.Triples.{Distinct}
use Rattle.data_refs.specs.Keys.{chain_of}
use Rattle.data_refs.specs.Chains.{Chained}
use Rattle.data_refs.proofs.chains.chain_all.Given as goal

abbrev pub invariant-loop-i : goal.invariant-loop-i
invariant-loop-i l = Distinct l.refs.body.now l.refs.from l.i × Chained (chain_of l.seed (length l.initial.heads)) l.refs.body.now l.refs.from l.heads l.links l.i
