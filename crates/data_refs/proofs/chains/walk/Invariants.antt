use Rattle.format.specs.Bodies.{triple}
use Rattle.data_refs.specs.Chains.{Leading}
use Rattle.data_refs.proofs.chains.walk.Given as goal

abbrev pub invariant-loop-at : goal.invariant-loop-at
invariant-loop-at l = Leading l.refs.body.now l.refs.from l.links l.i l.at (triple l.t)

abbrev pub decreases-loop-at : goal.decreases-loop-at
decreases-loop-at l = l.at
