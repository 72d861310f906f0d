use mathlib.Core.Path.{ap}
use lib.Dec.{leb}
use Rattle.format.specs.References.{counted}
use Rattle.backref.proofs.new_bytes.counts.Goals as goal

pub returns : goal.returns
unfolding counted
returns c = ap (leb 1) c.lengths_for.ensures.1
