use mathlib.Core.Path.{refl}
use Rattle.format.specs.Bodies.{tree_block_key}
use Rattle.extent_write.proofs.TreeBlockAllocation.key.Goals as goal

pub returns : goal.returns
unfolding tree_block_key
returns c = refl
