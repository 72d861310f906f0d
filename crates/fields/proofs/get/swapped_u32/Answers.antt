use Rattle.fields.specs.Numbers.{be_bytes, le_bytes}
use Rattle.fields.proofs.get.swapped_u32.Goals as goal

pub returns : goal.returns
unfolding be_bytes le_bytes
returns c = c.join_bytes.ensures
