use mathlib.Core.Path.{◌∙◌}
use Rattle.format.proofs.LeafImages.{position-is}
use Rattle.leaf_image.proofs.headers.Header.position.Goals as goal

pub returns : goal.returns
returns c = c.get_u32_le.ensures ∙ position-is c.args.self.image.now c.args.self.at
