use mathlib.Core.Path.{◌∙◌}
use Rattle.format.proofs.LeafImages.{size_is}
use Rattle.leaf_image.proofs.headers.Header.size.Goals as goal

pub returns : goal.returns
returns c = c.get_u32_le.ensures ∙ size_is c.args.self.image.now c.args.self.at
