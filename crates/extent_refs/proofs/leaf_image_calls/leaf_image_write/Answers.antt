use Rattle.extent_refs.proofs.Answers.{coded}
use Rattle.extent_refs.proofs.leaf_image_calls.leaf_image_write.Goals as goal

pub returns : goal.returns
returns c = coded c.write-answer.ensures c.put_edited.ensures
