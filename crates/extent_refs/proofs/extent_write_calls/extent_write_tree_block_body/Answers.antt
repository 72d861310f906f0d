use Rattle.extent_refs.proofs.Answers.{coded}
use Rattle.extent_refs.proofs.extent_write_calls.extent_write_tree_block_body.Goals as goal

pub returns : goal.returns
returns c = coded c.body-answer.ensures c.put_edited.ensures
