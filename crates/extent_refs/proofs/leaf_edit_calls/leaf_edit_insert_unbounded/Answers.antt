use Rattle.extent_refs.proofs.Answers.{coded}
use Rattle.extent_refs.proofs.leaf_edit_calls.leaf_edit_insert_unbounded.Goals as goal

pub returns : goal.returns
returns c = coded c.insert_unbounded-answer.ensures c.put_edited.ensures
