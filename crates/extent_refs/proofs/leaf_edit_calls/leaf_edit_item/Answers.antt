use Rattle.extent_refs.proofs.Answers.{coded-part}
use Rattle.extent_refs.proofs.leaf_edit_calls.leaf_edit_item.Goals as goal

pub returns : goal.returns
returns c = coded-part _ _ _ c.item_range-answer.ensures c.put_ranged.ensures
