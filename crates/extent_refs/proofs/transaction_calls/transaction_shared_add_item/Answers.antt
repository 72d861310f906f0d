use Rattle.extent_refs.proofs.Answers.{coded}
use Rattle.extent_refs.proofs.transaction_calls.transaction_shared_add_item.Goals as goal

pub returns : goal.returns
returns c = coded c.shared_add_item-answer.ensures c.put_edited.ensures
