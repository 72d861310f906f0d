use Rattle.extent_refs.proofs.Answers.{coded}
use Rattle.extent_refs.proofs.transaction_calls.transaction_apply_keyed_add_data.Goals as goal

pub returns : goal.returns
returns c = coded c.apply_keyed_add-answer.ensures c.put_edited.ensures
