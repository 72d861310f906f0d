use Rattle.extent_refs.proofs.Answers.{coded-number}
use Rattle.extent_refs.proofs.transaction_calls.transaction_max_inline_extent_item.Goals as goal

pub returns : goal.returns
returns c = coded-number c.max_inline_extent_item-answer.ensures c.put_told.ensures
