use Rattle.extent_refs.proofs.Answers.{coded-number}
use Rattle.extent_refs.proofs.transaction_calls.transaction_shared_add_inline_size.Goals as goal

pub returns : goal.returns
returns c = coded-number c.shared_add_inline_size-answer.ensures c.put_told.ensures
