use Rattle.extent_refs.proofs.Answers.{coded-number}
use Rattle.extent_refs.proofs.transaction_calls.transaction_record_of.Goals as goal

pub returns : goal.returns
returns c = coded-number c.record_of-answer.ensures c.put_told.ensures
