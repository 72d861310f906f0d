use Rattle.extent_refs.proofs.Answers.{coded-key}
use Rattle.extent_refs.proofs.transaction_calls.transaction_shared_add_key.Goals as goal

pub returns : goal.returns
returns c = coded-key c.shared_add_key-answer.ensures c.put_filed.ensures
