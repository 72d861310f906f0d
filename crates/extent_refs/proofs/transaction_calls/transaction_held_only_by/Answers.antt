use Rattle.extent_refs.proofs.Answers.{coded-bool}
use Rattle.extent_refs.proofs.transaction_calls.transaction_held_only_by.Goals as goal

pub returns : goal.returns
returns c = coded-bool c.held_only_by-answer.ensures c.put_judged.ensures
