use Rattle.extent_refs.proofs.Answers.{coded-taken}
use Rattle.extent_refs.proofs.backref_calls.backref_take_inline_shared.Goals as goal

pub returns : goal.returns
returns c = coded-taken c.take_inline_shared-answer.ensures c.put_taken.ensures
