use Rattle.extent_refs.proofs.Answers.{coded-number}
use Rattle.extent_refs.proofs.backref_calls.backref_flags.Goals as goal

pub returns : goal.returns
returns c = coded-number c.flags-answer.ensures c.put_told.ensures
