use Rattle.extent_refs.proofs.Answers.{coded}
use Rattle.extent_refs.proofs.backref_calls.backref_with_flags.Goals as goal

pub returns : goal.returns
returns c = coded c.with_flags-answer.ensures c.put_edited.ensures
