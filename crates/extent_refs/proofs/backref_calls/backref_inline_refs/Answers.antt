use Rattle.extent_refs.proofs.Answers.{coded}
use Rattle.extent_refs.proofs.backref_calls.backref_inline_refs.Goals as goal

pub returns : goal.returns
returns c = coded c.inline_refs-answer.ensures c.put_edited.ensures
