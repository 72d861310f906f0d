use Rattle.extent_refs.proofs.Answers.{coded-ref}
use Rattle.extent_refs.proofs.backref_calls.backref_inline_ref.Goals as goal

pub returns : goal.returns
returns c = coded-ref c.inline_ref-answer.ensures.0 c.put_picked.ensures
