use Rattle.extent_refs.proofs.Answers.{coded}
use Rattle.extent_refs.proofs.backref_calls.backref_reduce_total.Goals as goal

pub returns : goal.returns
returns c = coded c.reduce_total-answer.ensures c.put_edited.ensures
