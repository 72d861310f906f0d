use Rattle.extent_refs.proofs.Answers.{coded}
use Rattle.extent_refs.proofs.backref_calls.backref_drop_inline_data_ref.Goals as goal

pub returns : goal.returns
returns c = coded c.drop_inline_data_ref-answer.ensures c.put_edited.ensures
