use Rattle.extent_refs.proofs.Answers.{coded}
use Rattle.extent_refs.proofs.backref_calls.backref_keyed_data_ref_body.Goals as goal

pub returns : goal.returns
returns c = coded c.keyed_data_ref_body-answer.ensures c.put_edited.ensures
