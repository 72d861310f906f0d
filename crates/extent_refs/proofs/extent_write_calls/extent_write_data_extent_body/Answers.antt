use Rattle.extent_refs.proofs.Answers.{coded}
use Rattle.extent_refs.proofs.extent_write_calls.extent_write_data_extent_body.Goals as goal

pub returns : goal.returns
returns c = coded c.data_extent_body-answer.ensures c.put_edited.ensures
