use Rattle.extent_refs.proofs.Answers.{coded}
use Rattle.extent_refs.proofs.backref_calls.backref_add_inline_keyed_block.Goals as goal

pub returns : goal.returns
returns c = coded c.add_inline_keyed-answer.ensures c.put_edited.ensures
