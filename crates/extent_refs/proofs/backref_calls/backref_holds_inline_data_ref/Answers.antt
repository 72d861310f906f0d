use Rattle.extent_refs.proofs.Answers.{coded-bool}
use Rattle.extent_refs.proofs.backref_calls.backref_holds_inline_data_ref.Goals as goal

pub returns : goal.returns
returns c = coded-bool c.holds_inline_data_ref-answer.ensures c.put_judged.ensures
