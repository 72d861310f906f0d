use Rattle.extent_refs.proofs.Answers.{coded-bool}
use Rattle.extent_refs.proofs.leaf_edit_calls.leaf_edit_fit.Goals as goal

pub returns : goal.returns
returns c = coded-bool c.fit-answer.ensures c.put_judged.ensures
