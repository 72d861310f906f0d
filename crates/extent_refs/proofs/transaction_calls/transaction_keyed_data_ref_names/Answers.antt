use Rattle.extent_refs.proofs.Answers.{coded-bool}
use Rattle.extent_refs.proofs.transaction_calls.transaction_keyed_data_ref_names.Goals as goal

pub returns : goal.returns
returns c = coded-bool c.keyed_data_ref_names-answer.ensures c.put_judged.ensures
