use Rattle.extent_refs.proofs.Answers.{coded}
use Rattle.extent_refs.proofs.transaction_calls.transaction_drop_kept_tree_ref.Goals as goal

pub returns : goal.returns
returns c = coded c.drop_kept_tree_ref-answer.ensures c.put_edited.ensures
