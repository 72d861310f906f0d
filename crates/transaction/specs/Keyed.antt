-- The two ways of apply_keyed_add: the body left as it is, or a planned edit. Assumes nothing.
use Rattle.std.specs.Prelude.{Bool, true, false, List, ℕ, eqb, max}
use Rattle.format.specs.declared.Keyed.{Keyed}
use Rattle.format.specs.declared.Keyed.TheVariants.{Block, Data}
use Rattle.format.specs.Questions.{Answer}
use Rattle.format.specs.Bodies.{raise_total, add_inline_tree_ref, add_inline_data}
use Rattle.format.specs.Items.{Item}
use Rattle.format.specs.Apply.{inline_limit}

-- "its Data case inline with amount 0 leaves the body unread"
unfoldable pub unread : Keyed → ℕ → Bool → Bool
unread keyed count true = false
unread (Block block) count false = false
unread (Data d) count false = eqb count 0

-- the new body where it is read
unfoldable pub keyed_plan : Item → Keyed → ℕ → Bool → Answer (List ℕ)
keyed_plan i keyed count true = raise_total i.bytes count
keyed_plan i (Block block) count false = add_inline_tree_ref i.key.kind i.bytes block
keyed_plan i (Data d) count false = add_inline_data i.key.kind i.bytes d count

-- what question 17 asks of a body that had so many bytes: "only if the body grew", or always
unfoldable pub limit_for : ℕ → ℕ → Bool → ℕ
limit_for nodesize size true = max size (inline_limit nodesize)
limit_for nodesize size false = inline_limit nodesize
