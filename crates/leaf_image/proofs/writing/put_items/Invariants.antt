use mathlib.Core.List.{List}
use Prim.Native.Nat.{◌-◌}
use lib.ListN.{length}
use Rattle.format.specs.Items.{Item}
use Rattle.item_list.specs.Steps.{list_items}
use Rattle.item_list.proofs.Steps.{PastItem}
use Rattle.item_list.proofs.Walks.{Walked}
use Rattle.leaf_image.proofs.Written.{Placing}
use Rattle.leaf_image.proofs.writing.put_items.Given as goal

abbrev pub invariant-loop-from : goal.invariant-loop-from
invariant-loop-from l =
    PastItem l.leaf.sheet.now l.from l.size × Walked l.leaf.sheet.now l.from (λ (rest : List Item). Placing l.leaf.nodesize (list_items l.leaf.sheet.now) l.initial.out l.out l.at l.end rest)

abbrev pub decreases-loop-from : goal.decreases-loop-from
decreases-loop-from l = length l.leaf.sheet.now - l.from
