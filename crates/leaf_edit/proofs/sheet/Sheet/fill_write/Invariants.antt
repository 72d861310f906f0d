use mathlib.Core.List.{List}
use Prim.Native.Nat.{◌-◌}
use lib.ListN.{length}
use Rattle.format.specs.Items.{Item}
use Rattle.item_list.specs.Steps.{list_items}
use Rattle.item_list.proofs.Steps.{PastItem}
use Rattle.item_list.proofs.Walks.{Walked}
use Rattle.leaf_edit.proofs.Filling.{Writing}
use Rattle.leaf_edit.proofs.sheet.Sheet.fill_write.Given as goal

abbrev pub invariant-loop-at : goal.invariant-loop-at
invariant-loop-at l =
    PastItem l.s l.at l.size × Walked l.s l.at (λ (rest : List Item). Writing l.nodesize (list_items l.s) l.initial.cuts l.cuts l.used l.leaves l.i rest)

abbrev pub decreases-loop-at : goal.decreases-loop-at
decreases-loop-at l = length l.s - l.at
