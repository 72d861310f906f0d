use mathlib.Core.Path.{◌≡◌}
use mathlib.Core.List.{List}
use Prim.Native.Nat.{◌-◌}
use lib.ListN.{length}
use Rattle.format.specs.Items.{Item}
use Rattle.item_list.specs.Steps.{list_items_from}
use Rattle.item_list.specs.Seeks.{seek_in}
use Rattle.item_list.proofs.Walks.{Walked}
use Rattle.item_list.proofs.search.seek.Given as goal

abbrev pub invariant-loop-at : goal.invariant-loop-at
invariant-loop-at l = Walked l.s l.at (λ (items : List Item). seek_in l.key l.from (list_items_from l.s l.from) ≡ seek_in l.key l.at items)

abbrev pub decreases-loop-at : goal.decreases-loop-at
decreases-loop-at l = length l.s - l.at
