use mathlib.Core.Path.{◌≡◌}
use mathlib.Core.List.{List}
use Prim.Native.Nat.{◌-◌}
use lib.ListN.{length}
use Rattle.format.specs.Items.{Item}
use Rattle.format.specs.Names.{balanced}
use Rattle.item_list.specs.Steps.{list_items}
use Rattle.item_list.proofs.Steps.{PastItem}
use Rattle.item_list.proofs.Walks.{Walked}
use Rattle.balance.specs.Tally.{pass}
use Rattle.balance.specs.Groups.{tally_of, GroupKept}
use Rattle.balance.proofs.walk.balanced.Given as goal

abbrev pub invariant-loop-at : goal.invariant-loop-at
invariant-loop-at l =
    PastItem l.sheet l.at l.size × Walked l.sheet l.at (λ (items : List Item). pass items (tally_of l.sheet l.g) ≡ balanced (list_items l.sheet)) × GroupKept l.sheet l.g l.at

abbrev pub decreases-loop-at : goal.decreases-loop-at
decreases-loop-at l = length l.sheet - l.at
