use mathlib.Core.Path.{◌≡◌}
use Prim.Native.Nat.{◌-◌, ◌≤◌}
use lib.ListN.{length}
use Rattle.item_list.proofs.Steps.{PastItem}
use Rattle.item_list.proofs.Reading.{behind}
use Rattle.item_list.proofs.checking.check_behind.Given as goal

abbrev pub invariant-loop-at : goal.invariant-loop-at
invariant-loop-at l =
    PastItem l.s l.at l.size × (l.n ≤ l.at) × (behind l.before l.ordered l.initial.key l.s l.from ≡ behind l.n l.rising l.key l.s l.at)

abbrev pub decreases-loop-at : goal.decreases-loop-at
decreases-loop-at l = length l.s - l.at
