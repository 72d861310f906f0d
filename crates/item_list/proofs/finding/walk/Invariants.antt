use mathlib.Core.Path.{◌≡◌}
use Prim.Native.Nat.{◌-◌, ◌≤◌}
use lib.ListN.{length, drop}
use Rattle.format.specs.Questions.{accepted, ask, bind}
use Rattle.format.specs.Items.{read_items, rising}
use Rattle.item_list.specs.Seeks.{passing, listing_of}
use Rattle.item_list.proofs.Steps.{PastItem}
use Rattle.item_list.proofs.Reading.{searched}
use Rattle.item_list.proofs.finding.walk.Given as goal

abbrev pub invariant-loop-at : goal.invariant-loop-at
invariant-loop-at l =
    PastItem l.s l.at l.size × (l.n ≤ l.at) × (listing_of (passing l.query) (bind (read_items 4096 (drop 1 l.s)) (λ items. ask (rising items) 2 (accepted items))) ≡ searched (passing l.query) l.n l.ordered l.key l.s l.at)

abbrev pub decreases-loop-at : goal.decreases-loop-at
decreases-loop-at l = length l.s - l.at
