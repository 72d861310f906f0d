-- Document 02, ticket 1, "Giving back part of a shared reference": what is added and dropped again, what is dropped in two parts,
-- and when question 22 is answered "no". To add is the documents' "give", to drop their "take". Assumes nothing.
use Rattle.std.specs.Prelude.{◌≡◌, List, ℕ, ◌+◌, ◌≤◌, ◌<◌, T, length}
use Rattle.fields.specs.Lists.{Cut}
use Rattle.fields.specs.Numbers.{are_bytes}
use Rattle.format.specs.declared.SharedRef.{SharedRef}
use Rattle.format.specs.declared.Change.TheVariants.{AddShared, DropShared}
use Rattle.format.specs.Questions.{refused, accepted}
use Rattle.format.specs.Bodies.{shared_kind}
use Rattle.format.specs.Items.{Item}
use Rattle.format.specs.Names.{Name, count}
use Rattle.format.specs.Ledger.{name_of, posted}
use Rattle.theorems.specs.Acceptance.{UpToFive, Exactly}
use Rattle.theorems.specs.Demand.{Wide}

-- ---- "an accepted shared give of an amount followed by taking that amount restores the sheet byte for byte"

-- "the second call of such a law has the first's nodesize and room enough". A sheet that is not balanced accepts nothing
abbrev pub GivenBack : Type 0
GivenBack = (nodesize : ℕ) (sheet after : List ℕ) (extent : ℕ) (name : SharedRef) (amount room enough : ℕ) → T (are_bytes sheet)
    → Wide (AddShared extent name amount)
    → posted nodesize sheet (AddShared extent name amount) room ≡ accepted after
    → length sheet ≤ enough
    → posted nodesize after (DropShared extent name amount) enough ≡ accepted sheet

-- ---- a drop of one part and then of another is the drop of their sum

pub record InTwoParts (nodesize : ℕ) (sheet : List ℕ) (extent : ℕ) (name : SharedRef) (first second enough room : ℕ) (result : List ℕ) : Type 0 where
  pub between : List ℕ
  pub drops-first : posted nodesize sheet (DropShared extent name first) enough ≡ accepted between
  pub drops-second : posted nodesize between (DropShared extent name second) room ≡ accepted result

abbrev pub AddsUp : Type 0
AddsUp = (nodesize : ℕ) (sheet : List ℕ) (extent : ℕ) (name : SharedRef) (first second enough room : ℕ) (result : List ℕ) → T (are_bytes sheet)
    → 1 ≤ first → 1 ≤ second → length sheet ≤ enough
    → Exactly (InTwoParts nodesize sheet extent name first second enough room result)
    (posted nodesize sheet (DropShared extent name (first + second)) room ≡ accepted result)

-- ---- "22 when the amount is above what stands"

pub record StandsWithLess (nodesize : ℕ) (sheet : List ℕ) (n : Name) (amount : ℕ) : Type 0 where
  pub items : List Item
  pub at : Cut Item
  pub kind : T (shared_kind n.kind)  -- 3
  pub up_to_five : UpToFive nodesize sheet n.extent items at  -- 1 to 5
  pub named : 1 ≤ count n items  -- 5
  pub less : count n items < amount  -- 22

-- whatever the room
abbrev pub TooMuch : Type 0
TooMuch = (nodesize : ℕ) (sheet : List ℕ) (extent : ℕ) (name : SharedRef) (amount room : ℕ) → T (are_bytes sheet)
    → Exactly (posted nodesize sheet (DropShared extent name amount) room ≡ refused 22)
    (StandsWithLess nodesize sheet (name_of (DropShared extent name amount)) amount)
