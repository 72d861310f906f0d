-- The division of items into leaves, as one pass finds it. Assumes nothing.
use Rattle.std.specs.Prelude.{◌≡◌, Bool, true, false, ◌&&◌, cond, List, ℕ, ◌+◌, ◌-◌, ◌*◌, ◌≤◌, leb, ltb, length, Option, Some, None, Result, Ok, Err}
use Rattle.std.proofs.Math.Option.{Option as Maybe, none, some}
use Rattle.fields.specs.Lists.{all}
use Rattle.format.specs.Items.{Item}
use Rattle.format.specs.Sheets.{item_space, space_of, gap_of, best_cut, filled}
use Rattle.item_list.specs.Steps.{IsList, list_items}
use Rattle.format.specs.declared.Refusal.{Refusal}
use Rattle.leaf_edit.specs.declared.two_way.Cut.{Cut}
use Rattle.leaf_edit.specs.declared.division.Division.{Division}
use Rattle.leaf_edit.specs.declared.division.Division.TheVariants.{TwoWay, Leaves}

-- what the pass of questions 1 and 2 has shown of an item list with so many items
pub record Sized (s : List ℕ) (count : ℕ) : Type 0 where
  pub listed : IsList s
  pub count-is : length (list_items s) ≡ count
  pub few : count ≤ 4096
  pub small : length s ≤ 262144
  pub space-is : space_of (list_items s) ≡ 100 + length s + 4 * count

-- an item fits a leaf alone
abbrev pub fits_alone : ℕ → Item → Bool
fits_alone nodesize i = leb (101 + item_space i) nodesize

-- what the measuring pass answers: a division, or refusal 18 where an item does not fit a leaf alone
abbrev pub Divided : ℕ → List Item → Result Division Refusal → Type 0
Divided nodesize items (Err refusal) = (refusal.number ≡ 18) × (all (fits_alone nodesize) items ≡ false)
Divided nodesize items (Ok (TwoWay at)) =
    (all (fits_alone nodesize) items ≡ true) × (best_cut nodesize items (length items - 1) ≡ some at)
Divided nodesize items (Ok (Leaves leaves)) =
    (all (fits_alone nodesize) items ≡ true) × (best_cut nodesize items (length items - 1) ≡ none) × (leaves ≡ length (filled nodesize 0 101 items))

-- a cut with its gap
abbrev pub cut_of : ℕ → ℕ → Cut
cut_of at gap = record { at = at; gap = gap }

unfoldable pub cutting_of : List Item → Maybe ℕ → Option Cut
cutting_of items none = None
cutting_of items (some at) = Some (cut_of at (gap_of items at))

-- the closer of two cuts, the earlier where they are as close
unfoldable pub closest : ℕ → ℕ → Option Cut → Option Cut
closest at gap None = Some (cut_of at gap)
closest at gap (Some other) = cond (ltb gap other.gap) (Some (cut_of at gap)) (Some other)

-- the cut before an item, whose leaves take `left` and `right`: it counts where both hold an item and fit
unfoldable pub improved : ℕ → ℕ → ℕ → ℕ → Option Cut → Option Cut
improved nodesize left right at best =
    cond (leb 1 at && (leb left nodesize && leb right nodesize)) (closest at ((left - right) + (right - left)) best) best

-- a two-way cut goes before leaves filled from the left
abbrev pub chosen : Option Cut → ℕ → Division
chosen (Some cut) leaves = TwoWay cut.at
chosen None leaves = Leaves leaves
