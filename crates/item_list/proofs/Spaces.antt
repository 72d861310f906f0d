-- The space of items in a leaf, from the length of their bytes. Assumes nothing.
use mathlib.Core.Path.{◌≡◌, refl, ◌∙◌}
use mathlib.Core.List.{List, [], ◌∷◌, ◌++◌}
use Prim.Native.Nat.{ℕ, ◌+◌, ◌*◌}
use native.Mathlib.Omega.{arith}
use lib.ListN.{length}
use Rattle.fields.specs.Lists.{sum}
use Rattle.fields.proofs.Lists.{sum-append}
use Rattle.format.specs.Items.{Item, sheet_bytes}
use Rattle.format.specs.Sheets.{item_space, space_of}
use Rattle.format.proofs.Items.{length-items_bytes, length-sheet_bytes}
use Rattle.item_list.specs.Steps.{list_items}
use Rattle.item_list.proofs.Reading.{Counted}

sums : (items : List Item) → sum item_space items ≡ sum (λ i. 21 + length i.bytes) items + 4 * length items
unfolding item_space
sums [] = refl
sums (i ∷ items) = omega (arith, sums items)

pub space-is : (items : List Item) → space_of items ≡ 100 + length (sheet_bytes items) + 4 * length items
unfolding space_of
space-is items = omega (arith, sums items, length-items_bytes items, length-sheet_bytes items)

-- of an item list with so many items
pub space-sheet : (s : List ℕ) (n : ℕ) → Counted s n → space_of (list_items s) ≡ 100 + length s + 4 * n
space-sheet s n c =
    space-is (list_items s)
    ∙ (λ j. 100 + length (c.bytes-are j) + 4 * c.count j)

-- of two runs of items
pub space-append : (a b : List Item) → space_of (a ++ b) + 101 ≡ space_of a + space_of b
unfolding space_of
space-append a b = omega (arith, sum-append item_space a b)

pub space-cons : (i : Item) (items : List Item) → space_of (i ∷ items) ≡ item_space i + space_of items
unfolding space_of
space-cons i items = omega arith
