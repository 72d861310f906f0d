-- What stands at a position of an item list (document 01's sheet), and what the pass over its items answers. Assumes nothing.
use Rattle.std.specs.Prelude.{◌≡◌, Bool, true, false, ◌&&◌, cond, List, [], ◌∷◌, ℕ, zero, suc, ◌+◌, eqb, leb, length, drop, Result, Ok}
use Rattle.format.specs.declared.Key.{Key}
use Rattle.format.specs.declared.Refusal.{Refusal}
use Rattle.format.specs.Questions.{Answer, accepted, result_or_code, denied}
use Rattle.format.specs.Items.{Item, key_below, item_length, whole_item, first_item, read_items, read_sheet}
unfoldable pub use Rattle.format.specs.History.{items_in}

-- ---- one step

-- the item that starts at a position
unfoldable pub item_at : List ℕ → ℕ → Item
item_at s at = first_item (drop at s)

-- how many bytes it takes, or 0 if it is not whole
unfoldable pub item_size_at : List ℕ → ℕ → ℕ
item_size_at s at = cond (whole_item (drop at s)) (4 + item_length (drop at s)) 0

-- ---- questions 1 and 2

-- question 1 before the items: version and length
unfoldable pub opens_list : List ℕ → Bool
opens_list [] = false
opens_list (version ∷ bytes) = eqb version 1 && leb (1 + length bytes) 262144

-- a first key follows whatever stands before it; a later one must be above the last
unfoldable pub following : ℕ → Key → Key → Bool
following zero last key = true
following (suc n) last key = key_below last key

-- the number of items. The reader decides (format/proofs/Decisions, `sheet-decides`), so 100 and 101 do not come
unfoldable pub checked_of : Answer (List Item) → Result ℕ Refusal
checked_of answer = result_or_code denied (λ items. Ok (length items)) answer

-- the items of an accepted list
abbrev pub list_items : List ℕ → List Item
list_items s = items_in (read_sheet s)

-- what `check` has shown: the bytes are an item list
pub record IsList (s : List ℕ) : Type 0 where
  pub reads : read_sheet s ≡ accepted (list_items s)

-- the items from a position on
abbrev pub list_items_from : List ℕ → ℕ → List Item
list_items_from s at = items_in (read_items 4096 (drop at s))

-- from that position on, the bytes are items
pub record ListedFrom (s : List ℕ) (at : ℕ) : Type 0 where
  pub reads : read_items 4096 (drop at s) ≡ accepted (list_items_from s at)
