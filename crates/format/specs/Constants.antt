-- Lengths and limits of document 01, sections "The bodies" and "The leaves", and of document 02's ticket 4. Assumes nothing.
use Rattle.std.specs.Prelude.{ℕ}

-- what stands before an item's data: its length and its key
abbrev pub item_head : ℕ
item_head = 21

-- the longest body
abbrev pub most_data : ℕ
most_data = 65535

-- the longest item list, and the most items in it
abbrev pub most_sheet : ℕ
most_sheet = 262144

abbrev pub most_items : ℕ
most_items = 4096

-- what stands before the item headers of a leaf as the card has it, and an item's header there
abbrev pub leaf_header : ℕ
leaf_header = 101

abbrev pub item_header : ℕ
item_header = 25
