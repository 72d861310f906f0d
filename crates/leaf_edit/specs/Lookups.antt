-- Where an item's data stands in its list. Assumes nothing.
use Rattle.std.specs.Prelude.{◌≡◌, List, ℕ, ◌+◌, ◌≤◌, length, Result, Ok, Err}
use Rattle.fields.specs.Parts.{part}
use Rattle.format.specs.declared.Refusal.{Refusal}
use Rattle.format.specs.Questions.{refused, accepted}
use Rattle.format.specs.Sheets.{item_data, item_start}
use Rattle.leaf_edit.specs.declared.lookup.ItemRange.{ItemRange}

-- what the search for an item by its number answers: the part of the list that is its data, or the refusal
abbrev pub Ranged : List ℕ → ℕ → Result ItemRange Refusal → Type 0
Ranged sheet index (Ok range) =
    (item_data sheet index ≡ accepted (part range.start range.size sheet)) × (item_start sheet index ≡ accepted range.start)
    × (range.start + range.size ≤ length sheet)
Ranged sheet index (Err refusal) = (item_data sheet index ≡ refused refusal.number) × (item_start sheet index ≡ refused refusal.number)
