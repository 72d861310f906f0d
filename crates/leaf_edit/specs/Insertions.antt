-- Where a new item goes, and the refusals before it. Assumes nothing.
use Rattle.std.specs.Prelude.{Bool, ◌&&◌, cond, List, ℕ, leb, length, Option, Some, None, Result, Ok}
use Rattle.format.specs.declared.Key.{Key}
use Rattle.format.specs.declared.Refusal.{Refusal}
use Rattle.format.specs.Constants.{most_data}
use Rattle.format.specs.Questions.{Answer, result_or_code, denied}
use Rattle.format.specs.Items.{Item, nodesize_fits}
use Rattle.format.specs.Sheets.{insert, insert_unbounded}
use Rattle.item_list.specs.declared.Sought.{Sought}
use Rattle.item_list.specs.declared.Sought.TheVariants.{Present, Absent}
use Rattle.item_list.specs.Seeks.{seek_in}
use Rattle.leaf_edit.specs.declared.InsertAt.{InsertAt}

-- question 9
unfoldable pub insert_at : ℕ → Sought → Result InsertAt Refusal
insert_at count (Present start end) = denied 9
insert_at count (Absent at) = Ok (record { at = at; count = count })

-- the reader of an item list decides (format/proofs/Decisions, `sheet-decides`), so 100 and 101 do not come
unfoldable pub insert_at_of : Key → Bool → Answer (List Item) → Result InsertAt Refusal
insert_at_of key three answer =
    result_or_code denied (λ items. cond three (insert_at (length items) (seek_in key 1 items)) (denied 3)) answer

-- ---- both inserts: a leaf's size is asked for where there is a nodesize

-- question 3 of so many bytes of data
abbrev pub sizes_fit : Option ℕ → ℕ → Bool
sizes_fit (Some nodesize) size = nodesize_fits nodesize && leb size most_data
sizes_fit None size = leb size most_data

abbrev pub put_new : Option ℕ → List ℕ → Item → Answer (List Item)
put_new (Some nodesize) sheet new = insert nodesize sheet new
put_new None sheet new = insert_unbounded sheet new
