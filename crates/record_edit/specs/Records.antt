-- Where an extent's record stands in an item list, as the search for it has shown; a call on the item of a key; and what an edit
-- of a record writes, with questions 17 and 21 of it. Assumes nothing.
use Rattle.std.specs.Prelude.{◌≡◌, Bool, ◌&&◌, List, ◌++◌, ℕ, ◌+◌, ◌-◌, ◌≤◌, T, leb, length, take, drop, replicate, Option, Some, None, Result, Ok, Err}
use Rattle.std.proofs.Math.Option.{none, some}
use Rattle.format.specs.declared.Refusal.{Refusal}
use Rattle.fields.specs.Lists.{Cut, first_cut}
use Rattle.fields.specs.Parts.{part, spliced}
use Rattle.format.specs.declared.Key.{Key}
use Rattle.format.specs.Questions.{Answer, refused, accepted, ask, bind, needed}
use Rattle.format.specs.Items.{Item, read_sheet, item_bytes, sheet_bytes, on_sheet}
use Rattle.format.specs.Sheets.{has_key}
use Rattle.format.specs.Apply.{is_record, record_of}
use Rattle.item_list.specs.Steps.{list_items}
use Rattle.item_list.specs.ItemWrites.{room_for}
use Rattle.backref.specs.declared.plan.BodyEdit.{BodyEdit}
use Rattle.record_edit.specs.declared.RecordAt.{RecordAt}
use Rattle.record_edit.specs.declared.FoundRecord.{FoundRecord}
use Rattle.record_edit.specs.declared.SecondEdit.{SecondEdit}

-- the item of that key is a record, and stands there in a list of so many items
pub record StandsAt (s : List ℕ) (target : RecordAt) : Type 0 where
  pub reads : read_sheet s ≡ accepted (list_items s)
  pub many : length (list_items s) ≡ target.item_count
  pub at_cut : Cut Item
  pub finds : first_cut (has_key target.key) (list_items s) ≡ some at_cut
  pub is-record : T (is_record at_cut.hit)
  pub starts : length (sheet_bytes at_cut.front) ≡ target.start
  pub ends : target.start + (21 + length at_cut.hit.bytes) ≡ target.end

-- what stands there is the record that `record_of` finds
pub record StandsFor (s : List ℕ) (extent : ℕ) (target : RecordAt) : Type 0 where
  pub stands : StandsAt s target
  pub first : first_cut (record_of extent) (list_items s) ≡ some stands.at_cut

-- ---- the search for an extent's record, after questions 1, 2 and 3

-- the items, or the refusal
abbrev pub asked_sheet : List ℕ → Bool → Answer (List Item)
asked_sheet s three = on_sheet s three accepted

pub record RecordMissing (s : List ℕ) (extent : ℕ) (three : Bool) : Type 0 where
  pub passed : asked_sheet s three ≡ accepted (list_items s)
  pub none-there : first_cut (record_of extent) (list_items s) ≡ none

pub record RecordFound (s : List ℕ) (extent : ℕ) (three : Bool) (index : ℕ) (target : RecordAt) : Type 0 where
  pub passed : asked_sheet s three ≡ accepted (list_items s)
  pub there : StandsFor s extent target
  pub index_is : index ≡ length there.stands.at_cut.front

abbrev pub Finds : List ℕ → ℕ → Bool → Result (Option FoundRecord) Refusal → Type 0
Finds s extent three (Err refusal) = asked_sheet s three ≡ refused refusal.number
Finds s extent three (Ok None) = RecordMissing s extent three
Finds s extent three (Ok (Some found)) = RecordFound s extent three found.index found.target

-- question 5, then the item of a key and what stands around it
unfoldable pub on_key : {A : Type 0} → Key → List Item → (Cut Item → Answer A) → Answer A
on_key key items next = bind (needed 5 (first_cut (has_key key) items)) next

-- ---- an edit of a record

-- the data of the item that stands from `start` up to `end`
abbrev pub data_of : List ℕ → ℕ → ℕ → List ℕ
data_of s start end = part (start + 21) (end - (start + 21)) s

-- how long a body of so many bytes is after a planned edit
abbrev pub edit_length : BodyEdit → ℕ → ℕ
edit_length e size = e.from + e.size + (size - e.to)

-- the second edit stands behind the record
pub record SecondIn (b : SecondEdit) (end : ℕ) (s : List ℕ) : Type 0 where
  pub low : end ≤ b.from
  pub order : b.from ≤ b.to
  pub high : b.to ≤ length s
  pub small : b.size ≤ 4
  pub full : length b.new ≡ 4

-- nothing changes behind it
abbrev pub nothing : ℕ → SecondEdit
nothing size = record { from = size; to = size; new = replicate 4 0; size = 0 }

-- what stands from the end of the record on, with the second edit
abbrev pub rest_bytes : SecondEdit → ℕ → List ℕ → List ℕ
rest_bytes b end s = (part end (b.from - end) s ++ take b.size b.new) ++ drop b.to s

abbrev pub rest_length : SecondEdit → ℕ → ℕ → ℕ
rest_length b end size = b.from - end + b.size + (size - b.to)

abbrev pub sheet_length : RecordAt → BodyEdit → SecondEdit → ℕ → ℕ
sheet_length r e b size = r.start + 21 + edit_length e (r.end - (r.start + 21)) + rest_length b r.end size

-- two splices: the second edit, and before it the record with another body
unfoldable pub edited_sheet : List ℕ → RecordAt → SecondEdit → List ℕ → List ℕ
edited_sheet s r b body =
    spliced r.start r.end (item_bytes (record { key = r.key; bytes = body })) (spliced b.from b.to (take b.size b.new) s)

-- question 21 of so many items with a body of so many bytes among them
unfoldable pub held_record : ℕ → ℕ → ℕ → List ℕ → Answer (List ℕ)
held_record room count size bytes = ask (room_for room (length bytes) count && leb size 65535) 21 (accepted bytes)

-- questions 17 and 21 of a new body
unfoldable pub held_edit : ℕ → ℕ → ℕ → (List ℕ → List ℕ) → List ℕ → Answer (List ℕ)
held_edit room count limit sheet body = ask (leb (length body) limit) 17 (held_record room count (length body) (sheet body))
