-- A reference dropped, by its name: out of the record's body, or else off its own item and the record's total; and the two edits
-- of a drop, of the record's body and of an item behind the record. Assumes nothing.
use Rattle.std.specs.Prelude.{◌≡◌, Bool, true, false, List, ℕ, ◌-◌, T, length, replicate, Result}
use Rattle.std.specs.Int.Bits.{bit_or}
use Rattle.fields.specs.Lists.{all, Cut, first_cut}
use Rattle.fields.specs.Numbers.{le, le_bytes}
use Rattle.fields.specs.Parts.{part, written}
use Rattle.format.specs.declared.Key.{Key}
use Rattle.format.specs.declared.Refusal.{Refusal}
use Rattle.format.specs.declared.SharedRef.{SharedRef}
use Rattle.format.specs.Questions.{Answer, refused, absent, remove, accepted, bind, needed, result_or}
use Rattle.format.specs.References.{rank_of}
use Rattle.format.specs.Bodies.{one, lowered_by_part, on_total, lower_total, drop_keyed_data_ref}
use Rattle.format.specs.Items.{Item, key_of}
use Rattle.format.specs.Sheets.{has_key}
use Rattle.format.specs.Apply.{drop_tree_ref}
use Rattle.format.specs.Names.{good}
use Rattle.format.specs.Ledger.{drop_data_ref, less_item, drop_shared_ref}
use Rattle.format.specs.Left.{left_in}
use Rattle.inline_refs.specs.declared.ref_name.RefName.{RefName}
use Rattle.inline_refs.specs.declared.ref_name.RefName.TheVariants.{Block, Data, SharedBlock, SharedData}
use Rattle.inline_refs.specs.Scans.{kind_of, fields_of}
use Rattle.backref.specs.declared.plan.Plan.{Plan}
use Rattle.backref.specs.ByName.{shared_ref, drop_named}
use Rattle.backref.specs.Plans.{plan_answer}
use Rattle.record_edit.specs.declared.SecondEdit.{SecondEdit}
use Rattle.record_edit.specs.declared.RecordAt.{RecordAt}
use Rattle.record_edit.specs.Records.{data_of, edited_sheet, held_record}

-- an item goes; the last four bytes of an item are another count
abbrev pub gone : ℕ → ℕ → SecondEdit
gone from to = record { from = from; to = to; new = replicate 4 0; size = 0 }

abbrev pub new_count : ℕ → ℕ → SecondEdit
new_count to count = record { from = to - 4; to = to; new = le_bytes 4 count; size = 4 }

-- question 21 of the list with the planned body and the second edit
abbrev pub held_plan : ℕ → ℕ → List ℕ → RecordAt → Result Plan Refusal → SecondEdit → Answer (List ℕ)
held_plan room count s target plan b =
    bind (plan_answer plan (data_of s target.start target.end)) (λ body.
    held_record room count (length body) (edited_sheet s target b body))

-- the same by the answer of an item's own drop: the item goes, or counts what is left
unfoldable pub held_at : ℕ → List ℕ → RecordAt → ℕ → ℕ → ℕ → Answer (List ℕ) → List ℕ → Answer (List ℕ)
held_at room s target from to left (refused refusal) body = refused refusal
held_at room s target from to left absent body = absent
held_at room s target from to left remove body =
    held_record room (target.item_count - 1) (length body) (edited_sheet s target (gone from to) body)
held_at room s target from to left (accepted item) body =
    held_record room target.item_count (length body) (edited_sheet s target (new_count to left) body)

-- the own-flag, 256, in the flags that stand at a position
abbrev pub with_own_flag : ℕ → List ℕ → List ℕ
with_own_flag at bytes = written at (le_bytes 8 (bit_or (le (part at 8 bytes)) 256)) bytes

-- ---- by the name

-- the drop, without the own-flag: one of a block or of data, the amount of a shared reference
unfoldable pub drop_ref : RefName → ℕ → List Item → Cut Item → Answer (List Item)
drop_ref (Block name) amount items c = drop_tree_ref name false items c
drop_ref (Data name) amount items c = drop_data_ref name items c
drop_ref (SharedBlock parent) amount items c = drop_shared_ref (shared_ref 182 parent) amount items c
drop_ref (SharedData parent) amount items c = drop_shared_ref (shared_ref 184 parent) amount items c

-- what it asks of the items: that of shared data is in its form, as in a balanced list
abbrev pub SharedInForm : RefName → List Item → Type 0
SharedInForm (Block name) items = Unit {0}
SharedInForm (Data name) items = Unit {0}
SharedInForm (SharedBlock parent) items = Unit {0}
SharedInForm (SharedData parent) items = T (all good items)

-- the record's body with a lower total, where the reference's own item has those bytes
unfoldable pub lowered_total : RefName → ℕ → List ℕ → List ℕ → Answer (List ℕ)
lowered_total (Block name) amount item body = lower_total body
lowered_total (Data name) amount item body = lower_total body
lowered_total (SharedBlock parent) amount item body = on_total body (lowered_by_part amount 1)
lowered_total (SharedData parent) amount item body = on_total body (lowered_by_part amount (le item))

-- what is left of the item
unfoldable pub item_drop : RefName → ℕ → List ℕ → Answer (List ℕ)
item_drop (Block name) amount item = remove
item_drop (Data name) amount item = drop_keyed_data_ref item name
item_drop (SharedBlock parent) amount item = less_item 1 amount
item_drop (SharedData parent) amount item = less_item (le item) amount

-- and the count that it has then, where its last four bytes are that number
unfoldable pub item_left : RefName → ℕ → ℕ → ℕ
item_left (Block name) amount last = 0
item_left (Data name) amount last = last - 1
item_left (SharedBlock parent) amount last = 1 - amount
item_left (SharedData parent) amount last = last - amount

-- the item of shared data is its count
abbrev pub CountFits : RefName → List ℕ → Type 0
CountFits (Block name) item = Unit {0}
CountFits (Data name) item = Unit {0}
CountFits (SharedBlock parent) item = Unit {0}
CountFits (SharedData parent) item = length item ≡ 4

-- ---- what is left under the name

-- of an item of a key
unfoldable pub on_key_left : Key → List Item → (Cut Item → ℕ) → ℕ
on_key_left key items left = result_or 0 left (needed 5 (first_cut (has_key key) items))

-- at the name's own item, whose last four bytes are its count where it has one
unfoldable pub own_left : RefName → ℕ → Cut Item → ℕ
own_left name amount k = item_left name amount (le (part (length k.hit.bytes - 4) 4 k.hit.bytes))

-- by what the inline drop answers: in the body that it makes, or else at the item
unfoldable pub left_by : RefName → ℕ → List Item → Cut Item → Answer (List ℕ) → ℕ
left_by name amount items c (refused refusal) = 0
left_by name amount items c absent =
    on_key_left (key_of c.hit.key.objectid (kind_of name) (rank_of (kind_of name) (fields_of name))) items (own_left name amount)
left_by name amount items c remove = 0
left_by name amount items c (accepted body) = left_in c.hit.key.kind (kind_of name) (fields_of name) body

unfoldable pub ref_left : RefName → ℕ → List Item → Cut Item → ℕ
ref_left name amount items c = left_by name amount items c (drop_named c.hit.key.kind c.hit.bytes name amount)

-- apply_shared_drop, in the record's body
unfoldable pub shared_left : ℕ → SharedRef → Bool → List ℕ → ℕ
shared_left type s true body = 0
shared_left type s false body = left_in type s.kind (one s.parent) body
