-- Document 01, "The entry: posting a change to the books", with document 02's ticket 1: the six changes and posting one. To add
-- a reference is the documents' "give", to drop one their "take". Assumes nothing.
use Rattle.std.specs.Prelude.{Bool, true, false, ◌&&◌, ◌||◌, cond, List, ℕ, ◌-◌, leb, ltb, eqb}
use Rattle.fields.specs.Lists.{sum, all, Cut, first_cut}
use Rattle.fields.specs.Numbers.{le, le_bytes}
use Rattle.format.specs.declared.DataRef.{DataRef}
use Rattle.format.specs.declared.SharedRef.{SharedRef}
use Rattle.format.specs.declared.Keyed.TheVariants.{Block, Data}
use Rattle.format.specs.declared.Change.{Change}
use Rattle.format.specs.declared.Change.TheVariants.{AddBlock, AddData, AddShared, DropBlock, DropData, DropShared}
use Rattle.format.specs.Questions.{Answer, refused, absent, remove, accepted, ask, bind, needed, if_absent, also}
use Rattle.format.specs.References.{rank_of}
use Rattle.format.specs.Bodies.{one, triple, shared_kind, lowered_by_part, on_total, lower_total, drop_inline, drop_inline_data_ref, drop_keyed_data_ref}
use Rattle.format.specs.Items.{Item, key_of, on_sheet, nodesize_fits, put_back, without, held_sheet}
use Rattle.format.specs.Sheets.{has_key}
use Rattle.format.specs.Apply.{is_record, on_record, replaced, apply_keyed_add, apply_shared_add, drop_tree_ref}
use Rattle.format.specs.Names.{Name, item_entries, stands, balanced}

-- ---- the change's name

abbrev pub name_of : Change → Name
name_of (AddBlock extent name) = record { extent = extent; kind = 176; fields = one name.tree }
name_of (AddData extent name amount) = record { extent = extent; kind = 178; fields = triple name }
name_of (AddShared extent name amount) = record { extent = extent; kind = name.kind; fields = one name.parent }
name_of (DropBlock extent name) = record { extent = extent; kind = 176; fields = one name.tree }
name_of (DropData extent name) = record { extent = extent; kind = 178; fields = triple name }
name_of (DropShared extent name amount) = record { extent = extent; kind = name.kind; fields = one name.parent }

-- question 3 of a change
abbrev pub kind_fits : Change → Bool
kind_fits (AddBlock extent name) = true
kind_fits (AddData extent name amount) = true
kind_fits (AddShared extent name amount) = shared_kind name.kind
kind_fits (DropBlock extent name) = true
kind_fits (DropData extent name) = true
kind_fits (DropShared extent name amount) = shared_kind name.kind

-- ---- adds

-- question 9, "In books, also: has the given name no item of its own?"
abbrev pub not_its_own : Name → Item → Bool
not_its_own n i = is_record i || eqb (sum (stands n) (item_entries i)) 0

-- with question 10, "amount above 0 in books"
unfoldable pub added : Name → ℕ → List Item → Answer (List Item) → Answer (List Item)
added n amount items answer = also (all (not_its_own n) items) 9 (also (leb 1 amount) 10 answer)

-- ---- drops

-- the list after an item's own drop: it goes, or stands with a lower count
unfoldable pub dropped_at : Cut Item → Answer (List ℕ) → Answer (List Item)
dropped_at k (refused number) = refused number
dropped_at k absent = absent
dropped_at k remove = accepted (without k)
dropped_at k (accepted bytes) = accepted (put_back k bytes)

-- "one count off, by drop_inline_data_ref; if it finds none, by drop_keyed_data_ref on the item (extent, 178, hash), and the
-- total lowered by 1"
unfoldable pub drop_data_ref : DataRef → List Item → Cut Item → Answer (List Item)
drop_data_ref d items c =
    if_absent
    (bind (drop_inline_data_ref c.hit.key.kind c.hit.bytes d) (λ body. accepted (put_back c body)))
    (bind (needed 5 (first_cut (has_key (key_of c.hit.key.objectid 178 (rank_of 178 (triple d)))) items)) (λ k.
    bind (lower_total c.hit.bytes) (λ body.
    bind (dropped_at k (drop_keyed_data_ref k.hit.bytes d)) (λ others. replaced c.hit.key body others))))

-- the count of a shared reference's item
unfoldable pub shared_count : Item → ℕ
shared_count i = cond (eqb i.key.kind 184) (le i.bytes) 1

-- what is left of its data with that much off: "Taking everything removes the reference"
unfoldable pub less_item : ℕ → ℕ → Answer (List ℕ)
less_item standing amount = cond (ltb amount standing) (accepted (le_bytes 4 (standing - amount))) remove

-- "an amount, from 1 up to what stands, inline or as an item", (extent, kind, parent); "the total falls by the amount". "A shared
-- block (182) has 1 to take"
unfoldable pub drop_shared_ref : SharedRef → ℕ → List Item → Cut Item → Answer (List Item)
drop_shared_ref s amount items c =
    if_absent
    (bind (drop_inline c.hit.key.kind c.hit.bytes s.kind (one s.parent) amount (lowered_by_part amount)) (λ body.
    accepted (put_back c body)))
    (bind (needed 5 (first_cut (has_key (key_of c.hit.key.objectid s.kind s.parent)) items)) (λ k.
    bind (on_total c.hit.bytes (lowered_by_part amount (shared_count k.hit))) (λ body.
    bind (dropped_at k (less_item (shared_count k.hit) amount)) (λ others. replaced c.hit.key body others))))

-- ---- the six changes

unfoldable pub changed : ℕ → Change → List Item → Answer (List Item)
changed nodesize (AddBlock extent name) items =
    added (name_of (AddBlock extent name)) 1 items (apply_keyed_add nodesize extent (Block name) 1 false items)
changed nodesize (AddData extent name amount) items =
    added (name_of (AddData extent name amount)) amount items (apply_keyed_add nodesize extent (Data name) amount false items)
changed nodesize (AddShared extent name amount) items =
    added (name_of (AddShared extent name amount)) amount items (apply_shared_add nodesize extent name amount false items)
changed nodesize (DropBlock extent name) items = on_record extent items (drop_tree_ref name false items)
changed nodesize (DropData extent name) items = on_record extent items (drop_data_ref name items)
changed nodesize (DropShared extent name amount) items = on_record extent items (drop_shared_ref name amount items)

-- ---- posting one: "A posting takes a sheet, a nodesize and a change; question 3 is put to the nodesize of takes too"

unfoldable pub post : ℕ → List ℕ → Change → Answer (List Item)
post nodesize sheet change =
    on_sheet sheet (nodesize_fits nodesize && kind_fits change) (λ items.
    ask (balanced items) 4 (changed nodesize change items))

-- the sheet that a posting makes, in a lent output of that room
unfoldable pub posted : ℕ → List ℕ → Change → ℕ → Answer (List ℕ)
posted nodesize sheet change room = held_sheet room (post nodesize sheet change)
