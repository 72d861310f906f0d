-- What the computed postings share: the definitions on the way of a posting opened by one name, and sheets made from references.
-- Assumes nothing.
use mathlib.Core.List.{List, [], ◌∷◌, ◌++◌}
use Prim.Native.Nat.{ℕ, ◌+◌, ◌*◌, ◌^◌}
use Rattle.fields.specs.Lists.{same}
use Rattle.fields.specs.Numbers.{le, le_bytes, be, be_bytes, words, word_bytes}
use Rattle.crc32c.specs.Register.{step, steps, byte_step}
use Rattle.crc32c.specs.Register.{crc_run}
use Rattle.format.specs.declared.BlockRef.{BlockRef}
use Rattle.format.specs.declared.DataRef.{DataRef}
use Rattle.format.specs.declared.SharedRef.{SharedRef}
use Rattle.format.specs.declared.Change.{Change}
use Rattle.format.specs.Questions.{ask, bind, needed, found, if_absent, also, held, code_of}
use Rattle.format.specs.Hash.{data_ref_hash}
use Rattle.format.specs.References.{row_in, known, payload_length, count_position, counted, field_count, Ref, make_ref, weight_of, ref_at, read_refs, ref_bytes, refs_bytes, total_of, flags_of, start_of, read_body, body_bytes, rank_of, rank, falls, follows}
use Rattle.format.specs.Bodies.{triple, body_fits, shared_kind, on_body, on_head, named, raised_by, lowered_by_one, lowered_by_part, on_total, raise_total, lower_total, less, drop_inline, drop_inline_tree_ref, drop_inline_data_ref, keyed_count, drop_keyed_data_ref, stops, gap_at, insert_position, standing_or, position_anywhere, scanned, position_by_scan, is_gap, standing_weight, add_at, add_inline_tree_ref, add_inline_data, add_inline_shared, keyed_data_ref_body}
use Rattle.format.specs.Items.{Item, key_of, same_key, key_below, item_length, whole_item, first_item, read_items, read_sheet, key_bytes, item_bytes, items_bytes, sheet_bytes, nodesize_fits, data_fits, on_sheet, sheet_holds, held_sheet}
use Rattle.format.specs.Sheets.{deleted}
use Rattle.format.specs.Apply.{inline_limit, is_record, on_record, replaced, keyed_body, apply_keyed_add, shared_body, apply_shared_add, flagged, drop_tree_ref}
use Rattle.format.specs.Names.{same_name, is_ref_item, view_record, in_form, view_ref_item, view_of, ref_entry, ref_entries, view_entries, item_entries, entries, well_formed, view_total, balanced}
use Rattle.format.specs.Ledger.{added, dropped_at, drop_data_ref, shared_count, less_item, drop_shared_ref, changed, post, posted}
use Rattle.format.specs.History.{Posting, answer_to, enter, items_in}

-- what a posting to a sheet answers, as a code. An `unfolding` line with `computed` on it opens each definition on the line below
unfoldable pub computed : List ℕ → Posting → ℕ
unfolding same le le_bytes be be_bytes words word_bytes step steps byte_step crc_run ask bind needed found if_absent also held code_of data_ref_hash row_in known payload_length count_position counted field_count weight_of ref_at read_refs ref_bytes refs_bytes total_of flags_of start_of read_body body_bytes rank_of rank falls follows body_fits shared_kind on_body on_head named raised_by lowered_by_one lowered_by_part on_total raise_total lower_total less drop_inline drop_inline_tree_ref drop_inline_data_ref keyed_count drop_keyed_data_ref stops gap_at insert_position standing_or position_anywhere scanned position_by_scan is_gap standing_weight add_at add_inline_tree_ref add_inline_data add_inline_shared keyed_data_ref_body same_key key_below item_length whole_item first_item read_items read_sheet key_bytes item_bytes items_bytes sheet_bytes nodesize_fits data_fits on_sheet sheet_holds held_sheet deleted inline_limit is_record on_record replaced keyed_body apply_keyed_add shared_body apply_shared_add flagged drop_tree_ref same_name is_ref_item view_record in_form view_ref_item view_of ref_entry ref_entries view_entries item_entries entries well_formed view_total balanced added dropped_at drop_data_ref shared_count less_item drop_shared_ref changed post posted answer_to items_in enter
computed sheet p = code_of (answer_to sheet p)

-- ---- names

abbrev pub tree : ℕ → BlockRef
tree id = record { tree = id }

-- a triple whose hash takes few steps to compute: the register is the polynomial after this tree; it is 0 after this objectid, and
-- at the end the entry of document 01's table with the number that is the last byte of the offset
abbrev pub by_entry : ℕ → DataRef
by_entry number = record { tree = 0x80000000ffffffff; objectid = 0xffffffff; offset = number * 2 ^ 56 }

-- another triple of the same hash: the register is the polynomial after this objectid, and 0 after the polynomial in the offset
abbrev pub same_hash : ℕ → DataRef
same_hash number = record { tree = 0x80000000ffffffff; objectid = 0x80000000ffffffff; offset = number * 2 ^ 56 + 0x82f63b78 }

abbrev pub parent : ℕ → ℕ → SharedRef
parent kind block = record { kind = kind; parent = block }

-- ---- items

abbrev pub item : ℕ → ℕ → ℕ → List ℕ → Item
item extent kind offset bytes = record { key = key_of extent kind offset; bytes = bytes }

-- the body of a record of generation 7; `info` is what stands between the flags and the references
abbrev pub record_bytes : ℕ → ℕ → List ℕ → List Ref → List ℕ
record_bytes flags total info refs = body_bytes (record { total = total; fixed = le_bytes 8 7 ++ (le_bytes 8 flags ++ info); refs = refs })

-- the record of a block; of a data extent; of a block as type 168, with 18 bytes before the references
abbrev pub block_record : ℕ → ℕ → List Ref → Item
block_record extent total refs = item extent 169 0 (record_bytes 2 total [] refs)

abbrev pub data_record : ℕ → ℕ → List Ref → Item
data_record extent total refs = item extent 168 4096 (record_bytes 1 total [] refs)

abbrev pub block_info_record : ℕ → ℕ → List Ref → Item
block_info_record extent total refs =
    item extent 168 4096 (record_bytes 2 total (1 ∷ 2 ∷ 3 ∷ 4 ∷ 5 ∷ 6 ∷ 7 ∷ 8 ∷ 9 ∷ 10 ∷ 11 ∷ 12 ∷ 13 ∷ 14 ∷ 15 ∷ 16 ∷ 17 ∷ 18 ∷ []) refs)

abbrev pub data_ref : ℕ → ℕ → Ref
data_ref number count = make_ref 178 (triple (by_entry number)) count

-- ---- a posting with the code that it answers: 0 where it is accepted, else the number of the refusal

pub record Expected : Type 0 where
  pub posting : Posting
  pub code : ℕ

-- with that nodesize and lent room
abbrev pub expect_within : ℕ → ℕ → Change → ℕ → Expected
expect_within nodesize room change code =
    record { posting = record { nodesize = nodesize; change = change; room = room }; code = code }

abbrev pub expect : Change → ℕ → Expected
expect = expect_within 4096 1000
