-- Document 01, "Marked for proof": cases a to k as one list, and one statement over it, by computation. Assumes nothing.
use Rattle.std.specs.Prelude.{◌≡◌, refl, List, [], ◌∷◌, ◌++◌, map, ℕ, zero, suc, ◌+◌, length, replicate, take}
use Rattle.fields.specs.Lists.{same}
use Rattle.fields.specs.Numbers.{le, le_bytes, be, be_bytes, words, word_bytes}
use Rattle.crc32c.specs.Register.{step, steps, byte_step, crc_run}
use Rattle.format.specs.declared.BlockRef.{BlockRef}
use Rattle.format.specs.declared.DataRef.{DataRef}
use Rattle.format.specs.Questions.{Answer, refused, remove, accepted, ask, bind, needed, found, held}
use Rattle.format.specs.Hash.{data_ref_hash}
use Rattle.format.specs.References.{row_in, known, payload_length, count_position, counted, field_count, weight_of, ref_at, read_refs, ref_bytes, refs_bytes, total_of, flags_of, start_of, read_body, body_bytes, rank_of, rank}
use Rattle.format.specs.Bodies.{body_fits, shared_kind, on_body, on_head, named, raised_by, lowered_by_one, on_total, raise_total, positions, inline_refs, less, drop_inline, drop_inline_data_ref, keyed_count, drop_keyed_data_ref, keyed_data_ref_body, stops, gap_at, insert_position, standing_or, position_anywhere, scanned, position_by_scan, is_gap, standing_weight, add_at, add_inline_tree_ref, add_inline_data, add_inline_data_ref, add_inline_shared, data_extent_body, tree_block_body}
use Rattle.format.specs.Items.{Item, key_of, same_key, key_below, item_length, whole_item, first_item, read_items, read_sheet, key_bytes, item_bytes, items_bytes, sheet_bytes, nodesize_fits, data_fits, on_sheet, sheet_holds, held_sheet}
use Rattle.format.specs.Sheets.{item_space, space_of, put_before, inserted, insert, cut_fits, gap_of, closer, best_cut, filled, cuts_of, cuts, leaves_hold, split_to_fit}
use Rattle.format.specs.Apply.{inline_limit, max_inline_extent_item}

-- the letter of document 01
pub data Letter : Type 0 where
  a b c d e f g h i j k : Letter

pub record Case : Type 0 where
  pub letter : Letter
  pub gives : Answer (List ℕ)
  pub expected : Answer (List ℕ)

abbrev marked_case : Letter → Answer (List ℕ) → Answer (List ℕ) → Case
marked_case letter gives expected = record { letter = letter; gives = gives; expected = expected }

-- a number, or the length of a result, as the one element of a list
abbrev number : Answer ℕ → Answer (List ℕ)
number answer = bind answer (λ n. accepted (n ∷ []))

abbrev size : Answer (List ℕ) → Answer (List ℕ)
size answer = bind answer (λ list. accepted (length list ∷ []))

-- ---- what the cases speak of

-- generation 7, root 5, inode 257, offset 0
abbrev name_e : DataRef
name_e = record { tree = 5; objectid = 257; offset = 0 }

unfoldable pub body_e : List ℕ
body_e = data_extent_body 7 name_e

-- E's bytes with that total and that count
unfoldable pub bytes_e : ℕ → ℕ → List ℕ
bytes_e total count =
    le_bytes 8 total ++ (le_bytes 8 7 ++ (le_bytes 8 1 ++ (178 ∷ (le_bytes 8 5 ++ (le_bytes 8 257 ++ (le_bytes 8 0 ++ le_bytes 4 count))))))

-- so many bytes: a total, a generation of 0, flags, and zeros
abbrev plain : ℕ → ℕ → ℕ → List ℕ
plain n total bits = take n ((total ∷ replicate 15 0) ++ (bits ∷ replicate 40 0))

abbrev block : ℕ → BlockRef
block tree = record { tree = tree }

-- the body of a block of generation 7 with these block references
unfoldable pub blocks : ℕ → List ℕ → List ℕ
blocks total [] = le_bytes 8 total ++ (le_bytes 8 7 ++ le_bytes 8 2)
blocks total (tree ∷ trees) = blocks total trees ++ (176 ∷ le_bytes 8 tree)

-- a list of so many items from a key on, each with that much data
abbrev items_from : ℕ → ℕ → ℕ → List Item
items_from objectid zero each = []
items_from objectid (suc n) each = record { key = key_of objectid 1 0; bytes = replicate each 0 } ∷ items_from (objectid + 1) n each

abbrev sheet : ℕ → ℕ → List ℕ
sheet n each = sheet_bytes (items_from 10 n each)

abbrev alone : ℕ → Item
alone n = record { key = key_of 10 1 0; bytes = replicate n 0 }

-- ---- the list

unfoldable pub cases : List Case
cases =
    marked_case a (inline_refs 169 (plain 23 0 0)) (refused 6)
    ∷ marked_case a (inline_refs 169 (plain 24 0 0)) (accepted [])
    ∷ marked_case b (inline_refs 168 (plain 41 0 2)) (refused 6)
    ∷ marked_case b (inline_refs 168 (plain 42 0 2)) (accepted [])
    ∷ marked_case c (raise_total (plain 30 1 2) 1) (accepted (plain 30 2 2))
    ∷ marked_case d (accepted body_e) (accepted (bytes_e 1 1))
    ∷ marked_case d (add_inline_data_ref 168 body_e name_e) (accepted (bytes_e 2 2))
    ∷ marked_case d (size (add_inline_data_ref 168 body_e name_e)) (accepted (53 ∷ []))
    ∷ marked_case d (bind (add_inline_data_ref 168 body_e name_e) (λ body. drop_inline_data_ref 168 body name_e)) (accepted body_e)
    ∷ marked_case e (drop_inline_data_ref 168 body_e name_e) (refused 13)
    ∷ marked_case f (accepted (tree_block_body 7 (block 5))) (accepted (blocks 1 (5 ∷ [])))
    ∷ marked_case f (add_inline_tree_ref 169 (blocks 1 (5 ∷ [])) (block 5)) (refused 9)
    ∷ marked_case f (add_inline_tree_ref 169 (blocks 1 (5 ∷ [])) (block 7)) (accepted (blocks 2 (5 ∷ 7 ∷ [])))
    ∷ marked_case f (add_inline_tree_ref 169 (blocks 1 (5 ∷ [])) (block 3)) (accepted (blocks 2 (3 ∷ 5 ∷ [])))
    ∷ marked_case g (add_inline_shared 168 body_e (record { kind = 184; parent = 4096 }) 0)
    (accepted (bytes_e 1 1 ++ (184 ∷ (le_bytes 8 4096 ++ le_bytes 4 0))))
    ∷ marked_case h (number (max_inline_extent_item 4096)) (accepted (224 ∷ []))
    ∷ marked_case h (number (max_inline_extent_item 16384)) (accepted (992 ∷ []))
    ∷ marked_case h (number (max_inline_extent_item 501)) (accepted (0 ∷ []))
    ∷ marked_case h (number (max_inline_extent_item 500)) (refused 3)
    ∷ marked_case i (drop_keyed_data_ref (keyed_data_ref_body name_e 0) name_e) (refused 16)
    ∷ marked_case i (drop_keyed_data_ref (keyed_data_ref_body name_e 1) name_e) remove
    ∷ marked_case j (split_to_fit 501 (sheet 3 175)) (accepted (1 ∷ []))
    ∷ marked_case j (split_to_fit 501 (sheet 4 175)) (accepted (2 ∷ []))
    ∷ marked_case j (split_to_fit 501 (sheet 5 175)) (accepted (2 ∷ 4 ∷ []))
    ∷ marked_case k (held_sheet 397 (insert 501 (1 ∷ []) (alone 375))) (accepted (sheet 1 375))
    ∷ marked_case k (held_sheet 397 (insert 501 (1 ∷ []) (alone 376))) (refused 18)
    ∷ []

-- each case gives what is expected
pub marked : map (λ (x : Case). x.gives) cases ≡ map (λ (x : Case). x.expected) cases
unfolding cases body_e bytes_e blocks same le le_bytes be be_bytes words word_bytes step steps byte_step crc_run ask bind needed found held data_ref_hash row_in known payload_length count_position counted field_count weight_of ref_at read_refs ref_bytes refs_bytes total_of flags_of start_of read_body body_bytes rank_of rank body_fits shared_kind on_body on_head named raised_by lowered_by_one on_total raise_total positions inline_refs less drop_inline drop_inline_data_ref keyed_count drop_keyed_data_ref keyed_data_ref_body stops gap_at insert_position standing_or position_anywhere scanned position_by_scan is_gap standing_weight add_at add_inline_tree_ref add_inline_data add_inline_data_ref add_inline_shared data_extent_body tree_block_body same_key key_below item_length whole_item first_item read_items read_sheet key_bytes item_bytes items_bytes sheet_bytes nodesize_fits data_fits on_sheet item_space space_of put_before inserted insert cut_fits gap_of closer best_cut filled cuts_of cuts leaves_hold split_to_fit inline_limit max_inline_extent_item sheet_holds held_sheet
marked = refl
