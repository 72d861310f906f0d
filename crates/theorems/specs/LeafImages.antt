-- Document 02, ticket 4, "The card's own leaf": what the two calls on leaf images accept and make of it, that a written image is read
-- back, on which bytes the reader depends, and what an image is that is read and written again. Assumes nothing.
use Rattle.std.specs.Prelude.{◌≡◌, List, [], ◌∷◌, ◌++◌, ℕ, zero, suc, ◌+◌, ◌-◌, ◌*◌, ◌≤◌, ◌<◌, T, length, take, drop, get_or, replicate}
use Rattle.fields.specs.Numbers.{le, le_bytes, are_bytes}
use Rattle.fields.specs.Parts.{part}
use Rattle.format.specs.declared.Key.{Key}
use Rattle.format.specs.Questions.{refused, accepted}
use Rattle.format.specs.Items.{Item, key_of, key_below, read_sheet, sheet_bytes, held_sheet}
use Rattle.format.specs.Sheets.{space_of}
use Rattle.format.specs.LeafImage.{checksum, is_leaf, read_image, image_bytes, write_image, held_image}
use Rattle.theorems.specs.Acceptance.{Exactly}

-- ---- an image by its bytes: "item count at 96 (4 bytes)", "item headers from 101, 25 bytes each"

abbrev pub header_count : List ℕ → ℕ
header_count image = le (part 96 4 image)

-- item k, from 0: "key 17, data position 4, counted from byte 101, data size 4"
abbrev pub header_start : ℕ → ℕ
header_start k = 101 + 25 * k

abbrev pub header_key : List ℕ → ℕ → Key
header_key image k =
    key_of (le (part (header_start k) 8 image)) (get_or image (header_start k + 8) 0) (le (part (header_start k + 9) 8 image))

abbrev pub header_position : List ℕ → ℕ → ℕ
header_position image k = le (part (header_start k + 17) 4 image)

abbrev pub header_size : List ℕ → ℕ → ℕ
header_size image k = le (part (header_start k + 21) 4 image)

-- "The first item's data ends at the image's end, each next ends where the previous begins": where item k's is due to end. So of the
-- count of items it is where the last one's data begins; without items, the image's end
abbrev pub due_end : ℕ → List ℕ → ℕ → ℕ
due_end nodesize image zero = nodesize - 101
due_end nodesize image (suc k) = header_position image k

abbrev pub last_start : ℕ → List ℕ → ℕ
last_start nodesize image = due_end nodesize image (header_count image)

-- so many items from item k on
abbrev pub header_item : List ℕ → ℕ → Item
header_item image k = record { key = header_key image k; bytes = part (101 + header_position image k) (header_size image k) image }

abbrev pub header_items : List ℕ → ℕ → ℕ → List Item
header_items image k zero = []
header_items image k (suc count) = header_item image k ∷ header_items image (suc k) count

-- ---- a read is accepted exactly if each question is answered yes; the result is the sheet of the items

pub record ReadsImage (nodesize : ℕ) (image : List ℕ) (room : ℕ) : Type 0 where
  pub least : 501 ≤ nodesize  -- 3
  pub most : nodesize ≤ 65536  -- 3
  pub whole : length image ≡ nodesize  -- 23
  pub level : get_or image 100 0 ≡ 0  -- 23
  pub sealed : le (part 0 4 image) ≡ checksum (drop 32 image)  -- 23
  pub ends : (k : ℕ) → k < header_count image → header_position image k + header_size image k ≡ due_end nodesize image k  -- 24
  pub begins : (k : ℕ) → k < header_count image → 25 * header_count image ≤ header_position image k  -- 24
  pub rises : (k : ℕ) → suc k < header_count image → T (key_below (header_key image k) (header_key image (suc k)))  -- 2
  pub roomy : 1 + 21 * header_count image + (nodesize - 101 - last_start nodesize image) ≤ room  -- 21

abbrev pub ReadAccepted : Type 0
ReadAccepted = (nodesize : ℕ) (image : List ℕ) (room : ℕ) (sheet : List ℕ) → T (are_bytes image)
    → Exactly (held_sheet room (read_image nodesize image) ≡ accepted sheet)
    (ReadsImage nodesize image room × (sheet ≡ sheet_bytes (header_items image 0 (header_count image))))

-- "questions 1 and 2 are put to the sheet read": 1 never refuses
abbrev pub NeverBroken : Type 0
NeverBroken = (nodesize : ℕ) (image : List ℕ) → T (are_bytes image) → read_image nodesize image ≡ refused 1 → ⊥

-- ---- a write is accepted exactly if each question is answered yes; the result is the image of the sheet's items

pub record WritesImage (nodesize : ℕ) (header sheet : List ℕ) (room : ℕ) (items : List Item) : Type 0 where
  pub reads : read_sheet sheet ≡ accepted items  -- 1, 2
  pub least : 501 ≤ nodesize  -- 3
  pub most : nodesize ≤ 65536  -- 3
  pub lent : length header ≡ 101  -- 3
  pub fits : space_of items ≤ nodesize  -- 18
  pub roomy : nodesize ≤ room  -- 21

abbrev pub WriteAccepted : Type 0
WriteAccepted = (nodesize : ℕ) (header sheet : List ℕ) (room : ℕ) (image : List ℕ)
    → Exactly (held_image room (write_image nodesize header sheet) ≡ accepted image)
    ((items : List Item) × WritesImage nodesize header sheet room items × (image ≡ image_bytes nodesize header items))

-- it has nodesize bytes
abbrev pub WrittenLength : Type 0
WrittenLength = (nodesize : ℕ) (header sheet : List ℕ) (room : ℕ) (image : List ℕ)
    → held_image room (write_image nodesize header sheet) ≡ accepted image
    → length image ≡ nodesize

-- ---- "Reading back a written image returns the sheet", with room enough, whatever the header

abbrev pub ReadsBack : Type 0
ReadsBack = (nodesize : ℕ) (header sheet image : List ℕ) (room enough : ℕ) → T (are_bytes sheet)
    → held_image room (write_image nodesize header sheet) ≡ accepted image
    → length sheet ≤ enough
    → held_sheet enough (read_image nodesize image) ≡ accepted sheet

-- ---- "the reader drops bytes 4 to 95 and the gap, whatever they hold": two images that pass question 23 and agree from byte 96 to the
-- end of the headers, and from where the last item's data begins, are answered alike, accepted or refused

abbrev pub ReadsAlike : Type 0
ReadsAlike = (nodesize : ℕ) (image other : List ℕ) → T (is_leaf nodesize image) → T (is_leaf nodesize other)
    → part 96 (5 + 25 * header_count image) image ≡ part 96 (5 + 25 * header_count image) other
    → drop (101 + last_start nodesize image) image ≡ drop (101 + last_start nodesize image) other
    → read_image nodesize image ≡ read_image nodesize other

-- ---- an image that is read and written again with its own header is the image with bytes 4 to 31 and the gap cleared, sealed again

-- from byte 32 to the end: up to the headers' end, the gap cleared, from where the last item's data begins
abbrev pub gap_cleared : ℕ → List ℕ → List ℕ
gap_cleared nodesize image =
    part 32 (69 + 25 * header_count image) image
    ++ (replicate (last_start nodesize image - 25 * header_count image) 0 ++ drop (101 + last_start nodesize image) image)

-- bytes 0 to 31 before them
abbrev pub sealed_again : List ℕ → List ℕ
sealed_again bytes = le_bytes 4 (checksum bytes) ++ (replicate 28 0 ++ bytes)

abbrev pub WritesBack : Type 0
WritesBack = (nodesize : ℕ) (image sheet : List ℕ) (room enough : ℕ) → T (are_bytes image)
    → held_sheet room (read_image nodesize image) ≡ accepted sheet
    → nodesize ≤ enough
    → held_image enough (write_image nodesize (take 101 image) sheet) ≡ accepted (sealed_again (gap_cleared nodesize image))
