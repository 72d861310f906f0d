-- Document 02, ticket 4, "The card's own leaf": a leaf as it stands on the card, by the btrfs format, read to an item list and
-- written from one. Numbers of an image are little-endian; a data position counts from byte 101. Assumes nothing.
use Rattle.std.specs.Prelude.{Bool, ◌&&◌, List, [], ◌∷◌, ◌++◌, ℕ, zero, suc, ◌+◌, ◌-◌, ◌*◌, leb, eqb, length, drop, get_or, replicate}
use Rattle.crc32c.specs.Register.{crc32c, all_ones, crc_run, inverted}
use Rattle.fields.specs.Numbers.{le, le_bytes}
use Rattle.fields.specs.Parts.{part}
use Rattle.format.specs.Constants.{leaf_header, item_header}
use Rattle.format.specs.declared.Key.{Key}
use Rattle.format.specs.Questions.{Answer, accepted, ask, bind, held}
use Rattle.format.specs.Items.{Item, key_of, read_sheet, sheet_bytes, nodesize_fits, on_sheet}
use Rattle.format.specs.Sheets.{space_of}

-- "the finished CRC32C (register inverted)" of some bytes
unfoldable pub checksum : List ℕ → ℕ
checksum bytes = inverted (crc_run crc32c all_ones bytes)

-- ---- an image read

-- "item count at 96 (4 bytes), level at 100"
unfoldable pub count_in : List ℕ → ℕ
count_in image = le (part 96 4 image)

unfoldable pub level_in : List ℕ → ℕ
level_in image = get_or image 100 0

-- question 23: the image's length is nodesize, its level is 0, and "bytes 0 to 3 hold the finished CRC32C of bytes 32 to the end"
unfoldable pub is_leaf : ℕ → List ℕ → Bool
is_leaf nodesize image =
    eqb (length image) nodesize && eqb (level_in image) 0 && eqb (le (part 0 4 image)) (checksum (drop 32 image))

-- "item headers from 101, 25 bytes each, little-endian: key 17, data position 4, counted from byte 101, data size 4". Of the header
-- that begins these bytes:
unfoldable pub data_position : List ℕ → ℕ
data_position headers = le (part 17 4 headers)

unfoldable pub data_size_in : List ℕ → ℕ
data_size_in headers = le (part 21 4 headers)

unfoldable pub key_in : List ℕ → Key
key_in headers = key_of (le (part 0 8 headers)) (get_or headers 8 0) (le (part 9 8 headers))

-- its item; `area` is what follows the leaf's header, from which positions count
unfoldable pub image_item : List ℕ → List ℕ → Item
image_item area headers = record { key = key_in headers; bytes = part (data_position headers) (data_size_in headers) area }

-- question 24 of so many items: "The first item's data ends at the image's end, each next ends where the previous begins, and none
-- begins before the headers end." The next one's data is to end at `end`; the headers end at `least`
unfoldable pub image_items : ℕ → List ℕ → ℕ → ℕ → List ℕ → Answer (List Item)
image_items least area zero end headers = accepted []
image_items least area (suc count) end headers =
    ask (eqb (data_position headers + data_size_in headers) end && leb least (data_position headers)) 24
    (bind (image_items least area count (data_position headers) (drop item_header headers)) (λ items.
    accepted (image_item area headers ∷ items)))

-- the items of an image: their headers and their data stand behind the leaf's header
abbrev pub items_in_image : ℕ → List ℕ → Answer (List Item)
items_in_image nodesize image =
    image_items (item_header * count_in image) (drop leaf_header image) (count_in image) (nodesize - leaf_header) (drop leaf_header image)

-- "For an image, questions 1 and 2 are put to the sheet read, just before 21"
unfoldable pub read_image : ℕ → List ℕ → Answer (List Item)
read_image nodesize image =
    ask (nodesize_fits nodesize) 3
    (ask (is_leaf nodesize image) 23
    (bind (items_in_image nodesize image) (λ items. read_sheet (sheet_bytes items))))

-- ---- an image written

-- an item's header: its key, where its data begins, how long it is
unfoldable pub item_header_bytes : Key → ℕ → ℕ → List ℕ
item_header_bytes key position size =
    le_bytes 8 key.objectid ++ (le_bytes 1 key.kind ++ (le_bytes 8 key.offset ++ (le_bytes 4 position ++ le_bytes 4 size)))

-- the headers of items; the first one's data ends at `end`, each next one's where the previous begins
unfoldable pub headers_bytes : ℕ → List Item → List ℕ
headers_bytes end [] = []
headers_bytes end (i ∷ items) =
    item_header_bytes i.key (end - length i.bytes) (length i.bytes) ++ headers_bytes (end - length i.bytes) items

-- their data: the last item's stands first
unfoldable pub data_bytes : List Item → List ℕ
data_bytes [] = []
data_bytes (i ∷ items) = data_bytes items ++ i.bytes

-- bytes 32 to the end: bytes 32 to 95 of the lent header, the count, level 0, the headers, the gap cleared, the data
unfoldable pub summed_bytes : ℕ → List ℕ → List Item → List ℕ
summed_bytes nodesize header items =
    part 32 64 header ++ (le_bytes 4 (length items) ++ (0 ∷ (headers_bytes (nodesize - leaf_header) items ++ (replicate (nodesize - space_of items) 0 ++ data_bytes items))))

-- before them the checksum; "clears bytes 4 to 31"
unfoldable pub image_bytes : ℕ → List ℕ → List Item → List ℕ
image_bytes nodesize header items =
    le_bytes 4 (checksum (summed_bytes nodesize header items)) ++ (replicate 28 0 ++ summed_bytes nodesize header items)

-- "A sheet too large is 18, a header of another length is 3"
unfoldable pub write_image : ℕ → List ℕ → List ℕ → Answer (List ℕ)
write_image nodesize header sheet =
    on_sheet sheet (nodesize_fits nodesize && eqb (length header) leaf_header) (λ items.
    ask (leb (space_of items) nodesize) 18
    (accepted (image_bytes nodesize header items)))

-- question 21 of an image, which question 3 keeps within the limits: the lent output alone
unfoldable pub held_image : ℕ → Answer (List ℕ) → Answer (List ℕ)
held_image room answer = held (λ image. leb (length image) room) answer
