-- Leaf images computed: the checksum, what a write makes byte by byte, and one image for each reason of a refusal. Where a question
-- does not need it, nodesize is small, since a checksum is computed bit by bit. Assumes nothing.
use mathlib.Core.Path.{◌≡◌, refl}
use mathlib.Core.Bool.{Bool, true, false}
use mathlib.Core.List.{List, [], ◌∷◌, ◌++◌}
use Prim.Native.Nat.{ℕ, zero, suc}
use lib.ListN.{replicate}
use lib.Dec.{T}
use Rattle.fields.specs.Numbers.{le, le_bytes, be, be_bytes}
use Rattle.crc32c.specs.Register.{step, steps, byte_step, crc_run}
use Rattle.format.specs.Questions.{Answer, refused, accepted, ask, bind, held, code_of}
use Rattle.format.specs.Items.{Item, key_of, key_below, item_length, whole_item, first_item, read_items, read_sheet, key_bytes, item_bytes, items_bytes, sheet_bytes, nodesize_fits, on_sheet}
use Rattle.format.specs.Sheets.{item_space, space_of}
use Rattle.format.specs.LeafImage.{checksum, count_in, level_in, is_leaf, data_position, data_size_in, key_in, image_item, image_items, items_in_image, read_image, item_header_bytes, headers_bytes, data_bytes, summed_bytes, image_bytes, write_image, held_image}
use Rattle.format.proofs.Answers.{ask-yes}

-- An `unfolding` line with `computed_image` on it opens each definition on the line below; the checksum and what holds it stay shut
unfoldable pub computed_image : ℕ → List ℕ → Answer (List Item)
unfolding le le_bytes be be_bytes ask bind held code_of key_below item_length whole_item first_item read_items read_sheet key_bytes item_bytes items_bytes sheet_bytes nodesize_fits on_sheet item_space space_of count_in level_in data_position data_size_in key_in image_item image_items read_image item_header_bytes headers_bytes data_bytes summed_bytes write_image held_image
computed_image nodesize image = read_image nodesize image

-- one with `computed_sum` on it opens these
unfoldable pub computed_sum : ℕ → List ℕ → Bool
unfolding step steps byte_step crc_run checksum is_leaf image_bytes
computed_sum nodesize image = is_leaf nodesize image

-- ---- what the cases speak of

-- numbers counting up
abbrev pub up_from : ℕ → ℕ → List ℕ
up_from at zero = []
up_from at (suc count) = at ∷ up_from (suc at) count

abbrev pub item : ℕ → List ℕ → Item
item objectid bytes = record { key = key_of objectid 2 3; bytes = bytes }

-- an item's header
abbrev pub head : ℕ → ℕ → ℕ → List ℕ
head objectid position size = (objectid ∷ replicate 7 0) ++ (2 ∷ 3 ∷ replicate 7 0) ++ (le_bytes 4 position ++ le_bytes 4 size)

-- from byte 96 on: count, level, headers, gap, data
abbrev leaf : ℕ → ℕ → List (List ℕ) → ℕ → List ℕ → List ℕ
leaf count level heads gap bytes = le_bytes 4 count ++ (level ∷ (joined heads ++ (replicate gap 0 ++ bytes)))
  where
    joined : List (List ℕ) → List ℕ
    joined [] = []
    joined (h ∷ more) = h ++ joined more

-- ---- the checksum: CRC32C's check value, of the digits 1 to 9 as text

pub digits : checksum (up_from 0x31 9) ≡ 0xe3069283
unfolding computed_sum
digits = refl

-- ---- an image written

-- two items in 59 bytes behind the leaf's header, with a gap of four: the first one's data stands last, from 56 on
abbrev two : List Item
two = item 1 (9 ∷ 8 ∷ 7 ∷ []) ∷ item 4 (6 ∷ 5 ∷ []) ∷ []

pub summed : summed_bytes 160 (up_from 1 101) two ≡ up_from 33 64 ++ leaf 2 0 (head 1 56 3 ∷ head 4 54 2 ∷ []) 4 (6 ∷ 5 ∷ 9 ∷ 8 ∷ 7 ∷ [])
unfolding computed_image
summed = refl

-- bytes 0 to 31 before them
pub image-two : image_bytes 160 (up_from 1 101) two ≡ (0xd9 ∷ 0xf1 ∷ 0x29 ∷ 0x6e ∷ []) ++ (replicate 28 0 ++ summed_bytes 160 (up_from 1 101) two)
unfolding computed_image computed_sum
image-two = refl

pub written-two : write_image 501 (up_from 1 101) (sheet_bytes two) ≡ accepted (image_bytes 501 (up_from 1 101) two)
unfolding computed_image
written-two = refl

-- 1, 2, 3 of the nodesize, of the header's length, 18, in this order; 375 bytes of data are what an image of 501 bytes has room for
abbrev sheet_of : ℕ → ℕ → List ℕ
sheet_of objectid size = sheet_bytes (item 1 [] ∷ item objectid (replicate size 0) ∷ [])

abbrev codes : {A : Type 0} → List (Answer A) → List ℕ
codes [] = []
codes (a ∷ more) = code_of a ∷ codes more

pub refusals : codes (
    write_image 500 (up_from 0 100) []
    ∷ write_image 500 (up_from 0 100) (sheet_of 1 0)
    ∷ write_image 500 (up_from 0 101) (sheet_of 2 351)
    ∷ write_image 65537 (up_from 0 101) (sheet_of 2 0)
    ∷ write_image 501 (up_from 0 100) (sheet_of 2 351)
    ∷ write_image 501 (up_from 0 102) (sheet_of 2 0)
    ∷ write_image 501 (up_from 0 101) (sheet_of 2 351)
    ∷ []
    ) ≡ 1 ∷ 2 ∷ 3 ∷ 3 ∷ 3 ∷ 3 ∷ 18 ∷ []
unfolding computed_image
refusals = refl

-- 21, after these
pub rooms : codes (held_image 500 (accepted (replicate 501 0)) ∷ held_image 501 (accepted (replicate 501 0)) ∷ held_image 0 (refused 18) ∷ []) ≡ 21 ∷ 0 ∷ 18 ∷ []
unfolding computed_image
rooms = refl

-- ---- question 23

-- a leaf of 101 bytes; bytes 4 to 31 are not in the checksum
abbrev bare : List ℕ → List ℕ → ℕ → List ℕ
bare sum unsummed level = sum ++ (unsummed ++ (up_from 32 64 ++ (replicate 4 0 ++ (level ∷ []))))

abbrev tests : List Bool
tests =
    is_leaf 101 (bare (0x38 ∷ 0x32 ∷ 0x39 ∷ 0x03 ∷ []) (up_from 4 28) 0)
    ∷ is_leaf 101 (bare (0x38 ∷ 0x32 ∷ 0x39 ∷ 0x02 ∷ []) (up_from 4 28) 0)
    ∷ is_leaf 102 (bare (0x38 ∷ 0x32 ∷ 0x39 ∷ 0x03 ∷ []) (up_from 4 28) 0)
    ∷ is_leaf 101 (bare (0x3b ∷ 0xb1 ∷ 0x52 ∷ 0xf1 ∷ []) (up_from 4 28) 1)
    ∷ []

pub leaves : tests ≡ true ∷ false ∷ false ∷ false ∷ []
unfolding computed_image computed_sum
leaves = refl

-- ---- question 24, of the items alone

-- a leaf of that nodesize from its bytes behind 96
abbrev items_of : ℕ → List ℕ → Answer (List Item)
items_of nodesize bytes = items_in_image nodesize (up_from 1 96 ++ bytes)

pub packs : items_of 160 (leaf 2 0 (head 1 56 3 ∷ head 4 54 2 ∷ []) 4 (6 ∷ 5 ∷ 9 ∷ 8 ∷ 7 ∷ [])) ≡ accepted two
unfolding computed_image
packs = refl

-- of two items in 59 bytes
abbrev pair : List ℕ → List ℕ → Answer (List Item)
pair first second = items_of 160 (leaf 2 0 (first ∷ second ∷ []) 9 [])

-- of three in 89
abbrev third : List ℕ → Answer (List Item)
third h = items_of 190 (leaf 3 0 (head 2 86 3 ∷ head 1 84 2 ∷ h ∷ []) 14 [])

pub packings : codes (
    -- the second begins where the headers end, or a byte before
    pair (head 1 56 3) (head 4 50 6)
    ∷ pair (head 1 56 3) (head 4 49 7)
    -- the first ends a byte before the image's end, or behind it
    ∷ pair (head 1 55 3) (head 4 53 2)
    ∷ pair (head 1 56 4) (head 4 54 2)
    -- positions counted from byte 0
    ∷ pair (head 1 157 3) (head 4 155 2)
    -- a hole, and data that two items share
    ∷ pair (head 1 56 3) (head 4 53 2)
    ∷ pair (head 1 56 3) (head 4 55 2)
    -- empty data stands at the end that is due
    ∷ pair (head 1 59 0) (head 4 59 0)
    ∷ pair (head 1 59 0) (head 4 58 0)
    -- keys are not asked here: they fall before an item that is packed, and before one that is not
    ∷ third (head 3 80 4)
    ∷ third (head 3 80 3)
    -- headers that do not fit, and a position that is right in 32 bits alone
    ∷ items_of 160 (leaf 3 0 (head 1 59 0 ∷ head 4 59 0 ∷ []) 9 [])
    ∷ pair (head 1 0xffffffff 60) (head 4 54 2)
    -- no items, whatever the rest holds
    ∷ items_of 160 (leaf 0 0 (head 1 0 0 ∷ []) 34 [])
    ∷ []
    ) ≡ 0 ∷ 24 ∷ 24 ∷ 24 ∷ 24 ∷ 24 ∷ 24 ∷ 0 ∷ 24 ∷ 0 ∷ 24 ∷ 24 ∷ 24 ∷ 0 ∷ []
unfolding computed_image
packings = refl

-- ---- a read: 3, 23, 24 and 2 in this order

-- an image of 501 bytes with one item
abbrev pub one_item : List ℕ
one_item =
    (0x41 ∷ 0x0c ∷ 0x35 ∷ 0xc6 ∷ [])
    ++ (up_from 4 92 ++ (le_bytes 4 1 ++ (0 ∷ (head 1 397 3 ++ (replicate 372 7 ++ (9 ∷ 8 ∷ 7 ∷ []))))))

-- what follows 23 is said of an image that passes it; that this one does takes long to compute (`theorems/proofs/LeafImagesComputed`)
pub reads-one : T (is_leaf 501 one_item) → read_image 501 one_item ≡ accepted (item 1 (9 ∷ 8 ∷ 7 ∷ []) ∷ [])
unfolding computed_image
reads-one t = ask-yes (is_leaf 501 one_item) 23 (accepted (item 1 (9 ∷ 8 ∷ 7 ∷ []) ∷ [])) t

-- two items whose keys fall, and a third behind a hole, for every four bytes before them: so for those that are the checksum too
abbrev two_falling : List ℕ
two_falling = up_from 4 92 ++ leaf 2 0 (head 2 397 3 ∷ head 1 395 2 ∷ []) 345 (6 ∷ 5 ∷ 9 ∷ 8 ∷ 7 ∷ [])

abbrev three_with_hole : List ℕ
three_with_hole = up_from 4 92 ++ leaf 3 0 (head 2 397 3 ∷ head 1 395 2 ∷ head 3 390 4 ∷ []) 320 (6 ∷ 5 ∷ 9 ∷ 8 ∷ 7 ∷ [])

module _ (a b c d : ℕ) where
  pub falls : T (is_leaf 501 (a ∷ b ∷ c ∷ d ∷ two_falling)) → read_image 501 (a ∷ b ∷ c ∷ d ∷ two_falling) ≡ refused 2
  unfolding computed_image
  falls t = ask-yes (is_leaf 501 (a ∷ b ∷ c ∷ d ∷ two_falling)) 23 (refused 2) t

  pub falls-with-a-hole : T (is_leaf 501 (a ∷ b ∷ c ∷ d ∷ three_with_hole)) → read_image 501 (a ∷ b ∷ c ∷ d ∷ three_with_hole) ≡ refused 24
  unfolding computed_image
  falls-with-a-hole t = ask-yes (is_leaf 501 (a ∷ b ∷ c ∷ d ∷ three_with_hole)) 23 (refused 24) t

-- level 1 and badly packed; a nodesize too small or too large; no bytes
pub others : codes (
    read_image 501 (up_from 0 96 ++ leaf 1 1 (head 1 0 0 ∷ []) 375 [])
    ∷ read_image 500 []
    ∷ read_image 65537 []
    ∷ read_image 501 []
    ∷ []
    ) ≡ 23 ∷ 3 ∷ 3 ∷ 23 ∷ []
unfolding computed_image is_leaf
others = refl
