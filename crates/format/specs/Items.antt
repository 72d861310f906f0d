-- Document 01, "The entry", its first paragraph: a sorted item list as bytes (document 01's sheet), its items and keys, and
-- questions 1 to 3 and 21 of it. Assumes nothing.
use Rattle.std.specs.Prelude.{Bool, true, ◌&&◌, ◌||◌, List, [], ◌∷◌, ◌++◌, ℕ, zero, suc, ◌+◌, ◌-◌, leb, ltb, eqb, length, drop, get_or}
use Rattle.fields.specs.Lists.{all, Cut}
use Rattle.fields.specs.Numbers.{be, be_bytes}
use Rattle.fields.specs.Parts.{part}
use Rattle.format.specs.Constants.{item_head, most_data, most_sheet, most_items}
use Rattle.format.specs.declared.Key.{Key}
use Rattle.format.specs.Questions.{Answer, refused, accepted, ask, bind, held}

-- ---- items and keys

-- an item's key and its data
pub record Item : Type 0 where
  pub key : Key
  pub bytes : List ℕ

abbrev pub key_of : ℕ → ℕ → ℕ → Key
key_of objectid kind offset = record { objectid = objectid; kind = kind; offset = offset }

unfoldable pub same_key : Key → Key → Bool
same_key a b = eqb a.objectid b.objectid && (eqb a.kind b.kind && eqb a.offset b.offset)

-- "Keys compare by objectid, type, offset"
unfoldable pub key_below : Key → Key → Bool
key_below a b =
    ltb a.objectid b.objectid
    || (eqb a.objectid b.objectid && (ltb a.kind b.kind || (eqb a.kind b.kind && ltb a.offset b.offset)))

-- question 2: keys rise strictly
abbrev pub above : Item → List Item → Bool
above i [] = true
above i (j ∷ items) = key_below i.key j.key

abbrev pub rising : List Item → Bool
rising [] = true
rising (i ∷ items) = above i items && rising items

-- ---- an item list read: "a 4-byte length L, then objectid (8 bytes), type (1), offset (8), data", L, objectid, offset big-endian

-- L of the item that begins these bytes
unfoldable pub item_length : List ℕ → ℕ
item_length bytes = be (part 0 4 bytes)

-- it is whole, with L from 17 to 65,552
unfoldable pub whole_item : List ℕ → Bool
whole_item bytes = leb 17 (item_length bytes) && leb (item_length bytes) 65552 && leb (4 + item_length bytes) (length bytes)

unfoldable pub first_item : List ℕ → Item
first_item bytes =
    record {
      key = key_of (be (part 4 8 bytes)) (get_or bytes 12 0) (be (part 13 8 bytes));
      bytes = part item_head (item_length bytes - 17) bytes;
    }

-- the items to the end of the bytes, at most so many
unfoldable pub read_items : ℕ → List ℕ → Answer (List Item)
read_items zero [] = accepted []
read_items zero (b ∷ bytes) = refused 1
read_items (suc most) [] = accepted []
read_items (suc most) (b ∷ bytes) =
    ask (whole_item (b ∷ bytes)) 1
    (bind (read_items most (drop (4 + item_length (b ∷ bytes)) (b ∷ bytes))) (λ items. accepted (first_item (b ∷ bytes) ∷ items)))

-- questions 1 and 2
unfoldable pub read_sheet : List ℕ → Answer (List Item)
read_sheet [] = refused 1
read_sheet (version ∷ bytes) =
    ask (eqb version 1 && leb (1 + length bytes) most_sheet) 1
    (bind (read_items most_items bytes) (λ items. ask (rising items) 2 (accepted items)))

-- ---- an item list written: "version byte 1, then items to the end"

unfoldable pub key_bytes : Key → List ℕ
key_bytes key = be_bytes 8 key.objectid ++ (be_bytes 1 key.kind ++ be_bytes 8 key.offset)

unfoldable pub item_bytes : Item → List ℕ
item_bytes i = be_bytes 4 (17 + length i.bytes) ++ (key_bytes i.key ++ i.bytes)

unfoldable pub items_bytes : List Item → List ℕ
items_bytes [] = []
items_bytes (i ∷ items) = item_bytes i ++ items_bytes items

unfoldable pub sheet_bytes : List Item → List ℕ
sheet_bytes items = 1 ∷ items_bytes items

-- ---- questions 3 and 21

unfoldable pub nodesize_fits : ℕ → Bool
nodesize_fits nodesize = leb 501 nodesize && leb nodesize 65536

-- a new item's data
unfoldable pub data_fits : List ℕ → Bool
data_fits bytes = leb (length bytes) most_data

-- questions 1 to 3 of a call on a sheet, then its items
unfoldable pub on_sheet : {A : Type 0} → List ℕ → Bool → (List Item → Answer A) → Answer A
on_sheet sheet three next = bind (read_sheet sheet) (λ items. ask three 3 (next items))

-- "the lent output and the limits of questions 1 and 3 hold the result"
unfoldable pub sheet_holds : ℕ → List Item → Bool
sheet_holds room items =
    leb (length (sheet_bytes items)) room && leb (length (sheet_bytes items)) most_sheet && leb (length items) most_items
    && all (λ i. data_fits i.bytes) items

unfoldable pub held_sheet : ℕ → Answer (List Item) → Answer (List ℕ)
held_sheet room answer = bind (held (sheet_holds room) answer) (λ items. accepted (sheet_bytes items))

-- ---- one item of a list in another form

abbrev pub with_bytes : Item → List ℕ → Item
with_bytes i bytes = record { key = i.key; bytes = bytes }

-- the list with other data at a cut
abbrev pub put_back : Cut Item → List ℕ → List Item
put_back c bytes = c.front ++ with_bytes c.hit bytes ∷ c.back

-- the list without the item at a cut
abbrev pub without : Cut Item → List Item
without c = c.front ++ c.back
