-- Where items stand in an item list (document 01's sheet): the first that passes a test, and the position of a key; and what the
-- one pass answers: whether the bytes are an item list, and that first item. Assumes nothing.
use Rattle.std.specs.Prelude.{Bool, ◌&&◌, not, cond, List, [], ◌∷◌, ℕ, zero, suc, ◌+◌, eqb, leb, length, Option, Some, None, Result, Ok, Err}
use Rattle.format.specs.declared.Key.{Key}
use Rattle.format.specs.declared.Refusal.{Refusal}
use Rattle.format.specs.Questions.{Answer, result_or_code, denied}
use Rattle.format.specs.Constants.{most_items}
use Rattle.format.specs.Items.{Item, key_below, above, rising}
use Rattle.format.specs.Apply.{record_of}
use Rattle.item_list.specs.declared.ItemPlace.{ItemPlace}
use Rattle.item_list.specs.declared.ItemQuery.{ItemQuery}
use Rattle.item_list.specs.declared.ItemQuery.TheVariants.{Index, Record, AtOrPast}
use Rattle.item_list.specs.declared.Sought.{Sought}
use Rattle.item_list.specs.declared.Sought.TheVariants.{Present, Absent}
use Rattle.item_list.specs.declared.Listing.{Listing}

-- how many bytes an item takes
unfoldable pub item_size_of : Item → ℕ
item_size_of i = 21 + length i.bytes

-- an item's number, where it starts and where it ends
abbrev pub place_at : ℕ → ℕ → ℕ → ItemPlace
place_at index start end = record { index = index; start = start; end = end }

-- the first item that passes a test of its number and itself: its number, where it starts and where it ends. `number` and `at`
-- are those of the first item at hand
unfoldable pub position_in : (ℕ → Item → Bool) → ℕ → ℕ → List Item → Option ItemPlace
position_in test index at [] = None
position_in test index at (i ∷ items) =
    cond (test index i) (Some (place_at index at (at + item_size_of i))) (position_in test (index + 1) (at + item_size_of i) items)

abbrev pub indexed : ℕ → ℕ → Item → Bool
indexed query index i = eqb index query

abbrev pub recorded : ℕ → ℕ → Item → Bool
recorded extent index i = record_of extent i

abbrev pub at_or_past : Key → ℕ → Item → Bool
at_or_past key index i = not (key_below i.key key)

unfoldable pub passing : ItemQuery → ℕ → Item → Bool
passing (Index query) = indexed query
passing (Record extent) = recorded extent
passing (AtOrPast key) = at_or_past key

-- where a key stands among rising keys, or where an item with it belongs
unfoldable pub seek_in : Key → ℕ → List Item → Sought
seek_in key at [] = Absent at
seek_in key at (i ∷ items) =
    cond (key_below i.key key) (seek_in key (at + item_size_of i) items)
    (cond (key_below key i.key) (Absent at) (Present at (at + item_size_of i)))

-- ---- the one pass

-- a list of so many items, and a position in it
abbrev pub listed_at : ℕ → Option ItemPlace → Listing
listed_at count place = record { count = count; place = place }

-- the reader of an item list decides (format/proofs/Decisions, `sheet-decides`), so 100 and 101 do not come
unfoldable pub listing_of : (ℕ → Item → Bool) → Answer (List Item) → Result Listing Refusal
listing_of test answer = result_or_code denied (λ items. Ok (listed_at (length items) (position_in test 0 1 items))) answer

-- ---- the pass, from any item on

-- keys rise from `n` items on, the last of which has the key
abbrev pub rising_behind : ℕ → Key → List Item → Bool
rising_behind zero last items = rising items
rising_behind (suc n) last items = above (record { key = last; bytes = [] }) items && rising items

-- after all items: at most 4,096, and then question 2
unfoldable pub verdict_of : ℕ → Bool → Result ℕ Refusal
verdict_of count ordered = cond (leb count most_items) (cond ordered (Ok count) (denied 2)) (denied 1)

-- questions 1 and 2 where `n` items were read, in order or not, and those behind them read as given
unfoldable pub checked_behind : ℕ → Bool → Key → Answer (List Item) → Result ℕ Refusal
checked_behind n ordered last answer = result_or_code denied (λ items. verdict_of (n + length items) (ordered && rising_behind n last items)) answer

-- the same with a position
unfoldable pub listed_with : Result ℕ Refusal → Option ItemPlace → Result Listing Refusal
listed_with (Err refusal) place = Err refusal
listed_with (Ok count) place = Ok (listed_at count place)
