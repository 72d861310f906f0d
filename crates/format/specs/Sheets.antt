-- Document 01, "Below it: calls on sheets": insert, insert_unbounded, delete, fit, fits, split, split_to_fit and lookup by item
-- number. A sheet is read first (questions 1 and 2) and the lent output asked last (question 21). Assumes nothing.
use Rattle.std.specs.Prelude.{Bool, true, not, ◌&&◌, cond, List, [], ◌∷◌, ◌++◌, ℕ, zero, suc, ◌+◌, ◌-◌, ◌/◌, leb, ltb, length, take, drop}
use Rattle.std.proofs.Math.Option.{Option, none, some}
use Rattle.std.proofs.Math.ListN.{get_elem?}
use Rattle.fields.specs.Lists.{sum, all, Cut, first_cut}
use Rattle.format.specs.Constants.{item_head}
use Rattle.format.specs.declared.Key.{Key}
use Rattle.format.specs.Questions.{Answer, accepted, ask, bind, needed, held}
use Rattle.format.specs.Items.{Item, same_key, key_below, on_sheet, nodesize_fits, data_fits, without}

-- ---- space: "101 plus, per item, 25 plus its data length"

unfoldable pub item_space : Item → ℕ
item_space i = 25 + length i.bytes

unfoldable pub space_of : List Item → ℕ
space_of items = 101 + sum item_space items

-- ---- insert, insert_unbounded, delete

abbrev pub has_key : Key → Item → Bool
has_key key i = same_key i.key key

unfoldable pub put_before : Item → List Item → Option (Cut Item) → List Item
put_before new items none = items ++ new ∷ []
put_before new items (some c) = c.front ++ new ∷ c.hit ∷ c.back

-- question 9, then the item before the first of a higher key
unfoldable pub inserted : Item → List Item → Answer (List Item)
inserted new items =
    ask (all (λ i. not (has_key new.key i)) items) 9
    (accepted (put_before new items (first_cut (λ i. key_below new.key i.key) items)))

unfoldable pub insert : ℕ → List ℕ → Item → Answer (List Item)
insert nodesize sheet new =
    on_sheet sheet (nodesize_fits nodesize && data_fits new.bytes) (λ items.
    bind (inserted new items) (λ result. ask (leb (space_of result) nodesize) 18 (accepted result)))

unfoldable pub insert_unbounded : List ℕ → Item → Answer (List Item)
insert_unbounded sheet new = on_sheet sheet (data_fits new.bytes) (inserted new)

-- question 5
unfoldable pub deleted : Key → List Item → Answer (List Item)
deleted key items = bind (needed 5 (first_cut (has_key key) items)) (λ c. accepted (without c))

unfoldable pub delete : List ℕ → Key → Answer (List Item)
delete sheet key = on_sheet sheet true (deleted key)

-- ---- fit, fits

unfoldable pub fit : ℕ → List ℕ → Answer Bool
fit nodesize sheet = on_sheet sheet (nodesize_fits nodesize) (λ items. accepted (leb (space_of items) nodesize))

unfoldable pub fits : ℕ → List ℕ → List ℕ → Answer Bool
fits nodesize sheet bytes =
    on_sheet sheet (nodesize_fits nodesize && data_fits bytes) (λ items.
    accepted (leb (space_of items + (25 + length bytes)) nodesize))

-- ---- split, split_to_fit: the item number at which each later leaf starts

-- "cuts at half the items, rounded up"
unfoldable pub split : List ℕ → Answer (List ℕ)
split sheet = on_sheet sheet true (λ items. ask (leb 2 (length items)) 19 (accepted ((length items + 1) / 2 ∷ [])))

-- both leaves of a two-way cut fit
unfoldable pub cut_fits : ℕ → List Item → ℕ → Bool
cut_fits nodesize items at = leb (space_of (take at items)) nodesize && leb (space_of (drop at items)) nodesize

unfoldable pub gap_of : List Item → ℕ → ℕ
gap_of items at =
    (space_of (take at items) - space_of (drop at items)) + (space_of (drop at items) - space_of (take at items))

-- a later cut takes over only with a smaller gap: "the earliest on ties"
unfoldable pub closer : List Item → Option ℕ → ℕ → Option ℕ
closer items none at = some at
closer items (some best) at = cond (ltb (gap_of items at) (gap_of items best)) (some at) (some best)

-- "the two-way cut of smallest size gap" among the first cuts
unfoldable pub best_cut : ℕ → List Item → ℕ → Option ℕ
best_cut nodesize items zero = none
best_cut nodesize items (suc at) =
    cond (cut_fits nodesize items (suc at)) (closer items (best_cut nodesize items at) (suc at)) (best_cut nodesize items at)

-- "it fills leaves from the left": item number `at` is next, and the leaf at hand takes `used`
unfoldable pub filled : ℕ → ℕ → ℕ → List Item → List ℕ
filled nodesize at used [] = []
filled nodesize at used (i ∷ items) =
    cond (leb (used + item_space i) nodesize) (filled nodesize (at + 1) (used + item_space i) items)
    (at ∷ filled nodesize (at + 1) (101 + item_space i) items)

unfoldable pub cuts_of : Option ℕ → List ℕ → List ℕ
cuts_of none otherwise = otherwise
cuts_of (some at) otherwise = at ∷ []

unfoldable pub cuts : ℕ → List Item → List ℕ
cuts nodesize items = cuts_of (best_cut nodesize items (length items - 1)) (filled nodesize 0 101 items)

-- question 20: each leaf starts after the one before it, the first at 0, and before the end
unfoldable pub leaves_hold : ℕ → List ℕ → ℕ → Bool
leaves_hold start [] end = ltb start end
leaves_hold start (at ∷ more) end = ltb start at && leaves_hold at more end

unfoldable pub split_to_fit : ℕ → List ℕ → Answer (List ℕ)
split_to_fit nodesize sheet =
    on_sheet sheet (nodesize_fits nodesize) (λ items.
    ask (all (λ i. leb (101 + item_space i) nodesize) items) 18
    (ask (leb 2 (length items)) 19
    (ask (leaves_hold 0 (cuts nodesize items) (length items)) 20
    (accepted (cuts nodesize items)))))

-- question 21 of a splitting call and of inline_refs: the lent slice has a place for each number
unfoldable pub held_cuts : ℕ → Answer (List ℕ) → Answer (List ℕ)
held_cuts room answer = held (λ numbers. leb (length numbers) room) answer

-- ---- lookup by item number, from 0: "the part of the sheet that is its data"

unfoldable pub item_data : List ℕ → ℕ → Answer (List ℕ)
item_data sheet number = on_sheet sheet true (λ items. bind (needed 5 (get_elem? items number)) (λ i. accepted i.bytes))

-- where that part starts: after the version byte, the items before it and 21 bytes of its own
unfoldable pub item_start : List ℕ → ℕ → Answer ℕ
item_start sheet number =
    on_sheet sheet true (λ items.
    bind (needed 5 (get_elem? items number)) (λ i.
    accepted (1 + sum (λ j. item_head + length j.bytes) (take number items) + item_head)))
