-- The item read at a position of an item list is the one that stands there. Assumes nothing.
use mathlib.Core.Path.{◌≡◌, sym, ap, ap₂, ◌∙◌}
use mathlib.Core.List.{List, ◌∷◌, ◌++◌}
use Prim.Native.Nat.{ℕ, ◌+◌, ◌-◌}
use native.Mathlib.Omega.{arith}
use lib.Dec.{T}
use lib.ListN.{length, drop}
use Rattle.fields.specs.Parts.{part}
use Rattle.format.specs.Items.{Item, first_item, items_bytes, sheet_bytes}
use Rattle.format.proofs.Items.{sane, sane-out, first_item-back}
use Rattle.format.proofs.Splices.{sheet-from, sheet-data}
use Rattle.item_list.specs.Steps.{list_items, item_at}
use Rattle.item_list.proofs.Positions.{Inside}
use Rattle.record_edit.specs.Records.{data_of}

pub item-there : (s : List ℕ) (front : List Item) (hit : Item) (back : List Item) (start end : ℕ) → sheet_bytes (list_items s) ≡ s → list_items s ≡ front ++ hit ∷ back
    → T (sane hit) → Inside s front hit start end → hit ≡ record { key = (item_at s start).key; bytes = data_of s start end }
unfolding item_at items_bytes
item-there s front hit back start end are same t i =
    let there : first_item (drop start s) ≡ hit =
    ap₂ (λ (n : ℕ) (l : List ℕ). first_item (drop n l)) (sym i.starts) (sym are ∙ ap sheet_bytes same)
    ∙ ap first_item (sheet-from front (hit ∷ back)) ∙ first_item-back hit (items_bytes back) (sane-out hit t) in
    let size : length hit.bytes ≡ end - (start + 21) = let a = i.starts in let b = i.ends in omega arith in
    let bytes-is : hit.bytes ≡ data_of s start end =
    sym (sheet-data (list_items s) front hit back same) ∙ (λ j. part (i.starts j + 21) (size j) (are j)) in
    let key-is : hit.key ≡ (first_item (drop start s)).key = ap (λ (i : Item). i.key) (sym there) in
    λ j. record { key = key-is j; bytes = bytes-is j }
