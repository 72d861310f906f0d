-- An item by its number, from the answer of the pass. Assumes nothing.
use mathlib.Core.Path.{◌≡◌, sym, ap, ◌∙◌}
use mathlib.Core.Bool.{true}
use mathlib.Core.Option.{Option, none, some}
use mathlib.Core.List.{List}
use Prim.Native.Nat.{ℕ, ◌+◌, ◌-◌, ◌≤◌}
use native.Mathlib.Omega.{arith}
use native.Mathlib.Nat.{zero-add}
use lib.ListN.{length, take, get_elem?}
use Rattle.fields.specs.Lists.{sum}
use Rattle.fields.specs.Parts.{part}
use Rattle.item_list.specs.declared.ItemPlace.{ItemPlace}
use Rattle.format.specs.Questions.{Answer, refused, accepted, ask, bind, needed}
use Rattle.format.specs.Items.{Item, read_sheet, on_sheet}
use Rattle.format.specs.Sheets.{item_data, item_start}
use Rattle.format.proofs.Items.{length-items_bytes, length-sheet_bytes}
use Rattle.format.proofs.Splices.{sheet-data}
use Rattle.item_list.specs.declared.ItemQuery.TheVariants.{Index}
use Rattle.item_list.specs.Steps.{list_items}
use Rattle.item_list.specs.Seeks.{passing}
use Rattle.item_list.proofs.Reading.{Counted, Located, Lacking}
use Rattle.item_list.proofs.Positions.{Numbered, indexed-at, indexed-missing, Inside, inside}

module _ (s : List ℕ) (index : ℕ) (k : ℕ) (e : read_sheet s ≡ refused k) where
  pub item_refused : item_data s index ≡ refused k
  unfolding item_data on_sheet bind
  item_refused = rw e

  pub start-refused : item_start s index ≡ refused k
  unfolding item_start on_sheet bind
  start-refused = rw e

module _ (s : List ℕ) (index n : ℕ) (c : Counted s n) where
  item-is : (o : Option Item) → get_elem? (list_items s) index ≡ o → item_data s index ≡ bind (needed 5 o) (λ i. accepted i.bytes)
  unfolding item_data on_sheet bind ask
  item-is o e =
      ap (λ (x : Answer (List Item)). bind x (λ items. ask true 3 (bind (needed 5 (get_elem? items index)) (λ i. accepted i.bytes)))) c.reads
      ∙ ap (λ (x : Option Item). bind (needed 5 x) (λ i. accepted i.bytes)) e

  start_is : (o : Option Item) → get_elem? (list_items s) index ≡ o
      → item_start s index ≡ bind (needed 5 o) (λ i. accepted (1 + sum (λ j. 21 + length j.bytes) (take index (list_items s)) + 21))
  unfolding item_start on_sheet bind ask
  start_is o e =
      ap (λ (x : Answer (List Item)). bind x (λ items. ask true 3 (bind (needed 5 (get_elem? items index)) (λ i. accepted (1 + sum (λ j. 21 + length j.bytes) (take index items) + 21))))) c.reads
      ∙ ap (λ (x : Option Item). bind (needed 5 x) (λ i. accepted (1 + sum (λ j. 21 + length j.bytes) (take index (list_items s)) + 21))) e

module _ (s : List ℕ) (index n : ℕ) (l : Lacking (passing (Index index)) s n) where
  none-there : get_elem? (list_items s) index ≡ none
  unfolding passing
  none-there = indexed-missing index 0 index 1 (list_items s) (sym (zero-add index)) l.position

  pub item-missing : item_data s index ≡ refused 5
  unfolding bind needed
  item-missing = item-is s index n l.list none none-there

  pub start-missing : item_start s index ≡ refused 5
  unfolding bind needed
  start-missing = start_is s index n l.list none none-there

pub record Stored (s : List ℕ) (index start end : ℕ) : Type 0 where
  pub is : item_data s index ≡ accepted (part (start + 21) (end - (start + 21)) s)
  pub start_of : item_start s index ≡ accepted (start + 21)
  pub ordered : start + 21 ≤ end
  pub within : end ≤ length s

pub stored : (s : List ℕ) (index n : ℕ) (place : ItemPlace) → Located (passing (Index index)) s n place → Stored s index place.start place.end
unfolding bind needed passing
stored s index n place l =
    let start = place.start in
    let end = place.end in
    let c = l.list in
    let t : Numbered (list_items s) index 1 start end = indexed-at index 0 index 1 (list_items s) place (sym (zero-add index)) l.position in
    let i : Inside s t.front t.hit start end =
    inside s (list_items s) t.front t.hit t.back start end c.bytes-are t.same t.stands in
    let size : length t.hit.bytes ≡ end - (start + 21) = let a = i.starts in let b = i.ends in omega arith in
    let same : t.hit.bytes ≡ part (start + 21) (end - (start + 21)) s =
    sym (sheet-data (list_items s) t.front t.hit t.back t.same) ∙ (λ j. part (i.starts j + 21) (size j) (c.bytes-are j)) in
    let sums : sum (λ j. 21 + length j.bytes) (take index (list_items s)) ≡ sum (λ j. 21 + length j.bytes) t.front =
    ap (λ (l : List Item). sum (λ j. 21 + length j.bytes) l) t.before in
    let first : 1 + sum (λ j. 21 + length j.bytes) (take index (list_items s)) + 21 ≡ start + 21 =
    let a = i.starts in omega (arith, a, sums, length-items_bytes t.front, length-sheet_bytes t.front) in
    record {
      is = item-is s index n c (some t.hit) t.is ∙ ap accepted same;
      start_of = start_is s index n c (some t.hit) t.is ∙ ap accepted first;
      ordered = i.ordered;
      within = i.within;
    }
