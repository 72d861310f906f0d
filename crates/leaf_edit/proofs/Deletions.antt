-- An item taken out of an item list, from the answers of the pass and of the search. Assumes nothing.
use mathlib.Core.Path.{◌≡◌, sym, ap, ◌∙◌, subst}
use mathlib.Core.Bool.{true}
use mathlib.Core.Option.{Option, none, some}
use mathlib.Core.List.{List, [], ◌∷◌}
use Prim.Native.Nat.{ℕ, ◌-◌, ◌≤◌}
use native.Mathlib.Omega.{arith}
use lib.Dec.{T}
use lib.ListN.{length, length-append}
use Rattle.fields.specs.Lists.{all, Cut, first_cut}
use Rattle.fields.specs.Parts.{spliced}
use Rattle.fields.proofs.Lists.{all_rest, Found, cut-some}
use Rattle.format.specs.declared.Key.{Key}
use Rattle.format.specs.Questions.{Answer, refused, accepted, ask, bind, needed}
use Rattle.format.specs.Items.{Item, read_sheet, sheet_bytes, on_sheet, data_fits, without}
use Rattle.format.specs.Sheets.{has_key, deleted, delete}
use Rattle.format.proofs.Splices.{sheet-remove}
use Rattle.format.proofs.Items.{sane-fit}
use Rattle.item_list.specs.declared.Sought.TheVariants.{Present, Absent}
use Rattle.item_list.specs.Steps.{list_items}
use Rattle.item_list.specs.Seeks.{seek_in}
use Rattle.item_list.proofs.Reading.{Counted}
use Rattle.item_list.proofs.Positions.{Sits, sits, no_cut, Inside, inside}

pub delete-refused : (s : List ℕ) (key : Key) (k : ℕ) → read_sheet s ≡ refused k → delete s key ≡ refused k
unfolding delete on_sheet bind
delete-refused s key k e = rw e

module _ (s : List ℕ) (n : ℕ) (c : Counted s n) (key : Key) where
  delete-is : (o : Option (Cut Item)) → first_cut (has_key key) (list_items s) ≡ o → delete s key ≡ bind (needed 5 o) (λ d. accepted (without d))
  unfolding delete on_sheet bind ask deleted
  delete-is o e =
      ap (λ (x : Answer (List Item)). bind x (λ items. ask true 3 (deleted key items))) c.reads
      ∙ ap (λ (x : Option (Cut Item)). bind (needed 5 x) (λ d. accepted (without d))) e

  pub delete-absent : (at : ℕ) → seek_in key 1 (list_items s) ≡ Absent at → delete s key ≡ refused 5
  unfolding bind needed
  delete-absent at e = delete-is none (no_cut key 1 (list_items s) at c.rises e)

  pub record Deletion (start end : ℕ) : Type 0 where
    pub items : List Item
    pub result : delete s key ≡ accepted items
    pub bytes-are : sheet_bytes items ≡ spliced start end [] s
    pub count : length items ≡ n - 1
    pub some-items : 1 ≤ n
    pub fit : T (all (λ i. data_fits i.bytes) items)
    pub ordered : start ≤ end
    pub within : end ≤ length s

  pub deletion : (start end : ℕ) → seek_in key 1 (list_items s) ≡ Present start end → Deletion start end
  unfolding bind needed
  deletion start end e =
      let t : Sits key (list_items s) 1 start end = sits key 1 (list_items s) start end e in
      let d : Cut Item = t.at_cut in
      let f : Found (has_key key) (list_items s) d = cut-some (has_key key) (list_items s) t.is in
      let i : Inside s d.front d.hit start end =
      inside s (list_items s) d.front d.hit d.back start end c.bytes-are f.same t.stands in
      let l₁ = sym c.count ∙ ap length f.same ∙ length-append d.front (d.hit ∷ d.back) in
      let l₂ = length-append d.front d.back in
      let o = i.ordered in
      record {
        items = without d;
        result = delete-is (some d) t.is;
        bytes-are = sheet-remove (list_items s) d.front d.hit d.back f.same
            ∙ (λ j. spliced (i.starts j) (i.ends j) [] (c.bytes-are j));
        count = l₂ ∙ omega (arith, l₁);
        some-items = omega (arith, l₁);
        fit = all_rest (λ i. data_fits i.bytes) d.front d.hit d.back
            (subst (λ (l : List Item). T (all (λ i. data_fits i.bytes) l)) f.same (sane-fit (list_items s) c.sane-all));
        ordered = omega (arith, o);
        within = i.within;
      }
