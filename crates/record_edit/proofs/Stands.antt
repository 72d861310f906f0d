-- What follows of a record from where it stands: its bytes, and the bytes of the list. Assumes nothing.
use mathlib.Core.Path.{◌≡◌, sym, ap, ◌∙◌, subst}
use mathlib.Core.Option.{Option}
use mathlib.Core.List.{List, ◌∷◌, ◌++◌}
use Prim.Native.Nat.{ℕ, ◌+◌, ◌-◌, ◌≤◌}
use native.Mathlib.Omega.{arith}
use lib.Dec.{T}
use lib.ListN.{length}
use Rattle.fields.specs.Lists.{all, Cut}
use Rattle.fields.specs.Numbers.{are_bytes}
use Rattle.fields.specs.Parts.{part}
use Rattle.fields.proofs.Lists.{Found, cut-some}
use Rattle.std.specs.Prelude.{Result, Ok}
use Rattle.format.specs.declared.Edited.{Edited}
use Rattle.format.specs.declared.Refusal.{Refusal}
use Rattle.format.specs.Questions.{Answer, accepted, bind, needed, Answered}
use Rattle.format.specs.Items.{Item, read_sheet, items_bytes, sheet_bytes, data_fits, held_sheet}
use Rattle.format.specs.Sheets.{has_key}
use Rattle.format.specs.Apply.{is_record}
use Rattle.format.proofs.Items.{length-sheet_bytes, sheet-sane, sheet_bytes-read, sane-fit}
use Rattle.format.proofs.Keys.{same_key-yes}
use Rattle.format.proofs.Splices.{sheet-data}
use Rattle.item_list.specs.Steps.{list_items, checked_of}
use Rattle.item_list.proofs.Reading.{Counted, counted}
use Rattle.item_list.proofs.Positions.{Inside, inside}
use Rattle.record_edit.specs.declared.RecordAt.{RecordAt}
use Rattle.record_edit.specs.Records.{data_of, StandsAt, on_key}

pub record Stands (s : List ℕ) (c : Cut Item) (target : RecordAt) : Type 0 where
  pub reads : read_sheet s ≡ accepted (list_items s)
  pub same : list_items s ≡ c.front ++ c.hit ∷ c.back
  pub is-record : T (is_record c.hit)
  pub hit-is : c.hit ≡ record { key = target.key; bytes = data_of s target.start target.end }
  pub ordered : target.start + 21 ≤ target.end
  pub within : target.end ≤ length s
  pub small : length s ≤ 262144
  pub count : length (list_items s) ≡ target.item_count
  pub bytes-are : sheet_bytes (list_items s) ≡ s
  pub starts : length (sheet_bytes c.front) ≡ target.start
  pub ends : length (sheet_bytes c.front) + (21 + length c.hit.bytes) ≡ target.end
  pub fit : T (all (λ i. data_fits i.bytes) (list_items s))
  pub list : Counted s target.item_count

module _ {s : List ℕ} {target : RecordAt} (bytes : T (are_bytes s)) (h : StandsAt s target) where
  pub stands : Stands s h.at_cut target
  unfolding checked_of
  stands =
      let c : Cut Item = h.at_cut in
      let f : Found (has_key target.key) (list_items s) c = cut-some (has_key target.key) (list_items s) h.finds in
      let k = sheet-sane s (list_items s) bytes h.reads in
      let are : sheet_bytes (list_items s) ≡ s = sheet_bytes-read s (list_items s) bytes h.reads in
      let list : Counted s target.item_count = counted s target.item_count bytes (ap checked_of h.reads ∙ ap Ok h.many) in
      let e₁ = h.starts in
      let e₂ = h.ends in
      let first : target.start ≡ 1 + length (items_bytes c.front) = sym e₁ ∙ length-sheet_bytes c.front in
      let i : Inside s c.front c.hit target.start target.end =
      inside s (list_items s) c.front c.hit c.back target.start target.end are f.same (record { starts = first; ends = sym e₂ }) in
      let key-is : c.hit.key ≡ target.key = same_key-yes c.hit.key target.key f.hit in
      let size : length c.hit.bytes ≡ target.end - (target.start + 21) = omega arith in
      let bytes-is : c.hit.bytes ≡ data_of s target.start target.end =
      sym (sheet-data (list_items s) c.front c.hit c.back f.same) ∙ (λ j. part (e₁ j + 21) (size j) (are j)) in
      record {
        reads = h.reads;
        same = f.same;
        is-record = h.is-record;
        hit-is = λ j. record { key = key-is j; bytes = bytes-is j };
        ordered = i.ordered;
        within = i.within;
        small = k.3;
        count = h.many;
        bytes-are = are;
        starts = e₁;
        ends = i.ends;
        fit = sane-fit (list_items s) k.0;
        list = list;
      }

-- the call at the record's key is the call at its cut
pub on-key : {A : Type 0} {s : List ℕ} {target : RecordAt} (h : StandsAt s target) (next : Cut Item → Answer A)
    → on_key target.key (list_items s) next ≡ next h.at_cut
unfolding on_key bind needed
on-key h next = ap (λ (o : Option (Cut Item)). bind (needed 5 o) next) h.finds

pub key-answered : {s : List ℕ} {target : RecordAt} (h : StandsAt s target) (next : Cut Item → Answer (List Item)) (room : ℕ) (r : Result Edited Refusal) (old new : List ℕ)
    → Answered (held_sheet room (next h.at_cut)) r old new → Answered (held_sheet room (on_key target.key (list_items s) next)) r old new
key-answered h next room r old new w =
    subst (λ (a : Answer (List Item)). Answered (held_sheet room a) r old new) (sym (on-key h next)) w
