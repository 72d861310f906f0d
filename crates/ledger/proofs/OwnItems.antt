-- The item at a name's key, in the bytes of a balanced sheet. Assumes nothing.
use mathlib.Core.Path.{◌≡◌, sym, ap, ◌∙◌, subst}
use mathlib.Core.Bool.{Bool, true, not}
use mathlib.Core.List.{List}
use Prim.Native.Nat.{ℕ, ◌+◌, ◌≤◌}
use native.Mathlib.Omega.{arith}
use lib.Dec.{T, eqb, eqb→eq}
use lib.ListN.{length, get_or}
use mir.Syntax.{w8}
use mir.Val.{Fits}
use mir.Facts.{and_yes}
use Rattle.fields.specs.Lists.{all, Cut}
use Rattle.fields.specs.Numbers.{are_bytes}
use Rattle.fields.proofs.Numbers.{are_bytes-in}
use Rattle.fields.proofs.Lists.{all-mid, Found, cut-some}
use Rattle.format.specs.References.{rank_of}
use Rattle.format.specs.Items.{Item, key_of}
use Rattle.format.specs.Sheets.{has_key}
use Rattle.format.specs.Apply.{is_record, record_of}
use Rattle.format.specs.Names.{good, balanced}
use Rattle.format.specs.Ledger.{not_its_own}
use Rattle.format.proofs.Items.{sane}
use Rattle.theorems.proofs.Edit.{balanced-out}
use Rattle.inline_refs.specs.declared.ref_name.RefName.{RefName}
use Rattle.inline_refs.specs.Scans.{kind_of, fields_of}
use Rattle.item_list.specs.declared.Sought.{Sought}
use Rattle.item_list.specs.declared.Sought.TheVariants.{Present, Absent}
use Rattle.item_list.specs.Steps.{list_items, list_items_from}
use Rattle.item_list.specs.Seeks.{seek_in}
use Rattle.item_list.proofs.Reading.{Counted}
use Rattle.item_list.proofs.Positions.{Sits, sits, Inside, inside}
use Rattle.record_edit.specs.Records.{data_of, StandsFor}
use Rattle.record_edit.proofs.Places.{item-there}
use Rattle.transaction.proofs.BehindRecord.{behind-is}
use Rattle.ledger.specs.Posting.{name_in, is_own_item}
use Rattle.ledger.proofs.Own.{own_key, own-absent, own-found, data-long}
use Rattle.record_edit.specs.declared.RecordAt.{RecordAt}
use Rattle.record_edit.proofs.Stands.{Stands, stands}
use Rattle.transaction.proofs.RefDrops.{kind-high}

-- the bytes of a sheet, as their type tells them
abbrev pub Bytes : List ℕ → Type 0
Bytes s = (i : ℕ) → Fits w8 (get_or s i 0)

pub bytes : (s : List ℕ) → Bytes s → T (are_bytes s)
bytes s b = are_bytes-in s (λ i. (b i).fits)

-- the record stands
pub found : {s : List ℕ} {extent : ℕ} {target : RecordAt} → Bytes s → (h : StandsFor s extent target) → Stands s h.stands.at_cut target
found b h = stands (bytes _ b) h.stands

pub record Seat (s : List ℕ) (extent : ℕ) (w : RefName) (start end : ℕ) : Type 0 where
  pub ordered : start + 21 ≤ end
  pub within : end ≤ length s
  pub long : kind_of w ≡ 178 → 24 ≤ length (data_of s start end)
  pub own : (b : Bool) → b ≡ is_own_item w (data_of s start end) → not b ≡ all (not_its_own (name_in extent w)) (list_items s)

module _ {s : List ℕ} {extent : ℕ} {target : RecordAt} (t : Bytes s) (there : StandsFor s extent target) (balance : T (balanced (list_items s)))
    (w : RefName) (kind offset : ℕ) (kind-is : kind ≡ kind_of w) (offset-is : offset ≡ rank_of (kind_of w) (fields_of w)) where
  st : Stands s there.stands.at_cut target
  st = found t there

  count : Counted s target.item_count
  count = st.list

  -- behind the record as in the whole list
  sought : {r : Sought} → seek_in (key_of extent kind offset) target.end (list_items_from s target.end) ≡ r → seek_in (own_key (name_in extent w)) 1 (list_items s) ≡ r
  sought e =
      let hit : Item = there.stands.at_cut.hit in
      let is = and_yes (is_record hit) (eqb hit.key.objectid extent) (cut-some (record_of extent) (list_items s) there.first).hit in
      sym (behind-is st (own_key (name_in extent w)) (sym (eqb→eq _ _ is.1)) (kind-high w))
      ∙ sym (λ j. seek_in (key_of extent (kind-is j) (offset-is j)) target.end (list_items_from s target.end)) ∙ e

  pub no-seat : (at : ℕ) → seek_in (key_of extent kind offset) target.end (list_items_from s target.end) ≡ Absent at → true ≡ all (not_its_own (name_in extent w)) (list_items s)
  no-seat at e = own-absent (name_in extent w) (list_items s) count.sane-all count.rises 1 at (sought e)

  pub seat : (start end : ℕ) → seek_in (key_of extent kind offset) target.end (list_items_from s target.end) ≡ Present start end → Seat s extent w start end
  seat start end e =
      let t : Sits (own_key (name_in extent w)) (list_items s) 1 start end = sits (own_key (name_in extent w)) 1 (list_items s) start end (sought e) in
      let d : Cut Item = t.at_cut in
      let f : Found (has_key (own_key (name_in extent w))) (list_items s) d = cut-some (has_key (own_key (name_in extent w))) (list_items s) t.is in
      let i : Inside s d.front d.hit start end =
      inside s (list_items s) d.front d.hit d.back start end count.bytes-are f.same t.stands in
      let sane-hit : T (sane d.hit) =
      all-mid sane d.front d.hit d.back (subst (λ (l : List Item). T (all sane l)) f.same count.sane-all) in
      let bytes-is : d.hit.bytes ≡ data_of s start end =
      ap (λ (x : Item). x.bytes) (item-there s d.front d.hit d.back start end count.bytes-are f.same sane-hit i) in
      let g : T (good d.hit) =
      all-mid good d.front d.hit d.back (subst (λ (l : List Item). T (all good l)) f.same (balanced-out (list_items s) balance).goods) in
      record {
        ordered = i.ordered;
        within = i.within;
        long = λ k. let l : length d.hit.bytes ≡ 28 = data-long (list_items s) count.sane-all count.rises extent w d t.is g k in
            let m : length (data_of s start end) ≡ 28 = sym (ap length bytes-is) ∙ l in
            omega (arith, m);
        own = λ b h. own-found (list_items s) count.sane-all count.rises extent w d t.is g b (h ∙ ap (is_own_item w) (sym bytes-is));
      }
