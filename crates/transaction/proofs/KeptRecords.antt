-- The record of type 169 whose offset is the level, and the call on it. Assumes nothing.
use mathlib.Core.Path.{◌≡◌, sym, ap, ◌∙◌, subst}
use mathlib.Core.Bool.{Bool, true, false, ◌||◌}
use mathlib.Core.Option.{Option}
use mathlib.Core.List.{List}
use Prim.Native.Nat.{ℕ}
use lib.Dec.{T, eqb}
use Rattle.fields.specs.Lists.{Cut}
use Rattle.fields.proofs.Lists.{Found, cut-some}
use Rattle.format.specs.declared.BlockRef.{BlockRef}
use Rattle.format.specs.declared.Key.{Key}
use Rattle.std.specs.Prelude.{Result}
use Rattle.format.specs.declared.Edited.{Edited}
use Rattle.format.specs.declared.Refusal.{Refusal}
use Rattle.format.specs.Questions.{Answer, refused, ask, bind, needed, Answered}
use Rattle.format.specs.Items.{Item, key_of, read_sheet, on_sheet, held_sheet}
use Rattle.format.specs.Sheets.{has_key}
use Rattle.format.specs.Apply.{is_record, drop_tree_ref, drop_kept_tree_ref, drop_kept_tree_ref_from}
use Rattle.format.proofs.Keys.{same_key-yes}
use Rattle.inline_refs.specs.declared.ref_name.RefName.TheVariants.{Block}
use Rattle.item_list.specs.declared.Sought.TheVariants.{Present, Absent}
use Rattle.item_list.specs.Steps.{list_items}
use Rattle.item_list.specs.Seeks.{seek_in}
use Rattle.item_list.proofs.Reading.{Counted}
use Rattle.item_list.proofs.Positions.{Sits, sits, no_cut, Inside, inside}
use Rattle.record_edit.specs.Records.{StandsAt, on_key}
use Rattle.transaction.specs.Drops.{drop_ref}

module _ (s : List ℕ) (bytenr level : ℕ) (name : BlockRef) (own : Bool) where
  pub kept-refused : (k : ℕ) → read_sheet s ≡ refused k → drop_kept_tree_ref_from s bytenr level name own ≡ refused k
  unfolding drop_kept_tree_ref_from on_sheet bind
  kept-refused k e = rw e

  module _ {n : ℕ} (counted : Counted s n) where
    abbrev key : Key
    key = key_of bytenr 169 level

    kept-is : drop_kept_tree_ref_from s bytenr level name own ≡ on_key key (list_items s) (drop_tree_ref name own (list_items s))
    unfolding drop_kept_tree_ref_from drop_kept_tree_ref on_sheet on_key bind ask
    kept-is = ap (λ (x : Answer (List Item)). bind x (λ items. ask true 3 (drop_kept_tree_ref bytenr level name own items))) counted.reads

    pub kept-none : (at : ℕ) → seek_in key 1 (list_items s) ≡ Absent at → drop_kept_tree_ref_from s bytenr level name own ≡ refused 5
    unfolding on_key bind needed
    kept-none at e =
        kept-is ∙ ap (λ (o : Option (Cut Item)). bind (needed 5 o) (drop_tree_ref name own (list_items s))) (no_cut key 1 (list_items s) at counted.rises e)

    -- the item of that key is a record
    pub kept-stands : (start end : ℕ) → seek_in key 1 (list_items s) ≡ Present start end
        → StandsAt s (record { key = key; start = start; end = end; item_count = n })
    unfolding is_record
    kept-stands start end e =
        let t : Sits key (list_items s) 1 start end = sits key 1 (list_items s) start end e in
        let d : Cut Item = t.at_cut in
        let f : Found (has_key key) (list_items s) d = cut-some (has_key key) (list_items s) t.is in
        let i : Inside s d.front d.hit start end =
        inside s (list_items s) d.front d.hit d.back start end counted.bytes-are f.same t.stands in
        let key-is : d.hit.key ≡ key = same_key-yes d.hit.key key f.hit in
        record {
          reads = counted.reads;
          many = counted.count;
          at_cut = d;
          finds = t.is;
          is-record = subst (λ (k : Key). T (eqb k.kind 168 || eqb k.kind 169)) (sym key-is) tt;
          starts = i.starts;
          ends = sym t.stands.ends;
        }

    -- by the flag that code tested
    pub kept-told : (flag : Bool) (room : ℕ) (r : Result Edited Refusal) (old new : List ℕ) → own ≡ flag
        → Answered (held_sheet room (on_key key (list_items s) (drop_tree_ref name flag (list_items s)))) r old new
        → Answered (held_sheet room (drop_kept_tree_ref_from s bytenr level name own)) r old new
    kept-told flag room r old new e w =
        subst (λ (a : Answer (List Item)). Answered (held_sheet room a) r old new)
        (ap (λ (b : Bool). on_key key (list_items s) (drop_tree_ref name b (list_items s))) (sym e) ∙ sym kept-is) w

    pub kept-plain : (room : ℕ) (r : Result Edited Refusal) (old new : List ℕ) → own ≡ false
        → Answered (held_sheet room (on_key key (list_items s) (drop_ref (Block name) 1 (list_items s)))) r old new
        → Answered (held_sheet room (drop_kept_tree_ref_from s bytenr level name own)) r old new
    unfolding drop_ref
    kept-plain room r old new e w = kept-told false room r old new e w
