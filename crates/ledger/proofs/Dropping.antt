-- A reference dropped, from the record's position to the change. Assumes nothing.
use mathlib.Core.Path.{sym, ◌∙◌, subst}
use mathlib.Core.List.{List}
use Prim.Native.Nat.{ℕ}
use lib.Dec.{T}
use Rattle.fields.specs.Lists.{all, Cut}
use Rattle.std.specs.Prelude.{Result}
use Rattle.format.specs.declared.Edited.{Edited}
use Rattle.format.specs.declared.Refusal.{Refusal}
use Rattle.format.specs.Questions.{Answer, Answered}
use Rattle.format.specs.Items.{Item, held_sheet}
use Rattle.format.specs.Apply.{on_record}
use Rattle.format.specs.Names.{good}
use Rattle.inline_refs.specs.declared.ref_name.RefName.{RefName}
use Rattle.inline_refs.specs.declared.ref_name.RefName.TheVariants.{Block, Data, SharedBlock, SharedData}
use Rattle.item_list.specs.Steps.{list_items}
use Rattle.record_edit.specs.declared.RecordAt.{RecordAt}
use Rattle.record_edit.specs.Records.{on_key, StandsFor}
use Rattle.transaction.specs.Drops.{SharedInForm}
use Rattle.record_edit.proofs.Stands.{on-key}
use Rattle.record_edit.proofs.Searches.{on-record}

-- what a drop asks of the items is so in a balanced list
pub in-form : (w : RefName) (items : List Item) → T (all good items) → SharedInForm w items
in-form (Block name) items t = tt
in-form (Data name) items t = tt
in-form (SharedBlock parent) items t = tt
in-form (SharedData parent) items t = t

module _ {s : List ℕ} {extent : ℕ} {target : RecordAt} (h : StandsFor s extent target) where
  pub drop-answered : (call : Cut Item → Answer (List Item)) (room : ℕ) (r : Result Edited Refusal) (old new : List ℕ)
      → Answered (held_sheet room (on_key target.key (list_items s) call)) r old new → Answered (held_sheet room (on_record extent (list_items s) call)) r old new
  drop-answered call room r old new w =
      subst (λ (a : Answer (List Item)). Answered (held_sheet room a) r old new)
      (on-key h.stands call ∙ sym (on-record h call)) w
