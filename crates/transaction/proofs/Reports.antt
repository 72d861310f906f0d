-- A drop's answer with how many are left: the number matters where a list was accepted; at the record's key. Assumes nothing.
use mathlib.Core.Path.{◌≡◌, refl, sym, ap, subst}
use mathlib.Core.Option.{Option}
use mathlib.Core.List.{List}
use Prim.Native.Nat.{ℕ}
use Rattle.fields.specs.Lists.{Cut}
use Rattle.std.specs.Prelude.{Result}
use Rattle.format.specs.declared.Dropped.{Dropped}
use Rattle.format.specs.declared.Refusal.{Refusal}
use Rattle.format.specs.Questions.{Answer, refused, accepted, needed, held, denied, result_or, AnsweredDropped}
use Rattle.format.specs.Items.{Item, sheet_holds, held_sheet}
use Rattle.format.proofs.Answers.{bind_ok, held-ok}
use Rattle.format.proofs.Left.{answered-left}
use Rattle.item_list.proofs.ItemWrites.{answered-no}
use Rattle.item_list.specs.Steps.{list_items}
use Rattle.backref.specs.Plans.{dropped_from}
use Rattle.backref.proofs.PlanAnswers.{wrote-dropped}
use Rattle.record_edit.specs.declared.RecordAt.{RecordAt}
use Rattle.record_edit.specs.Records.{StandsAt, on_key}
use Rattle.record_edit.proofs.Stands.{on-key}
use Rattle.transaction.specs.Drops.{on_key_left}

module _ (room : ℕ) (a : Answer (List Item)) where
  -- a refusal shows no number
  pub reports-no : (k n : ℕ) (old : List ℕ) → a ≡ refused k → AnsweredDropped (held_sheet room a) n (denied k) old old
  unfolding dropped_from
  reports-no k n old e = wrote-dropped (answered-no a room k old e) refl

  pub reports-held : {l m : ℕ} {r : Result Dropped Refusal} {old new : List ℕ} → ((items : List Item) → a ≡ accepted items → l ≡ m)
      → AnsweredDropped (held_sheet room a) l r old new → AnsweredDropped (held_sheet room a) m r old new
  unfolding held_sheet
  reports-held f w =
      answered-left w (λ result e. let h = bind_ok (held (sheet_holds room) a) _ e in f h.0 (held-ok (sheet_holds room) a h.1).0)

-- ---- at the record's key

pub on-key-left : {s : List ℕ} {target : RecordAt} (h : StandsAt s target) (left : Cut Item → ℕ) → on_key_left target.key (list_items s) left ≡ left h.at_cut
unfolding on_key_left needed
on-key-left h left = ap (λ (o : Option (Cut Item)). result_or 0 left (needed 5 o)) h.finds

pub reports-key : {s : List ℕ} {target : RecordAt} (h : StandsAt s target) (next : Cut Item → Answer (List Item)) (left : Cut Item → ℕ) (room : ℕ) (r : Result Dropped Refusal)
    (old new : List ℕ)
    → AnsweredDropped (held_sheet room (next h.at_cut)) (left h.at_cut) r old new
    → AnsweredDropped (held_sheet room (on_key target.key (list_items s) next)) (on_key_left target.key (list_items s) left) r old new
reports-key {s} {target} h next left room r old new w =
    subst (λ (n : ℕ). AnsweredDropped (held_sheet room (on_key target.key (list_items s) next)) n r old new) (sym (on-key-left h left))
    (subst (λ (a : Answer (List Item)). AnsweredDropped (held_sheet room a) (left h.at_cut) r old new) (sym (on-key h next)) w)
