-- The calls that add a reference, from the record's position and the planned body. Assumes nothing.
use mathlib.Core.Path.{◌≡◌, sym, ap, ◌∙◌}
use mathlib.Core.Bool.{Bool, true, false, ◌&&◌}
use mathlib.Core.List.{List}
use Prim.Native.Nat.{ℕ}
use lib.Dec.{leb, T}
use lib.ListN.{length}
use Rattle.fields.specs.Lists.{Cut}
use Rattle.format.specs.declared.SharedRef.{SharedRef}
use Rattle.std.specs.Prelude.{Result}
use Rattle.format.specs.declared.Edited.{Edited}
use Rattle.format.specs.declared.Refusal.{Refusal}
use Rattle.format.specs.Questions.{Answer, accepted, ask, bind, denied, Answered, refused}
use Rattle.format.specs.Bodies.{shared_kind}
use Rattle.format.specs.Items.{Item, nodesize_fits, held_sheet, put_back}
use Rattle.format.specs.Apply.{inline_limit, shared_body, apply_shared_add, apply_shared_add_to}
use Rattle.item_list.proofs.ItemWrites.{answered-no}
use Rattle.backref.specs.declared.plan.Plan.{Plan}
use Rattle.backref.specs.Plans.{plan_answer, Planned}
use Rattle.record_edit.specs.Records.{data_of, held_edit, nothing, edited_sheet, asked_sheet, RecordMissing, RecordFound}
use Rattle.transaction.specs.Keyed.{limit_for}
use Rattle.fields.specs.Numbers.{are_bytes}
use Rattle.record_edit.specs.declared.RecordAt.{RecordAt}
use Rattle.record_edit.proofs.Stands.{stands}
use Rattle.record_edit.proofs.Searches.{on-refused, on-missing, on-found}
use Rattle.transaction.proofs.Records.{put-limited}

-- ---- question 3

pub both_yes : (a b r : Bool) → a ≡ true → r ≡ b → r ≡ (a && b)
both_yes a b r h e = rw h e

pub both-no : (a b : Bool) → a ≡ false → false ≡ (a && b)
both-no a b h = rw h

-- ---- apply_shared_add

abbrev shared-next : ℕ → SharedRef → ℕ → Bool → Cut Item → Answer (List Item)
shared-next nodesize name count as_item c =
    bind (shared_body c.hit name count as_item) (λ body. ask (leb (length body) (inline_limit nodesize)) 17 (accepted (put_back c body)))

module _ (nodesize : ℕ) (name : SharedRef) (count : ℕ) (as_item : Bool) (room : ℕ) where
  abbrev three : Bool
  three = nodesize_fits nodesize && shared_kind name.kind

  pub shared-add-refused : (s : List ℕ) (extent k : ℕ) (old : List ℕ) → asked_sheet s three ≡ refused k
      → Answered (held_sheet room (apply_shared_add_to nodesize s extent name count as_item)) (denied k) old old
  unfolding apply_shared_add_to
  shared-add-refused s extent k old e = answered-no _ room k old (on-refused s three k (apply_shared_add nodesize extent name count as_item) e)

  pub shared-add-missing : {s : List ℕ} {extent : ℕ} → RecordMissing s extent three → (old : List ℕ)
      → Answered (held_sheet room (apply_shared_add_to nodesize s extent name count as_item)) (denied 5) old old
  unfolding apply_shared_add_to apply_shared_add
  shared-add-missing l old = answered-no _ room 5 old (on-missing l (λ items. shared-next nodesize name count as_item))

  pub shared-add-answered : {s : List ℕ} {extent index : ℕ} {target : RecordAt} → T (are_bytes s) → RecordFound s extent three index target
      → (limit : ℕ) (plan : Result Plan Refusal) (r : Result Edited Refusal) (old new : List ℕ)
      → limit ≡ limit_for nodesize (length (data_of s target.start target.end)) false
      → Planned plan (data_of s target.start target.end) (shared_body (record { key = target.key; bytes = data_of s target.start target.end }) name count as_item)
      → Answered (bind (plan_answer plan (data_of s target.start target.end)) (held_edit room target.item_count limit (edited_sheet s target (nothing (length s))))) r old new
      → Answered (held_sheet room (apply_shared_add_to nodesize s extent name count as_item)) r old new
  unfolding apply_shared_add_to apply_shared_add limit_for
  shared-add-answered bytes h limit plan r old new limit-eq p w =
      let st = stands bytes h.there.stands in
      let hit : Item = h.there.stands.at_cut.hit in
      put-limited st room limit plan (shared_body hit name count as_item) (λ d. leb (length d) (inline_limit nodesize)) _ r old new
      (λ d e. ap (leb (length d)) (sym limit-eq)) (on-found h (λ items. shared-next nodesize name count as_item))
      (p.says ∙ ap (λ (i : Item). shared_body i name count as_item) (sym st.hit-is)) w
