-- A planned body under no limit: question 17 is never answered "no". Assumes nothing.
use mathlib.Core.Path.{◌≡◌, refl, subst}
use mathlib.Core.List.{List}
use Prim.Native.Nat.{ℕ, ◌≤◌}
use native.Mathlib.Omega.{arith}
use lib.ListN.{length}
use borrow.Author.Tests.{le-leb}
use Rattle.std.specs.Prelude.{Result, Ok, Err}
use Rattle.format.specs.declared.Edited.{Edited}
use Rattle.format.specs.declared.Refusal.{Refusal}
use Rattle.format.specs.Questions.{Answer, ask, bind, Answered}
use Rattle.backref.specs.declared.plan.BodyEdit.{BodyEdit}
use Rattle.backref.specs.declared.plan.Plan.{Plan}
use Rattle.backref.specs.declared.plan.Plan.TheVariants.{Edit, Absent, Remove}
use Rattle.backref.specs.Plans.{edited, plan_answer, EditIn, PlanIn}
use Rattle.backref.proofs.Outcomes.{length-edited}
use Rattle.record_edit.specs.declared.SecondEdit.{SecondEdit}
use Rattle.record_edit.specs.declared.RecordAt.{RecordAt}
use Rattle.record_edit.specs.Records.{data_of, edited_sheet, held_record, held_edit}
use Rattle.transaction.specs.Drops.{held_plan}

module _ (body : List ℕ) (room count : ℕ) (sheet : List ℕ → List ℕ) where
  under : (e : BodyEdit) → EditIn e body → held_edit room count 65564 sheet (edited e body) ≡ held_record room count (length (edited e body)) (sheet (edited e body))
  unfolding held_edit ask
  under e h =
      let low = h.order in
      let high = h.high in
      let fits = h.fits in
      let small = h.small in
      let l = length-edited e body h in
      let z : length (edited e body) ≤ 65564 = omega arith in
      rw (le-leb (length (edited e body)) 65564 z)

  no-limit : (p : Result Plan Refusal) → PlanIn p body
      → bind (plan_answer p body) (held_edit room count 65564 sheet) ≡ bind (plan_answer p body) (λ d. held_record room count (length d) (sheet d))
  unfolding bind plan_answer PlanIn
  no-limit (Ok (Edit e)) h = under e h
  no-limit (Ok Absent) h = refl
  no-limit (Ok Remove) h = refl
  no-limit (Err x) h = refl

pub put-held : (s : List ℕ) (target : RecordAt) (p : Result Plan Refusal) (b : SecondEdit) (room count : ℕ) (r : Result Edited Refusal) (old new : List ℕ)
    → PlanIn p (data_of s target.start target.end)
    → Answered (bind (plan_answer p (data_of s target.start target.end)) (held_edit room count 65564 (edited_sheet s target b))) r old new
    → Answered (held_plan room count s target p b) r old new
put-held s target p b room count r old new inside w =
    subst (λ (a : Answer (List ℕ)). Answered a r old new) (no-limit (data_of s target.start target.end) room count (edited_sheet s target b) p inside) w
