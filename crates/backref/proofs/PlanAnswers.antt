-- A planned call's answer: what the writer answered is what the definition says. Assumes nothing.
use mathlib.Core.Path.{◌≡◌, refl, sym, ap, subst, ◌∙◌}
use mathlib.Core.List.{List}
use Prim.Native.Nat.{ℕ}
use Rattle.std.specs.Prelude.{Option, Result}
use Rattle.format.specs.declared.Refusal.{Refusal}
use Rattle.format.specs.declared.Dropped.{Dropped}
use Rattle.format.specs.declared.Edited.{Edited}
use Rattle.format.specs.declared.Taken.{Taken}
use Rattle.format.specs.Questions.{Answer, refused, absent, remove, accepted, result_or, edited_of, dropped_of, TakenOut, Answered, AnsweredDropped, AnsweredTaken}
use Rattle.format.specs.Bodies.{held_body, held_taken}
use Rattle.format.proofs.Answers.{held-ok}
use Rattle.format.proofs.Left.{answered-left}
use Rattle.backref.specs.declared.plan.DropPlan.{DropPlan}
use Rattle.backref.specs.declared.plan.Plan.{Plan}
use Rattle.backref.specs.Plans.{plan_answer, plan_taken, Planned, PlannedTaken, PlannedDrop, dropped_from}

pub answered : {p : Result Plan Refusal} {body : List ℕ} {a : Answer (List ℕ)} (room : ℕ) {r : Result Edited Refusal} {old new : List ℕ} → Planned p body a
    → Answered (held_body room (plan_answer p body)) r old new → Answered (held_body room a) r old new
answered room {r} {old} {new} h w = subst (λ (x : Answer (List ℕ)). Answered (held_body room x) r old new) h.says w

pub answered-taken : {p : Result Plan Refusal} {body : List ℕ} {a : Answer TakenOut} (room : ℕ) {r : Result (Option Taken) Refusal} {old new : List ℕ} → PlannedTaken p body a
    → AnsweredTaken (held_taken room (plan_taken p body)) r old new → AnsweredTaken (held_taken room a) r old new
answered-taken room {r} {old} {new} h w = subst (λ (x : Answer TakenOut). AnsweredTaken (held_taken room x) r old new) h.says w

-- ---- with how many are left

dropped-is : (left : ℕ) (a : Answer (List ℕ)) → dropped_from left (edited_of a) ≡ dropped_of left a
unfolding dropped_from edited_of dropped_of
dropped-is left (refused number) = refl
dropped-is left absent = refl
dropped-is left remove = refl
dropped-is left (accepted result) = refl

pub wrote-dropped : {a : Answer (List ℕ)} {e : Result Edited Refusal} {r : Result Dropped Refusal} {left : ℕ} {old new : List ℕ} → Answered a e old new → r ≡ dropped_from left e
    → AnsweredDropped a left r old new
wrote-dropped {a} {left = left} w h = record { result = h ∙ ap (dropped_from left) w.result ∙ dropped-is left a; output = w.output }

module _ (room : ℕ) (left : List ℕ → ℕ) {p : DropPlan} {body old new : List ℕ} where
  pub answered-dropped : {a : Answer (List ℕ)} {r : Result Dropped Refusal} → PlannedDrop p body a left
      → AnsweredDropped (held_body room (plan_answer p.plan body)) p.left r old new → AnsweredDropped (held_body room a) (result_or 0 left a) r old new
  unfolding held_body
  answered-dropped {a} {r} h w =
      answered-left (subst (λ (x : Answer (List ℕ)). AnsweredDropped (held_body room x) p.left r old new) h.planned.says w)
      (λ result e. (let k = (held-ok _ a e).0 in h.leaves result k ∙ sym (ap (result_or 0 left) k)))
