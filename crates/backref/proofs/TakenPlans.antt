-- Laws of a plan that takes a reference out: what it answers, and what the writer of it answers. Assumes nothing.
use mathlib.Core.Path.{◌≡◌, refl, sym, ap, subst, ◌∙◌}
use mathlib.Core.Bool.{Bool, true, false, ◌&&◌}
use mathlib.Core.List.{List}
use Prim.Native.Nat.{ℕ}
use native.Mathlib.Omega.{arith}
use lib.Dec.{leb}
use lib.ListN.{length}
use Rattle.std.specs.Prelude.{Option, Some, None, Result, Ok, Err}
use Rattle.format.specs.declared.Refusal.{Refusal}
use Rattle.format.specs.declared.Edited.TheVariants.{Written}
use Rattle.format.proofs.Answers.{accepted-inj}
use Rattle.format.specs.declared.Taken.{Taken}
use Rattle.format.specs.Questions.{Answer, refused, absent, accepted, ask, bind, held, lent, edited_of, taken_of, bytes_of, TakenOut, Answered, AnsweredTaken, denied}
use Rattle.format.specs.Bodies.{body_fits, held_body, held_taken}
use Rattle.backref.specs.declared.plan.Plan.TheVariants.{Edit, Absent, Remove}
use Rattle.backref.specs.declared.plan.BodyEdit.{BodyEdit}
use Rattle.backref.specs.declared.plan.Plan.{Plan}
use Rattle.backref.specs.Plans.{edited, as_written, plan_answer, plan_taken, PlanIn, Planned, PlannedTaken}
use Rattle.backref.proofs.Outcomes.{as-written, as-refused}

-- ---- the writer

abbrev pub with-count : ℕ → List ℕ → Answer TakenOut
with-count count bytes = accepted (record { bytes = bytes; count = count })

-- what an edit wrote, with the count
module _ (room count : ℕ) (bytes : List ℕ) where
  abbrev taken : Answer TakenOut
  taken = held_taken room (with-count count bytes)

  asked-bytes : (b : Bool) → bytes_of (ask b 21 (with-count count bytes)) ≡ ask b 21 (accepted bytes)
  unfolding ask bind
  asked-bytes true = refl
  asked-bytes false = refl

  taken-bytes : bytes_of taken ≡ held_body room (accepted bytes)
  unfolding held_taken held_body held bind
  taken-bytes = asked-bytes (leb (length bytes) room && body_fits bytes)

  said-out : (n : ℕ) (b : Bool) → Ok (Written n) ≡ edited_of (ask b 21 (accepted bytes)) → Ok (Some (record { size = n; count = count })) ≡ taken_of (ask b 21 (with-count count bytes))
  unfolding ask edited_of taken_of
  said-out n true q = let z : n ≡ length bytes = cc in ap (λ (m : ℕ). Ok (Some (record { size = m; count = count }))) z
  said-out n false q = let z : ◌≡◌ {A = ℕ} 0 1 = cc in absurd (omega arith)

  said-no : (x : Refusal) (b : Bool) → Err x ≡ edited_of (ask b 21 (accepted bytes)) → Err x ≡ taken_of (ask b 21 (with-count count bytes))
  unfolding ask edited_of taken_of
  said-no x true q = let z : ◌≡◌ {A = ℕ} 0 1 = cc in absurd (omega arith)
  said-no x false q = let z : x ≡ record { number = 21 } = cc in ap Err z

  pub wrote-out : {n : ℕ} {r : Result ℕ Refusal} {old new : List ℕ} → r ≡ Ok n → Answered (held_body room (accepted bytes)) (as_written r) old new
      → AnsweredTaken taken (Ok (Some (record { size = n; count = count }))) old new
  unfolding held_taken held_body held bind
  wrote-out {n} {old = old} e w = record {
    result = said-out n (leb (length bytes) room && body_fits bytes) (as-written e w).result;
    output = w.output ∙ ap (λ (a : Answer (List ℕ)). lent a old) (sym taken-bytes);
  }

  pub refused-out : {x : Refusal} {r : Result ℕ Refusal} {old new : List ℕ} → r ≡ Err x → Answered (held_body room (accepted bytes)) (as_written r) old new
      → AnsweredTaken taken (Err x) old new
  unfolding held_taken held_body held bind
  refused-out {x} {old = old} e w = record {
    result = said-no x (leb (length bytes) room && body_fits bytes) (as-refused e w).result;
    output = w.output ∙ ap (λ (a : Answer (List ℕ)). lent a old) (sym taken-bytes);
  }

-- by the plan
module _ {p : Result Plan Refusal} (body : List ℕ) (room : ℕ) where
  pub took : {r : Result (Option Taken) Refusal} {old new : List ℕ} {e : BodyEdit} → p ≡ Ok (Edit e) → AnsweredTaken (held_taken room (with-count e.count (edited e body))) r old new
      → AnsweredTaken (held_taken room (plan_taken p body)) r old new
  unfolding plan_taken
  took {r} {old} {new} k h = subst (λ (q : Result Plan Refusal). AnsweredTaken (held_taken room (plan_taken q body)) r old new) (sym k) h

module _ {p : Result Plan Refusal} (body : List ℕ) (room : ℕ) (old : List ℕ) where
  pub took-none : p ≡ Ok Absent → AnsweredTaken (held_taken room (plan_taken p body)) (Ok None) old old
  unfolding plan_taken held_taken held bind lent taken_of
  took-none k = subst (λ (q : Result Plan Refusal). AnsweredTaken (held_taken room (plan_taken q body)) (Ok None) old old) (sym k) (record { result = refl; output = refl })

  pub took-remove : p ≡ Ok Remove → AnsweredTaken (held_taken room (plan_taken p body)) (denied 101) old old
  unfolding plan_taken held_taken held bind lent taken_of
  took-remove k = subst (λ (q : Result Plan Refusal). AnsweredTaken (held_taken room (plan_taken q body)) (denied 101) old old) (sym k) (record { result = refl; output = refl })

  pub took-refused : {x : Refusal} → p ≡ Err x → AnsweredTaken (held_taken room (plan_taken p body)) (Err x) old old
  unfolding plan_taken held_taken held bind lent taken_of
  took-refused {x} k = subst (λ (q : Result Plan Refusal). AnsweredTaken (held_taken room (plan_taken q body)) (Err x) old old) (sym k) (record { result = refl; output = refl })

-- ---- the contract of such a plan

module _ (p : Result Plan Refusal) (body : List ℕ) where
  pub taken_refused : (answer : Answer TakenOut) (n : ℕ) → p ≡ denied n → answer ≡ refused n → PlannedTaken p body answer
  unfolding plan_taken PlanIn
  taken_refused answer n o e = subst (λ (q : Result Plan Refusal). PlannedTaken q body answer) (sym o) (record { says = sym e; inside = tt })

  pub taken-same : (answer other : Answer TakenOut) → answer ≡ other → PlannedTaken p body answer → PlannedTaken p body other
  taken-same answer other e h = record { says = h.says ∙ e; inside = h.inside }

  pub taken-absent : (answer : Answer TakenOut) → p ≡ Ok Absent → answer ≡ absent → PlannedTaken p body answer
  unfolding plan_taken PlanIn
  taken-absent answer o e = subst (λ (q : Result Plan Refusal). PlannedTaken q body answer) (sym o) (record { says = sym e; inside = tt })

  pub taken-edit : (answer : Answer TakenOut) (bytes : List ℕ) (e : BodyEdit) → p ≡ Ok (Edit e) → Planned p body (accepted bytes)
      → answer ≡ with-count e.count bytes → PlannedTaken p body answer
  unfolding plan_taken plan_answer
  taken-edit answer bytes e o h q = record {
    says = ap (λ (x : Result Plan Refusal). plan_taken x body) o
        ∙ ap (with-count e.count) (accepted-inj (ap (λ (x : Result Plan Refusal). plan_answer x body) (sym o) ∙ h.says)) ∙ sym q;
    inside = h.inside;
  }
