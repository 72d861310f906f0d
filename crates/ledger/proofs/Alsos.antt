-- A further question put to a call. Assumes nothing.
use mathlib.Core.Path.{◌≡◌, refl}
use mathlib.Core.Bool.{Bool, true, false}
use mathlib.Core.List.{List}
use Prim.Native.Nat.{ℕ}
use Rattle.std.specs.Prelude.{Result, Ok, Err}
use Rattle.format.specs.declared.Refusal.{Refusal}
use Rattle.format.specs.Questions.{Answer, refused, absent, remove, accepted, bind, also}
use Rattle.backref.specs.declared.plan.Plan.{Plan}
use Rattle.backref.specs.declared.plan.Plan.TheVariants.{Edit, Absent, Remove}
use Rattle.backref.specs.Plans.{plan_answer, PlanIn}
use Rattle.ledger.specs.Posting.{first_no, AlsoAsked}

-- ---- of a plan

answer-no : (p : Result Plan Refusal) (refusal : ℕ) (body : List ℕ) → refused (first_no p refusal) ≡ also false refusal (plan_answer p body)
unfolding first_no plan_answer also
answer-no (Ok (Edit edit)) refusal body = refl
answer-no (Ok Absent) refusal body = refl
answer-no (Ok Remove) refusal body = refl
answer-no (Err other) refusal body = refl

module _ (p : Result Plan Refusal) (yes : Bool) (refusal : ℕ) where
  pub asked-yes : yes ≡ true → AlsoAsked p yes refusal p
  unfolding also
  asked-yes e = record { says = λ body. rw e refl; inside = λ body t. t }

  pub asked-no : yes ≡ false → (first : Refusal) → first.number ≡ first_no p refusal → AlsoAsked p yes refusal (Err first)
  unfolding plan_answer PlanIn
  asked-no e first f = record {
    says = λ body. rw (e, f) (answer-no p refusal body);
    inside = λ body t. tt;
  }

-- ---- of a call: nothing that follows the result asks an earlier question

pub also_bind : {A B : Type 0} (yes : Bool) (refusal : ℕ) (a : Answer A) (next : A → Answer B)
    → ((d : A) → also false refusal (next d) ≡ refused refusal)
    → also yes refusal (bind a next) ≡ bind (also yes refusal a) next
unfolding also bind
also_bind true refusal a next late = refl
also_bind false refusal (refused k) next late = refl
also_bind false refusal absent next late = refl
also_bind false refusal remove next late = refl
also_bind false refusal (accepted d) next late = late d
