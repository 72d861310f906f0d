-- Inline, or else at an item: where an answer is absent, and which of two decides. Assumes nothing.
use mathlib.Core.Path.{◌≡◌, refl, sym, ap, ◌∙◌, subst}
use mathlib.Core.Bool.{Bool, true, false}
use mathlib.Core.List.{List}
use Prim.Native.Nat.{ℕ}
use native.Mathlib.Omega.{arith}
use lib.ListN.{length}
use Rattle.std.specs.Prelude.{Result, Ok, Err}
use Rattle.format.specs.declared.Edited.{Edited}
use Rattle.format.specs.declared.Refusal.{Refusal}
use Rattle.format.specs.declared.Edited.TheVariants.{Absent as NoMatch}
use Rattle.format.specs.Questions.{Answer, refused, absent, remove, accepted, ask, bind, if_absent, lent, edited_of, Answered}
use Rattle.backref.specs.declared.plan.Plan.{Plan}
use Rattle.backref.specs.declared.plan.Plan.TheVariants.{Edit, Absent, Remove}
use Rattle.backref.specs.Plans.{plan_answer}
use Rattle.record_edit.specs.Records.{held_record, held_edit}

-- ---- where absent comes from

pub refused-absent : {A : Type 0} {n : ℕ} → ◌≡◌ {A = Answer A} (refused n) absent → ⊥
refused-absent e = let z : ◌≡◌ {A = ℕ} 0 1 = cc in absurd (omega arith)

pub remove_absent : {A : Type 0} → ◌≡◌ {A = Answer A} remove absent → ⊥
remove_absent e = let z : ◌≡◌ {A = ℕ} 0 1 = cc in absurd (omega arith)

pub accepted-absent : {A : Type 0} {a : A} → ◌≡◌ {A = Answer A} (accepted a) absent → ⊥
accepted-absent e = let z : ◌≡◌ {A = ℕ} 0 1 = cc in absurd (omega arith)

-- a question that is answered "no" refuses
pub asked-absent : {A : Type 0} (b : Bool) (n : ℕ) (next : Answer A) → ask b n next ≡ absent → next ≡ absent
unfolding ask
asked-absent true n next e = e
asked-absent false n next e = absurd (refused-absent e)

-- a refusal is no result
pub not_err : {r : Result Edited Refusal} {x : Refusal} {y : Edited} → r ≡ Err x → r ≡ Ok y → ⊥
not_err e f = let g = sym e ∙ f in let z : ◌≡◌ {A = ℕ} 0 1 = cc in absurd (omega arith)

pub same_ok : {r : Result Edited Refusal} {x y : Edited} → r ≡ Ok x → r ≡ Ok y → x ≡ y
same_ok e f = let g = sym e ∙ f in cc

-- ---- by the inline plan

pub not-absent : (p : Result Plan Refusal) (body : List ℕ) → (p ≡ Ok Absent → ⊥) → plan_answer p body ≡ absent → ⊥
unfolding plan_answer
not-absent (Ok (Edit e)) body other h = accepted-absent h
not-absent (Ok Absent) body other h = other refl
not-absent (Ok Remove) body other h = remove_absent h
not-absent (Err x) body other h = refused-absent h

pub is-absent : {p : Result Plan Refusal} (body : List ℕ) → p ≡ Ok Absent → plan_answer p body ≡ absent
unfolding plan_answer
is-absent body e = ap (λ (q : Result Plan Refusal). plan_answer q body) e

-- ---- by what was made of the inline plan

-- an edit that was planned is refused or written
asked-matches : (a b : Bool) (bytes : List ℕ) → edited_of (ask a 17 (ask b 21 (accepted bytes))) ≡ Ok NoMatch → ⊥
unfolding ask edited_of
asked-matches false b bytes e = let z : ◌≡◌ {A = ℕ} 0 1 = cc in absurd (omega arith)
asked-matches true false bytes e = let z : ◌≡◌ {A = ℕ} 0 1 = cc in absurd (omega arith)
asked-matches true true bytes e = let z : ◌≡◌ {A = ℕ} 0 1 = cc in absurd (omega arith)

module _ (room count limit : ℕ) (sheet : List ℕ → List ℕ) where
  edit-matches : (body : List ℕ) → edited_of (held_edit room count limit sheet body) ≡ Ok NoMatch → ⊥
  unfolding held_edit held_record
  edit-matches body e = asked-matches _ _ (sheet body) e

  module _ (p : Result Plan Refusal) (body : List ℕ) (r : Result Edited Refusal) (old new : List ℕ) where
    -- another answer: the plan is there
    pub put_other : Answered (bind (plan_answer p body) (held_edit room count limit sheet)) r old new → (r ≡ Ok NoMatch → ⊥) → p ≡ Ok Absent → ⊥
    unfolding plan_answer bind edited_of
    put_other w other e = other (w.result ∙ ap (λ (q : Result Plan Refusal). edited_of (bind (plan_answer q body) (held_edit room count limit sheet))) e)

  -- absent: the plan is, and nothing was written
  pub put-absent : (p : Result Plan Refusal) (body : List ℕ) (r : Result Edited Refusal) (old new : List ℕ)
      → Answered (bind (plan_answer p body) (held_edit room count limit sheet)) r old new → r ≡ Ok NoMatch → (p ≡ Ok Absent) × (new ≡ old)
  unfolding plan_answer bind edited_of lent
  put-absent (Ok (Edit e)) body r old new w is = absurd (edit-matches _ (sym w.result ∙ is))
  put-absent (Ok Absent) body r old new w is = (refl, w.output)
  put-absent (Ok Remove) body r old new w is = let f = sym w.result ∙ is in let z : ◌≡◌ {A = ℕ} 0 1 = cc in absurd (omega arith)
  put-absent (Err x) body r old new w is = let f = sym w.result ∙ is in let z : ◌≡◌ {A = ℕ} 0 1 = cc in absurd (omega arith)

-- an answer in the output as it was left is one in the output as it was lent
pub lent_again : (f : ℕ → Answer (List ℕ)) (r : Result Edited Refusal) (old mid new : List ℕ) → mid ≡ old → Answered (f (length mid)) r mid new → Answered (f (length old)) r old new
lent_again f r old mid new same w = subst (λ (x : List ℕ). Answered (f (length x)) r x new) same w

-- ---- which of two decides

-- the first decides
pub stays : {A B : Type 0} (a : Answer A) (f : A → B) (other : Answer B) → (a ≡ absent → ⊥)
    → if_absent (bind a (λ d. accepted (f d))) other ≡ bind a (λ d. accepted (f d))
unfolding if_absent bind
stays (refused k) f other there = refl
stays absent f other there = absurd (there refl)
stays remove f other there = refl
stays (accepted d) f other there = refl

-- the second does
pub turns : {A B : Type 0} (a : Answer A) (f : A → Answer B) (other : Answer B) → a ≡ absent → if_absent (bind a f) other ≡ other
unfolding if_absent bind
turns a f other e = ap (λ (x : Answer _). if_absent (bind x f) other) e
