-- Laws of a plan by its outcome: what it answers, and what the writer of it answers. Assumes nothing.
use mathlib.Core.Path.{◌≡◌, refl, sym, ap, subst, ◌∙◌}
use mathlib.Core.List.{List}
use Prim.Native.Nat.{ℕ, ◌+◌, ◌-◌, ◌≤◌, ◌<◌}
use native.Mathlib.Omega.{arith}
use lib.ListN.{length, take}
use lib.Seq.{length-take-le}
use Rattle.fields.specs.Numbers.{le_bytes}
use Rattle.fields.specs.Parts.{part, written, spliced}
use Rattle.std.specs.Prelude.{Result, Ok, Err}
use Rattle.format.specs.declared.Refusal.{Refusal}
use Rattle.format.specs.declared.Edited.{Edited}
use Rattle.format.specs.declared.Edited.TheVariants.{Written, Absent as NoMatch, Remove as Gone}
use Rattle.format.specs.Questions.{Answer, refused, absent, remove, accepted, bind, denied, held, lent, edited_of, Answered}
use Rattle.format.specs.Bodies.{held_body}
use Rattle.format.proofs.Answers.{refused-not, absent-not, remove-not, accepted-inj}
use Rattle.format.proofs.Outputs.{answered-refused, answered-written, held-body, no_room, too_long}
use Rattle.backref.specs.declared.plan.BodyEdit.{BodyEdit}
use Rattle.backref.specs.declared.plan.Plan.{Plan}
use Rattle.backref.specs.declared.plan.Plan.TheVariants.{Edit, Absent, Remove}
use Rattle.backref.specs.declared.plan.DropPlan.{DropPlan}
use Rattle.backref.specs.Plans.{edited, as_written, plan_answer, EditIn, PlanIn, KeepsLength, Planned, PlannedDrop}
use Rattle.backref.proofs.Writes.{front_of, length-edit, same}

-- ---- the writer

pub keeps-edit : {p : Result Plan Refusal} {e : BodyEdit} → p ≡ Ok (Edit e) → KeepsLength p → e.from + e.size ≡ e.to
unfolding KeepsLength
keeps-edit k h = subst KeepsLength k h

module _ (body : List ℕ) {p : Result Plan Refusal} where
  pub inside-edit : {e : BodyEdit} → p ≡ Ok (Edit e) → PlanIn p body → EditIn e body
  unfolding PlanIn
  inside-edit k h = subst (λ (q : Result Plan Refusal). PlanIn q body) k h

  pub wrote : (room : ℕ) {old new : List ℕ} {e : BodyEdit} {r : Result Edited Refusal} → p ≡ Ok (Edit e) → Answered (held_body room (accepted (edited e body))) r old new
      → Answered (held_body room (plan_answer p body)) r old new
  unfolding plan_answer
  wrote room {old} {new} {r = r} k h = subst (λ (q : Result Plan Refusal). Answered (held_body room (plan_answer q body)) r old new) (sym k) h

  module _ (room : ℕ) (old : List ℕ) where
    pub wrote-absent : p ≡ Ok Absent → Answered (held_body room (plan_answer p body)) (Ok NoMatch) old old
    unfolding plan_answer held_body held bind lent edited_of
    wrote-absent k = subst (λ (q : Result Plan Refusal). Answered (held_body room (plan_answer q body)) (Ok NoMatch) old old) (sym k) (record { result = refl; output = refl })

    pub wrote-remove : p ≡ Ok Remove → Answered (held_body room (plan_answer p body)) (Ok Gone) old old
    unfolding plan_answer held_body held bind lent edited_of
    wrote-remove k = subst (λ (q : Result Plan Refusal). Answered (held_body room (plan_answer q body)) (Ok Gone) old old) (sym k) (record { result = refl; output = refl })

    pub wrote-refused : (x : Refusal) → p ≡ Err x → Answered (held_body room (plan_answer p body)) (Err x) old old
    unfolding plan_answer held_body held bind lent edited_of
    wrote-refused x k = subst (λ (q : Result Plan Refusal). Answered (held_body room (plan_answer q body)) (Err x) old old) (sym k) (record { result = refl; output = refl })

-- the length that an edit wrote, or its refusal, as a call's answer
pub as-written : {a : Answer (List ℕ)} {r : Result ℕ Refusal} {n : ℕ} {old new : List ℕ} → r ≡ Ok n → Answered a (as_written r) old new → Answered a (Ok (Written n)) old new
unfolding as_written
as-written {a} {old = old} {new = new} k h = subst (λ (q : Result ℕ Refusal). Answered a (as_written q) old new) k h

pub as-refused : {a : Answer (List ℕ)} {r : Result ℕ Refusal} {x : Refusal} {old new : List ℕ} → r ≡ Err x → Answered a (as_written r) old new → Answered a (Err x) old new
unfolding as_written
as-refused {a} {old = old} {new = new} k h = subst (λ (q : Result ℕ Refusal). Answered a (as_written q) old new) k h

module _ (p : BodyEdit) (body : List ℕ) where
  module _ (h : EditIn p body) where
    new_in : p.size ≤ length p.new
    new_in = let s = h.small in let f = h.full in omega arith

    pub length-edited : length (edited p body) ≡ p.from + p.size + (length body - p.to)
    unfolding edited
    length-edited =
        let l : length (take p.size p.new) ≡ p.size = length-take-le p.size p.new new_in in
        length-edit p.from p.to p.total (take p.size p.new) body h.low h.order h.high
        ∙ ap (λ (k : ℕ). p.from + k + (length body - p.to)) l

    module _ (old : List ℕ) (n : ℕ) (e : n ≡ p.from + p.size + (length body - p.to)) where
      pub edit-no-room : length old < n → Answered (held_body (length old) (accepted (edited p body))) (as_written (denied 21)) old old
      unfolding as_written
      edit-no-room k = answered-refused old (no_room (edited p body) (length old) (subst (λ (m : ℕ). length old < m) (e ∙ sym length-edited) k))

      pub edit-too-long : n ≤ length old → 65535 < n → Answered (held_body (length old) (accepted (edited p body))) (as_written (denied 21)) old old
      unfolding as_written
      edit-too-long k l =
          answered-refused old
          (too_long (edited p body) (length old) (subst (λ (m : ℕ). m ≤ length old) (e ∙ sym length-edited) k) (subst (λ (m : ℕ). 65535 < m) (e ∙ sym length-edited) l))

      pub edit-written : (new : List ℕ) → n ≤ length old → n ≤ 65535 → new ≡ written 0 (edited p body) old
          → Answered (held_body (length old) (accepted (edited p body))) (as_written (Ok n)) old new
      unfolding as_written
      edit-written new k l w =
          subst (λ (m : ℕ). Answered (held_body (length old) (accepted (edited p body))) (Ok (Written m)) old new) (sym (e ∙ sym length-edited))
          (answered-written
          (held-body (edited p body) (length old) (subst (λ (m : ℕ). m ≤ length old) (e ∙ sym length-edited) k) (subst (λ (m : ℕ). m ≤ 65535) (e ∙ sym length-edited) l))
          w)

    -- the new bytes of a plan as the code lends them
    abbrev lent_new : List ℕ
    lent_new = part 0 (p.size - 0) p.new

    length-lent : length lent_new ≡ p.size
    length-lent = ap length (front_of p.size p.new) ∙ length-take-le p.size p.new new_in

    -- what `put_edit` asks for, and what it wrote
    pub put-asks : (at room : ℕ) → at + (p.from + p.size + (length body - p.to)) ≤ room
        → ((8 ≤ p.from) × (p.from ≤ p.to) × (p.to ≤ length body) × (length body ≤ 65535) × (length lent_new ≤ 29)) × (at + (p.from + length lent_new + (length body - p.to)) ≤ room)
    put-asks at room k =
        let l = length-lent in
        let s = h.small in
        ((h.low, h.order, h.high, h.fits, omega arith), omega arith)

    pub put-edited : (out new : List ℕ) (at r : ℕ)
        → (r ≡ at + (p.from + length lent_new + (length body - p.to))) × (new ≡ written at (written 0 (le_bytes 8 p.total) (spliced p.from p.to lent_new body)) out)
        → (r ≡ at + (p.from + p.size + (length body - p.to))) × (new ≡ written at (edited p body) out)
    unfolding edited
    put-edited out new at r e = (
      e.0 ∙ ap (λ (k : ℕ). at + (p.from + k + (length body - p.to))) length-lent,
      e.1 ∙ ap (λ (l : List ℕ). written at (written 0 (le_bytes 8 p.total) (spliced p.from p.to l body)) out) (front_of p.size p.new),
    )

    pub same-edited : (out o₁ o₂ o₃ : List ℕ) → p.from + p.size ≡ p.to
        → o₁ ≡ written 0 body out
        → o₂ ≡ written p.from (take p.size p.new) o₁
        → o₃ ≡ written 0 (le_bytes 8 p.total) o₂
        → o₃ ≡ written 0 (edited p body) out
    unfolding edited
    same-edited out o₁ o₂ o₃ whole e₁ e₂ e₃ =
        same p.from p.to p.size p.total p.new body out o₁ o₂ o₃ h.low whole h.high new_in e₁ e₂ e₃

    -- an edit that keeps the body's length
    module _ (old : List ℕ) (e : p.from + p.size ≡ p.to) where
      kept-length : length body ≡ p.from + p.size + (length body - p.to)
      kept-length = let k = h.high in omega arith

      pub same-no-room : length old < length body → Answered (held_body (length old) (accepted (edited p body))) (denied 21) old old
      unfolding as_written
      same-no-room k = edit-no-room old (length body) kept-length k

      pub same-written : (new : List ℕ) → length body ≤ length old → new ≡ written 0 (edited p body) old
          → Answered (held_body (length old) (accepted (edited p body))) (Ok (Written (length body))) old new
      unfolding as_written
      same-written new k w = edit-written old (length body) kept-length new k h.fits w

-- ---- the contract of a plan, by its outcome

module _ (p : Result Plan Refusal) (body : List ℕ) (answer : Answer (List ℕ)) where
  pub plan-edit : (e : BodyEdit) (bytes : List ℕ) → p ≡ Ok (Edit e) → EditIn e body → answer ≡ accepted bytes → bytes ≡ edited e body → Planned p body answer
  unfolding plan_answer PlanIn
  plan-edit e bytes o h q w = subst (λ (x : Result Plan Refusal). Planned x body answer) (sym o) (record { says = ap accepted (sym w) ∙ sym q; inside = h })

  pub plan-refused : (n : ℕ) → p ≡ denied n → answer ≡ refused n → Planned p body answer
  unfolding plan_answer PlanIn
  plan-refused n o e = subst (λ (x : Result Plan Refusal). Planned x body answer) (sym o) (record { says = sym e; inside = tt })

  pub plan-absent : p ≡ Ok Absent → answer ≡ absent → Planned p body answer
  unfolding plan_answer PlanIn
  plan-absent o e = subst (λ (x : Result Plan Refusal). Planned x body answer) (sym o) (record { says = sym e; inside = tt })

  pub plan-remove : p ≡ Ok Remove → answer ≡ remove → Planned p body answer
  unfolding plan_answer PlanIn
  plan-remove o e = subst (λ (x : Result Plan Refusal). Planned x body answer) (sym o) (record { says = sym e; inside = tt })

  pub plan-same : (other : Answer (List ℕ)) → answer ≡ other → Planned p body answer → Planned p body other
  plan-same other e h = record { says = h.says ∙ e; inside = h.inside }

-- a plan that answers a result is an edit
pub record Edits (p : Result Plan Refusal) : Type 0 where
  pub edit : BodyEdit
  pub is : p ≡ Ok (Edit edit)

pub edits : (p : Result Plan Refusal) (body : List ℕ) {rest : List ℕ} → plan_answer p body ≡ accepted rest → Edits p
unfolding plan_answer
edits (Ok (Edit e)) body h = record { edit = e; is = refl }
edits (Ok Absent) body h = absent-not h
edits (Ok Remove) body h = remove-not h
edits (Err x) body h = refused-not h

-- a refusal and what says nothing keep the length
pub keeps-refused : {p : Result Plan Refusal} {x : Refusal} → p ≡ Err x → KeepsLength p
unfolding KeepsLength
keeps-refused k = subst KeepsLength (sym k) tt

-- ---- of a planned drop: without a result it has nothing to report

pub no-edit : {p : DropPlan} {plan : Result Plan Refusal} → p ≡ record { plan = plan; left = 0 } → p.plan ≡ plan
no-edit e = ap (λ (x : DropPlan). x.plan) e

module _ (p : DropPlan) (body : List ℕ) (answer : Answer (List ℕ)) (left : List ℕ → ℕ) where
  pub drop-refused : (n : ℕ) → p.plan ≡ denied n → answer ≡ refused n → PlannedDrop p body answer left
  drop-refused n o e = record { planned = plan-refused p.plan body answer n o e; leaves = λ rest h. refused-not (sym e ∙ h) }

  pub drop-absent : p.plan ≡ Ok Absent → answer ≡ absent → PlannedDrop p body answer left
  drop-absent o e = record { planned = plan-absent p.plan body answer o e; leaves = λ rest h. absent-not (sym e ∙ h) }

  pub drop-remove : p.plan ≡ Ok Remove → answer ≡ remove → PlannedDrop p body answer left
  drop-remove o e = record { planned = plan-remove p.plan body answer o e; leaves = λ rest h. remove-not (sym e ∙ h) }

  pub drop-edit : (bytes : List ℕ) → Planned p.plan body answer → answer ≡ accepted bytes → p.left ≡ left bytes → PlannedDrop p body answer left
  drop-edit bytes h e l = record { planned = h; leaves = λ rest k. l ∙ ap left (accepted-inj (sym e ∙ k)) }
