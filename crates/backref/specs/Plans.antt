-- A planned edit of a body: what it answers on the body that it was planned for, also where a reference is taken out, and what one
-- with a further step behind it says on every body. Assumes nothing.
use Rattle.std.specs.Prelude.{◌≡◌, List, ℕ, ◌+◌, ◌≤◌, ◌<◌, length, take, Result, Ok, Err}
use Rattle.fields.specs.Numbers.{le_bytes}
use Rattle.fields.specs.Parts.{written, spliced}
use Rattle.format.specs.declared.Refusal.{Refusal}
use Rattle.format.specs.declared.Edited.{Edited}
use Rattle.format.specs.declared.Edited.TheVariants.{Written, Absent as Missing, Remove as Gone}
use Rattle.format.specs.declared.Dropped.{Dropped}
use Rattle.format.specs.declared.Dropped.TheVariants.{Written as Less, Absent as Unfound, Remove as Last}
use Rattle.format.specs.Questions.{Answer, refused, absent, remove, accepted, bind, if_absent, TakenOut, bytes_of}
use Rattle.format.specs.Bodies.{reduced_by}
use Rattle.backref.specs.declared.plan.BodyEdit.{BodyEdit}
use Rattle.backref.specs.declared.plan.Plan.{Plan}
use Rattle.backref.specs.declared.plan.Plan.TheVariants.{Edit, Absent, Remove}
use Rattle.backref.specs.declared.plan.DropPlan.{DropPlan}

-- the bytes from `from` up to `to` give way to the new ones, and the first eight are the total
unfoldable pub edited : BodyEdit → List ℕ → List ℕ
edited e body = written 0 (le_bytes 8 e.total) (spliced e.from e.to (take e.size e.new) body)

-- a plan or its refusal, on the body that it was made for
unfoldable pub plan_answer : Result Plan Refusal → List ℕ → Answer (List ℕ)
plan_answer (Ok (Edit e)) body = accepted (edited e body)
plan_answer (Ok Absent) body = absent
plan_answer (Ok Remove) body = remove
plan_answer (Err refusal) body = refused refusal.number

-- the same with the count of a reference that is taken out
unfoldable pub plan_taken : Result Plan Refusal → List ℕ → Answer TakenOut
plan_taken (Ok (Edit e)) body = accepted (record { bytes = edited e body; count = e.count })
plan_taken (Ok Absent) body = absent
plan_taken (Ok Remove) body = remove
plan_taken (Err refusal) body = refused refusal.number

-- an edit stays inside the body, behind its first eight bytes
pub record EditIn (e : BodyEdit) (body : List ℕ) : Type 0 where
  pub low : 8 ≤ e.from
  pub order : e.from ≤ e.to
  pub high : e.to ≤ length body
  pub fits : length body ≤ 65535
  pub small : e.size ≤ 29
  pub full : length e.new ≡ 32

unfoldable pub PlanIn : Result Plan Refusal → List ℕ → Type 0
PlanIn (Ok (Edit e)) body = EditIn e body
PlanIn (Ok Absent) body = Unit {0}
PlanIn (Ok Remove) body = Unit {0}
PlanIn (Err refusal) body = Unit {0}

-- an edit that keeps the body's length
unfoldable pub KeepsLength : Result Plan Refusal → Type 0
KeepsLength (Ok (Edit e)) = e.from + e.size ≡ e.to
KeepsLength (Ok Absent) = Unit {0}
KeepsLength (Ok Remove) = Unit {0}
KeepsLength (Err refusal) = Unit {0}

-- the contract of a plan
pub record Planned (p : Result Plan Refusal) (body : List ℕ) (answer : Answer (List ℕ)) : Type 0 where
  pub says : plan_answer p body ≡ answer
  pub inside : PlanIn p body

pub record PlannedTaken (p : Result Plan Refusal) (body : List ℕ) (answer : Answer TakenOut) : Type 0 where
  pub says : plan_taken p body ≡ answer
  pub inside : PlanIn p body

-- and of a planned drop: what it reports is what the body that it makes counts
pub record PlannedDrop (p : DropPlan) (body : List ℕ) (answer : Answer (List ℕ)) (left : List ℕ → ℕ) : Type 0 where
  pub planned : Planned p.plan body answer
  pub leaves : (rest : List ℕ) → answer ≡ accepted rest → p.left ≡ left rest

pub record PlannedTake (p : DropPlan) (body : List ℕ) (answer : Answer TakenOut) (left : List ℕ → ℕ) : Type 0 where
  pub planned : PlannedTaken p.plan body answer
  pub leaves : (rest : List ℕ) → bytes_of answer ≡ accepted rest → p.left ≡ left rest

-- ---- a further step

-- every result is long enough for a head, and not too long for a body
unfoldable pub Whole : Result Plan Refusal → List ℕ → Type 0
Whole plan body = (rest : List ℕ) → plan_answer plan body ≡ accepted rest → (24 ≤ length rest) × (length rest ≤ 65535)

-- the total that an edit writes
unfoldable pub total_in : Result Plan Refusal → ℕ
total_in (Ok (Edit e)) = e.total
total_in (Ok Absent) = 0
total_in (Ok Remove) = 0
total_in (Err refusal) = 0

-- then the amount goes off the total that was planned: question 14, and the total in the first eight bytes
pub record Reduces (plan : Result Plan Refusal) (amount : ℕ) (r : Result Plan Refusal) : Type 0 where
  pub word : total_in plan < 18446744073709551616
  pub says : (body : List ℕ)
      → plan_answer r body
      ≡ bind (plan_answer plan body) (λ rest. bind (reduced_by amount (total_in plan)) (λ total. accepted (written 0 (le_bytes 8 total) rest)))
  pub inside : (body : List ℕ) → PlanIn plan body → PlanIn r body

-- what is absent is refusal 5
pub record Needs (plan r : Result Plan Refusal) : Type 0 where
  pub says : (body : List ℕ) → plan_answer r body ≡ if_absent (plan_answer plan body) (refused 5)
  pub inside : (body : List ℕ) → PlanIn plan body → PlanIn r body

-- ---- what its writer answers

-- the length that was written
unfoldable pub as_written : Result ℕ Refusal → Result Edited Refusal
as_written (Ok size) = Ok (Written size)
as_written (Err refusal) = Err refusal

-- an edit's answer with how many are left
unfoldable pub dropped_from : ℕ → Result Edited Refusal → Result Dropped Refusal
dropped_from left (Ok (Written size)) = Ok (Less size left)
dropped_from left (Ok Missing) = Ok Unfound
dropped_from left (Ok Gone) = Ok Last
dropped_from left (Err refusal) = Err refusal
