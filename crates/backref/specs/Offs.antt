-- Drops on a body by what goes off the wanted reference, with how many are left. Assumes nothing.
use Rattle.std.specs.Prelude.{◌≡◌, List, ℕ, ◌-◌, Result, Ok}
use Rattle.std.proofs.Math.Option.{some}
use Rattle.fields.specs.Lists.{Cut, first_cut}
use Rattle.format.specs.Questions.{Answer, accepted}
use Rattle.format.specs.References.{Ref, Body, read_body}
use Rattle.format.specs.Bodies.{named, lowered_by_one, lowered_by_part, drop_inline}
use Rattle.format.specs.Left.{left_in}
use Rattle.inline_refs.specs.declared.ref_name.RefName.{RefName}
use Rattle.inline_refs.specs.declared.ref_name.RefName.TheVariants.{Block, Data, SharedBlock, SharedData}
use Rattle.inline_refs.specs.Scans.{kind_of, fields_of}
use Rattle.format.specs.declared.Refusal.{Refusal}
use Rattle.backref.specs.declared.plan.BodyEdit.{BodyEdit}
use Rattle.backref.specs.declared.plan.Plan.TheVariants.{Edit}
use Rattle.backref.specs.declared.plan.DropPlan.{DropPlan}
use Rattle.backref.specs.declared.offs.Off.{Off}
use Rattle.backref.specs.declared.offs.Off.TheVariants.{One, Part, Whole}
use Rattle.backref.specs.Totals.{one_asked, part_asked}
use Rattle.backref.specs.Plans.{PlannedDrop}

unfoldable pub off_of : RefName → ℕ → Off
off_of (Block name) amount = One
off_of (Data name) amount = One
off_of (SharedBlock parent) amount = Part amount
off_of (SharedData parent) amount = Part amount

-- the questions of it
unfoldable pub off_asked : Off → ℕ → ℕ → Result (Unit {0}) Refusal
off_asked One standing total = one_asked total
off_asked (Part amount) standing total = part_asked amount standing
off_asked Whole standing total = Ok tt

-- no count is above 32 bits
unfoldable pub amount_off : Off → ℕ
amount_off One = 1
amount_off (Part amount) = amount
amount_off Whole = 4294967295

unfoldable pub total_off : Off → ℕ → ℕ
total_off One total = total - 1
total_off (Part amount) total = total - amount
total_off Whole total = total

-- the questions of it, and the new total
unfoldable pub lowered_off : Off → ℕ → ℕ → Answer ℕ
lowered_off One standing total = lowered_by_one total
lowered_off (Part amount) standing total = lowered_by_part amount standing total
lowered_off Whole standing total = accepted total

abbrev pub drop_off : ℕ → List ℕ → RefName → Off → Answer (List ℕ)
drop_off type body wanted off = drop_inline type body (kind_of wanted) (fields_of wanted) (amount_off off) (lowered_off off)

-- a drop's plan with the count that the reference had
pub record PlannedOff (p : DropPlan) (type : ℕ) (body : List ℕ) (wanted : RefName) (off : Off) : Type 0 where
  pub drops : PlannedDrop p body (drop_off type body wanted off) (left_in type (kind_of wanted) (fields_of wanted))
  pub counted : (b : Body) (c : Cut Ref) → read_body type body ≡ accepted b → first_cut (named (kind_of wanted) (fields_of wanted)) b.refs ≡ some c
      → (e : BodyEdit) → p.plan ≡ Ok (Edit e) → e.count ≡ c.hit.weight
