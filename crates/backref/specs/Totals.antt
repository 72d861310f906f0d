-- The changes of a total, by cases, and the questions of what goes off it. Assumes nothing.
use Rattle.std.specs.Prelude.{cond, List, ℕ, leb, Result, Ok}
use Rattle.format.specs.Questions.{Answer, denied}
use Rattle.format.specs.declared.Refusal.{Refusal}
use Rattle.format.specs.Bodies.{raised_by, lowered_by_one, reduced_by, raise_total, lower_total, reduce_total}
use Rattle.backref.specs.declared.total_plans.TotalChange.{TotalChange}
use Rattle.backref.specs.declared.total_plans.TotalChange.TheVariants.{Raise, LowerByOne, Reduce}

-- raise_total, lower_total and reduce_total in one
abbrev pub change_total : List ℕ → TotalChange → Answer (List ℕ)
change_total body (Raise amount) = raise_total body amount
change_total body LowerByOne = lower_total body
change_total body (Reduce amount) = reduce_total body amount

-- question 13 of a total that one goes off, questions 10 and 22 of an amount that is taken
unfoldable pub one_asked : ℕ → Result (Unit {0}) Refusal
one_asked total = cond (leb 2 total) (Ok tt) (denied 13)

unfoldable pub part_asked : ℕ → ℕ → Result (Unit {0}) Refusal
part_asked amount standing = cond (leb 1 amount) (cond (leb amount standing) (Ok tt) (denied 22)) (denied 10)

-- the number alone
abbrev pub total_by : TotalChange → ℕ → Answer ℕ
total_by (Raise amount) total = raised_by amount total
total_by LowerByOne total = lowered_by_one total
total_by (Reduce amount) total = reduced_by amount total
