use mathlib.Core.Path.{◌≡◌, sym, ap, ◌∙◌}
use native.Mathlib.Omega.{arith}
use Prim.Native.Nat.{ℕ}
use Rattle.format.specs.Questions.{told_of}
use Rattle.format.proofs.Answers.{handed_on}
use Rattle.backref.specs.declared.total_plans.TotalChange.{TotalChange}
use Rattle.backref.specs.Totals.{total_by}
use Rattle.backref.proofs.PlannedTotals.{raised-told, reduced-told, lowered-no, lowered-yes}
use Rattle.backref.proofs.total_plans.changed.Goals as goal

by-case : (t : ℕ) {change case : TotalChange} → change ≡ case → told_of (total_by case t) ≡ told_of (total_by change t)
by-case t e = ap (λ (x : TotalChange). told_of (total_by x t)) (sym e)

pub returns-in-Raise : goal.returns-in-Raise
returns-in-Raise c =
    c.ok_or.ensures.value ∙ raised-told _ _ _ c.checked_add.ensures ∙ by-case _ c.in-Raise.is

pub returns-in_err-ask_one-in-LowerByOne : goal.returns-in_err-ask_one-in-LowerByOne
returns-in_err-ask_one-in-LowerByOne c =
    handed_on c.from_residual.ensures.1 ∙ lowered-no _ (sym c.in_err-ask_one-in-LowerByOne.was ∙ c.ask_one.ensures) ∙ by-case _ c.in-LowerByOne.is

pub overflow_sub-result : goal.overflow_sub-result
overflow_sub-result c =
    let w = lowered-yes _ (sym c.in_ok-ask_one-in-LowerByOne.was ∙ c.ask_one.ensures) in
    omega (arith, w.0)

pub returns-in_ok-ask_one-in-LowerByOne : goal.returns-in_ok-ask_one-in-LowerByOne
returns-in_ok-ask_one-in-LowerByOne c =
    let w = lowered-yes _ (sym c.in_ok-ask_one-in-LowerByOne.was ∙ c.ask_one.ensures) in
    w.1 ∙ by-case _ c.in-LowerByOne.is

pub returns-in-Reduce : goal.returns-in-Reduce
returns-in-Reduce c =
    c.ok_or-in-Reduce.ensures.value ∙ reduced-told _ _ _ c.checked_sub.ensures ∙ by-case _ c.in-Reduce.is
