use mathlib.Core.Path.{sym, ◌∙◌}
use native.Mathlib.Omega.{arith}
use Rattle.format.proofs.Answers.{handed_on}
use Rattle.leaf_edit.proofs.Checks.{good, bad}
use Rattle.leaf_edit.proofs.Measures.{fit_refused, fit-no, fit-says}
use Rattle.leaf_edit.proofs.fitting.fit.Goals as goal

pub returns-in_err-count : goal.returns-in_err-count
returns-in_err-count c = handed_on c.from_residual.ensures.1 ∙ fit_refused _ _ _ (bad _ c.check.ensures c.in_err-count.was)

pub returns-then-not-nodesize_fits : goal.returns-then-not-nodesize_fits
returns-then-not-nodesize_fits c =
    fit-no _ _ _ (good c.check.ensures c.type_inv.sheet c.in_ok-count.was) (sym c.nodesize_fits.ensures ∙ c.if-not-nodesize_fits.true)

pub overflow_mul-result : goal.overflow_mul-result
overflow_mul-result c = let g = good c.check.ensures c.type_inv.sheet c.in_ok-count.was in let l = g.few in omega arith

pub overflow_add-result-2 : goal.overflow_add-result-2
overflow_add-result-2 c =
    let g = good c.check.ensures c.type_inv.sheet c.in_ok-count.was in let l = g.few in let m = g.small in omega arith

pub returns : goal.returns
returns c =
    fit-says _ _ _ (good c.check.ensures c.type_inv.sheet c.in_ok-count.was) (sym c.nodesize_fits.ensures ∙ c.if-not-nodesize_fits.false)
