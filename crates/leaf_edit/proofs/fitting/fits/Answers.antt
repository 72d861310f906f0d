use mathlib.Core.Path.{sym, ◌∙◌, subst}
use Prim.Native.Nat.{◌≤◌}
use native.Mathlib.Omega.{arith}
use lib.Dec.{T, leb→le}
use lib.ListN.{length}
use mir.Facts.{and_yes}
use Rattle.format.proofs.Answers.{handed_on}
use Rattle.format.specs.Items.{nodesize_fits, data_fits}
use Rattle.leaf_edit.proofs.Checks.{good, bad}
use Rattle.leaf_edit.proofs.Measures.{fits_refused, fits-no, fits-says}
use Rattle.leaf_edit.proofs.fitting.fits.Goals as goal

pub returns-in_err-count : goal.returns-in_err-count
returns-in_err-count c = handed_on c.from_residual.ensures.1 ∙ fits_refused _ _ _ (bad _ c.check.ensures c.in_err-count.was) _

pub returns-then-not-new_fits : goal.returns-then-not-new_fits
unfolding data_fits
returns-then-not-new_fits c =
    fits-no _ _ _ (good c.check.ensures c.type_inv.sheet c.in_ok-count.was) c.args.body.now (sym c.new_fits.ensures ∙ c.if-not-new_fits.true)

pub overflow_mul-result : goal.overflow_mul-result
overflow_mul-result c = let g = good c.check.ensures c.type_inv.sheet c.in_ok-count.was in let l = g.few in omega arith

pub overflow_add-result-2 : goal.overflow_add-result-2
overflow_add-result-2 c =
    let g = good c.check.ensures c.type_inv.sheet c.in_ok-count.was in let l = g.few in let m = g.small in omega arith

pub overflow_add-result-3 : goal.overflow_add-result-3
overflow_add-result-3 c =
    let g = good c.check.ensures c.type_inv.sheet c.in_ok-count.was in
    let l = g.few in
    let m = g.small in
    let b = (and_yes (nodesize_fits c.args.nodesize) _ (subst T (sym (sym c.new_fits.ensures ∙ c.if-not-new_fits.false)) tt)).1 in
    let k : length c.args.body.now ≤ 65535 = leb→le _ _ b in
    omega arith

pub returns : goal.returns
unfolding data_fits
returns c =
    fits-says _ _ _ (good c.check.ensures c.type_inv.sheet c.in_ok-count.was) c.args.body.now (sym c.new_fits.ensures ∙ c.if-not-new_fits.false)
