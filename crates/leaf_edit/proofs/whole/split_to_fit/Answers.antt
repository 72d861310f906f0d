use mathlib.Core.Path.{refl, sym, ◌∙◌}
use Rattle.format.proofs.Answers.{handed_on}
use Rattle.format.specs.Sheets.{split_to_fit}
use Rattle.leaf_edit.proofs.Checks.{good, bad}
use Rattle.leaf_edit.proofs.Splits.{cuts-refused}
use Rattle.leaf_edit.proofs.Leaves.{to-fit-refused, to-fit-node, node-small, sized}
use Rattle.leaf_edit.proofs.whole.split_to_fit.Goals as goal

pub returns-in_err-count : goal.returns-in_err-count
returns-in_err-count c =
    rw (handed_on c.from_residual.ensures.1) (cuts-refused (split_to_fit _ _) _ _ _ _ (to-fit-refused _ _ _ (bad _ c.check.ensures c.in_err-count.was)) refl)

pub returns-then-not-nodesize_fits : goal.returns-then-not-nodesize_fits
returns-then-not-nodesize_fits c =
    let g = good c.check.ensures c.type_inv.sheet c.in_ok-count.was in
    cuts-refused (split_to_fit _ _) _ _ _ _ (to-fit-node _ _ g.reads (sym c.nodesize_fits.ensures ∙ c.if-not-nodesize_fits.true)) refl

pub invariant_of-sheet : goal.invariant_of-sheet
invariant_of-sheet c =
    record { known = (sized _ _ (good c.check.ensures c.type_inv.sheet c.in_ok-count.was), node-small _ (sym c.nodesize_fits.ensures ∙ c.if-not-nodesize_fits.false)) }

pub divide-requires : goal.divide-requires
divide-requires c = sym c.nodesize_fits.ensures ∙ c.if-not-nodesize_fits.false
