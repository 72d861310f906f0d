use mathlib.Core.Path.{ap, subst, ◌∙◌}
use Rattle.std.specs.Prelude.{Err}
use Rattle.format.proofs.Answers.{handed_on}
use Rattle.format.proofs.Outputs.{answered-refused, handed}
use Rattle.transaction.specs.Shared.{SharedRow}
use Rattle.transaction.proofs.Rewrites.{four_bytes}
use Rattle.transaction.proofs.Sizes.{item-data, item-block, item-other}
use Rattle.transaction.proofs.shared_adds.shared_add_item.Goals as goal

pub returns-in_err-row : goal.returns-in_err-row
returns-in_err-row c =
    let w = subst (SharedRow c.args.kind) c.in_err-row.was c.row_of.ensures in
    handed (handed_on c.from_residual.ensures.1 ∙ ap Err w.1) (answered-refused _ (item-other _ w.0 _ _))

pub returns-then-row-eq0 : goal.returns-then-row-eq0
returns-then-row-eq0 c =
    let w = subst (SharedRow c.args.kind) c.in_ok-row.was c.row_of.ensures in
    item-block _ w.0 _ _ w.2 _ c.if-row-eq0.true c.put_body.ensures

pub returns : goal.returns
returns c =
    let w = subst (SharedRow c.args.kind) c.in_ok-row.was c.row_of.ensures in
    item-data _ w.0 _ _ w.2 _ c.if-row-eq0.false (c.to_le_bytes.ensures ∙ four_bytes _) c.put_body-2.ensures
