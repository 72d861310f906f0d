use Rattle.inline_refs.proofs.Steps.{step_cut, step-whole}
use Rattle.inline_refs.proofs.drop_scan.step_among.Goals as goal

pub returns-then-body-start : goal.returns-then-body-start
returns-then-body-start c =
    step_cut c.args.body.now c.args.cursor.at _ _ _ c.if-body-at.false c.if-body-at-2.false c.requires.0 c.requires.1 c.requires.2 c.if-body-start.true

pub returns : goal.returns
returns c =
    step-whole c.args.body.now c.args.cursor.at _ _ _ c.if-body-at.false c.if-body-at-2.false c.requires.0 c.requires.1 c.requires.2 c.if-body-start.false
