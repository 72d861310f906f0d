use mathlib.Core.Path.{ap, ◌∙◌}
use lib.ListN.{length}
use Rattle.std.specs.Prelude.{Ok}
use Rattle.format.proofs.Answers.{handed_on}
use Rattle.format.proofs.Outputs.{handed}
use Rattle.backref.proofs.Outcomes.{inside-edit, keeps-edit, wrote, wrote-absent, wrote-remove, wrote-refused, same-no-room, same-written}
use Rattle.backref.proofs.write.write_same.Goals as goal

pub returns-in_err-edit : goal.returns-in_err-edit
returns-in_err-edit c =
    handed (handed_on c.from_residual.ensures.1) (wrote-refused c.args.body.now (length c.args.out.now) c.args.out.now _ c.in_err-edit.was)

pub returns-then-out-body : goal.returns-then-out-body
returns-then-out-body c =
    let is = c.in_ok-edit.was ∙ ap Ok c.in-Edit.is in
    wrote c.args.body.now (length c.args.out.now) is
    (same-no-room _ _ (inside-edit c.args.body.now is c.requires.plan_in) c.args.out.now (keeps-edit is c.requires.size_value) c.if-out-body.true)

pub put_same-requires-clause-edit_in : goal.put_same-requires-clause-edit_in
put_same-requires-clause-edit_in c = inside-edit c.args.body.now (c.in_ok-edit.was ∙ ap Ok c.in-Edit.is) c.requires.plan_in

pub put_same-requires-clause-size_value : goal.put_same-requires-clause-size_value
put_same-requires-clause-size_value c = (keeps-edit (c.in_ok-edit.was ∙ ap Ok c.in-Edit.is) c.requires.size_value, c.if-out-body.false)

pub returns-else-out-body : goal.returns-else-out-body
returns-else-out-body c =
    let is = c.in_ok-edit.was ∙ ap Ok c.in-Edit.is in
    wrote c.args.body.now (length c.args.out.now) is
    (same-written _ _ (inside-edit c.args.body.now is c.requires.plan_in) c.args.out.now (keeps-edit is c.requires.size_value) _ c.if-out-body.false c.put_same.ensures)

pub returns-in-Absent : goal.returns-in-Absent
returns-in-Absent c = wrote-absent c.args.body.now (length c.args.out.now) c.args.out.now (c.in_ok-edit.was ∙ ap Ok c.in-Absent.is)

pub returns-in-Remove : goal.returns-in-Remove
returns-in-Remove c = wrote-remove c.args.body.now (length c.args.out.now) c.args.out.now (c.in_ok-edit.was ∙ ap Ok c.in-Remove.is)
