use mathlib.Core.Path.{ap, ◌∙◌}
use lib.ListN.{length}
use Rattle.std.specs.Prelude.{Ok}
use Rattle.format.proofs.Answers.{handed_on}
use Rattle.format.proofs.Outputs.{handed}
use Rattle.backref.proofs.Outcomes.{inside-edit, wrote, wrote-absent, wrote-remove, wrote-refused, as-written, as-refused}
use Rattle.backref.proofs.write.write_plan.Goals as goal

pub returns-in_err-edit : goal.returns-in_err-edit
returns-in_err-edit c =
    handed (handed_on c.from_residual.ensures.1) (wrote-refused c.args.body.now (length c.args.out.now) c.args.out.now _ c.in_err-edit.was)

pub write_edit-requires : goal.write_edit-requires
write_edit-requires c = inside-edit c.args.body.now (c.in_ok-edit.was ∙ ap Ok c.in-Edit.is) c.requires

pub returns-in_err-write_edit-in-Edit : goal.returns-in_err-write_edit-in-Edit
returns-in_err-write_edit-in-Edit c =
    wrote c.args.body.now (length c.args.out.now) (c.in_ok-edit.was ∙ ap Ok c.in-Edit.is)
    (handed (handed_on c.from_residual-in_err-write_edit-in-Edit.ensures.1) (as-refused c.in_err-write_edit-in-Edit.was c.write_edit.ensures))

pub returns-in_ok-write_edit-in-Edit : goal.returns-in_ok-write_edit-in-Edit
returns-in_ok-write_edit-in-Edit c =
    wrote c.args.body.now (length c.args.out.now) (c.in_ok-edit.was ∙ ap Ok c.in-Edit.is)
    (as-written c.in_ok-write_edit-in-Edit.was c.write_edit.ensures)

pub returns-in-Absent : goal.returns-in-Absent
returns-in-Absent c = wrote-absent c.args.body.now (length c.args.out.now) c.args.out.now (c.in_ok-edit.was ∙ ap Ok c.in-Absent.is)

pub returns-in-Remove : goal.returns-in-Remove
returns-in-Remove c = wrote-remove c.args.body.now (length c.args.out.now) c.args.out.now (c.in_ok-edit.was ∙ ap Ok c.in-Remove.is)
