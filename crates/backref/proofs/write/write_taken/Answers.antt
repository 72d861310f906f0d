use mathlib.Core.Path.{ap, ◌∙◌}
use lib.ListN.{length}
use Rattle.std.specs.Prelude.{Ok}
use Rattle.format.proofs.Answers.{handed_on}
use Rattle.format.proofs.Outputs.{handed-taken}
use Rattle.backref.proofs.Outcomes.{inside-edit}
use Rattle.backref.proofs.TakenPlans.{wrote-out, refused-out, took, took-none, took-remove, took-refused}
use Rattle.backref.proofs.write.write_taken.Goals as goal

pub returns-in_err-edit : goal.returns-in_err-edit
returns-in_err-edit c =
    handed-taken (handed_on c.from_residual.ensures.1) (took-refused c.args.body.now (length c.args.out.now) c.args.out.now c.in_err-edit.was)

pub write_edit-requires : goal.write_edit-requires
write_edit-requires c = inside-edit c.args.body.now (c.in_ok-edit.was ∙ ap Ok c.in-Edit.is) c.requires

pub returns-in_err-size-in-Edit : goal.returns-in_err-size-in-Edit
returns-in_err-size-in-Edit c =
    took c.args.body.now (length c.args.out.now) (c.in_ok-edit.was ∙ ap Ok c.in-Edit.is)
    (handed-taken (handed_on c.from_residual-in_err-size-in-Edit.ensures.1) (refused-out _ _ _ c.in_err-size-in-Edit.was c.write_edit.ensures))

pub returns-in_ok-size-in-Edit : goal.returns-in_ok-size-in-Edit
returns-in_ok-size-in-Edit c =
    took c.args.body.now (length c.args.out.now) (c.in_ok-edit.was ∙ ap Ok c.in-Edit.is)
    (wrote-out _ _ _ c.in_ok-size-in-Edit.was c.write_edit.ensures)

pub returns-in-Absent : goal.returns-in-Absent
returns-in-Absent c = took-none c.args.body.now (length c.args.out.now) c.args.out.now (c.in_ok-edit.was ∙ ap Ok c.in-Absent.is)

pub returns-in-Remove : goal.returns-in-Remove
returns-in-Remove c = took-remove c.args.body.now (length c.args.out.now) c.args.out.now (c.in_ok-edit.was ∙ ap Ok c.in-Remove.is)
