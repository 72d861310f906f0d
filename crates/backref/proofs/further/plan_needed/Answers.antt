use mathlib.Core.Path.{refl, ap, ◌∙◌}
use Rattle.std.specs.Prelude.{Ok}
use Rattle.format.proofs.Answers.{handed_on}
use Rattle.backref.proofs.Reductions.{needs-absent, needs-same, needs-refused}
use Rattle.backref.proofs.further.plan_needed.Goals as goal

pub returns-in_err-plan : goal.returns-in_err-plan
returns-in_err-plan c = rw (c.in_err-plan.was, handed_on c.from_residual.ensures.1) (needs-refused _)

pub returns-in-Absent : goal.returns-in-Absent
returns-in-Absent c = rw (c.in_ok-plan.was ∙ ap Ok c.in-Absent.is) (needs-absent _ refl)

pub returns-in-Edit : goal.returns-in-Edit
returns-in-Edit c = rw c.in_ok-plan.was (needs-same c.in-Edit.is)
