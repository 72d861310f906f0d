use Rattle.backref.proofs.PlanAnswers.{wrote-dropped}
use Rattle.backref.proofs.write.write_dropped.Goals as goal

pub returns : goal.returns
returns c = wrote-dropped c.write_plan-edited.ensures c.with_left.ensures
