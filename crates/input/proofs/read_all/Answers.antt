use Rattle.std.proofs.Common.{◌∙◌}
use Rattle.input.proofs.Fills.{filled_next}
use Rattle.input.proofs.read_all.Goals as goal

pub loop-at-preserved : goal.loop-at-preserved
loop-at-preserved g c =
    (filled_next _ _ _ _ _ c.loop-at.invariant.0 c.in_ok-n.ensures.put.0, c.read_some.auto.buf ∙ c.loop-at.invariant.1)
