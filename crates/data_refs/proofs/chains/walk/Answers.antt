use Rattle.std.proofs.Common.{sym, ◌∙◌}
use Rattle.data_refs.proofs.Walks.{walk-on}
use Rattle.data_refs.proofs.chains.walk.Goals as goal

pub loop-at-preserved : goal.loop-at-preserved
loop-at-preserved c =
    walk-on _ _ _ _ _ _ c.loop-at.invariant c.loop-at-test.true (sym c.is_at.ensures ∙ c.if-is_at.false)
