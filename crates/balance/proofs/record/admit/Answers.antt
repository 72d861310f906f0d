use Rattle.balance.proofs.Admits.{says-lower, says-owner, says-light, says-higher}
use Rattle.balance.proofs.record.admit.Goals as goal

pub returns-then-kind-run : goal.returns-then-kind-run
returns-then-kind-run c =
    says-lower _ _ _ _ _ c.requires.start_value.0 c.requires.start_value.1 c.if-kind-run.true

pub returns-then-kind : goal.returns-then-kind
returns-then-kind c =
    says-owner _ _ _ _ _ c.requires.start_value.0 c.requires.start_value.1 _ c.weight_at-weight.ensures c.requires.t.1 c.if-kind-run.false c.if-kind.true

pub returns-then-weight-eq0 : goal.returns-then-weight-eq0
returns-then-weight-eq0 c =
    says-light _ _ _ _ _ c.requires.start_value.0 c.requires.start_value.1 _ c.weight_at-weight.ensures c.if-kind.false c.if-weight-eq0.true

pub returns-then-run-kind : goal.returns-then-run-kind
returns-then-run-kind c =
    says-higher _ _ _ _ _ c.requires.start_value.0 c.requires.start_value.1 _ c.weight_at-weight.ensures c.requires.t.1 c.if-weight-eq0.false c.if-run-kind.true
