use mathlib.Core.Path.{refl, sym, ◌∙◌}
use Rattle.backref.proofs.Named.{take-is, take-other}
use Rattle.backref.proofs.plans.plan_take_shared.Goals as goal

pub returns-then-not-shared_kind : goal.returns-then-not-shared_kind
returns-then-not-shared_kind c =
    take-other _ _ _ _ (sym c.shared_kind.ensures ∙ c.if-not-shared_kind.true) refl

pub returns : goal.returns
returns c =
    take-is _ _ _ _ _ (sym c.shared_kind.ensures ∙ c.if-not-shared_kind.false) c.shared_name.ensures c.plan_take.ensures
