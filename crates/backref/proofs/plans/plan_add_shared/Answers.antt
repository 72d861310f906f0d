use mathlib.Core.Path.{refl, sym, ◌∙◌}
use Rattle.backref.proofs.Named.{shared-other}
use Rattle.backref.proofs.plans.plan_add_shared.Goals as goal

pub returns-then-not-shared_kind : goal.returns-then-not-shared_kind
returns-then-not-shared_kind c =
    shared-other _ _ _ _ (sym c.shared_kind.ensures ∙ c.if-not-shared_kind.true) refl _
