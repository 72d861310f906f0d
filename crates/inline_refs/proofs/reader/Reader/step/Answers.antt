use mathlib.Core.Path.{refl, sym, ap, ◌∙◌}
use Rattle.std.specs.Prelude.{Ok}
use Rattle.format.proofs.Answers.{handed_on}
use Rattle.inline_refs.proofs.Moves.{moves-on, stays-at-end, stays-at-fault}
use Rattle.inline_refs.proofs.reader.Reader.step.Goals as goal

pub returns-in_err-step : goal.returns-in_err-step
returns-in_err-step c =
    (handed_on c.from_residual.ensures.1 ∙ sym c.in_err-step.was ∙ c.step.ensures, refl, stays-at-fault _ _ _ c.step.ensures _ c.in_err-step.was)

pub returns-in-Some : goal.returns-in-Some
returns-in-Some c =
    let e = c.in_ok-step.was ∙ ap Ok c.in-Some.is in
    (sym e ∙ c.step.ensures, refl, moves-on _ _ _ c.step.ensures _ e)

pub returns-in_default : goal.returns-in_default
returns-in_default c =
    (sym c.in_ok-step.was ∙ c.step.ensures, refl, stays-at-end _ _ _ c.step.ensures (c.in_ok-step.was ∙ ap Ok c.in_default.is))
