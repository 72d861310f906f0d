use mathlib.Core.Path.{◌∙◌}
use native.Mathlib.Omega.{arith}
use Rattle.format.proofs.Answers.{handed_on}
use Rattle.inline_refs.proofs.Steps.{stepped, ended, stopped}
use Rattle.inline_refs.proofs.Notes.{rest-step, rest_end, rest-fault}
use Rattle.inline_refs.proofs.scan.rest_of.Goals as goal

pub returns-in_err-reference : goal.returns-in_err-reference
returns-in_err-reference c =
    let w = stopped _ _ c.step.ensures c.in_err-reference.was in
    handed_on c.from_residual.ensures.1 ∙ rest-fault _ _ w ∙ c.loop-reference.invariant

pub loop-reference-smaller : goal.loop-reference-smaller
loop-reference-smaller c =
    let w = stepped _ _ c.step.ensures c.in_ok-reference.was c.in-Some.is in
    omega (arith, w.inside, w.further, w.within)

pub loop-reference-preserved : goal.loop-reference-preserved
loop-reference-preserved c =
    let w = stepped _ _ c.step.ensures c.in_ok-reference.was c.in-Some.is in
    rest-step _ _ _ _ _ _ _ w ∙ c.loop-reference.invariant

pub returns : goal.returns
returns c =
    let w = ended _ _ c.step.ensures c.in_ok-reference.was c.in_default.is in
    rest_end _ w ∙ c.loop-reference.invariant
