use mathlib.Core.Path.{refl}
use native.Mathlib.Omega.{arith}
use Rattle.inline_refs.proofs.Steps.{stepped}
use Rattle.balance.proofs.Ends.{step-some, step-none}
use Rattle.balance.proofs.Steps.{skip-end, skip_stop, skip-next, step_over}
use Rattle.balance.proofs.span.skip.Goals as goal

pub returns-then-kind-reference : goal.returns-then-kind-reference
returns-then-kind-reference c =
    let w = stepped _ _ c.step.ensures (step-some _ c.unwrap_or.ensures c.in-Some.is) refl in
    skip_stop _ _ _ _ _ _ _ _ _ c.loop-reference.invariant w c.if-kind-reference.true

pub loop-reference-smaller : goal.loop-reference-smaller
loop-reference-smaller c =
    let w = stepped _ _ c.step.ensures (step-some _ c.unwrap_or.ensures c.in-Some.is) refl in
    omega (arith, w.inside, w.further, w.within)

pub loop-reference-preserved : goal.loop-reference-preserved
loop-reference-preserved c =
    let w = stepped _ _ c.step.ensures (step-some _ c.unwrap_or.ensures c.in-Some.is) refl in
    skip-next _ _ _ _ _ _ _ _ _ c.loop-reference.invariant w c.if-kind-reference.false

pub returns : goal.returns
returns c = skip-end _ _ _ _ c.loop-reference.invariant (step_over _ _ c.step.ensures (step-none _ c.unwrap_or.ensures c.in_default.is) c.loop-reference.invariant.reads)
