use mathlib.Core.Path.{refl}
use native.Mathlib.Omega.{arith}
use Rattle.inline_refs.proofs.Steps.{stepped}
use Rattle.balance.proofs.Ends.{step-some, step-none}
use Rattle.balance.proofs.Steps.{count-start, count-stop, count-over, count_next, step_over}
use Rattle.balance.proofs.span.count.Goals as goal

pub loop-reference-init : goal.loop-reference-init
loop-reference-init c = count-start c.args.body.now c.args.from c.args.kind c.requires.0.reads c.requires.1

pub returns-then-reference-kind : goal.returns-then-reference-kind
returns-then-reference-kind c =
    let w = stepped _ _ c.step.ensures (step-some _ c.unwrap_or.ensures c.in-Some.is) refl in
    count-stop _ _ _ _ _ _ _ _ _ _ c.loop-reference.invariant w c.if-reference-kind.true

pub loop-reference-smaller : goal.loop-reference-smaller
loop-reference-smaller c =
    let w = stepped _ _ c.step.ensures (step-some _ c.unwrap_or.ensures c.in-Some.is) refl in
    omega (arith, w.inside, w.further, w.within)

pub loop-reference-preserved : goal.loop-reference-preserved
loop-reference-preserved c =
    let w = stepped _ _ c.step.ensures (step-some _ c.unwrap_or.ensures c.in-Some.is) refl in
    count_next _ _ _ _ _ _ _ _ _ _ c.loop-reference.invariant w c.if-reference-kind.false

pub returns : goal.returns
returns c = count-over _ _ _ _ _ c.loop-reference.invariant (step_over _ _ c.step.ensures (step-none _ c.unwrap_or.ensures c.in_default.is) c.loop-reference.invariant.reads)
