use mathlib.Core.Path.{refl, ◌∙◌}
use native.Mathlib.Omega.{arith}
use Rattle.format.proofs.Answers.{handed_on}
use Rattle.inline_refs.proofs.Moves.{read-on, read-out, read-shut}
use Rattle.inline_refs.proofs.Counts.{counts-none, counts_step, counts_end, counts-fault}
use Rattle.inline_refs.proofs.count.count_refs.Goals as goal

pub loop-n-init : goal.loop-n-init
loop-n-init c = rw (c.new-reader.ensures.0, c.new-reader.ensures.1) (counts-none _, omega arith, c.requires.0, refl)

pub returns-in_err-step : goal.returns-in_err-step
returns-in_err-step c =
    let inv = c.loop-n.invariant in
    let w = read-shut _ _ inv.3 _ c.step.ensures.0 c.in_err-step.was in
    handed_on c.from_residual.ensures.1 ∙ counts-fault _ _ _ w ∙ inv.0

pub loop-n-smaller : goal.loop-n-smaller
loop-n-smaller c =
    let inv = c.loop-n.invariant in
    let w = read-on _ _ inv.3 _ c.step.ensures.0 c.step.ensures.2 c.in_ok-step.was c.in-Some.is in
    omega (arith, w.inside, w.further, w.within)

pub loop-n-preserved : goal.loop-n-preserved
loop-n-preserved c =
    let inv = c.loop-n.invariant in
    let w = read-on _ _ inv.3 _ c.step.ensures.0 c.step.ensures.2 c.in_ok-step.was c.in-Some.is in
    (counts_step _ _ _ _ _ _ _ _ w ∙ inv.0, omega (arith, w.further, inv.1), w.within, rw c.step.ensures.1 inv.3)

pub returns : goal.returns
returns c =
    let inv = c.loop-n.invariant in
    let w = read-out _ _ inv.3 _ c.step.ensures.0 c.in_ok-step.was c.in_default.is in
    counts_end _ _ w ∙ inv.0
