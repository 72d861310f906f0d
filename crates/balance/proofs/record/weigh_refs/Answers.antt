use mathlib.Core.Path.{◌∙◌}
use native.Mathlib.Omega.{arith}
use Rattle.inline_refs.proofs.Steps.{stepped, ended, stopped, ends-within}
use Rattle.balance.proofs.Ends.{ok-some, ok-none}
use Rattle.balance.proofs.Weighs.{weigh-start, none_passed, kept-to, weigh-step, weigh-no, weigh-end, weigh-fault, weigh-none}
use Rattle.balance.proofs.Admits.{admitted-yes, admitted-no}
use Rattle.balance.proofs.record.weigh_refs.Goals as goal

pub loop-reference-init : goal.loop-reference-init
loop-reference-init c = (weigh-start c.args.body.now c.args.start _, (none_passed c.args.body.now c.args.start, (omega arith, c.requires.1)))

pub returns-in_err-reference : goal.returns-in_err-reference
returns-in_err-reference c =
    let f = ok-none _ c.ok.ensures.value c.in_err-reference.was in
    let w = stopped _ _ c.step.ensures f.1 in
    weigh-none _ _ _ c.from_residual.ensures (weigh-fault _ _ _ _ w ∙ c.loop-reference.invariant.0)

pub admit-requires-clause-t : goal.admit-requires-clause-t
admit-requires-clause-t c =
    let w = stepped _ _ c.step.ensures (ok-some _ c.ok.ensures.value c.in_ok-reference.was) c.in-Some.is in
    (w.kind_known, ends-within _ _ _ _ _ _ _ w, w.count_at)

pub admit-requires-clause-start_value : goal.admit-requires-clause-start_value
admit-requires-clause-start_value c =
    let w = stepped _ _ c.step.ensures (ok-some _ c.ok.ensures.value c.in_ok-reference.was) c.in-Some.is in
    (w.start, c.loop-reference.invariant.1.0)

pub returns-in_err-admitted : goal.returns-in_err-admitted
returns-in_err-admitted c =
    let w = stepped _ _ c.step.ensures (ok-some _ c.ok.ensures.value c.in_ok-reference.was) c.in-Some.is in
    weigh-none _ _ _ c.from_residual-in_err-admitted.ensures
    (weigh-no _ _ _ _ _ _ _ w _ _ (admitted-no _ _ _ _ _ c.in_err-admitted.was c.admit.ensures) ∙ c.loop-reference.invariant.0)

pub loop-reference-smaller : goal.loop-reference-smaller
loop-reference-smaller c =
    let w = stepped _ _ c.step.ensures (ok-some _ c.ok.ensures.value c.in_ok-reference.was) c.in-Some.is in
    omega (arith, w.inside, w.further, w.within)

pub loop-reference-preserved : goal.loop-reference-preserved
loop-reference-preserved c =
    let w = stepped _ _ c.step.ensures (ok-some _ c.ok.ensures.value c.in_ok-reference.was) c.in-Some.is in
    let i = c.loop-reference.invariant in
    let a = admitted-yes _ _ _ _ _ _ c.in_ok-admitted.was c.admit.ensures in (
      weigh-step _ _ _ _ _ _ _ w _ _ _ _ a.0 a.1.0 a.1.1.0 ∙ i.0,
      (kept-to _ _ _ _ (omega (arith, w.start, w.further, w.long)) a.1.1.1, (omega (arith, i.1.1.0, w.further), w.within)),
    )

pub returns : goal.returns
returns c =
    let w = ended _ _ c.step.ensures (ok-some _ c.ok.ensures.value c.in_ok-reference.was) c.in_default.is in
    (weigh-end _ _ _ w ∙ c.loop-reference.invariant.0, omega (arith, c.loop-reference.invariant.1.1.0, c.loop-reference.invariant.1.1.1))
