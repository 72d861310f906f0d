use mathlib.Core.Path.{refl, sym, subst, ◌∙◌}
use native.Mathlib.Omega.{arith}
use Rattle.inline_refs.proofs.Steps.{stepped, ended, stopped, ends-within}
use Rattle.inline_refs.proofs.Tests.{payload-178}
use Rattle.transaction.specs.Held.{FileRefsTold}
use Rattle.transaction.proofs.FileRefs.{ok_some, ok_none, of-file-kind, all-step, all-no, all_end, all-fault, passed_none, passed-more, passed-all}
use Rattle.transaction.proofs.held_refs.file_refs.Goals as goal

pub loop-reference-init : goal.loop-reference-init
loop-reference-init c = (passed_none _ _ c.requires.1, refl)

pub returns-in_err-reference : goal.returns-in_err-reference
returns-in_err-reference c =
    let w = stopped _ _ c.step.ensures (ok_none _ c.ok.ensures.value c.in_err-reference.was).1 in
    subst (FileRefsTold _ _ _ _) (sym c.from_residual.ensures) (sym (all-fault _ _ _ w ∙ c.loop-reference.invariant.1))

pub is_of_file-requires : goal.is_of_file-requires
is_of_file-requires c =
    let w = stepped _ _ c.step.ensures (ok_some _ c.ok.ensures.value c.in_ok-reference.was) c.in-Some.is in
    (w.kind_known, ends-within _ _ _ _ _ _ _ w)

pub returns-then-not-is_of_file : goal.returns-then-not-is_of_file
returns-then-not-is_of_file c =
    let w = stepped _ _ c.step.ensures (ok_some _ c.ok.ensures.value c.in_ok-reference.was) c.in-Some.is in
    sym (all-no _ _ _ _ _ _ _ _ w _ c.is_of_file.ensures c.if-not-is_of_file.true ∙ c.loop-reference.invariant.1)

pub overflow_add-n : goal.overflow_add-n
overflow_add-n c =
    let w = stepped _ _ c.step.ensures (ok_some _ c.ok.ensures.value c.in_ok-reference.was) c.in-Some.is in
    omega (arith, w.inside, c.requires.0, c.loop-reference.invariant.0.reaches)

pub loop-reference-smaller : goal.loop-reference-smaller
loop-reference-smaller c =
    let w = stepped _ _ c.step.ensures (ok_some _ c.ok.ensures.value c.in_ok-reference.was) c.in-Some.is in
    omega (arith, w.inside, w.further, w.within)

pub loop-reference-preserved : goal.loop-reference-preserved
loop-reference-preserved c =
    let w = stepped _ _ c.step.ensures (ok_some _ c.ok.ensures.value c.in_ok-reference.was) c.in-Some.is in
    let yes = c.if-not-is_of_file.false in
    let e = of-file-kind _ _ _ _ (sym c.is_of_file.ensures ∙ yes) in (
      passed-more _ _ _ _ _ _ _ _ _ c.loop-reference.invariant.0 w e (w.long ∙ payload-178 _ e),
      all-step _ _ _ _ _ _ _ _ w _ c.is_of_file.ensures yes ∙ c.loop-reference.invariant.1,
    )

pub returns : goal.returns
returns c =
    let w = ended _ _ c.step.ensures (ok_some _ c.ok.ensures.value c.in_ok-reference.was) c.in_default.is in
    passed-all _ _ _ _ _ _ c.loop-reference.invariant.0 w (all_end _ _ w ∙ c.loop-reference.invariant.1)
