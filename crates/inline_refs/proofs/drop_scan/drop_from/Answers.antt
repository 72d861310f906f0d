use mathlib.Core.Path.{refl, sym, ◌∙◌}
use native.Mathlib.Omega.{arith}
use Rattle.format.proofs.Answers.{handed_on}
use Rattle.inline_refs.proofs.Steps.{stepped, ended, stopped, ends-within}
use Rattle.inline_refs.proofs.Tests.{named_other}
use Rattle.inline_refs.proofs.Drops.{own_row, of-kind, drop-first, drop-other, drop-end, drop-fault}
use Rattle.inline_refs.proofs.drop_scan.drop_from.Goals as goal
use Rattle.inline_refs.proofs.drop_scan.drop_from.Goals.{else-reference-sought-via-then-reference-sought+else-is_named, else-reference-sought-via-else-reference-sought}

pub step_among-requires : goal.step_among-requires
step_among-requires c =
    let own = c.lengths_for-own.ensures in
    own_row c.args.wanted _ _ _ c.kind_of-sought.ensures own.0 own.1

pub returns-in_err-reference : goal.returns-in_err-reference
returns-in_err-reference c =
    let w = stopped _ _ c.step_among.ensures c.in_err-reference.was in
    handed_on c.from_residual.ensures.1 ∙ drop-fault _ _ _ _ w ∙ c.loop-reference.invariant

pub is_named-requires : goal.is_named-requires
is_named-requires c =
    let w = stepped _ _ c.step_among.ensures c.in_ok-reference.was c.in-Some.is in
    rw (sym (c.if-reference-sought.true ∙ c.kind_of-sought.ensures)) (ends-within _ _ _ _ _ _ _ w)

pub found_at-found-requires : goal.found_at-found-requires
found_at-found-requires c =
    let w = stepped _ _ c.step_among.ensures c.in_ok-reference.was c.in-Some.is in
    (w.kind_known, ends-within _ _ _ _ _ _ _ w, w.count_at)

pub returns-in_err-behind : goal.returns-in_err-behind
returns-in_err-behind c =
    let w = stepped _ _ c.step_among.ensures c.in_ok-reference.was c.in-Some.is in
    let named = of-kind _ _ _ _ (c.if-reference-sought.true ∙ c.kind_of-sought.ensures) c.is_named.ensures in
    handed_on c.from_residual-in_err-behind.ensures.1
    ∙ drop-first _ _ _ _ _ _ _ _ w _ named _ _ c.if-is_named.true c.found_at-found.ensures (sym c.in_err-behind.was ∙ c.sum_behind.ensures)
    ∙ c.loop-reference.invariant

pub returns-then-is_named : goal.returns-then-is_named
returns-then-is_named c =
    let w = stepped _ _ c.step_among.ensures c.in_ok-reference.was c.in-Some.is in
    let named = of-kind _ _ _ _ (c.if-reference-sought.true ∙ c.kind_of-sought.ensures) c.is_named.ensures in
    drop-first _ _ _ _ _ _ _ _ w _ named _ _ c.if-is_named.true c.found_at-found.ensures (sym c.in_ok-behind.was ∙ c.sum_behind.ensures)
    ∙ c.loop-reference.invariant

pub loop-reference-smaller : goal.loop-reference-smaller
loop-reference-smaller c =
    let w = stepped _ _ c.step_among.ensures c.in_ok-reference.was c.in-Some.is in
    omega (arith, w.inside, w.further, w.within)

pub loop-reference-preserved : goal.loop-reference-preserved
loop-reference-preserved c =
    let w = stepped _ _ c.step_among.ensures c.in_ok-reference.was c.in-Some.is in
    elim c.else-reference-sought.branch [
      | else-reference-sought-via-then-reference-sought+else-is_named x ↦
          drop-other _ _ _ _ _ _ _ _ w _ (of-kind _ _ _ _ (x.if-reference-sought.true ∙ c.kind_of-sought.ensures) x.is_named.ensures) x.if-is_named.false ∙ c.loop-reference.invariant
      | else-reference-sought-via-else-reference-sought x ↦
          drop-other _ _ _ _ _ _ _ _ w _ (named_other _ _ _ (λ e. x.if-reference-sought.false (sym (c.kind_of-sought.ensures ∙ e)))) refl ∙ c.loop-reference.invariant
    ]

pub returns : goal.returns
returns c =
    let w = ended _ _ c.step_among.ensures c.in_ok-reference.was c.in_default.is in
    drop-end _ _ _ w ∙ c.loop-reference.invariant
