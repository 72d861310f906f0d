use mathlib.Core.Path.{refl, sym, ap, ◌∙◌}
use Prim.Native.Nat.{ℕ}
use lib.ListN.{drop}
use Rattle.format.specs.References.{ref_at}
use native.Mathlib.Omega.{arith}
use Rattle.format.proofs.Answers.{handed_on}
use Rattle.inline_refs.proofs.Steps.{stepped, ended, stopped, ends-within}
use Rattle.inline_refs.proofs.Tests.{named_other}
use Rattle.inline_refs.proofs.Drops.{own_row, of-kind, sums_none, sums-wanted, sums-other, sums-end, sums-fault}
use Rattle.inline_refs.proofs.drop_scan.sum_behind.Goals as goal
use Rattle.inline_refs.proofs.drop_scan.sum_behind.Goals.{then-other-sought+then-is_named, else-other-sought, else-other-sought-via-then-other-sought+else-is_named, else-other-sought-via-else-other-sought}

pub loop-other-init : goal.loop-other-init
loop-other-init c = (sums_none _ _, omega arith)

pub step_among-requires : goal.step_among-requires
step_among-requires c =
    let own = c.lengths_for-own.ensures in
    own_row c.args.wanted _ _ _ c.kind_of-sought.ensures own.0 own.1

pub returns-in_err-other : goal.returns-in_err-other
returns-in_err-other c =
    let w = stopped _ _ c.step_among.ensures c.in_err-other.was in
    handed_on c.from_residual.ensures.1 ∙ sums-fault _ _ _ _ w ∙ c.loop-other.invariant.0

pub is_named-requires : goal.is_named-requires
is_named-requires c =
    let w = stepped _ _ c.step_among.ensures c.in_ok-other.was c.in-Some.is in
    rw (sym (c.if-other-sought.true ∙ c.kind_of-sought.ensures)) (ends-within _ _ _ _ _ _ _ w)

pub weight_at-weight-requires : goal.weight_at-weight-requires
weight_at-weight-requires c =
    let w = stepped _ _ c.step_among.ensures c.in_ok-other.was c.in-Some.is in
    let own = own_row c.args.wanted _ _ _ c.kind_of-sought.ensures c.lengths_for-own.ensures.0 c.lengths_for-own.ensures.1 in
    (own.0, rw (sym c.if-other-sought.true) (ends-within _ _ _ _ _ _ _ w), own.2)

pub overflow_add-sum : goal.overflow_add-sum
overflow_add-sum c =
    let w = stepped _ _ c.step_among.ensures c.in_ok-other.was c.in-Some.is in
    omega (arith, w.inside, c.loop-other.invariant.1, c.requires)

pub loop-other-smaller : goal.loop-other-smaller
loop-other-smaller c =
    let w = stepped _ _ c.step_among.ensures c.in_ok-other.was c.in-Some.is in
    omega (arith, w.inside, w.further, w.within)

pub loop-other-preserved : goal.loop-other-preserved
loop-other-preserved c =
    let w = stepped _ _ c.step_among.ensures c.in_ok-other.was c.in-Some.is in
    let inv = c.loop-other.invariant in
    elim c.if-other-sought.branch [
      | then-other-sought+then-is_named x ↦
          rw x.sum-is (
            sums-wanted _ _ _ _ _ _ _ _ _ w _ (of-kind _ _ _ _ (x.if-other-sought.true ∙ c.kind_of-sought.ensures) x.is_named.ensures) _ x.if-is_named.true
                (x.weight_at-weight.ensures ∙ ap (λ (k : ℕ). (ref_at k (drop c.in-Some.other.start c.args.body.now)).weight) (sym x.if-other-sought.true))
                ∙ inv.0,
            omega (arith, w.further, inv.1),
          )
      | else-other-sought x ↦
          rw x.sum-is (
            elim x.else-other-sought.branch [
              | else-other-sought-via-then-other-sought+else-is_named y ↦
                  sums-other _ _ _ _ _ _ _ _ _ w _ (of-kind _ _ _ _ (y.if-other-sought.true ∙ c.kind_of-sought.ensures) y.is_named.ensures) y.if-is_named.false ∙ inv.0
              | else-other-sought-via-else-other-sought y ↦
                  sums-other _ _ _ _ _ _ _ _ _ w _ (named_other _ _ _ (λ e. y.if-other-sought.false (sym (c.kind_of-sought.ensures ∙ e)))) refl ∙ inv.0
            ],
            omega (arith, w.further, inv.1),
          )
    ]

pub returns : goal.returns
returns c =
    let w = ended _ _ c.step_among.ensures c.in_ok-other.was c.in_default.is in
    sums-end _ _ _ w ∙ c.loop-other.invariant.0
