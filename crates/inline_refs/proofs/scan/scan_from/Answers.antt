use mathlib.Core.Path.{sym, ap, ◌∙◌}
use mathlib.Core.Bool.{◌||◌}
use Prim.Native.Nat.{ℕ}
use lib.Dec.{eqb}
use native.Mathlib.Omega.{arith}
use Rattle.format.proofs.Answers.{handed_on}
use Rattle.format.specs.References.{ref_at}
use Rattle.inline_refs.specs.Scans.{kind_of}
use Rattle.inline_refs.proofs.Steps.{stepped, ended, stopped, ends-within}
use Rattle.inline_refs.proofs.Notes.{note-hit, note-gap, note-open, scan_step, scan-end, scan-fault, rest-hit}
use Rattle.inline_refs.proofs.scan.scan_from.Goals as goal

pub returns-in_err-reference : goal.returns-in_err-reference
returns-in_err-reference c =
    let w = stopped _ _ c.step.ensures c.in_err-reference.was in
    handed_on c.from_residual.ensures.1 ∙ scan-fault _ _ _ _ _ _ w ∙ c.loop-reference.invariant

pub names-requires : goal.names-requires
names-requires c =
    let w = stepped _ _ c.step.ensures c.in_ok-reference.was c.in-Some.is in
    (w.kind_known, ends-within _ _ _ _ _ _ _ w)

pub found_at-found-requires : goal.found_at-found-requires
found_at-found-requires c =
    let w = stepped _ _ c.step.ensures c.in_ok-reference.was c.in-Some.is in
    (w.kind_known, ends-within _ _ _ _ _ _ _ w, w.count_at)

pub returns-in_err-rest_of : goal.returns-in_err-rest_of
returns-in_err-rest_of c =
    let w = stepped _ _ c.step.ensures c.in_ok-reference.was c.in-Some.is in
    handed_on c.from_residual-in_err-rest_of.ensures.1
    ∙ rest-hit _ _ _ _ _ _ (sym c.in_err-rest_of.was ∙ c.rest_of.ensures)
    ∙ scan_step _ _ _ _ _ _ _ _ _ _ _ w (note-hit _ _ _ _ _ _ _ c.names.ensures _ c.if-names.true c.found_at-found.ensures)
    ∙ c.loop-reference.invariant

pub returns-then-names : goal.returns-then-names
returns-then-names c =
    let w = stepped _ _ c.step.ensures c.in_ok-reference.was c.in-Some.is in
    rest-hit _ _ _ _ _ _ (sym c.in_ok-rest_of.was ∙ c.rest_of.ensures)
    ∙ scan_step _ _ _ _ _ _ _ _ _ _ _ w (note-hit _ _ _ _ _ _ _ c.names.ensures _ c.if-names.true c.found_at-found.ensures)
    ∙ c.loop-reference.invariant

pub stops_at-requires : goal.stops_at-requires
stops_at-requires c =
    let w = stepped _ _ c.step.ensures c.in_ok-reference.was c.in-Some.is in
    (w.kind_known, ends-within _ _ _ _ _ _ _ w)

pub returns-then-stops_at : goal.returns-then-stops_at
unfolding ref_at kind_of
returns-then-stops_at c =
    let w = stepped _ _ c.step.ensures c.in_ok-reference.was c.in-Some.is in
    c.scan_gap.ensures _
    ∙ scan_step _ _ _ _ _ _ _ _ _ _ _ w
    (note-gap _ _ _ _ _ _ _ c.names.ensures c.if-names.false _ _ (ap (λ (k : ℕ). c.loop-reference.others || eqb c.in-Some.reference.kind k) c.kind_of-sought.ensures)
    (rw c.kind_of-sought.ensures at c.stops_at.ensures) c.if-stops_at.true)
    ∙ c.loop-reference.invariant

pub loop-reference-smaller : goal.loop-reference-smaller
loop-reference-smaller c =
    let w = stepped _ _ c.step.ensures c.in_ok-reference.was c.in-Some.is in
    omega (arith, w.inside, w.further, w.within)

pub loop-reference-preserved : goal.loop-reference-preserved
unfolding ref_at kind_of
loop-reference-preserved c =
    let w = stepped _ _ c.step.ensures c.in_ok-reference.was c.in-Some.is in
    scan_step _ _ _ _ _ _ _ _ _ _ _ w
    (note-open _ _ _ _ _ _ _ c.names.ensures c.if-names.false _ _ (ap (λ (k : ℕ). c.loop-reference.others || eqb c.in-Some.reference.kind k) c.kind_of-sought.ensures)
    (rw c.kind_of-sought.ensures at c.stops_at.ensures) c.if-stops_at.false)
    ∙ c.loop-reference.invariant

pub returns : goal.returns
returns c =
    let w = ended _ _ c.step.ensures c.in_ok-reference.was c.in_default.is in
    scan-end _ _ _ _ _ w ∙ c.loop-reference.invariant
