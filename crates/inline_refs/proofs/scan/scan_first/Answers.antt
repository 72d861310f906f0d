use mathlib.Core.Path.{sym, ◌∙◌}
use Rattle.format.proofs.Answers.{handed_on}
use Rattle.inline_refs.proofs.Steps.{stepped, ended, stopped, ends-within}
use Rattle.inline_refs.proofs.Notes.{note-hit, scan_step, scan-end, scan-fault, rest-hit}
use Rattle.inline_refs.proofs.scan.scan_first.Goals as goal

pub returns-in_err-reference : goal.returns-in_err-reference
returns-in_err-reference c =
    handed_on c.from_residual.ensures.1 ∙ scan-fault _ _ _ _ _ _ (stopped _ _ c.step.ensures c.in_err-reference.was)

pub returns-in_default : goal.returns-in_default
returns-in_default c = scan-end _ _ _ _ _ (ended _ _ c.step.ensures c.in_ok-reference.was c.in_default.is)

pub names-requires : goal.names-requires
names-requires c =
    let w = stepped _ _ c.step.ensures c.in_ok-reference.was c.in-Some.is in
    (w.kind_known, ends-within _ _ _ _ _ _ _ w)

pub found_at-found-requires : goal.found_at-found-requires
found_at-found-requires c =
    let w = stepped _ _ c.step.ensures c.in_ok-reference.was c.in-Some.is in
    (w.kind_known, ends-within _ _ _ _ _ _ _ w, w.count_at)

pub returns-in_err-rest_of : goal.returns-in_err-rest_of
returns-in_err-rest_of c =
    let w = stepped _ _ c.step.ensures c.in_ok-reference.was c.in-Some.is in
    let hit = scan_step _ _ _ _ _ _ _ _ _ _ _ w (note-hit _ _ _ _ _ _ _ c.names.ensures _ c.if-not-names.false c.found_at-found.ensures) in
    handed_on c.from_residual-in_err-rest_of.ensures.1 ∙ rest-hit _ _ _ _ _ _ (sym c.in_err-rest_of.was ∙ c.rest_of.ensures) ∙ hit

pub returns : goal.returns
returns c =
    let w = stepped _ _ c.step.ensures c.in_ok-reference.was c.in-Some.is in
    let hit = scan_step _ _ _ _ _ _ _ _ _ _ _ w (note-hit _ _ _ _ _ _ _ c.names.ensures _ c.if-not-names.false c.found_at-found.ensures) in
    rest-hit _ _ _ _ _ _ (sym c.in_ok-rest_of.was ∙ c.rest_of.ensures) ∙ hit
