use mathlib.Core.Path.{sym, ◌∙◌}
use Rattle.format.proofs.Answers.{handed_on}
use Rattle.inline_refs.proofs.Notes.{scan-opened, scan-shut}
use Rattle.inline_refs.proofs.scan.scan_to_add.Goals as goal

pub returns-in_err-start : goal.returns-in_err-start
returns-in_err-start c = handed_on c.from_residual.ensures.1 ∙ scan-shut _ _ _ _ _ (sym c.in_err-start.was ∙ c.open_body.ensures)

pub returns-then-kind_of-eq-EXTENT_DATA_REF : goal.returns-then-kind_of-eq-EXTENT_DATA_REF
returns-then-kind_of-eq-EXTENT_DATA_REF c =
    scan-opened _ _ _ _ _ (sym c.in_ok-start.was ∙ c.open_body.ensures) c.scan_first.ensures

pub returns : goal.returns
returns c = scan-opened _ _ _ _ _ (sym c.in_ok-start.was ∙ c.open_body.ensures) c.scan_ranked.ensures
