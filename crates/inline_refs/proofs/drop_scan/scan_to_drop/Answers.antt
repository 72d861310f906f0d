use mathlib.Core.Path.{sym, ◌∙◌}
use Rattle.format.proofs.Answers.{handed_on}
use Rattle.inline_refs.proofs.Notes.{opens}
use Rattle.inline_refs.proofs.Drops.{drop-opened, drop-shut}
use Rattle.inline_refs.proofs.drop_scan.scan_to_drop.Goals as goal

pub returns-in_err-start : goal.returns-in_err-start
returns-in_err-start c = handed_on c.from_residual.ensures.1 ∙ drop-shut _ _ _ _ (sym c.in_err-start.was ∙ c.open_body.ensures)

pub drop_from-requires : goal.drop_from-requires
drop_from-requires c = (opens _ _ _ (sym c.in_ok-start.was ∙ c.open_body.ensures)).fits

pub returns : goal.returns
returns c = drop-opened _ _ _ _ (sym c.in_ok-start.was ∙ c.open_body.ensures) c.drop_from.ensures
