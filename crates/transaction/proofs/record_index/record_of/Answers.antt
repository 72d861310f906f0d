use mathlib.Core.Path.{refl, ap, ◌∙◌}
use Rattle.std.specs.Prelude.{Ok}
use Rattle.format.proofs.Answers.{handed_on}
use Rattle.record_edit.proofs.Searches.{finds-as}
use Rattle.transaction.proofs.Records.{number-refused, number-missing, number-told}
use Rattle.transaction.proofs.record_index.record_of.Goals as goal

pub returns-in_err-found : goal.returns-in_err-found
returns-in_err-found c = handed_on c.from_residual.ensures.1 ∙ number-refused _ _ _ (finds-as c.args.sheet.now c.args.bytenr refl c.in_err-found.was c.find_record.ensures)

pub returns-in_default : goal.returns-in_default
returns-in_default c = number-missing (finds-as c.args.sheet.now c.args.bytenr refl (c.in_ok-found.was ∙ ap Ok c.in_default.is) c.find_record.ensures)

pub returns : goal.returns
returns c = number-told (finds-as c.args.sheet.now c.args.bytenr refl (c.in_ok-found.was ∙ ap Ok c.in-Some.is) c.find_record.ensures)
