use mathlib.Core.Path.{sym, ap, ◌∙◌}
use Rattle.std.specs.Prelude.{Ok}
use Rattle.format.proofs.Answers.{handed_on}
use Rattle.inline_refs.specs.declared.ref_name.RefName.TheVariants.{Data}
use Rattle.backref.proofs.AddedAt.{scan-reads}
use Rattle.backref.proofs.Told.{holds-fault, holds-found}
use Rattle.backref.proofs.asks.holds_inline_data_ref.Goals as goal

pub returns-in_err-seen : goal.returns-in_err-seen
returns-in_err-seen c =
    handed_on c.from_residual.ensures.1 ∙ holds-fault _ _ _ _ (sym c.in_err-seen.was ∙ c.scan_body.ensures)

pub returns : goal.returns
returns c =
    let r = scan-reads _ _ (Data _) 0 _ (sym c.in_ok-seen.was ∙ c.scan_body.ensures) in
    ap Ok c.is_some.ensures ∙ holds-found _ _ _ _ r _ c.hit_of.ensures
