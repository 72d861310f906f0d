use mathlib.Core.Path.{sym, ◌∙◌}
use Rattle.inline_refs.proofs.Notes.{opens}
use Rattle.transaction.proofs.Only.{only-shut, only-held}
use Rattle.transaction.proofs.held.held_only_by.Goals as goal

pub returns-in_default : goal.returns-in_default
returns-in_default c =
    let w = opens 168 c.args.body.now _ (sym c.in_default.is ∙ c.open_body.ensures) in
    only-shut _ _ _ _ c.if-body-gt-MOST_DATA.false c.if-offsets-gt-MOST_OFFSETS.false _ w

pub held_from-requires : goal.held_from-requires
held_from-requires c =
    let w = opens 168 c.args.body.now _ (sym c.in-Ok.is ∙ c.open_body.ensures) in
    record { in_bounds = (w.long, w.fits); start_in_bounds = (w.inside, c.if-offsets-gt-MOST_OFFSETS.false) }

pub returns : goal.returns
returns c =
    let w = opens 168 c.args.body.now _ (sym c.in-Ok.is ∙ c.open_body.ensures) in
    only-held _ _ _ _ c.if-body-gt-MOST_DATA.false c.if-offsets-gt-MOST_OFFSETS.false _ _ w c.held_from.ensures
