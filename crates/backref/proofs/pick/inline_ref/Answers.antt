use mathlib.Core.Path.{sym, ◌∙◌}
use Rattle.format.proofs.Answers.{handed_on}
use Rattle.inline_refs.proofs.Notes.{opens}
use Rattle.backref.proofs.Picks.{pick-denied, pick-shut, pick-refused, pick_is}
use Rattle.backref.proofs.pick.inline_ref.Goals as goal

pub returns-in_err-start : goal.returns-in_err-start
returns-in_err-start c =
    pick-denied _ (handed_on c.from_residual.ensures.1) (pick-shut _ _ _ _ (opens _ _ _ (sym c.in_err-start.was ∙ c.open_body.ensures)))

pub count_refs-requires : goal.count_refs-requires
count_refs-requires c =
    let w = opens _ _ _ (sym c.in_ok-start.was ∙ c.open_body.ensures) in (w.inside, w.fits)

pub returns-in_err-count : goal.returns-in_err-count
returns-in_err-count c =
    let w = opens _ _ _ (sym c.in_ok-start.was ∙ c.open_body.ensures) in
    pick-denied _ (handed_on c.from_residual-in_err-count.ensures.1) (pick-refused _ _ _ _ w _ (sym c.in_err-count.was ∙ c.count_refs.ensures))

pub pick-requires : goal.pick-requires
pick-requires c =
    let w = opens _ _ _ (sym c.in_ok-start.was ∙ c.open_body.ensures) in (w.fits, sym c.in_ok-count.was ∙ c.count_refs.ensures)

pub returns : goal.returns
returns c =
    let w = opens _ _ _ (sym c.in_ok-start.was ∙ c.open_body.ensures) in
    (c.pick.ensures.0 ∙ pick_is _ _ _ _ w, c.pick.ensures.1)
