use mathlib.Core.Path.{sym, ◌∙◌}
use Rattle.format.proofs.Answers.{handed_on}
use Rattle.inline_refs.proofs.Notes.{opens}
use Rattle.backref.proofs.RefPositions.{call-shut, call-fault, call-short, call-writes}
use Rattle.backref.proofs.positions.inline_refs.Goals as goal

pub returns-in_err-start : goal.returns-in_err-start
returns-in_err-start c =
    rw (handed_on c.from_residual.ensures.1) (call-shut _ _ _ _ (opens _ _ _ (sym c.in_err-start.was ∙ c.open_body.ensures)))

pub count_refs-requires : goal.count_refs-requires
count_refs-requires c =
    let w = opens _ _ _ (sym c.in_ok-start.was ∙ c.open_body.ensures) in (w.inside, w.fits)

pub returns-in_err-count : goal.returns-in_err-count
returns-in_err-count c =
    let w = opens _ _ _ (sym c.in_ok-start.was ∙ c.open_body.ensures) in
    rw (handed_on c.from_residual-in_err-count.ensures.1) (call-fault _ _ _ w _ _ (sym c.in_err-count.was ∙ c.count_refs.ensures))

pub returns-then-positions-count : goal.returns-then-positions-count
returns-then-positions-count c =
    let w = opens _ _ _ (sym c.in_ok-start.was ∙ c.open_body.ensures) in
    call-short _ _ _ w _ (sym c.in_ok-count.was ∙ c.count_refs.ensures) _ c.if-positions-count.true

pub put_positions-requires : goal.put_positions-requires
put_positions-requires c =
    let w = opens _ _ _ (sym c.in_ok-start.was ∙ c.open_body.ensures) in (w.fits, sym c.in_ok-count.was ∙ c.count_refs.ensures, c.if-positions-count.false)

pub returns : goal.returns
returns c =
    let w = opens _ _ _ (sym c.in_ok-start.was ∙ c.open_body.ensures) in
    call-writes _ _ _ w _ (sym c.in_ok-count.was ∙ c.count_refs.ensures) _ _ c.if-positions-count.false c.put_positions.ensures
