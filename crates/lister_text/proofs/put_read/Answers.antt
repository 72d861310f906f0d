use mathlib.Core.Path.{refl, sym, ◌∙◌}
use native.Mathlib.Omega.{arith}
use Rattle.format.proofs.Answers.{handed_on}
use Rattle.inline_refs.proofs.Counts.{count-reads}
use Rattle.inline_refs.proofs.Notes.{opens}
use Rattle.text.proofs.Writes.{put_is, put_then}
use Rattle.lister_text.proofs.Texts.{readable}
use Rattle.lister_text.proofs.Listings.{text-shut, text-fault, text-is, text-empty, text-some}
use Rattle.lister_text.proofs.put_read.Goals as goal

pub returns-in_default : goal.returns-in_default
returns-in_default c = (text-empty _ c.in_default.ensures.cases, refl)

pub returns-in_err-start : goal.returns-in_err-start
returns-in_err-start c =
    let shut = opens _ _ _ (sym c.in_err-start.was ∙ c.open_body.ensures) in
    rw (handed_on c.from_residual.ensures.1) (text-shut _ _ _ shut ∙ text-some c.in-Some.ensures.cases.0, refl)

pub count_refs-requires : goal.count_refs-requires
count_refs-requires c = let o = opens _ _ _ (sym c.in_ok-start.was ∙ c.open_body.ensures) in (o.inside, o.fits)

pub returns-in_err-count : goal.returns-in_err-count
returns-in_err-count c =
    let o = opens _ _ _ (sym c.in_ok-start.was ∙ c.open_body.ensures) in
    rw (handed_on c.from_residual-in_err-count.ensures.1)
    (text-fault _ _ _ o _ (sym c.in_err-count.was ∙ c.count_refs.ensures) ∙ text-some c.in-Some.ensures.cases.0, refl)

pub put_head-at-requires : goal.put_head-at-requires
put_head-at-requires c = (opens _ _ _ (sym c.in_ok-start.was ∙ c.open_body.ensures)).long

pub put_refs-requires : goal.put_refs-requires
put_refs-requires c =
    let o = opens _ _ _ (sym c.in_ok-start.was ∙ c.open_body.ensures) in
    let w = count-reads _ _ (sym c.in_ok-count.was ∙ c.count_refs.ensures) in
    (o.fits, readable _ w.refs w.is, o.inside, c.put_head-at.ensures.1)

pub returns : goal.returns
returns c =
    let o = opens _ _ _ (sym c.in_ok-start.was ∙ c.open_body.ensures) in (
      put_is (text-is _ _ _ o _ (sym c.in_ok-count.was ∙ c.count_refs.ensures) ∙ text-some c.in-Some.ensures.cases.0) (put_then c.put_head-at.ensures.0 c.put_refs.ensures.0),
      omega (arith, o.fits, c.put_refs.ensures.1),
    )
