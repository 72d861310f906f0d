use mathlib.Core.Path.{sym, ap, ◌∙◌}
use Rattle.item_list.specs.Seeks.{passing, listing_of}
use Rattle.item_list.proofs.Reading.{sheet-shut, sheet-read, opens-some}
use Rattle.item_list.proofs.finding.find.Goals as goal

pub returns : goal.returns
returns c = c.walk.ensures ∙ sym (ap (listing_of (passing c.args.query)) (sheet-read _ (sym c.opens.ensures ∙ c.if-not-opens.false)))

pub returns-then-not-opens : goal.returns-then-not-opens
unfolding listing_of
returns-then-not-opens c = sym (ap (listing_of (passing c.args.query)) (sheet-shut _ (sym c.opens.ensures ∙ c.if-not-opens.true)))

pub walk-requires : goal.walk-requires
walk-requires c = opens-some _ (sym c.opens.ensures ∙ c.if-not-opens.false)
