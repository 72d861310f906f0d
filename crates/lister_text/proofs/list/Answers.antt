use Rattle.lister_text.proofs.Listings.{text-short, text-writes}
use Rattle.lister_text.proofs.list.Goals as goal

pub returns-then-out-n : goal.returns-then-out-n
returns-then-out-n c =
    text-short _ _ _ c.put_text-n.ensures.0.further c.if-out-n.true

pub returns : goal.returns
returns c =
    text-writes _ _ _ _ _ c.put_text-n.ensures.0.further c.if-out-n.false c.put_text.ensures.0
