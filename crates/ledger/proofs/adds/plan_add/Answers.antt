use Rattle.ledger.proofs.Adding.{body-unread, body-read}
use Rattle.ledger.proofs.adds.plan_add.Goals as goal

pub returns-then-is_unread : goal.returns-then-is_unread
returns-then-is_unread c = body-unread _ _ _ _ c.is_unread.ensures c.if-is_unread.true

pub returns : goal.returns
returns c = body-read _ _ _ _ c.is_unread.ensures _ c.if-is_unread.false c.plan_add.ensures
