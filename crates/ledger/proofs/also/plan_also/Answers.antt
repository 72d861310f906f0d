use Rattle.ledger.proofs.Alsos.{asked-yes, asked-no}
use Rattle.ledger.proofs.also.plan_also.Goals as goal

pub returns-then-yes : goal.returns-then-yes
returns-then-yes c = asked-yes _ _ _ c.if-yes.true

pub returns : goal.returns
returns c = asked-no _ _ _ c.if-yes.false _ c.first_no.ensures
