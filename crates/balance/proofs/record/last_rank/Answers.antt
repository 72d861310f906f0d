use Rattle.balance.proofs.Admits.{rank-computed, rank-open}
use Rattle.balance.proofs.record.last_rank.Goals as goal

pub returns-in-Some : goal.returns-in-Some
returns-in-Some c = rank-computed c.args.body.now c.args.run _ c.in-Some.is

pub returns-in-None : goal.returns-in-None
returns-in-None c = rank-open c.args.body.now c.args.run _ c.in-None.is c.rank_at.ensures
