use native.Mathlib.Omega.{arith}
use Rattle.balance.proofs.Admits.{payload-178, known-178}
use Rattle.balance.proofs.Forms.{data-short, data-elsewhere, data-form}
use Rattle.balance.proofs.reference.data_name.Goals as goal

pub returns-then-payload-ne28 : goal.returns-then-payload-ne28
returns-then-payload-ne28 c = data-short _ c.requires c.if-payload-ne28.true

pub rank_at-rank-requires : goal.rank_at-rank-requires
rank_at-rank-requires c = (known-178, omega (arith, payload-178, c.if-payload-ne28.false))

pub returns-then-rank-key : goal.returns-then-rank-key
returns-then-rank-key c = data-elsewhere _ c.requires _ c.rank_at-rank.ensures c.if-rank-key.true

pub returns : goal.returns
returns c = data-form _ c.requires _ c.rank_at-rank.ensures _ _ c.if-payload-ne28.false c.if-rank-key.false c.get_u32_le.ensures c.triple_at.ensures
