use Rattle.std.proofs.Common.{arith}
use Rattle.data_refs.proofs.Walks.{first-leads}
use Rattle.data_refs.proofs.chains.chain_all.Goals as goal

pub walk-requires : goal.walk-requires
walk-requires c =
    (omega arith, omega arith, first-leads _ _ _ _ _ _ c.loop-i.invariant.1 _ _ c.chain_of-chain.ensures.0)
