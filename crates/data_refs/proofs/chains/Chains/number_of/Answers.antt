use Rattle.std.proofs.Common.{arith}
use Rattle.data_refs.proofs.Walks.{first-leads}
use Rattle.data_refs.proofs.chains.Chains.number_of.Goals as goal

pub walk-requires : goal.walk-requires
walk-requires c =
    let chains = c.args.self in
    (omega arith, chains.in_bounds.2, first-leads _ _ _ _ _ _ (chains.chained c.if-refs-le-FEW.false) _ _ c.chain_of-chain.ensures.0)
