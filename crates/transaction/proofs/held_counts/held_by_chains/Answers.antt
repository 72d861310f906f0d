use Rattle.transaction.proofs.Counts.{held-twice}
use Rattle.transaction.proofs.held_counts.held_by_chains.Goals as goal

pub returns-then-chain_all-refs : goal.returns-then-chain_all-refs
returns-then-chain_all-refs c =
    held-twice _ _ _ _ _ c.args.file.side_by_side _ _ c.if-chain_all-refs.true (c.chain_all.ensures.upper_bound.1.1 c.if-chain_all-refs.true)
