use borrow.Author.Rules.{rules}
use Rattle.extent_write.proofs.Hashes.{below-by-top, below-whole}
use Rattle.extent_write.proofs.hash_below.Goals as goal

pub returns-then-top-bound : goal.returns-then-top-bound
returns-then-top-bound c =
    below-by-top c.args.tree c.args.objectid c.args.offset _ c.args.rank c.register_of-one.ensures
    (search rules) (search rules) c.if-top-bound.true

pub returns : goal.returns
returns c =
    below-whole _ _ _ _ _ c.register_of-one.ensures _ _ c.run_two.ensures c.joined.ensures
