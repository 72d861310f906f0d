use native.Mathlib.Omega.{arith}
use Rattle.transaction.proofs.Counts.{first-offset, one-nowhere, one-distinct, one-tallied}
use Rattle.transaction.proofs.held_counts.held_one.Goals as goal

pub returns-then-end-file : goal.returns-then-end-file
returns-then-end-file c =
    let file = c.args.file in
    let here = first-offset file.refs.body.now file.refs.from _ c.get-offset.ensures in
    one-nowhere _ _ _ c.requires _ _ file.side_by_side _ _ _ here c.equal_end-end.ensures c.if-end-file.true

pub all_weigh-requires : goal.all_weigh-requires
all_weigh-requires c =
    let file = c.args.file in
    let here = first-offset file.refs.body.now file.refs.from _ c.get-offset.ensures in
    record {
      distinct = one-distinct _ _ _ c.requires;
      tallied = (omega (arith, c.requires), one-tallied _ _ _ c.requires _ _ file.side_by_side _ _ _ here c.equal_end-end.ensures c.if-end-file.false);
    }
