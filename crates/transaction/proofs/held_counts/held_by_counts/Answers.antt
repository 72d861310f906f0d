use native.Mathlib.Omega.{arith}
use lib.ListN.{length-set}
use Rattle.transaction.proofs.Counts.{times-at, same-offset, none-there, held-nowhere, tallied-few, tallied-more}
use Rattle.transaction.proofs.held_counts.held_by_counts.Goals as goal

pub returns-in_default : goal.returns-in_default
returns-in_default c =
    let side = c.args.file.side_by_side in
    let same = c.requires.same_refs in
    let none = rw (same.0, same.1, same.2) at c.in_default.ensures in
    held-nowhere _ _ _ _ _ side _ _ (times-at c.args.file.offsets.now _ c.loop-i-test.true) (λ k h. none-there _ _ _ _ _ side k _ h (none k h))

pub overflow_add-counts : goal.overflow_add-counts
overflow_add-counts c =
    let same = c.requires.same_refs in
    let found = rw (same.0, same.1, same.2) at c.in-Some.ensures in
    let few = tallied-few _ _ _ _ _ c.args.file.side_by_side _ _ _ c.loop-i.invariant.2 _ found.0 in
    omega (arith, few, c.args.file.short.1)

pub loop-i-preserved : goal.loop-i-preserved
loop-i-preserved c =
    let loop = c.loop-i in
    let equal = c.equal_end-end.ensures in
    let same = c.requires.same_refs in
    let found = rw (same.0, same.1, same.2) at c.in-Some.ensures in (
      equal.inside,
      simp length-set loop.invariant.1,
      tallied-more _ _ _ _ _ c.args.file.side_by_side _ _ _ loop.invariant.2 c.requires.distinct (omega arith) _ _ _ found.0 (same-offset _ _ _ _ found.1) _ equal.equal,
    )
