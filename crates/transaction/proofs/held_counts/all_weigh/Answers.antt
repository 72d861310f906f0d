use mathlib.Core.Path.{◌≡◌, sym, ◌∙◌}
use Prim.Native.Nat.{◌≤◌}
use native.Mathlib.Omega.{arith}
use lib.ListN.{get_or}
use Rattle.transaction.specs.Held.{file_ref}
use Rattle.transaction.proofs.Counts.{below_suc, tallied-other, tallied-held}
use Rattle.transaction.proofs.held_counts.all_weigh.Goals as goal
use Rattle.transaction.proofs.held_counts.all_weigh.Goals.{then-weight-eq0-via-then-weight-eq0, then-weight-eq0-via-else-weight-eq0+then-weight-counts}

pub returns-then-weight-eq0 : goal.returns-then-weight-eq0
returns-then-weight-eq0 c =
    tallied-other _ _ _ _ _ c.args.file.side_by_side _ c.requires.distinct _ c.requires.tallied.1 _ c.loop-k-test.true
    (λ l e. elim c.then-weight-eq0.branch [
      | then-weight-eq0-via-then-weight-eq0 w ↦ omega (arith, c.weight_of-weight.ensures, w.if-weight-eq0.true)
      | then-weight-eq0-via-else-weight-eq0+then-weight-counts w ↦ w.if-weight-counts.true (c.weight_of-weight.ensures ∙ e)
    ])

pub loop-k-preserved : goal.loop-k-preserved
loop-k-preserved c =
    let file = c.args.file in
    let weighs = c.weight_of-weight.ensures in
    below_suc (λ j. (1 ≤ (file_ref file.refs.body.now file.refs.from j).weight) × ((file_ref file.refs.body.now file.refs.from j).weight ≡ get_or c.args.counts.now j 0)) c.loop-k.k c.loop-k.invariant
    (omega (arith, weighs, c.if-weight-eq0.false), sym weighs ∙ c.if-weight-counts.false)

pub returns : goal.returns
returns c =
    tallied-held _ _ _ _ _ c.args.file.side_by_side _ c.requires.distinct _ c.requires.tallied.1 (λ j h. c.loop-k.invariant j (omega arith))
