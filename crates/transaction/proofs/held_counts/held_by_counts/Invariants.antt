use mathlib.Core.Path.{◌≡◌}
use Prim.Native.Nat.{◌-◌, ◌≤◌}
use lib.ListN.{length, drop}
use Rattle.transaction.specs.Held.{Tallied}
use Rattle.transaction.proofs.held_counts.held_by_counts.Given as goal

abbrev pub invariant-loop-i : goal.invariant-loop-i
invariant-loop-i l =
    let refs = l.file.refs in
    (l.i ≤ length l.file.offsets.now) × (length l.counts ≡ length l.initial.counts) × Tallied refs.body.now refs.from refs.n l.file.offsets.now l.counts (drop l.i l.file.offsets.now)

abbrev pub decreases-loop-i : goal.decreases-loop-i
decreases-loop-i l = length l.file.offsets.now - l.i
