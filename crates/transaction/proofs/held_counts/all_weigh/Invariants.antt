use mathlib.Core.Path.{◌≡◌}
use Prim.Native.Nat.{ℕ, ◌≤◌, ◌<◌}
use lib.ListN.{get_or}
use Rattle.transaction.specs.Held.{file_ref}
use Rattle.transaction.proofs.held_counts.all_weigh.Given as goal

abbrev pub invariant-loop-k : goal.invariant-loop-k
invariant-loop-k l =
    let refs = l.file.refs in
    (j : ℕ) → j < l.k → (1 ≤ (file_ref refs.body.now refs.from j).weight) × ((file_ref refs.body.now refs.from j).weight ≡ get_or l.counts j 0)
