use mathlib.Core.Path.{◌≡◌}
use Prim.Native.Nat.{ℕ, ◌-◌}
use lib.ListN.{length}
use Rattle.inline_refs.specs.Steps.{read_from}
use Rattle.inline_refs.specs.Scans.{scan_of}
use Rattle.inline_refs.specs.declared.scan.Seen.TheVariants.{Gap}
use Rattle.inline_refs.proofs.scan.scan_gap.Given as goal

abbrev pub invariant-loop-reference : goal.invariant-loop-reference
invariant-loop-reference l =
    (rank : ℕ) → scan_of l.wanted rank l.cursor.at (Gap l.gap l.others) (read_from l.body l.cursor.at) ≡ scan_of l.wanted rank l.start (Gap l.gap l.stood) (read_from l.body l.start)

abbrev pub decreases-loop-reference : goal.decreases-loop-reference
decreases-loop-reference l = length l.body - l.cursor.at
