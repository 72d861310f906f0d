use mathlib.Core.Path.{◌≡◌}
use Prim.Native.Nat.{◌*◌, ◌-◌, ◌≤◌}
use lib.ListN.{length}
use Rattle.inline_refs.specs.Steps.{read_from}
use Rattle.inline_refs.specs.Scans.{behind_of}
use Rattle.inline_refs.proofs.Counts.{plus}
use Rattle.inline_refs.proofs.drop_scan.sum_behind.Given as goal

abbrev pub invariant-loop-other : goal.invariant-loop-other
invariant-loop-other l =
    (plus l.sum (behind_of l.wanted (read_from l.body l.cursor.at)) ≡ behind_of l.wanted (read_from l.body l.start)) × (l.sum ≤ 4294967295 * l.cursor.at)

abbrev pub decreases-loop-other : goal.decreases-loop-other
decreases-loop-other l = length l.body - l.cursor.at
