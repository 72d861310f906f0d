use mathlib.Core.Path.{◌≡◌}
use Prim.Native.Nat.{◌-◌}
use lib.ListN.{length}
use Rattle.inline_refs.specs.Steps.{read_from}
use Rattle.inline_refs.specs.Scans.{drop_scan_of}
use Rattle.inline_refs.proofs.drop_scan.drop_from.Given as goal

abbrev pub invariant-loop-reference : goal.invariant-loop-reference
invariant-loop-reference l = drop_scan_of l.wanted l.cursor.at (read_from l.body l.cursor.at) ≡ drop_scan_of l.wanted l.start (read_from l.body l.start)

abbrev pub decreases-loop-reference : goal.decreases-loop-reference
decreases-loop-reference l = length l.body - l.cursor.at
