use mathlib.Core.Path.{◌≡◌}
use mathlib.Core.Bool.{false}
use Prim.Native.Nat.{◌-◌}
use lib.ListN.{length}
use Rattle.inline_refs.specs.Steps.{read_from}
use Rattle.inline_refs.specs.Scans.{scan_of}
use Rattle.inline_refs.specs.declared.scan.Seen.TheVariants.{Open}
use Rattle.inline_refs.proofs.scan.scan_from.Given as goal

abbrev pub invariant-loop-reference : goal.invariant-loop-reference
invariant-loop-reference l =
    scan_of l.wanted l.rank l.cursor.at (Open l.others) (read_from l.body l.cursor.at) ≡ scan_of l.wanted l.rank l.start (Open false) (read_from l.body l.start)

abbrev pub decreases-loop-reference : goal.decreases-loop-reference
decreases-loop-reference l = length l.body - l.cursor.at
