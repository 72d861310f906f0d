use mathlib.Core.Path.{◌≡◌}
use Prim.Native.Nat.{◌-◌}
use lib.ListN.{length}
use Rattle.inline_refs.specs.Steps.{read_from}
use Rattle.inline_refs.specs.Scans.{rest_of}
use Rattle.inline_refs.proofs.scan.rest_of.Given as goal

abbrev pub invariant-loop-reference : goal.invariant-loop-reference
invariant-loop-reference l = rest_of (read_from l.body l.cursor.at) ≡ rest_of (read_from l.body l.start)

abbrev pub decreases-loop-reference : goal.decreases-loop-reference
decreases-loop-reference l = length l.body - l.cursor.at
