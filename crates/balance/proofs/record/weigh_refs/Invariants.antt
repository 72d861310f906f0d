use mathlib.Core.Path.{◌≡◌}
use Prim.Native.Nat.{◌*◌, ◌-◌, ◌≤◌}
use lib.ListN.{length}
use Rattle.inline_refs.specs.Steps.{read_from}
use Rattle.balance.specs.Spans.{run_of, RunKept, weighing, weighed_of}
use Rattle.balance.proofs.record.weigh_refs.Given as goal

abbrev pub invariant-loop-reference : goal.invariant-loop-reference
invariant-loop-reference l =
    (weighing (run_of l.body l.run) l.sum (read_from l.body l.cursor.at) ≡ weighed_of (read_from l.body l.start)) × (RunKept l.body l.run l.cursor.at × ((l.sum ≤ 4294967296 * l.cursor.at) × (l.cursor.at ≤ length l.body)))

abbrev pub decreases-loop-reference : goal.decreases-loop-reference
decreases-loop-reference l = length l.body - l.cursor.at
