use mathlib.Core.Path.{◌≡◌}
use Prim.Native.Nat.{◌-◌, ◌≤◌}
use lib.ListN.{length}
use Rattle.inline_refs.specs.Steps.{read_from}
use Rattle.inline_refs.specs.Scans.{ref_count_of}
use Rattle.inline_refs.proofs.Counts.{plus}
use Rattle.inline_refs.proofs.count.count_refs.Given as goal

abbrev pub invariant-loop-n : goal.invariant-loop-n
invariant-loop-n l =
    (plus l.n (ref_count_of (read_from l.body l.reader.at)) ≡ ref_count_of (read_from l.body l.start)) × (l.n ≤ l.reader.at) × (l.reader.at ≤ length l.body) × (l.reader.body.now ≡ l.body)

abbrev pub decreases-loop-n : goal.decreases-loop-n
decreases-loop-n l = length l.body - l.reader.at
