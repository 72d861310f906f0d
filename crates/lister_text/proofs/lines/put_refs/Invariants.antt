use mathlib.Core.Path.{◌≡◌}
use Prim.Native.Nat.{◌+◌, ◌-◌, ◌*◌, ◌≤◌}
use lib.ListN.{length}
use Rattle.format.specs.Lister.{ref_lines}
use Rattle.inline_refs.specs.Steps.{read_from}
use Rattle.lister_text.specs.Refs.{refs_of, ReadsOn}
use Rattle.text.proofs.Writes.{Makes}
use Rattle.lister_text.proofs.lines.put_refs.Given as goal

abbrev pub invariant-loop-reference : goal.invariant-loop-reference
invariant-loop-reference l =
    Makes (ref_lines (refs_of (read_from l.body l.reader.at))) l.next l.out (ref_lines (refs_of (read_from l.body l.start))) l.at l.initial.out
    × ReadsOn l.body l.reader.at × (l.next ≤ 100 + 5 * l.reader.at) × (l.reader.at ≤ length l.body) × (l.reader.body.now ≡ l.body)

abbrev pub decreases-loop-reference : goal.decreases-loop-reference
decreases-loop-reference l = length l.body - l.reader.at
