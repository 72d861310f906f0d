use mathlib.Core.Path.{◌≡◌}
use Prim.Native.Nat.{◌-◌}
use lib.ListN.{length}
use Rattle.inline_refs.specs.Steps.{read_from}
use Rattle.transaction.specs.Held.{all_of, is_of_file}
use Rattle.transaction.proofs.FileRefs.{Passed}
use Rattle.transaction.proofs.held_refs.file_refs.Given as goal

abbrev pub invariant-loop-reference : goal.invariant-loop-reference
invariant-loop-reference l =
    Passed l.body l.start l.cursor.at l.n × (all_of (is_of_file l.root l.ino) (read_from l.body l.cursor.at) ≡ all_of (is_of_file l.root l.ino) (read_from l.body l.start))

abbrev pub decreases-loop-reference : goal.decreases-loop-reference
decreases-loop-reference l = length l.body - l.cursor.at
