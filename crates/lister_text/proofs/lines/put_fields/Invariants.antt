use Prim.Native.Nat.{◌+◌, ◌-◌, ◌*◌, ◌≤◌}
use lib.ListN.{drop}
use Rattle.fields.specs.Numbers.{words}
use Rattle.text.specs.Numbers.{spaced}
use Rattle.text.proofs.Writes.{Makes}
use Rattle.lister_text.proofs.lines.put_fields.Given as goal

abbrev pub invariant-loop-n : goal.invariant-loop-n
invariant-loop-n l =
    Makes (spaced (words (l.many - l.n) (drop (l.start + 8 * l.n) l.body))) l.next l.out (spaced (words l.many (drop l.start l.body))) l.at l.initial.out
    × (l.next ≤ l.at + 21 * l.n)
