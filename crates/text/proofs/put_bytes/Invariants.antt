use Rattle.std.proofs.Common.{◌≡◌, ◌+◌, drop}
use Rattle.text.proofs.Writes.{Makes}
use Rattle.text.proofs.put_bytes.Given as goal

abbrev pub invariant-loop-byte : goal.invariant-loop-byte
invariant-loop-byte l =
    Makes (drop l.byte-index l.bytes) l.next l.out l.bytes l.at l.initial.out × (l.next ≡ l.at + l.byte-index)
