use mathlib.Core.Path.{◌≡◌}
use Prim.Native.Nat.{◌*◌}
use lib.ListN.{length, drop}
use Rattle.text.proofs.Writes.{Makes}
use Rattle.crc32c_text.specs.Text.{hex_lines}
use Rattle.crc32c_text.proofs.put_lines.Given as goal

-- `crc32c_text::put_lines` meets its contract. The loop's invariant: the lines that are left, put down from here, make the text.
-- Assumes nothing.

abbrev pub invariant-loop-entry : goal.invariant-loop-entry
invariant-loop-entry l =
    let n = l.entry-index in
    Makes (hex_lines (drop n l.entry-items)) l.at l.out (hex_lines l.entry-items) 0 l.initial.out × (l.at ≡ 9 * n) × (length l.entry-items ≡ 256) × (length l.out ≡ length l.initial.out)
