use mathlib.Core.Path.{◌≡◌}
use Prim.Native.Nat.{◌-◌, ◌^◌, ◌<◌}
use lib.ListN.{length, drop}
use Rattle.fields.specs.Numbers.{le}
use Rattle.crc32c.proofs.last_number.Given as goal

-- `crc32c::last_number` meets its contract. The loop's invariant: the number is that of the bytes from here on.
-- Assumes nothing.

abbrev pub invariant-loop-i : goal.invariant-loop-i
invariant-loop-i l = (l.x ≡ le (drop l.i l.bytes)) × (l.x < 256 ^ (length l.bytes - l.i))
