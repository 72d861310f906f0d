use mathlib.Core.Path.{◌≡◌}
use Prim.Native.Nat.{◌-◌, ◌*◌}
use Rattle.fields.specs.Numbers.{le_bytes}
use Rattle.crc32c.specs.Register.{crc32c, crc_run}
use Rattle.crc32c.proofs.u64_in.Given as goal

-- `crc32c::u64_in` meets its contract. The loop's invariant: the run from here over the words that are left is the whole run.
-- Assumes nothing.

abbrev pub invariant-loop-i : goal.invariant-loop-i
invariant-loop-i l = crc_run crc32c l.r (le_bytes (4 * (2 - l.i)) l.rest) ≡ crc_run crc32c l.register (le_bytes 8 l.x)
