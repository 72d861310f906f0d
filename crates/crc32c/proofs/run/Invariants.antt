use mathlib.Core.Path.{◌≡◌}
use Prim.Native.Nat.{◌*◌}
use lib.ListN.{drop}
use Rattle.crc32c.specs.Register.{crc32c, crc_run}
use Rattle.crc32c.proofs.run.Given as goal

-- `crc32c::run` meets its contract. The loop's invariant: the run from here over what is left is the whole run.
-- Assumes nothing.

abbrev pub invariant-loop-number : goal.invariant-loop-number
invariant-loop-number l = crc_run crc32c l.r (drop (8 * l.number-index) l.bytes) ≡ crc_run crc32c l.register l.bytes
