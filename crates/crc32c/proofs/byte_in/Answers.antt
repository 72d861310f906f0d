use mathlib.Core.Path.{sym, ap, ◌∙◌}
use Prim.Native.Nat.{◌/◌, ◌%◌, ◌^◌}
use lib.Bits.{bit_xor}
use borrow.Author.Rules.{rules}
use Rattle.crc32c.specs.Register.{crc32c}
use Rattle.crc32c.proofs.Steps.{byte-by-table}
use Rattle.crc32c_steps.proofs.Entries.{table_at}
use Rattle.crc32c.proofs.byte_in.Goals as goal

-- `crc32c::byte_in` meets its contract: the steps are linear over xor, and the table has the eight steps of the low byte.
-- Assumes nothing.

pub returns : goal.returns
returns c =
    let a = c.args in
    ap (bit_xor (a.register / 2 ^ 8)) (table_at crc32c c.requires (bit_xor a.register a.b % 2 ^ 8) (search rules))
    ∙ sym (byte-by-table crc32c a.register a.b (search rules))
