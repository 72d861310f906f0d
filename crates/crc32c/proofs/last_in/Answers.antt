use Rattle.std.proofs.Common.{rules, ◌∙◌, ap, ℕ, ◌*◌, ◌/◌, ◌^◌, ◌<◌, ◌≤◌, length, get_or}
use native.Mathlib.Omega.{arith}
use lib.Bits.{bit_xor}
use Rattle.crc32c.specs.Register.{crc32c, crc_run}
use Rattle.crc32c.proofs.Apart.{last-bytes}
use Rattle.crc32c.proofs.Slices.{last-bound, last-all}
use Rattle.crc32c.proofs.last_in.Goals as goal

-- `crc32c::last_in` meets its contract: the bytes are the last ones of a run over eight from 0.
-- Assumes nothing.

pub returns : goal.returns
returns c =
    let register = c.args.register in
    let bytes = c.args.bytes.now in
    let n = length bytes in
    let known : (i : ℕ) → get_or bytes i 0 < 256 = λ i. search rules in
    let few : n ≤ 8 = omega arith in
    ap (bit_xor (register / 2 ^ (8 * n))) c.u64_in.ensures
    ∙ last-bytes crc32c n register _ few (last-bound bytes known 0 n (omega arith) c.last_number-x.ensures)
    ∙ ap (crc_run crc32c register) (last-all bytes known c.last_number-x.ensures)
