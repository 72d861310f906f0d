use mathlib.Core.Path.{sym, ap₂, ◌∙◌}
use Prim.Native.Nat.{◌+◌, ◌/◌, ◌%◌, ◌≤◌, ◌<◌}
use native.Mathlib.Nat.{mod-lt}
use native.Mathlib.Omega.{arith}
use lib.Bits.{bit_xor}
use lib.Pow.{pow_pos}
use borrow.Author.Rules.{rules}
use Rattle.crc32c_steps.proofs.Rows.{row_at}
use Rattle.crc32c.specs.Register.{crc32c}
use Rattle.crc32c.proofs.Apart.{word_on}
use Rattle.crc32c.proofs.sixteen.word_on.Goals as goal

-- `crc32c::sixteen::word_on` meets its contract: each row has the steps of its byte.
-- Assumes nothing.

pub returns : goal.returns
returns c =
    let row = c.args.row in
    let word = c.args.word in
    let rows = c.requires.0 in
    let room : row + 4 ≤ 16 = c.requires.1 in
    let first : row < 16 = omega arith in
    let second : row + 1 < 16 = omega arith in
    let third : row + 2 < 16 = omega arith in
    let fourth : row + 3 < 16 = omega arith in
    ap₂ bit_xor
    (ap₂ bit_xor
    (ap₂ bit_xor
    (row_at crc32c 16 row (word / 16777216 % 256) rows first (mod-lt (word / 16777216) (pow_pos 8)))
    (row_at crc32c 16 (row + 1) (word / 65536 % 256) rows second (mod-lt (word / 65536) (pow_pos 8))))
    (row_at crc32c 16 (row + 2) (word / 256 % 256) rows third (mod-lt (word / 256) (pow_pos 8))))
    (row_at crc32c 16 (row + 3) (word % 256) rows fourth (mod-lt word (pow_pos 8)))
    ∙ sym (word_on crc32c row word (search rules))
