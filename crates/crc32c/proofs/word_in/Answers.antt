use mathlib.Core.Path.{◌∙◌}
use native.Mathlib.Omega.{arith}
use lib.Bits.{xor_lt}
use lib.Pow.{shl_exact}
use borrow.Author.Rules.{rules}
use Rattle.crc32c.specs.Register.{crc32c}
use Rattle.crc32c.proofs.Words.{word-second}
use Rattle.crc32c.proofs.word_in.Goals as goal

-- `crc32c::word_in` meets its contract: the second word of the run is all that counts.
-- Assumes nothing.

pub returns : goal.returns
returns c =
    let register = c.args.register in
    let word = c.args.word in
    c.u64_in.ensures
    ∙ word-second crc32c register word _ (search rules) (search rules)
    (shl_exact 32 32 64 (xor_lt 32 register word (search rules) (search rules)) (omega arith))
