use mathlib.Core.Path.{sym, ap₂, ◌∙◌}
use lib.Bits.{bit_xor}
use borrow.Author.Rules.{rules}
use Rattle.crc32c.specs.Register.{crc32c}
use Rattle.crc32c.proofs.Words.{word-by-steps}
use Rattle.crc32c.proofs.word_step.Goals as goal

-- `crc32c::word_step` meets its contract: each row has the steps of its byte.
-- Assumes nothing.

pub returns : goal.returns
returns c =
    let args = c.args in
    ap₂ bit_xor (ap₂ bit_xor (ap₂ bit_xor c.entry-a.ensures c.entry-b.ensures) c.entry-c.ensures) c.entry-d.ensures
    ∙ sym (word-by-steps crc32c args.register args.word (search rules) (search rules))
