use mathlib.Core.Path.{ap₂, ◌∙◌}
use lib.Bits.{bit_xor}
use borrow.Author.Rules.{rules}
use Rattle.crc32c.specs.Register.{crc32c}
use Rattle.crc32c.proofs.Apart.{four-words}
use Rattle.crc32c.proofs.sixteen.words_in.Goals as goal

-- `crc32c::sixteen::words_in` meets its contract: each word goes its own way.
-- Assumes nothing.

pub returns : goal.returns
returns c =
    let a = c.args in
    ap₂ bit_xor (ap₂ bit_xor (ap₂ bit_xor c.word_on.ensures c.word_on-2.ensures) c.word_on-3.ensures) c.word_on-4.ensures
    ∙ four-words crc32c a.register a.a a.b a.c a.d (search rules) (search rules) (search rules) (search rules)
