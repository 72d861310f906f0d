use mathlib.Core.Path.{◌≡◌, ap, ◌∙◌}
use borrow.Author.Rules.{rules}
use mathlib.Core.List.{List}
use Prim.Native.Nat.{ℕ}
use Rattle.crc32c.specs.Register.{crc32c, crc_run}
use Rattle.crc32c.proofs.Slices.{words-part}
use Rattle.crc32c.proofs.sixteen.bytes_in.Goals as goal

-- `crc32c::sixteen::bytes_in` meets its contract: the bytes of four words, one after the other, are sixteen.
-- Assumes nothing.

in-part : (register : ℕ) {r : ℕ} {four part : List ℕ} → r ≡ crc_run crc32c register four → four ≡ part → r ≡ crc_run crc32c register part
in-part register e words = e ∙ ap (crc_run crc32c register) words

pub returns : goal.returns
returns c =
    in-part _ c.words_in.ensures
    (words-part c.args.bytes.now (λ i. search rules) c.args.at c.requires.1 c.get_u32_le-a.ensures c.get_u32_le-b.ensures c.get_u32_le-c.ensures c.get_u32_le-d.ensures)
