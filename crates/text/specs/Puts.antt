-- What the functions that put down a text say of it: bytes from a position on, as far as the output reaches. The same functions
-- measure a text and write it, so none of them asks for room. Assumes nothing.
use Rattle.std.specs.Prelude.{◌≡◌, List, ℕ, ◌+◌, length}
use Rattle.std.proofs.lemmas.List.Edits.{sets}

-- a text put down from `at` on: where the next byte goes, and what the output holds. A store past the end is none
pub record Put (text : List ℕ) (at : ℕ) (old : List ℕ) (next : ℕ) (new : List ℕ) : Type 0 where
  pub further : next ≡ at + length text
  pub bytes : new ≡ sets old at text
