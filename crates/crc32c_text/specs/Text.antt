-- Document 02, ticket 2, "Printing the hash table": the text of a polynomial's table. Assumes nothing.
use Rattle.std.specs.Prelude.{◌≡◌, Bool, cond, List, [], ◌∷◌, ◌++◌, ℕ, leb, length}
use Rattle.fields.specs.Parts.{written}
use Rattle.text.specs.Numbers.{hex_digits}
use Rattle.crc32c_steps.specs.Steps.{table_of}

-- "eight lower-case hexadecimal digits", and a line feed
unfoldable pub hex_line : ℕ → List ℕ
hex_line entry = hex_digits 8 entry ++ 10 ∷ []

unfoldable pub hex_lines : List ℕ → List ℕ
hex_lines [] = []
hex_lines (entry ∷ entries) = hex_line entry ++ hex_lines entries

-- "256 lines .., entry 0 first"
unfoldable pub table_text : ℕ → List ℕ
table_text polynomial = hex_lines (table_of polynomial)

-- whether a lent output holds the text, and what stands there then: the text before what is left of the old bytes, or these alone
pub record TextIn (polynomial : ℕ) (held : Bool) (old new : List ℕ) : Type 0 where
  pub told : held ≡ leb (length (table_text polynomial)) (length old)
  pub output : new ≡ cond held (written 0 (table_text polynomial) old) old
