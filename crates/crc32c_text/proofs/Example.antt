-- Lines computed from the definition: the first two, number 129 and the last one of CRC32C's table, and the second one of another
-- polynomial's, which begins with a zero. Assumes nothing.
use mathlib.Core.Path.{◌≡◌, refl}
use mathlib.Core.List.{List, [], ◌∷◌}
use Prim.Native.Nat.{ℕ, ◌*◌}
use Rattle.fields.specs.Parts.{part}
use Rattle.text.specs.Numbers.{hex_digit, hex_digits}
use Rattle.crc32c_steps.specs.Steps.{crc32c, step, steps, table_entries, table_of}
use Rattle.crc32c_text.specs.Text.{hex_line, hex_lines, table_text}

-- a line of the text, by its number from 0 on
abbrev line_at : ℕ → ℕ → List ℕ
line_at polynomial n = part (9 * n) 9 (table_text polynomial)

-- 00000000, f26b8303, 82f63b78, ad7d5351; 02000000
pub printed : (line_at crc32c 0 ≡ 48 ∷ 48 ∷ 48 ∷ 48 ∷ 48 ∷ 48 ∷ 48 ∷ 48 ∷ 10 ∷ [])
    × (line_at crc32c 1 ≡ 102 ∷ 50 ∷ 54 ∷ 98 ∷ 56 ∷ 51 ∷ 48 ∷ 51 ∷ 10 ∷ [])
    × (line_at crc32c 128 ≡ 56 ∷ 50 ∷ 102 ∷ 54 ∷ 51 ∷ 98 ∷ 55 ∷ 56 ∷ 10 ∷ [])
    × (line_at crc32c 255 ≡ 97 ∷ 100 ∷ 55 ∷ 100 ∷ 53 ∷ 51 ∷ 53 ∷ 49 ∷ 10 ∷ [])
    × (line_at 0xffffffff 1 ≡ 48 ∷ 50 ∷ 48 ∷ 48 ∷ 48 ∷ 48 ∷ 48 ∷ 48 ∷ 10 ∷ [])
unfolding hex_digit hex_digits step steps table_entries table_of hex_line hex_lines table_text
printed = (refl, refl, refl, refl, refl)
