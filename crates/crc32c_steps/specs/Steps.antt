-- The steps of the CRC32C register of RFC 3720, bit by bit, on natural numbers, and the tables of a polynomial, each with the
-- polynomial as a parameter. Document 01, section "The leaves: hash and table", takes the polynomial 82f63b78, reflected; document
-- 02, ticket 2, takes any. The rows are ticket 3's. Assumes nothing.
use Rattle.std.specs.Prelude.{List, [], ◌∷◌, ℕ, zero, suc, ◌/◌, ◌%◌}
use Rattle.std.specs.Int.Bits.{bit_xor}

-- the polynomial of CRC32C, reflected
abbrev pub crc32c : ℕ
crc32c = 0x82f63b78

-- the polynomial where the bit that was shifted out is 1, else nothing
abbrev pub feed : ℕ → ℕ → ℕ
feed zero polynomial = zero
feed (suc bit) polynomial = polynomial

-- one step: the register is halved, rounded down, and the polynomial is xored in where it was odd
unfoldable pub step : ℕ → ℕ → ℕ
step polynomial register = bit_xor (register / 2) (feed (register % 2) polynomial)

-- that many steps
unfoldable pub steps : ℕ → ℕ → ℕ → ℕ
steps polynomial zero register = register
steps polynomial (suc n) register = steps polynomial n (step polynomial register)

-- a byte goes in: it is xored into the register, and eight steps follow
unfoldable pub byte_step : ℕ → ℕ → ℕ → ℕ
byte_step polynomial register byte = steps polynomial 8 (bit_xor register byte)

-- `count` entries of a list, from entry `i` on, where entry n is `f n`
unfoldable pub table_entries : (ℕ → ℕ) → ℕ → ℕ → List ℕ
table_entries f zero i = []
table_entries f (suc count) i = f i ∷ table_entries f count (suc i)

-- the table of a polynomial: 256 entries, and entry n is n after eight steps
unfoldable pub table_of : ℕ → List ℕ
table_of polynomial = table_entries (steps polynomial 8) 256 0

-- a row run on: each entry is the one above it after a zero byte
unfoldable pub next_row : ℕ → List ℕ → List ℕ
next_row polynomial [] = []
next_row polynomial (entry ∷ entries) = byte_step polynomial entry 0 ∷ next_row polynomial entries

-- so many rows, each but the first the one above it run on
unfoldable pub rows_from : ℕ → ℕ → List ℕ → List (List ℕ)
rows_from polynomial zero row = []
rows_from polynomial (suc count) row = row ∷ rows_from polynomial count (next_row polynomial row)

-- the rows of a polynomial: its table first
unfoldable pub rows_of : ℕ → ℕ → List (List ℕ)
rows_of polynomial count = rows_from polynomial count (table_of polynomial)
