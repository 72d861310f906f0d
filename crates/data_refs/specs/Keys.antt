-- Which chain a triple belongs to, by a seed. Assumes nothing.
use Rattle.std.specs.Prelude.{List, ℕ, ◌+◌, ◌*◌, ◌/◌, ◌%◌, get_or}
use Rattle.std.specs.Int.Bits.{bit_xor}

-- a number's halves, with another number added to each, multiplied
abbrev pub product_of : ℕ → ℕ → ℕ → ℕ
product_of x low high = (x % 4294967296 + low) % 4294967296 * ((x / 4294967296 + high) % 4294967296)

unfoldable pub seeded_key : ℕ → List ℕ → ℕ
seeded_key seed t =
    bit_xor
    (bit_xor (bit_xor seed (product_of (get_or t 0 0) (seed % 4294967296) (seed / 4294967296))) (product_of (get_or t 1 0) (seed / 4294967296) (seed % 4294967296)))
    (product_of (get_or t 2 0) (seed % 4294967296 + 2654435769) (seed / 4294967296 + 2246822507))

-- the chain of a triple, of so many
unfoldable pub chain_of : ℕ → ℕ → List ℕ → ℕ
chain_of seed chains t =
    bit_xor (seeded_key seed t % 4294967296) (seeded_key seed t / 4294967296) * 2654435761 % 4294967296 * chains / 4294967296
