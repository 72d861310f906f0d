-- The CRC32C register of RFC 3720, on natural numbers: a word that goes in, and a run over bytes, each with the polynomial as a
-- parameter. A byte's steps are those of `crc32c_steps`. Document 01, section "The leaves: hash and table", starts it at
-- all ones, leaves it without final inversion, and takes the polynomial 82f63b78, reflected. Document 02, ticket 3: "For every register
-- and word, one word step equals four byte steps, lowest byte first." Assumes nothing.
use Rattle.std.specs.Prelude.{List, [], ◌∷◌, ℕ, ◌-◌, ◌/◌, ◌%◌, ◌^◌}
pub use Rattle.crc32c_steps.specs.Steps.{crc32c, feed}
unfoldable pub use Rattle.crc32c_steps.specs.Steps.{step, steps, byte_step, table_of}

-- a word of 32 bits goes in: four byte steps, the lowest byte first
unfoldable pub word_step : ℕ → ℕ → ℕ → ℕ
word_step polynomial register word =
    let first = byte_step polynomial register (word % 256) in
    let second = byte_step polynomial first (word / 256 % 256) in
    let third = byte_step polynomial second (word / 65536 % 256) in
    byte_step polynomial third (word / 16777216 % 256)

-- a run over bytes, the first byte first
unfoldable pub crc_run : ℕ → ℕ → List ℕ → ℕ
crc_run polynomial register [] = register
crc_run polynomial register (byte ∷ bytes) = crc_run polynomial (byte_step polynomial register byte) bytes

-- the register before the first byte
abbrev pub all_ones : ℕ
all_ones = 2 ^ 32 - 1

-- the finished checksum of RFC 3720: the register inverted
abbrev pub inverted : ℕ → ℕ
inverted register = 2 ^ 32 - 1 - register
