-- Document 01, "The leaves: hash and table": the hash by which data references are ordered. The register is RFC 3720's,
-- defined in the crate `crc32c`. Assumes nothing.
use Rattle.std.specs.Prelude.{◌++◌, ℕ, ◌*◌, ◌^◌}
use Rattle.std.specs.Int.Bits.{bit_xor}
use Rattle.crc32c.specs.Register.{crc32c, all_ones, crc_run}
use Rattle.fields.specs.Numbers.{le_bytes}

-- data_ref_hash: one run over the tree, one over objectid then offset, each from all ones and without final inversion;
-- the first times 2^31, xor the second
unfoldable pub data_ref_hash : ℕ → ℕ → ℕ → ℕ
data_ref_hash tree objectid offset =
    bit_xor (crc_run crc32c all_ones (le_bytes 8 tree) * 2 ^ 31) (crc_run crc32c all_ones (le_bytes 8 objectid ++ le_bytes 8 offset))
