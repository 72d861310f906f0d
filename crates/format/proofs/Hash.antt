-- The hash of one data reference, computed from the definition: tree 5, objectid 257, offset 0.
-- Assumes nothing.
use mathlib.Core.Path.{◌≡◌, refl}
use Rattle.fields.specs.Numbers.{le_bytes}
use Rattle.crc32c.specs.Register.{step, steps, byte_step, crc_run}
use Rattle.format.specs.Hash.{data_ref_hash}

pub hash-5-257-0 : data_ref_hash 5 257 0 ≡ 0x0dfb591fa80d95ea
unfolding data_ref_hash le_bytes crc_run byte_step steps step
hash-5-257-0 = refl
