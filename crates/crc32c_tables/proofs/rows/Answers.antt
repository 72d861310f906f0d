use Rattle.crc32c_tables.proofs.Array.{array-rows}
use Rattle.crc32c_tables.proofs.rows.Goals as goal

-- `crc32c_tables::rows` meets its contract. Assumes nothing.

pub returns : goal.returns
returns c = array-rows
