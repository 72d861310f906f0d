use Rattle.crc32c_tables.proofs.Sixteen.{sixteen-rows}
use Rattle.crc32c_tables.proofs.sixteen_rows.Goals as goal

-- `crc32c_tables::sixteen_rows` meets its contract. Assumes nothing.

pub returns : goal.returns
returns c = sixteen-rows
