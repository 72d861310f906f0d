use Rattle.fields.specs.Numbers.{le_bytes}
use Rattle.crc32c.specs.Register.{crc32c, all_ones}
use Rattle.crc32c.proofs.Steps.{run-append}
use Rattle.crc32c.proofs.run_two.Goals as goal

-- `crc32c::run_two` meets its contract: two runs in a row are one.
-- Assumes nothing.

pub returns : goal.returns
returns c =
    let a = c.args in
    cc (run-append crc32c (le_bytes 8 a.b) (le_bytes 8 a.c) all_ones)
