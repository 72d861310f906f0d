use mathlib.Core.Path.{◌≡◌, ap}
use mathlib.Core.List.{List, []}
use Prim.Native.Nat.{ℕ}
use lib.ListN.{get_or}
use Rattle.crc32c_steps.specs.Steps.{crc32c, table_of, rows_from, rows_of}
use Rattle.crc32c_tables.proofs.Array.{array, array-rows}
use Rattle.crc32c_tables.proofs.table.Goals as goal

-- `crc32c_tables::table` meets its contract: row 0 is the polynomial's table. Assumes nothing.

first : get_or array 0 [] ≡ table_of crc32c
unfolding rows_of rows_from
first = ap (λ (rows : List (List ℕ)). get_or rows 0 []) array-rows

pub returns : goal.returns
returns c = first
