-- Document 02, ticket 2: "The table in the library equals the generator's result, shown over all entries together." The rows behind
-- the first four stand in arrays alone, and `crc32c_tables::sixteen_rows` hands them out: its contract says the same of all sixteen,
-- which are `rows_of crc32c 16`, the polynomial's table and fifteen rows more. Assumes nothing.
use Rattle.std.specs.Prelude.{◌≡◌, [], ◌∷◌}
use Rattle.crc32c_steps.specs.Steps.{crc32c, table_of, rows_from}
use Rattle.crc32c_tables.specs.declared.standing.Tables.{Tables}

-- the generator's result is the polynomial's table; the array that is lent is that result; and what the hash reads is that result
-- with three rows more, each the one above it run on over a zero byte
pub record Generated (tables : Tables) : Type 0 where
  pub generated : tables.generated ≡ table_of crc32c
  pub lent : tables.lent ≡ tables.generated
  pub read : tables.row_0 ∷ tables.row_1 ∷ tables.row_2 ∷ tables.row_3 ∷ [] ≡ rows_from crc32c 4 tables.generated
