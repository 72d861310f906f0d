use mathlib.Core.Path.{◌≡◌, sym, ap, ◌∙◌}
use mathlib.Core.List.{List, [], ◌∷◌}
use Prim.Native.Nat.{ℕ}
use Rattle.crc32c_steps.specs.Steps.{crc32c, table_of, rows_from}
use Rattle.crc32c_steps.proofs.Rows.{step_rows, rows-from}
use Rattle.crc32c_tables.proofs.standing.all.Goals as goal

-- `crc32c_tables::standing::all` meets its contract: the tables that the hash reads are those of 8, 16, 24 and 32 steps, and so are
-- the rows that the generator's result gives. Assumes nothing.

rows-of : {table : List ℕ} → table ≡ table_of crc32c → step_rows crc32c 4 8 ≡ rows_from crc32c 4 table
unfolding table_of
rows-of e = sym (ap (rows_from crc32c 4) e ∙ rows-from crc32c 4 8)

four : {a a' b b' d d' e e' : List ℕ} → a ≡ a' → b ≡ b' → d ≡ d' → e ≡ e' → ◌≡◌ {A = List (List ℕ)} (a ∷ b ∷ d ∷ e ∷ []) (a' ∷ b' ∷ d' ∷ e' ∷ [])
four p q r s = cc (p, q, r, s)

pub returns : goal.returns
returns c =
    let generated = c.table_of.ensures in
    record {
      generated = generated;
      lent = c.table.ensures ∙ sym generated;
      read =
          four c.read_row.ensures c.read_row-2.ensures c.read_row-3.ensures c.read_row-4.ensures
          ∙ rows-of generated;
    }
