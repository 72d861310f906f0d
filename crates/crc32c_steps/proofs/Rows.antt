-- Rows of tables, over every polynomial `p` and any number of rows: entry n of row k is n after 8 (k + 1) steps. Assumes nothing.
use mathlib.Core.Path.{◌≡◌, refl, sym, ap, ap₂, ◌∙◌}
use mathlib.Core.List.{List, [], ◌∷◌}
use Prim.Native.Nat.{ℕ, zero, suc, ◌+◌, ◌*◌, ◌<◌}
use native.Mathlib.Nat.{le_of_suc-le-suc, not-suc-le-zero}
use native.Mathlib.Omega.{arith}
use lib.Bits.{xor_zero_r}
use lib.ListN.{get_or}
use Rattle.crc32c_steps.specs.Steps.{crc32c, step, steps, byte_step, table_entries, table_of, next_row, rows_from, rows_of}
use Rattle.crc32c_steps.proofs.Steps.{steps-add}
use Rattle.crc32c_steps.proofs.Entries.{entries_at}

module _ (p : ℕ) where
  -- a zero byte is eight steps more
  pub zero-byte : (m n : ℕ) → byte_step p (steps p m n) 0 ≡ steps p (m + 8) n
  unfolding byte_step
  zero-byte m n = ap (steps p 8) (xor_zero_r (steps p m n)) ∙ sym (steps-add p m 8 n)

  pub next-row : (m count i : ℕ) → next_row p (table_entries (steps p m) count i) ≡ table_entries (steps p (m + 8)) count i
  unfolding next_row table_entries
  next-row m zero i = refl
  next-row m (suc count) i = ap₂ (λ (x : ℕ) (l : List ℕ). x ∷ l) (zero-byte m i) (next-row m count (suc i))

  -- so many rows from the one after m steps on
  abbrev pub step_rows : ℕ → ℕ → List (List ℕ)
  step_rows zero m = []
  step_rows (suc count) m = table_entries (steps p m) 256 0 ∷ step_rows count (m + 8)

  pub rows-from : (count m : ℕ) → rows_from p count (table_entries (steps p m) 256 0) ≡ step_rows count m
  unfolding rows_from
  rows-from zero m = refl
  rows-from (suc count) m =
      ap (λ (l : List (List ℕ)). table_entries (steps p m) 256 0 ∷ l) (ap (rows_from p count) (next-row m 256 0) ∙ rows-from count (m + 8))

  pub rows-of : (count : ℕ) → rows_of p count ≡ step_rows count 8
  unfolding rows_of table_of
  rows-of count = rows-from count 8

  entry-from : (count m k n : ℕ) → k < count → n < 256 → get_or (get_or (step_rows count m) k []) n 0 ≡ steps p (m + 8 * k) n
  entry-from zero m k n h b = absurd (not-suc-le-zero h)
  entry-from (suc count) m zero n h b =
      let same : m ≡ m + 8 * 0 = omega arith in
      entries_at (steps p m) 256 n b ∙ ap (λ (j : ℕ). steps p j n) same
  entry-from (suc count) m (suc k) n h b =
      let same : m + 8 + 8 * k ≡ m + 8 * suc k = omega arith in
      entry-from count (m + 8) k n (le_of_suc-le-suc h) b ∙ ap (λ (j : ℕ). steps p j n) same

  -- the row law
  pub row_at : {rows : List (List ℕ)} (count k n : ℕ) → rows ≡ rows_of p count → k < count → n < 256
      → get_or (get_or rows k []) n 0 ≡ steps p (8 * (k + 1)) n
  row_at count k n e h b =
      let same : 8 + 8 * k ≡ 8 * (k + 1) = omega arith in
      ap (λ (rows : List (List ℕ)). get_or (get_or rows k []) n 0) (e ∙ rows-of count)
      ∙ entry-from count 8 k n h b
      ∙ ap (λ (j : ℕ). steps p j n) same

  -- each later entry is the one above it run on over a zero byte
  pub row_next : (count k n : ℕ) → suc k < count → n < 256
      → get_or (get_or (rows_of p count) (suc k) []) n 0 ≡ byte_step p (get_or (get_or (rows_of p count) k []) n 0) 0
  row_next count k n h b =
      let more : 8 * (suc k + 1) ≡ 8 * (k + 1) + 8 = omega arith in
      row_at count (suc k) n refl h b
      ∙ ap (λ (j : ℕ). steps p j n) more
      ∙ sym (ap (λ (y : ℕ). byte_step p y 0) (row_at count k n refl (omega arith) b) ∙ zero-byte (8 * (k + 1)) n)

-- entry n of each row
abbrev column : List (List ℕ) → ℕ → List ℕ
column [] n = []
column (row ∷ rows) n = get_or row n 0 ∷ column rows n

-- entries 1 and 128 of four rows of CRC32C
pub computed : (column (rows_of crc32c 4) 1 ≡ 0xf26b8303 ∷ 0x13a29877 ∷ 0xa541927e ∷ 0xdd45aab8 ∷ [])
    × (column (rows_of crc32c 4) 128 ≡ 0x82f63b78 ∷ 0xfbc3faf9 ∷ 0x8b277743 ∷ 0x52a0c93f ∷ [])
unfolding rows_of rows_from next_row table_of table_entries byte_step steps step
computed = (refl, refl)
