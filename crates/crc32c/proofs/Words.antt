-- A word step, for any polynomial `p`: by four rows, and as part of a run. Assumes nothing.
use mathlib.Core.Path.{◌≡◌, refl, sym, ap, ap₂, ◌∙◌}
use Prim.Native.Nat.{ℕ, ◌+◌, ◌*◌, ◌/◌, ◌%◌, ◌^◌, ◌<◌}
use native.Mathlib.Omega.{arith}
use native.Mathlib.Nat.{div-eq_of_lt}
use lib.Bits.{bit_xor, xor_zero_l, xor_self, xor_lt}
use Rattle.fields.specs.Numbers.{le_bytes}
use Rattle.fields.proofs.Numbers.{le_bytes-join}
use Rattle.crc32c_steps.specs.Steps.{table_entries, table_of, next_row, rows_from, rows_of}
use Rattle.crc32c.specs.Register.{crc32c, all_ones, step, steps, byte_step, word_step, crc_run}
use Rattle.crc32c.proofs.Steps.{run-append}
use Rattle.crc32c.proofs.AtOnce.{look_up, run-at-once, run-by-rows}
use Rattle.crc32c.proofs.Apart.{word_on}

module _ (p : ℕ) where
  -- a word step is a run over the word's four bytes
  pub word-run : (r w : ℕ) → word_step p r w ≡ crc_run p r (le_bytes 4 w)
  unfolding word_step crc_run le_bytes
  word-run r w =
      let twice : w / 256 / 256 ≡ w / 65536 = omega arith in
      let thrice : w / 65536 / 256 ≡ w / 16777216 = omega arith in
      rw (twice, thrice) refl

  -- one word step by four rows
  pub word-by-rows : (r w : ℕ) → r < 2 ^ 32 → w < 2 ^ 32 → word_step p r w ≡ look_up (rows_of p 4) (bit_xor r w)
  word-by-rows r w r< w< =
      word-run r w
      ∙ run-by-rows p 4 r w w<
      ∙ ap (λ (y : ℕ). bit_xor y (look_up (rows_of p 4) (bit_xor r w))) (div-eq_of_lt (xor_lt 32 r w r< w<))
      ∙ xor_zero_l (look_up (rows_of p 4) (bit_xor r w))

  -- a word and a register go the way of their xor
  pub word-xor : (r w : ℕ) → w < 2 ^ 32 → word_step p r w ≡ steps p 32 (bit_xor r w)
  word-xor r w w< = word-run r w ∙ run-at-once p 4 r w w<

  -- the same, each byte by the steps of its row
  pub word-by-steps : (r w : ℕ) → r < 2 ^ 32 → w < 2 ^ 32
      → word_step p r w
      ≡ bit_xor
      (bit_xor (bit_xor (steps p 8 (bit_xor r w / 16777216 % 256)) (steps p 16 (bit_xor r w / 65536 % 256))) (steps p 24 (bit_xor r w / 256 % 256)))
      (steps p 32 (bit_xor r w % 256))
  word-by-steps r w r< w< = word-xor r w w< ∙ word_on p 0 (bit_xor r w) (xor_lt 32 r w r< w<)

  -- a word step and the words behind it are a run over all of them
  pub word_more : (n r x : ℕ) → crc_run p (word_step p r (x % 4294967296)) (le_bytes n (x / 4294967296)) ≡ crc_run p r (le_bytes (4 + n) x)
  word_more n r x =
      let low = x % 4294967296 in
      let high = x / 4294967296 in
      let both : x ≡ low + 256 ^ 4 * high = omega arith in
      ap (λ (s : ℕ). crc_run p s (le_bytes n high)) (word-run r low)
      ∙ sym (run-append p (le_bytes 4 low) (le_bytes n high) r)
      ∙ sym (ap (crc_run p r) (ap (le_bytes (4 + n)) both ∙ le_bytes-join 4 n low high (omega arith)))

  -- a register into itself leaves nothing
  pub word-self : (r : ℕ) → r < 2 ^ 32 → word_step p r r ≡ 0
  unfolding steps step
  word-self r r< = word-xor r r r< ∙ ap (steps p 32) (xor_self r)

  -- the second word of a run from 0 whose first is 0 is a word step
  pub word-second : (r w x : ℕ) → r < 2 ^ 32 → w < 2 ^ 32 → x ≡ bit_xor r w * 2 ^ 32 → crc_run p 0 (le_bytes 8 x) ≡ word_step p r w
  word-second r w x r< w< e =
      let none : x % 4294967296 ≡ 0 = omega arith in
      let word : x / 4294967296 ≡ bit_xor r w = omega arith in
      sym (word_more 4 0 x)
      ∙ ap₂ (λ (s z : ℕ). crc_run p (word_step p 0 s) (le_bytes 4 z)) none word
      ∙ ap (λ (s : ℕ). crc_run p s (le_bytes 4 (bit_xor r w))) (word-self 0 (omega arith))
      ∙ sym (word-run 0 (bit_xor r w))
      ∙ word-xor 0 (bit_xor r w) (xor_lt 32 r w r< w<)
      ∙ ap (steps p 32) (xor_zero_l (bit_xor r w))
      ∙ sym (word-xor r w w<)

-- word steps of CRC32C: no bytes but zeros, the bytes "abcd", the highest bit and the lowest; and the second of them by four rows
pub computed : (word_step crc32c all_ones 0 ≡ 0xb798b438)
    × (word_step crc32c all_ones 0x64636261 ≡ 0x6d37f5ce)
    × (word_step crc32c 0 0x80000000 ≡ 0x82f63b78)
    × (word_step crc32c 0 1 ≡ 0xdd45aab8)
    × (look_up (rows_of crc32c 4) (bit_xor all_ones 0x64636261) ≡ 0x6d37f5ce)
unfolding word_step rows_of rows_from next_row table_of table_entries byte_step steps step
computed = (refl, refl, refl, refl, refl)
