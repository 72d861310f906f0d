-- A run taken apart, for any polynomial `p`: bytes go their own way over those behind them, and what comes of them is xored. Assumes
-- nothing.
use mathlib.Core.Path.{◌≡◌, refl, sym, ap, ap₂, subst, ◌∙◌}
use mathlib.Core.List.{List, [], ◌∷◌, ◌++◌}
use Prim.Native.Nat.{ℕ, zero, suc, ◌+◌, ◌-◌, ◌*◌, ◌/◌, ◌%◌, ◌^◌, ◌≤◌, ◌<◌}
use native.Mathlib.Omega.{arith}
use native.Mathlib.Nat.{mod-lt, div-eq_of_lt, div-one, add-zero, pow-suc}
use lib.ListN.{length, drop, get_or, take-append-drop}
use lib.Seq.{drop-drop}
use lib.Pow.{pow_pos, pow-add, mod-pow-add, shl-shr, low}
use lib.Bits.{bit_xor, xor_zero_l, xor_zero_r, xor_comm, xor_shr}
use Rattle.fields.specs.Numbers.{le_bytes}
use Rattle.fields.specs.Parts.{part}
use Rattle.crc32c_steps.specs.Steps.{table_entries}
use Rattle.crc32c_steps.proofs.Entries.{entries_at}
use Rattle.crc32c_steps.proofs.Rows.{step_rows}
use Rattle.crc32c_steps.proofs.Steps.{steps-add}
use Rattle.crc32c.specs.Register.{crc32c, all_ones, step, steps, byte_step, crc_run}
use Rattle.crc32c.proofs.Xor.{xor_assoc}
use Rattle.crc32c.proofs.Steps.{steps-xor, steps-shifted, steps-split, run-append}
use Rattle.crc32c.proofs.AtOnce.{look_up, look_up-from, run-at-once}

-- as many bits as so many bytes have
pub bytes_bits : (n : ℕ) → 256 ^ n ≡ 2 ^ (8 * n)
bytes_bits zero = refl
bytes_bits (suc n) =
    let more : 8 * n + 8 ≡ 8 * suc n = omega arith in
    pow-suc 256 n ∙ ap (λ (k : ℕ). k * 256) (bytes_bits n) ∙ sym (pow-add 2 (8 * n) 8) ∙ ap (◌^◌ 2) more

module _ (p : ℕ) where
  pub zero-steps : (n : ℕ) → steps p n 0 ≡ 0
  unfolding steps step
  zero-steps zero = refl
  zero-steps (suc n) = zero-steps n

  -- a register goes its own way over the bytes of a run from 0
  pub run-apart : (r : ℕ) (bytes : List ℕ) → crc_run p r bytes ≡ bit_xor (steps p (8 * length bytes) r) (crc_run p 0 bytes)
  unfolding crc_run byte_step steps
  run-apart r [] = sym (xor_zero_r r)
  run-apart r (b ∷ bytes) =
      let n = 8 * length bytes in
      let rest = crc_run p 0 bytes in
      let more : 8 + n ≡ 8 * suc (length bytes) = omega arith in
      let register : steps p n (steps p 8 r) ≡ steps p (8 * suc (length bytes)) r = sym (steps-add p 8 n r) ∙ ap (λ (k : ℕ). steps p k r) more in
      let byte : bit_xor (steps p n (steps p 8 b)) rest ≡ crc_run p (byte_step p 0 b) bytes =
      sym (run-apart (byte_step p 0 b) bytes ∙ ap (λ (y : ℕ). bit_xor (steps p n (steps p 8 y)) rest) (xor_zero_l b)) in
      run-apart (byte_step p r b) bytes
      ∙ ap (λ (y : ℕ). bit_xor y rest) (ap (steps p n) (steps-xor p 8 r b) ∙ steps-xor p n (steps p 8 r) (steps p 8 b))
      ∙ xor_assoc (steps p n (steps p 8 r)) (steps p n (steps p 8 b)) rest
      ∙ ap₂ bit_xor register byte

  -- a number of n bytes, with the register xored in, goes its own way over the bytes behind it
  pub number-apart : (n r x : ℕ) (bytes : List ℕ) → x < 256 ^ n
      → crc_run p r (le_bytes n x ++ bytes) ≡ bit_xor (steps p (8 * (n + length bytes)) (bit_xor r x)) (crc_run p 0 bytes)
  number-apart n r x bytes h =
      let count : 8 * n + 8 * length bytes ≡ 8 * (n + length bytes) = omega arith in
      run-append p (le_bytes n x) bytes r
      ∙ run-apart (crc_run p r (le_bytes n x)) bytes
      ∙ ap (λ (y : ℕ). bit_xor y (crc_run p 0 bytes))
      (ap (steps p (8 * length bytes)) (run-at-once p n r x h) ∙ sym (steps-add p (8 * n) (8 * length bytes) (bit_xor r x)) ∙ ap (λ (k : ℕ). steps p k (bit_xor r x)) count)

  from_zero : (n x : ℕ) (bytes : List ℕ) → x < 256 ^ n
      → crc_run p 0 (le_bytes n x ++ bytes) ≡ bit_xor (steps p (8 * (n + length bytes)) x) (crc_run p 0 bytes)
  from_zero n x bytes h =
      number-apart n 0 x bytes h ∙ ap (λ (y : ℕ). bit_xor (steps p (8 * (n + length bytes)) y) (crc_run p 0 bytes)) (xor_zero_l x)

  -- sixteen bytes as four words: the first waits for the register, and the others do not
  pub four-words : (r a b c d : ℕ) → a < 2 ^ 32 → b < 2 ^ 32 → c < 2 ^ 32 → d < 2 ^ 32
      → bit_xor (bit_xor (bit_xor (steps p 96 b) (steps p 64 c)) (steps p 32 d)) (steps p 128 (bit_xor r a))
      ≡ crc_run p r (le_bytes 4 a ++ (le_bytes 4 b ++ (le_bytes 4 c ++ le_bytes 4 d)))
  unfolding le_bytes
  four-words r a b c d a< b< c< d< =
      let first = steps p 128 (bit_xor r a) in
      let second = steps p 96 b in
      let third = steps p 64 c in
      let fourth = steps p 32 d in
      let on-d : crc_run p 0 (le_bytes 4 d) ≡ fourth = run-at-once p 4 0 d d< ∙ ap (steps p 32) (xor_zero_l d) in
      let on-c : crc_run p 0 (le_bytes 4 c ++ le_bytes 4 d) ≡ bit_xor third fourth = from_zero 4 c (le_bytes 4 d) c< ∙ ap (bit_xor third) on-d in
      let on-b : crc_run p 0 (le_bytes 4 b ++ (le_bytes 4 c ++ le_bytes 4 d)) ≡ bit_xor second (bit_xor third fourth) =
      from_zero 4 b (le_bytes 4 c ++ le_bytes 4 d) b< ∙ ap (bit_xor second) on-c in
      ap (λ (y : ℕ). bit_xor y first) (xor_assoc second third fourth)
      ∙ xor_comm (bit_xor second (bit_xor third fourth)) first
      ∙ sym (number-apart 4 r a (le_bytes 4 b ++ (le_bytes 4 c ++ le_bytes 4 d)) a< ∙ ap (bit_xor first) on-b)

  -- a word that goes on over k bytes, by the rows k to k + 3
  pub word_on : (k y : ℕ) → y < 2 ^ 32
      → steps p (8 * (k + 4)) y
      ≡ bit_xor
      (bit_xor (bit_xor (steps p (8 * (k + 1)) (y / 16777216 % 256)) (steps p (8 * (k + 1 + 1)) (y / 65536 % 256))) (steps p (8 * (k + 2 + 1)) (y / 256 % 256)))
      (steps p (8 * (k + 3 + 1)) (y % 256))
  word_on k y h =
      let m = 8 * (k + 1) in
      let all : 8 * (k + 4) ≡ 8 * (4 + k) = omega arith in
      let entry : (i j n : ℕ) → i ≡ j → get_or (table_entries (steps p i) 256 0) (n % 256) 0 ≡ steps p j (n % 256) =
      λ i j n e. entries_at (steps p i) 256 (n % 256) (mod-lt n (pow_pos 8)) ∙ ap (λ (l : ℕ). steps p l (n % 256)) e in
      let a = steps p m (y / 16777216 % 256) in
      let b = steps p (8 * (k + 1 + 1)) (y / 65536 % 256) in
      let c = steps p (8 * (k + 2 + 1)) (y / 256 % 256) in
      let d = steps p (8 * (k + 3 + 1)) (y % 256) in
      let last : bit_xor (get_or (table_entries (steps p (m + 8 + 8 + 8)) 256 0) (y / 1 % 256) 0) 0 ≡ d =
      xor_zero_r (get_or (table_entries (steps p (m + 8 + 8 + 8)) 256 0) (y / 1 % 256) 0)
      ∙ entry (m + 8 + 8 + 8) (8 * (k + 3 + 1)) (y / 1) (omega arith)
      ∙ ap (λ (z : ℕ). steps p (8 * (k + 3 + 1)) (z % 256)) (div-one y) in
      ap (λ (l : ℕ). steps p l y) all
      ∙ look_up-from p 4 k y
      ∙ ap (λ (z : ℕ). bit_xor z (look_up (step_rows p 4 m) y)) (ap (steps p (8 * k)) (div-eq_of_lt h) ∙ zero-steps (8 * k))
      ∙ xor_zero_l (look_up (step_rows p 4 m) y)
      ∙ ap₂ bit_xor (entry m m (y / 16777216) refl)
      (ap₂ bit_xor (entry (m + 8) (8 * (k + 1 + 1)) (y / 65536) (omega arith)) (ap₂ bit_xor (entry (m + 8 + 8) (8 * (k + 2 + 1)) (y / 256) (omega arith)) last))
      ∙ sym (xor_assoc (bit_xor a b) c d ∙ xor_assoc a b (bit_xor c d))

  -- up to eight bytes at once, as the last ones of a run over eight from 0 whose first are zeros; what of the register stands above
  -- them goes down by itself
  pub last-bytes : (n r x : ℕ) → n ≤ 8 → x < 256 ^ n
      → bit_xor (r / 2 ^ (8 * n)) (crc_run p 0 (le_bytes 8 (bit_xor r x * 2 ^ (64 - 8 * n) % 2 ^ 64))) ≡ crc_run p r (le_bytes n x)
  unfolding steps
  last-bytes n r x n≤ h =
      let y = bit_xor r x in
      let s = 64 - 8 * n in
      let z = y * 2 ^ s % 2 ^ 64 in
      let bits : x < 2 ^ (8 * n) = subst (λ (k : ℕ). x < k) (bytes_bits n) h in
      let whole : 8 * n + s ≡ 64 = omega arith in
      let turned : s + 8 * n ≡ 64 = omega arith in
      let none : y * 2 ^ s % 2 ^ s ≡ 0 = ap (λ (k : ℕ). k % 2 ^ s) (sym (add-zero (y * 2 ^ s))) ∙ low y s (pow_pos s) in
      let up : z ≡ y % 2 ^ (8 * n) * 2 ^ s =
      ap (λ (k : ℕ). y * 2 ^ s % 2 ^ k) (sym whole)
      ∙ mod-pow-add (y * 2 ^ s) (8 * n) s
      ∙ ap₂ (λ (i j : ℕ). i % 2 ^ (8 * n) * 2 ^ s + j) (shl-shr y s) none
      ∙ add-zero (y % 2 ^ (8 * n) * 2 ^ s) in
      let eight : crc_run p 0 (le_bytes 8 z) ≡ steps p (8 * n) (y % 2 ^ (8 * n)) =
      run-at-once p 8 0 z (mod-lt (y * 2 ^ s) (pow_pos 64))
      ∙ ap (steps p 64) (xor_zero_l z ∙ up)
      ∙ ap (λ (k : ℕ). steps p k (y % 2 ^ (8 * n) * 2 ^ s)) (sym turned)
      ∙ steps-add p s (8 * n) (y % 2 ^ (8 * n) * 2 ^ s)
      ∙ ap (steps p (8 * n)) (steps-shifted p s (y % 2 ^ (8 * n))) in
      let above : y / 2 ^ (8 * n) ≡ r / 2 ^ (8 * n) =
      xor_shr r x (8 * n) ∙ ap (bit_xor (r / 2 ^ (8 * n))) (div-eq_of_lt bits) ∙ xor_zero_r (r / 2 ^ (8 * n)) in
      ap₂ bit_xor (sym above) (eight ∙ ap (λ (k : ℕ). steps p k (y % 2 ^ (8 * n))) (sym (add-zero (8 * n))))
      ∙ sym (ap (λ (k : ℕ). steps p k y) (sym (add-zero (8 * n))) ∙ steps-split p (8 * n) 0 y)
      ∙ sym (run-at-once p n r x h)

  -- a part of a run, and what is behind it
  pub run-part : (r n i : ℕ) (bytes : List ℕ) → crc_run p (crc_run p r (part i n bytes)) (drop (i + n) bytes) ≡ crc_run p r (drop i bytes)
  run-part r n i bytes =
      ap (crc_run p (crc_run p r (part i n bytes))) (sym (drop-drop n i bytes))
      ∙ sym (run-append p (part i n bytes) (drop n (drop i bytes)) r)
      ∙ ap (crc_run p r) (take-append-drop n (drop i bytes))

-- sixteen bytes of CRC32C, "abcdefghijklmnop", as a run and as four words; and "abc" behind them, as the last bytes of a run from 0
pub computed : (crc_run crc32c all_ones (le_bytes 16 0x706f6e6d6c6b6a696867666564636261) ≡ 0x5c58011a)
    × (bit_xor (bit_xor (bit_xor (steps crc32c 96 0x68676665) (steps crc32c 64 0x6c6b6a69)) (steps crc32c 32 0x706f6e6d)) (steps crc32c 128 (bit_xor all_ones 0x64636261)) ≡ 0x5c58011a)
    × (crc_run crc32c 0x5c58011a (le_bytes 3 0x636261) ≡ 0x99ed97b8)
    × (bit_xor (0x5c58011a / 2 ^ 24) (crc_run crc32c 0 (le_bytes 8 (bit_xor 0x5c58011a 0x636261 * 2 ^ 40 % 2 ^ 64))) ≡ 0x99ed97b8)
unfolding crc_run le_bytes byte_step steps step
computed = (refl, refl, refl, refl)
