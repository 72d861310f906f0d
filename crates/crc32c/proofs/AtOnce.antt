-- A run over the bytes of a number at once: the number is xored into the register, and as many steps follow as it has bits, by as many
-- rows as it has bytes. For any polynomial `p` and any number of rows. Assumes nothing.
use mathlib.Core.Path.{◌≡◌, refl, sym, ap, ap₂, subst⁻¹, ◌∙◌}
use mathlib.Core.List.{List, [], ◌∷◌}
use Prim.Native.Nat.{ℕ, zero, suc, ◌+◌, ◌*◌, ◌/◌, ◌%◌, ◌^◌, ◌≤◌, ◌<◌}
use native.Mathlib.Omega.{arith}
use native.Mathlib.Nat.{mod-lt, mod-mod, mod-eq_of_lt, pow-succ', div-one, add-suc, lt_of_lt_of_le}
use lib.ListN.{length, get_or}
use lib.Pow.{pow_pos, pow-add, shr-shr}
use lib.Bits.{bit_xor, xor_zero_r, xor_comm, xor_shr, xor_mod, xor_lt}
use Rattle.fields.specs.Numbers.{le_bytes}
use Rattle.crc32c_steps.specs.Steps.{rows_of, table_entries}
use Rattle.crc32c_steps.proofs.Entries.{entries_at}
use Rattle.crc32c_steps.proofs.Rows.{step_rows, rows-of}
use Rattle.crc32c_steps.proofs.Steps.{steps-add}
use Rattle.crc32c.specs.Register.{crc32c, feed, step, steps, byte_step, crc_run}
use Rattle.crc32c.proofs.Xor.{xor_assoc}
use Rattle.crc32c.proofs.Steps.{steps-split, byte-by-table}

-- the last two change places
xor-last : (a b c : ℕ) → bit_xor (bit_xor a b) c ≡ bit_xor (bit_xor a c) b
xor-last a b c = xor_assoc a b c ∙ ap (bit_xor a) (xor_comm b c) ∙ sym (xor_assoc a c b)

-- each low byte of a number looked up in its row, the lowest in the last, and all of them xored
abbrev pub look_up : List (List ℕ) → ℕ → ℕ
look_up [] y = 0
look_up (row ∷ rows) y = bit_xor (get_or row (y / 2 ^ (8 * length rows) % 256) 0) (look_up rows y)

module _ (p : ℕ) where
  length-step_rows : (n m : ℕ) → length (step_rows p n m) ≡ n
  length-step_rows zero m = refl
  length-step_rows (suc n) m = ap suc (length-step_rows n (m + 8))

  -- what is above the bytes goes on by itself
  pub look_up-from : (n j y : ℕ) → steps p (8 * (n + j)) y ≡ bit_xor (steps p (8 * j) (y / 2 ^ (8 * n))) (look_up (step_rows p n (8 * (j + 1))) y)
  look_up-from zero j y =
      let none : 0 + j ≡ j = omega arith in
      ap₂ (λ (k z : ℕ). steps p (8 * k) z) none (sym (div-one y)) ∙ sym (xor_zero_r (steps p (8 * j) (y / 1)))
  look_up-from (suc n) j y =
      let z = y / 2 ^ (8 * n) in
      let rows = step_rows p n (8 * (j + 1) + 8) in
      let byte = get_or (table_entries (steps p (8 * (j + 1))) 256 0) (z % 256) 0 in
      let count : 8 * (suc n + j) ≡ 8 * (n + (j + 1)) = omega arith in
      let later : 8 * (j + 1 + 1) ≡ 8 * (j + 1) + 8 = omega arith in
      let eight : 8 * (j + 1) ≡ 8 + 8 * j = omega arith in
      let more : 8 * n + 8 ≡ 8 * suc n = omega arith in
      let down : z / 2 ^ 8 ≡ y / 2 ^ (8 * suc n) = shr-shr y (8 * n) 8 ∙ ap (λ (k : ℕ). y / 2 ^ k) more in
      let top : steps p (8 * (j + 1)) z ≡ bit_xor (steps p (8 * j) (y / 2 ^ (8 * suc n))) byte =
      ap (λ (k : ℕ). steps p k z) eight
      ∙ steps-split p 8 (8 * j) z
      ∙ ap₂ bit_xor (ap (steps p (8 * j)) down) (ap (λ (k : ℕ). steps p k (z % 256)) (sym eight) ∙ sym (entries_at (steps p (8 * (j + 1))) 256 (z % 256) (mod-lt z (pow_pos 8)))) in
      ap (λ (k : ℕ). steps p k y) count
      ∙ look_up-from n (j + 1) y
      ∙ ap₂ bit_xor top (ap (λ (m : ℕ). look_up (step_rows p n m) y) later)
      ∙ xor_assoc (steps p (8 * j) (y / 2 ^ (8 * suc n))) byte (look_up rows y)
      ∙ ap (λ (l : ℕ). bit_xor (steps p (8 * j) (y / 2 ^ (8 * suc n))) (bit_xor (get_or (table_entries (steps p (8 * (j + 1))) 256 0) (y / 2 ^ (8 * l) % 256) 0) (look_up rows y)))
      (sym (length-step_rows n (8 * (j + 1) + 8)))

  -- so many steps by rows, one for each low byte
  pub by_rows : (n y : ℕ) → steps p (8 * n) y ≡ bit_xor (y / 2 ^ (8 * n)) (look_up (rows_of p n) y)
  unfolding steps
  by_rows n y =
      let all : 8 * n ≡ 8 * (n + 0) = omega arith in
      ap (λ (k : ℕ). steps p k y) all
      ∙ look_up-from n 0 y
      ∙ ap (λ (rows : List (List ℕ)). bit_xor (y / 2 ^ (8 * n)) (look_up rows y)) (sym (rows-of p n))

  low_byte : (r x : ℕ) → bit_xor r (x % 256) % 2 ^ 8 ≡ bit_xor r x % 2 ^ 8
  low_byte r x =
      xor_mod r (x % 256) 8
      ∙ ap (bit_xor (r % 2 ^ 8)) (mod-mod x 256)
      ∙ sym (xor_mod r x 8)

  -- eight steps by a table of eight steps
  eight-by-table : (y : ℕ) → steps p 8 y ≡ bit_xor (y / 2 ^ 8) (steps p 8 (y % 2 ^ 8))
  unfolding steps
  eight-by-table y = steps-split p 8 0 y

  -- a byte at the low end goes in, and the others move down with the register
  byte_more : (r x : ℕ) → bit_xor (byte_step p r (x % 256)) (x / 256) ≡ steps p 8 (bit_xor r x)
  byte_more r x =
      ap (λ (y : ℕ). bit_xor y (x / 256)) (byte-by-table p r (x % 256) (mod-lt x (pow_pos 8)))
      ∙ xor-last (r / 2 ^ 8) (steps p 8 (bit_xor r (x % 256) % 2 ^ 8)) (x / 256)
      ∙ ap₂ bit_xor (sym (xor_shr r x 8)) (ap (steps p 8) (low_byte r x))
      ∙ sym (eight-by-table (bit_xor r x))

  pub run-at-once : (n r x : ℕ) → x < 256 ^ n → crc_run p r (le_bytes n x) ≡ steps p (8 * n) (bit_xor r x)
  unfolding crc_run steps le_bytes
  run-at-once zero r x h =
      let none : x ≡ 0 = omega arith in
      sym (ap (bit_xor r) none ∙ xor_zero_r r)
  run-at-once (suc n) r x h =
      let wide : x < 256 * 256 ^ n = rw (pow-succ' 256 n) at h in
      let rest : x / 256 < 256 ^ n = omega arith in
      let count : 8 + 8 * n ≡ 8 * suc n = omega arith in
      run-at-once n (byte_step p r (x % 256)) (x / 256) rest
      ∙ ap (steps p (8 * n)) (byte_more r x)
      ∙ sym (steps-add p 8 (8 * n) (bit_xor r x))
      ∙ ap (λ (k : ℕ). steps p k (bit_xor r x)) count

  -- n bytes at once by n rows are n byte steps
  pub run-by-rows : (n r x : ℕ) → x < 256 ^ n → crc_run p r (le_bytes n x) ≡ bit_xor (bit_xor r x / 2 ^ (8 * n)) (look_up (rows_of p n) (bit_xor r x))
  run-by-rows n r x h = run-at-once n r x h ∙ by_rows n (bit_xor r x)

module _ (p : ℕ) (small : p < 2 ^ 32) where
  feed-lt : (bit n : ℕ) → feed bit p < 2 ^ (32 + n)
  feed-lt zero n = pow_pos (32 + n)
  feed-lt (suc bit) n =
      let one : 1 ≤ 2 ^ n = pow_pos n in
      lt_of_lt_of_le small (subst⁻¹ (λ (m : ℕ). 2 ^ 32 ≤ m) (pow-add 2 32 n) (omega arith))

  step-lt : (n z : ℕ) → z < 2 ^ (32 + suc n) → step p z < 2 ^ (32 + n)
  unfolding step
  step-lt n z h =
      let twice : 2 ^ (32 + suc n) ≡ 2 * 2 ^ (32 + n) = ap (◌^◌ 2) (add-suc 32 n) ∙ pow-succ' 2 (32 + n) in
      let half : z / 2 < 2 ^ (32 + n) = omega (arith, twice) in
      xor_lt (32 + n) (z / 2) (feed (z % 2) p) half (feed-lt (z % 2) n)

  -- as many steps as a number has bits over 32 leave 32
  pub steps-lt : (n z : ℕ) → z < 2 ^ (32 + n) → steps p n z < 2 ^ 32
  unfolding steps
  steps-lt zero z h = h
  steps-lt (suc n) z h = steps-lt n (step p z) (step-lt n z h)

-- 64 steps from a register and eight bytes: the low 32 bits are all there is
pub eight-bytes : (register x : ℕ) {y : ℕ} → register < 2 ^ 32 → x < 2 ^ 64 → y ≡ steps crc32c 64 (bit_xor x register) → y % 4294967296 ≡ crc_run crc32c register (le_bytes 8 x)
eight-bytes register x {y} r< x< e =
    let both : bit_xor x register < 2 ^ 64 = xor_lt 64 x register x< (omega (arith, r<)) in
    let half : steps crc32c 32 (bit_xor x register) < 2 ^ 32 = steps-lt crc32c (omega arith) 32 (bit_xor x register) both in
    let whole : steps crc32c 64 (bit_xor x register) < 2 ^ 32 = subst⁻¹ (λ (z : ℕ). z < 2 ^ 32) (steps-add crc32c 32 32 (bit_xor x register)) (steps-lt crc32c (omega arith) 32 (steps crc32c 32 (bit_xor x register)) (omega (arith, half))) in
    mod-eq_of_lt (subst⁻¹ (λ (z : ℕ). z < 2 ^ 32) e whole)
    ∙ e
    ∙ ap (steps crc32c 64) (xor_comm x register)
    ∙ sym (run-at-once crc32c 8 register x x<)
