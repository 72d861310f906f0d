-- Numbers that are read from the bytes of a run, and their bytes again. Assumes nothing.
use mathlib.Core.Path.{◌≡◌, refl, sym, ap, ap₂, subst, ◌∙◌}
use mathlib.Core.List.{List, [], ◌++◌}
use Prim.Native.Nat.{ℕ, zero, suc, ◌+◌, ◌*◌, ◌/◌, ◌^◌, ◌≤◌, ◌<◌}
use native.Mathlib.Omega.{arith}
use native.Mathlib.Numerals.{add-one}
use Rattle.std.proofs.Math.Nat.{mul-suc}
use native.Mathlib.Nat.{mul-zero, le_of_suc-le-suc, not-suc-le-zero, lt_of_lt_of_le, pow-le-pow_right}
use lib.ListN.{length, get_or, drop, length-drop, drop_of_length-le}
use lib.Seq.{drop-cons}
use Rattle.std.specs.Simd.{first_chunks}
use Rattle.fields.specs.Numbers.{le, le_bytes}
use Rattle.fields.specs.Parts.{part}
use Rattle.fields.proofs.Numbers.{are_bytes-in, are_bytes-part, are_bytes-drop, le-bound, le_bytes-le-at}
use Rattle.fields.proofs.Parts.{length_part, part-add, part-all, part-drop}
use Rattle.crc32c.specs.Register.{crc_run}
use Rattle.crc32c.proofs.Apart.{run-part}

-- no bytes at the end
pub last_none : (bytes : List ℕ) (i : ℕ) → length bytes ≤ i → 0 ≡ le (drop i bytes)
unfolding le
last_none bytes i h = sym (ap le (drop_of_length-le bytes h))

-- one byte more than six has room in 64 bits
pub last-room : (n x : ℕ) → n ≤ 6 → x < 256 ^ n → x < 281474976710656
last-room n x few h = lt_of_lt_of_le h (pow-le-pow_right (omega arith) few)

-- one of the chunks that a run is taken apart into, each of n bytes
pub chunk-at : (n k i : ℕ) (bytes : List ℕ) → i < k → get_or (first_chunks n k bytes) i [] ≡ part (n * i) n bytes
chunk-at n zero i bytes h = absurd (not-suc-le-zero h)
chunk-at n (suc k) zero bytes h = ap (λ (j : ℕ). part j n bytes) (sym (mul-zero n))
chunk-at n (suc k) (suc i) bytes h =
    let next : n + n * i ≡ n * suc i = grind (arith, mul-suc n i) in
    chunk-at n k i (drop n bytes) (le_of_suc-le-suc h) ∙ part-drop n (n * i) n bytes ∙ ap (λ (j : ℕ). part j n bytes) next

-- and a run over it
pub run-chunk : (p n r i : ℕ) (bytes : List ℕ) {chunks : List (List ℕ)} → i < length bytes / n → chunks ≡ first_chunks n (length bytes / n) bytes
    → crc_run p (crc_run p r (get_or chunks i [])) (drop (n * (i + 1)) bytes) ≡ crc_run p r (drop (n * i) bytes)
run-chunk p n r i bytes h e =
    let next : n * (i + 1) ≡ n * i + n = ap (◌*◌ n) (add-one i) ∙ mul-suc n i in
    ap₂ (λ (chunk : List ℕ) (j : ℕ). crc_run p (crc_run p r chunk) (drop j bytes))
    (ap (λ (l : List (List ℕ)). get_or l i []) e ∙ chunk-at n (length bytes / n) i bytes h) next
    ∙ run-part p r n (n * i) bytes

module _ (bytes : List ℕ) (known : (i : ℕ) → get_or bytes i 0 < 256) where
  -- a number of n bytes at a position
  pub number-part : (n i : ℕ) {x : ℕ} → i + n ≤ length bytes → x ≡ le (part i n bytes) → le_bytes n x ≡ part i n bytes
  number-part n i h e =
      ap (le_bytes n) e ∙ le_bytes-le-at n (part i n bytes) (length_part n i bytes h) (are_bytes-part i n bytes (are_bytes-in bytes known))

  -- the same as a chunk
  pub number-chunk : (i : ℕ) {x : ℕ} {chunks : List (List ℕ)} → i < length bytes / 8 → chunks ≡ first_chunks 8 (length bytes / 8) bytes
      → x ≡ le (part 0 8 (get_or chunks i [])) → le_bytes 8 x ≡ get_or chunks i []
  number-chunk i {x} {chunks} h e v =
      let inside : 8 * i + 8 ≤ length bytes = omega arith in
      let same : get_or chunks i [] ≡ part (8 * i) 8 bytes = ap (λ (l : List (List ℕ)). get_or l i []) e ∙ chunk-at 8 (length bytes / 8) i bytes h in
      let eight : length (get_or chunks i []) ≡ 8 = ap length same ∙ length_part 8 (8 * i) bytes inside in
      number-part 8 (8 * i) inside (v ∙ ap le (part-all 8 (get_or chunks i []) eight ∙ same)) ∙ sym same

  -- four words one after the other are sixteen bytes
  pub words-part : (at : ℕ) {a b c d : ℕ} → at + 16 ≤ length bytes
      → a ≡ le (part at 4 bytes)
      → b ≡ le (part (at + 4) 4 bytes)
      → c ≡ le (part (at + 8) 4 bytes)
      → d ≡ le (part (at + 12) 4 bytes)
      → le_bytes 4 a ++ (le_bytes 4 b ++ (le_bytes 4 c ++ le_bytes 4 d)) ≡ part at 16 bytes
  words-part at {a} {b} {c} {d} h e-a e-b e-c e-d =
      let join : List ℕ → List ℕ → List ℕ = λ l m. l ++ m in
      let h-a : at + 4 ≤ length bytes = omega arith in
      let h-b : at + 4 + 4 ≤ length bytes = omega arith in
      let h-c : at + 8 + 4 ≤ length bytes = omega arith in
      let h-d : at + 12 + 4 ≤ length bytes = omega arith in
      let third : at + 4 + 4 ≡ at + 8 = omega arith in
      let fourth : at + 8 + 4 ≡ at + 12 = omega arith in
      ap₂ join (number-part 4 at h-a e-a) (ap₂ join (number-part 4 (at + 4) h-b e-b) (ap₂ join (number-part 4 (at + 8) h-c e-c) (number-part 4 (at + 12) h-d e-d)))
      ∙ sym
      (part-add 4 12 at bytes
      ∙ ap (join (part at 4 bytes))
      (part-add 4 8 (at + 4) bytes
      ∙ ap (join (part (at + 4) 4 bytes))
      (ap (λ (i : ℕ). part i 8 bytes) third ∙ part-add 4 4 (at + 8) bytes ∙ ap (λ (i : ℕ). part (at + 8) 4 bytes ++ part i 4 bytes) fourth)))

  -- the last bytes: one more in front of them, how large their number is, and their bytes again
  pub last_more : (i j : ℕ) {x : ℕ} → j + 1 ≡ i → i ≤ length bytes → x ≡ le (drop i bytes) → x * 256 + get_or bytes j 0 ≡ le (drop j bytes)
  unfolding le
  last_more i j {x} s h e =
      let inside : j < length bytes = omega arith in
      let next : suc j ≡ i = omega arith in
      let number : le (drop (suc j) bytes) ≡ x = ap (λ (k : ℕ). le (drop k bytes)) next ∙ sym e in
      let whole : le (drop j bytes) ≡ get_or bytes j 0 + 256 * le (drop (suc j) bytes) = ap le (drop-cons bytes j 0 inside) in
      omega arith

  pub last-bound : (i n : ℕ) {x : ℕ} → length bytes ≤ i + n → x ≡ le (drop i bytes) → x < 256 ^ n
  last-bound i n {x} h e =
      let few : length (drop i bytes) ≤ n = simp length-drop (omega arith) in
      lt_of_lt_of_le (subst (λ (k : ℕ). k < 256 ^ length (drop i bytes)) (sym e) (le-bound (drop i bytes) (are_bytes-drop i bytes (are_bytes-in bytes known))))
      (pow-le-pow_right (omega arith) few)

  pub last-all : {x : ℕ} → x ≡ le bytes → le_bytes (length bytes) x ≡ bytes
  last-all e = ap (le_bytes (length bytes)) e ∙ le_bytes-le-at (length bytes) bytes refl (are_bytes-in bytes known)
