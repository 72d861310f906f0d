-- A hash and a rank are compared by their tops first. Assumes nothing.
use mathlib.Core.Path.{◌≡◌, refl, sym, ap, ap₂, subst⁻¹, ◌∙◌}
use mathlib.Core.Bool.{Bool, true, false}
use mathlib.Core.List.{◌++◌}
use Prim.Native.Nat.{ℕ, ◌*◌, ◌/◌, ◌%◌, ◌^◌, ◌<◌, ◌≤◌}
use native.Mathlib.Omega.{arith}
use lib.Bits.{bit_xor, xor_shr, xor_zero_r}
use lib.Dec.{ltb}
use lib.Pow.{shl-shr, shr-shr}
use borrow.Author.Tests.{ltb-true, ltb-false, lt-ltb, le-ltb}
use Rattle.fields.specs.Numbers.{le_bytes}
use Rattle.crc32c.specs.Register.{crc32c, all_ones, steps, crc_run}
use Rattle.crc32c.proofs.Steps.{run-append}
use Rattle.crc32c.proofs.AtOnce.{eight-bytes}
use Rattle.format.specs.Hash.{data_ref_hash}

-- ---- the second run has 32 bits

run-lt : (register x : ℕ) → register < 2 ^ 32 → x < 2 ^ 64 → crc_run crc32c register (le_bytes 8 x) < 2 ^ 32
run-lt register x h k =
    let e : steps crc32c 64 (bit_xor x register) % 4294967296 ≡ crc_run crc32c register (le_bytes 8 x) = eight-bytes register x h k refl in
    omega (arith, e)

runs-lt : (b c : ℕ) → b < 2 ^ 64 → c < 2 ^ 64 → crc_run crc32c all_ones (le_bytes 8 b ++ le_bytes 8 c) < 2 ^ 32
runs-lt b c h k =
    subst⁻¹ (λ (r : ℕ). r < 2 ^ 32) (run-append crc32c (le_bytes 8 b) (le_bytes 8 c) all_ones)
    (run-lt (crc_run crc32c all_ones (le_bytes 8 b)) c (run-lt all_ones b (omega arith) h) k)

-- ---- so the top of the hash is the first register's, less its lowest bit

joined-top : (one two : ℕ) → two < 2 ^ 32 → bit_xor (one * 2 ^ 31) two / 2 ^ 32 ≡ one / 2
joined-top one two h =
    let first : one * 2 ^ 31 / 2 ^ 32 ≡ one / 2 = sym (shr-shr (one * 2 ^ 31) 31 1) ∙ ap (λ (x : ℕ). x / 2) (shl-shr one 31) in
    let second : two / 2 ^ 32 ≡ 0 = omega (arith, h) in
    xor_shr (one * 2 ^ 31) two 32 ∙ ap₂ bit_xor first second ∙ xor_zero_r (one / 2)

-- different tops decide
tops-decide : (hash rank top bound : ℕ) → hash / 2 ^ 32 ≡ top → bound ≡ rank / 2 ^ 32 → (top ≡ bound → ⊥)
    → ltb top bound ≡ ltb hash rank
tops-decide hash rank top bound e q n = go (ltb top bound) (λ t. ltb-true top bound t) (λ f. ltb-false top bound f)
  where
    go : (b : Bool) → (b ≡ true → top < bound) → (b ≡ false → bound ≤ top) → b ≡ ltb hash rank
    go true less more =
        let h : top < bound = less refl in
        sym (lt-ltb hash rank (omega (arith, h, e, q)))
    go false less more =
        let h : bound ≤ top = more refl in
        sym (le-ltb hash rank (omega (arith, h, e, q, n)))

module _ (tree objectid offset one rank : ℕ) (e : one ≡ crc_run crc32c all_ones (le_bytes 8 tree)) where
  pub below-by-top : objectid < 2 ^ 64 → offset < 2 ^ 64 → (one / 2 ≡ rank / 2 ^ 32 → ⊥)
      → ltb (one / 2) (rank / 2 ^ 32) ≡ ltb (data_ref_hash tree objectid offset) rank
  unfolding data_ref_hash
  below-by-top h k n =
      let two : ℕ = crc_run crc32c all_ones (le_bytes 8 objectid ++ le_bytes 8 offset) in
      let hash : ℕ = bit_xor (crc_run crc32c all_ones (le_bytes 8 tree) * 2 ^ 31) two in
      let top : hash / 2 ^ 32 ≡ one / 2 = joined-top (crc_run crc32c all_ones (le_bytes 8 tree)) two (runs-lt objectid offset h k) ∙ ap (λ (r : ℕ). r / 2) (sym e) in
      tops-decide hash rank (one / 2) (rank / 2 ^ 32) top refl n

  pub below-whole : (two hash : ℕ) → two ≡ crc_run crc32c all_ones (le_bytes 8 objectid ++ le_bytes 8 offset) → hash ≡ bit_xor (one * 2 ^ 31) two
      → ltb hash rank ≡ ltb (data_ref_hash tree objectid offset) rank
  unfolding data_ref_hash
  below-whole two hash d q = ap (λ (x : ℕ). ltb x rank) (q ∙ ap₂ (λ (x y : ℕ). bit_xor (x * 2 ^ 31) y) e d)
