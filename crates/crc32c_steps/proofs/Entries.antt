-- The rule of a polynomial's table, carried from the whole table to each entry, and from each entry to the whole table.
-- Assumes nothing.
use mathlib.Core.Path.{◌≡◌, refl, sym, ap, ap₂, subst, ◌∙◌}
use mathlib.Core.List.{List, [], ◌∷◌, ◌++◌, map}
use Prim.Native.Nat.{ℕ, zero, suc, ◌+◌, ◌≤◌, ◌<◌}
use native.Mathlib.Nat.{add-zero, zero-add, le_of_suc-le-suc, not-suc-le-zero}
use native.Mathlib.Numerals.{add-one}
use native.Mathlib.Omega.{arith}
use lib.ListN.{length, take, get_or, set}
use lib.Seq.{take_all, take-suc, take-suc-set}
use denote.Param.Members.{Mut, Called}
use Rattle.std.specs.Array.{IsFromFnResultFrom}
use Rattle.std.specs.List.{range_with_len}
use Rattle.std.proofs.lemmas.List.FromFn.{fill_by_all, get_or-map-range_with_len, length-map-range_with_len}
use Rattle.crc32c_steps.specs.Steps.{step, steps, table_entries, table_of}

module _ (f : ℕ → ℕ) where
  entries_map : (k i : ℕ) → table_entries f k i ≡ map f (range_with_len i k)
  unfolding table_entries
  entries_map zero i = refl
  entries_map (suc k) i = ap (λ (l : List ℕ). f i ∷ l) (entries_map k (suc i) ∙ ap (λ (j : ℕ). map f (range_with_len j k)) (sym (add-one i)))

  -- entry n is f n
  pub entries_at : (k n : ℕ) → n < k → get_or (table_entries f k 0) n 0 ≡ f n
  entries_at k n h = ap (λ (l : List ℕ). get_or l n 0) (entries_map k 0) ∙ get_or-map-range_with_len f 0 k n n 0 h (zero-add n)

  pub entries-length : (k i : ℕ) → length (table_entries f k i) ≡ k
  entries-length k i = ap length (entries_map k i) ∙ length-map-range_with_len f i k

  -- a list that has the first n entries, with entry n stored; and one that has all of them
  pub entries-more : (k : ℕ) (t : List ℕ) (n v : ℕ) → length t ≡ k → n < k → take n t ≡ take n (table_entries f k 0) → v ≡ f n
      → take (n + 1) (set t n v) ≡ take (n + 1) (table_entries f k 0)
  entries-more k t n v l h e r =
      ap (λ (m : ℕ). take m (set t n v)) (add-one n)
      ∙ take-suc-set t n v (omega (arith, l))
      ∙ ap₂ (λ (x : List ℕ) (y : ℕ). x ++ (y ∷ [])) e (r ∙ sym (entries_at k n h))
      ∙ sym (take-suc (table_entries f k 0) n 0 (omega (arith, entries-length k 0)))
      ∙ ap (λ (m : ℕ). take m (table_entries f k 0)) (sym (add-one n))

  pub entries-all : (k : ℕ) (t : List ℕ) (n : ℕ) → length t ≡ k → k ≤ n → take n t ≡ take n (table_entries f k 0) → t ≡ table_entries f k 0
  entries-all k t n l h e =
      sym (take_all n t (omega (arith, l))) ∙ e ∙ take_all n (table_entries f k 0) (omega (arith, entries-length k 0))

-- what a closure made, call by call, where each call keeps `I` and gives its entry
module _ (f : ℕ → ℕ) {F : Type 0} (g : Mut F (ℕ × Unit {0}) ℕ) (I : F → Type 0) (t : List ℕ) where
  made-from : ((s : F) (i y : ℕ) (s' : F) → I s → Called g s (i, tt) y s' → I s' × (y ≡ f i))
      → (k i n : ℕ) (s : F) → I s → IsFromFnResultFrom g s t i k → n < k → get_or t (i + n) 0 ≡ f (i + n)
  made-from call zero i n s h c b = absurd (not-suc-le-zero b)
  made-from call (suc k) i zero s h c b =
      let e : i ≡ i + 0 = sym (add-zero i) in
      subst (λ (j : ℕ). get_or t j 0 ≡ f j) e (c.2.1 0 ∙ (call s i c.1 c.0 h c.3).1)
  made-from call (suc k) i (suc n) s h c b =
      let e : i + 1 + n ≡ i + suc n = omega arith in
      subst (λ (j : ℕ). get_or t j 0 ≡ f j) e (made-from call k (i + 1) n c.0 (call s i c.1 c.0 h c.3).0 c.4 (le_of_suc-le-suc b))

  pub entries-made : (k : ℕ) → length t ≡ k → ((s : F) (i y : ℕ) (s' : F) → I s → Called g s (i, tt) y s' → I s' × (y ≡ f i))
      → (s : F) → I s → IsFromFnResultFrom g s t 0 k → t ≡ table_entries f k 0
  entries-made k l call s h c =
      fill_by_all f t k 0 l (λ n b. subst (λ (j : ℕ). get_or t j 0 ≡ f j) (zero-add n) (made-from call k 0 n s h c b)) ∙ sym (entries_map f k 0)

-- the entry lemma, for each polynomial
pub table_at : (p : ℕ) {t : List ℕ} → t ≡ table_of p → (n : ℕ) → n < 256 → get_or t n 0 ≡ steps p 8 n
unfolding table_of
table_at p e n h = ap (λ (l : List ℕ). get_or l n 0) e ∙ entries_at (steps p 8) 256 n h

-- entry 128 is the polynomial
pub entry-128 : (p : ℕ) → get_or (table_of p) 128 0 ≡ p
unfolding table_of table_entries steps step
entry-128 p = refl

-- entry 0 is 0
pub entry-0 : (p : ℕ) → get_or (table_of p) 0 0 ≡ 0
unfolding table_of table_entries steps step
entry-0 p = refl

-- tables of other polynomials: nothing is xored in by 0; entries 250 to 255 by 1; the last one by all ones; and the second and the
-- last one of the CRC-32 of Ethernet
pub others : (table_of 0 ≡ table_entries (λ n. 0) 256 0)
    × (table_entries (steps 1 8) 6 250 ≡ 0 ∷ 1 ∷ 0 ∷ 1 ∷ 1 ∷ 0 ∷ [])
    × (get_or (table_of 0xffffffff) 255 0 ≡ 0x01ffffff)
    × (get_or (table_of 0xedb88320) 1 0 ≡ 0x77073096)
    × (get_or (table_of 0xedb88320) 255 0 ≡ 0x2d02ef8d)
unfolding table_of table_entries steps step
others = (refl, refl, refl, refl, refl)
