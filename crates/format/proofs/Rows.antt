-- The table of rows, kind by kind: which types are known, how their payloads divide into fields and count.
-- Assumes nothing.
use mathlib.Core.Path.{◌≡◌, refl, sym, subst}
use mathlib.Core.Logic.{◌⊎◌, inl, inr}
use mathlib.Core.Bool.{Bool, true, false, cond}
use mathlib.Core.List.{List, [], ◌∷◌}
use Prim.Native.Nat.{ℕ, ◌+◌, ◌*◌, ◌≤◌, ◌<◌}
use native.Mathlib.Omega.{arith}
use lib.Dec.{T, leb, eqb, eqb→eq, leb→le, le→leb}
use lib.ListN.{length, get_or}
use Rattle.format.specs.References.{kinds, row_in, known, payload_length, count_position, counted, field_count}

-- the five types
pub data Kind (k : ℕ) : Type 0 where
  k172 : k ≡ 172 → Kind k
  k176 : k ≡ 176 → Kind k
  k178 : k ≡ 178 → Kind k
  k182 : k ≡ 182 → Kind k
  k184 : k ≡ 184 → Kind k

-- the first number of one of the rows
abbrev Among : List (List ℕ) → ℕ → Type 0
Among [] k = ⊥
Among (row ∷ rows) k = (k ≡ get_or row 0 0) ⊎ Among rows k

among : (rows : List (List ℕ)) (k : ℕ) → T (leb 1 (length (row_in rows k))) → Among rows k
unfolding row_in
among [] k t = absurd t
among (row ∷ rows) k t = go (eqb (get_or row 0 0) k) refl (among rows k) t
  where
    go : (b : Bool) → eqb (get_or row 0 0) k ≡ b → (T (leb 1 (length (row_in rows k))) → Among rows k)
        → T (leb 1 (length (cond b row (row_in rows k)))) → (k ≡ get_or row 0 0) ⊎ Among rows k
    go true e ih h = inl (sym (eqb→eq (get_or row 0 0) k (subst T (sym e) tt)))
    go false e ih h = inr (ih h)

pub known-kind : (k : ℕ) → T (known k) → Kind k
unfolding known
known-kind k t = go (among kinds k t)
  where
    go : Among kinds k → Kind k
    go (inl e) = k172 e
    go (inr (inl e)) = k176 e
    go (inr (inr (inl e))) = k178 e
    go (inr (inr (inr (inl e)))) = k182 e
    go (inr (inr (inr (inr (inl e))))) = k184 e
    go (inr (inr (inr (inr (inr h))))) = absurd h

-- a count stands only in a known row
pub counted-known : (k : ℕ) → T (counted k) → T (known k)
unfolding known counted count_position
counted-known k t = go (row_in kinds k) t
  where
    go : (row : List ℕ) → T (leb 1 (get_or row 2 0)) → T (leb 1 (length row))
    go [] h = absurd h
    go (x ∷ row) h = le→leb 1 (length (x ∷ row)) (omega arith)

-- ---- a payload is fields of 8 bytes, and a count of 4 where the type has one

pub payload-fields : (k : ℕ) → T (known k) → payload_length k ≡ 8 * field_count k + cond (counted k) 4 0
unfolding payload_length field_count counted count_position row_in
payload-fields k t = go (known-kind k t)
  where
    go : Kind k → payload_length k ≡ 8 * field_count k + cond (counted k) 4 0
    go (k172 e) = rw e refl
    go (k176 e) = rw e refl
    go (k178 e) = rw e refl
    go (k182 e) = rw e refl
    go (k184 e) = rw e refl

pub count-after-fields : (k : ℕ) → T (counted k) → count_position k ≡ 8 * field_count k
unfolding payload_length field_count counted count_position row_in
count-after-fields k t = go (known-kind k (counted-known k t)) t
  where
    go : Kind k → T (counted k) → count_position k ≡ 8 * field_count k
    go (k172 e) h = absurd (rw e at h)
    go (k176 e) h = absurd (rw e at h)
    go (k178 e) h = rw e refl
    go (k182 e) h = absurd (rw e at h)
    go (k184 e) h = rw e refl

pub some-field : (k : ℕ) → T (known k) → 1 ≤ field_count k
unfolding payload_length field_count counted count_position row_in
some-field k t = leb→le 1 (field_count k) (go (known-kind k t))
  where
    go : Kind k → T (leb 1 (field_count k))
    go (k172 e) = rw e tt
    go (k176 e) = rw e tt
    go (k178 e) = rw e tt
    go (k182 e) = rw e tt
    go (k184 e) = rw e tt

pub kind-small : (k : ℕ) → T (known k) → k < 256
kind-small k t = go (known-kind k t)
  where
    go : Kind k → k < 256
    go (k172 e) = omega arith
    go (k176 e) = omega arith
    go (k178 e) = omega arith
    go (k182 e) = omega arith
    go (k184 e) = omega arith
