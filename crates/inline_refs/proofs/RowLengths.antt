-- A kind's lengths from its row, or from there being none. Assumes nothing.
use mathlib.Core.Path.{◌≡◌, refl, sym, ap, subst}
use mathlib.Core.Bool.{Bool, true, false, cond}
use mathlib.Core.List.{List, [], ◌∷◌}
use Prim.Native.Nat.{ℕ, ◌+◌, ◌≤◌}
use native.Mathlib.Omega.{arith}
use lib.Dec.{T, leb, eqb, leb→le}
use lib.ListN.{get_or}
use mir.Facts.{and_yes}
use Rattle.fields.specs.Lists.{all}
use Rattle.format.specs.References.{kinds, row_in, payload_length, count_position}
use Rattle.std.specs.Prelude.{Option, Some, None}
use Rattle.std.specs.Option.{unwrap_or}
use Rattle.inline_refs.specs.declared.kinds.Lengths.{Lengths}
use Rattle.inline_refs.specs.Steps.{row_from}

from_row : (row : List ℕ) (l : Lengths) → Some l ≡ row_from row → (l.payload ≡ get_or row 1 0) × (l.count ≡ get_or row 2 0)
unfolding row_from
from_row [] l e = let z : ◌≡◌ {A = ℕ} 0 1 = cc in absurd (omega arith)
from_row (k ∷ row) l e =
    let z : l ≡ record { payload = get_or row 0 0; count = get_or row 1 0 } = cc in
    (ap (λ (x : Lengths). x.payload) z, ap (λ (x : Lengths). x.count) z)

no_row : (row : List ℕ) → None ≡ row_from row → row ≡ []
unfolding row_from
no_row [] e = refl
no_row (k ∷ row) e = let z : ◌≡◌ {A = ℕ} 0 1 = cc in absurd (omega arith)

-- what bounds a column of a table bounds it in every row, and in none
either : (column limit : ℕ) (b : Bool) (row rest : List ℕ) → get_or row column 0 ≤ limit → get_or rest column 0 ≤ limit
    → get_or (cond b row rest) column 0 ≤ limit
either column limit true row rest h g = h
either column limit false row rest h g = g

at_most : (column limit : ℕ) (rows : List (List ℕ)) (k : ℕ) → T (all (λ row. leb (get_or row column 0) limit) rows)
    → get_or (row_in rows k) column 0 ≤ limit
unfolding row_in
at_most column limit [] k t = omega arith
at_most column limit (row ∷ rows) k t =
    let h = and_yes (leb (get_or row column 0) limit) _ t in
    either column limit (eqb (get_or row 0 0) k) row (row_in rows k) (leb→le _ _ h.0) (at_most column limit rows k h.1)

-- an array of 32 bytes holds a type byte and a payload up to its count
pub count-inside : (k : ℕ) → count_position k + 5 ≤ 32
unfolding count_position
count-inside k = let h : get_or (row_in kinds k) 2 0 ≤ 27 = at_most 2 27 kinds k tt in omega arith

abbrev Says : ℕ → ℕ → ℕ → Type 0
Says k size count = (size ≡ payload_length k) × (count ≡ count_position k) × (size ≤ 255)

pub row-says : (k : ℕ) (l : Lengths) → Some l ≡ row_from (row_in kinds k) → Says k l.payload l.count
unfolding payload_length count_position
row-says k l e =
    let r = from_row (row_in kinds k) l e in
    (r.0, r.1, omega (arith, r.0, at_most 1 255 kinds k tt))

pub no-row-says : (k : ℕ) → None ≡ row_from (row_in kinds k) → Says k 0 0
unfolding payload_length count_position
no-row-says k e =
    let r = no_row (row_in kinds k) e in
    (ap (λ (row : List ℕ). get_or row 1 0) (sym r), ap (λ (row : List ℕ). get_or row 2 0) (sym r), omega arith)

-- of a search, whatever it found
pub row-said : (k : ℕ) (o : Option Lengths) (l : Lengths) → o ≡ row_from (row_in kinds k) → l ≡ unwrap_or o (record { payload = 0; count = 0 })
    → Says k l.payload l.count
row-said k (Some x) l e q = subst (λ (y : Lengths). Says k y.payload y.count) (sym q) (row-says k x e)
row-said k None l e q = subst (λ (y : Lengths). Says k y.payload y.count) (sym q) (no-row-says k e)
