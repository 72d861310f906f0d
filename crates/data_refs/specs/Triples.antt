-- The triples of data references that stand side by side, that no two of them are the same, and which has a given one. Assumes nothing.
use Rattle.std.specs.Prelude.{◌≡◌, true, false, List, [], Option, Some, None, ℕ, ◌+◌, ◌*◌, ◌≤◌, ◌<◌, drop, get_or}
use Rattle.fields.specs.Lists.{same}
use Rattle.fields.specs.Numbers.{words}
use Rattle.format.specs.References.{kinds}

-- how many bytes a data reference takes: its type byte, and the payload that its row, the third, says
abbrev pub triple_size : ℕ
triple_size = 1 + get_or (get_or kinds 2 []) 1 0

-- the triple of number i of the data references from a position on: three numbers behind the type byte
unfoldable pub triple_of : List ℕ → ℕ → ℕ → List ℕ
triple_of body from i = words 3 (drop (from + triple_size * i + 1) body)

-- no triple of the n references stands twice
pub record Distinct (body : List ℕ) (from n : ℕ) : Type 0 where
  pub differ : (i j : ℕ) → i < j → j < n → same (triple_of body from i) (triple_of body from j) ≡ false

-- the triple of number i stands before it too
pub record Repeats (body : List ℕ) (from i : ℕ) : Type 0 where
  pub first : ℕ
  pub below : first < i
  pub twice : same (triple_of body from first) (triple_of body from i) ≡ true

-- the first r of n references differ, and where they are not all, the next one repeats one of them
abbrev pub Front : List ℕ → ℕ → ℕ → ℕ → Type 0
Front body from n r = (r ≤ n) × (Distinct body from r × (r < n → Repeats body from r))

-- what looking for a triple among the first n references gives: the number of one that has it, or none where none has
abbrev pub LooksUp : List ℕ → ℕ → ℕ → List ℕ → Option ℕ → Type 0
LooksUp body from n t (Some k) = (k < n) × (same (triple_of body from k) t ≡ true)
LooksUp body from n t None = (j : ℕ) → j < n → same (triple_of body from j) t ≡ false
