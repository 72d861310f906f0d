-- `held_by` of format, over what a reading of references gives: where the reading stops, nothing is held. And over data references of
-- one file that stand side by side in a body, by their numbers. Assumes nothing.
use Rattle.std.specs.Prelude.{◌≡◌, ◌⊎◌, Bool, false, ◌&&◌, cond, List, [], ◌∷◌, ◌++◌, ℕ, zero, suc, ◌+◌, ◌-◌, ◌*◌, ◌≤◌, ◌<◌, T, eqb, leb, length, drop, get_or, Option, Some, None}
use Rattle.fields.specs.Lists.{sum, all}
use Rattle.format.specs.Questions.{Answer, accepted, result_or}
use Rattle.format.specs.References.{Ref, ref_at}
use Rattle.format.specs.Bodies.{named, times, offset_of}
use Rattle.inline_refs.specs.Steps.{read_from}
use Rattle.data_refs.specs.Triples.{triple_size}

unfoldable pub all_of : (Ref → Bool) → Answer (List Ref) → Bool
all_of p read = result_or false (all p) read

-- a data reference of that root and inode
unfoldable pub is_of_file : ℕ → ℕ → Ref → Bool
is_of_file root ino r = named 178 (root ∷ ino ∷ offset_of r ∷ []) r

-- a data reference of that root and inode, at one of the lent offsets
unfoldable pub is_ours : ℕ → ℕ → List ℕ → Ref → Bool
is_ours root ino offsets r = is_of_file root ino r && leb 1 (times (offset_of r) offsets)

-- what a reference adds to the sum of a function at an offset
unfoldable pub adds_at : (Ref → ℕ) → ℕ → Ref → ℕ
adds_at f offset r = cond (eqb (offset_of r) offset) (f r) 0

-- no other stands at its offset
unfoldable pub is_once : List Ref → Ref → Bool
is_once refs r = eqb (sum (adds_at (λ s. 1) (offset_of r)) refs) 1

-- an offset is counted as often as it was lent
unfoldable pub is_counted : List Ref → List ℕ → ℕ → Bool
is_counted refs offsets offset = eqb (sum (adds_at (λ r. r.weight) offset) refs) (times offset offsets)

-- what is asked of the references and the offsets, once total and flags are right
unfoldable pub agrees : ℕ → ℕ → List ℕ → Answer (List Ref) → Bool
agrees root ino offsets read =
    result_or false (λ refs. all (is_ours root ino offsets) refs && (all (is_once refs) refs && all (is_counted refs offsets) offsets)) read

unfoldable pub held_in : ℕ → ℕ → List ℕ → ℕ → ℕ → Answer (List Ref) → Bool
held_in root ino offsets total bits refs = eqb total (length offsets) && eqb bits 1 && agrees root ino offsets refs

-- ---- references side by side

-- number k of the data references from a position on, and the first n of them
unfoldable pub file_ref : List ℕ → ℕ → ℕ → Ref
file_ref body from k = ref_at 178 (drop (from + triple_size * k + 1) body)

unfoldable pub file_refs : List ℕ → ℕ → ℕ → List Ref
file_refs body from zero = []
file_refs body from (suc n) = file_refs body from n ++ (file_ref body from n ∷ [])

-- what is read from a position on is n of them, all of that root and inode
pub record SideBySide (root ino : ℕ) (body : List ℕ) (from n : ℕ) : Type 0 where
  pub inside : from + triple_size * n ≤ length body
  pub reads : read_from body from ≡ accepted (file_refs body from n)
  pub of_file : T (all (is_of_file root ino) (file_refs body from n))

abbrev pub FileRefsTold : ℕ → ℕ → List ℕ → ℕ → Option ℕ → Type 0
FileRefsTold root ino body from (Some n) = SideBySide root ino body from n
FileRefsTold root ino body from None = all_of (is_of_file root ino) (read_from body from) ≡ false

-- ---- lent offsets counted at them

-- a list's numbers from `start` up to `end` are all that number, and the next is not
pub record EqualUpTo (list : List ℕ) (start number end : ℕ) : Type 0 where
  pub forward : start ≤ end
  pub inside : end ≤ length list
  pub equal : (x : ℕ) → times x (drop start list) ≡ cond (eqb number x) (end - start) 0 + times x (drop end list)
  pub other : end < length list → get_or list end 0 ≡ number → ⊥

-- one of n references stands at an offset
pub record StandsAmong (body : List ℕ) (from n offset : ℕ) : Type 0 where
  pub number : ℕ
  pub below : number < n
  pub there : offset_of (file_ref body from number) ≡ offset

-- all offsets but the rest were counted: each is that of one of n references, and each reference was counted at its own
pub record Tallied (body : List ℕ) (from n : ℕ) (offsets counts rest : List ℕ) : Type 0 where
  pub counted : (k : ℕ) → k < n → get_or counts k 0 + times (offset_of (file_ref body from k)) rest ≡ times (offset_of (file_ref body from k)) offsets
  pub found : (offset : ℕ) → StandsAmong body from n offset ⊎ (times offset rest ≡ times offset offsets)
