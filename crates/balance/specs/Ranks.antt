-- Where the references of one type stand side by side in a body, and what they are ordered by. Assumes nothing.
use Rattle.std.specs.Prelude.{◌≡◌, ◌≢◌, Bool, true, not, List, [], ◌∷◌, ◌++◌, ℕ, zero, suc, ◌+◌, ◌*◌, ◌≤◌, ◌<◌, T, leb, ltb, eqb, length, drop}
use Rattle.fields.specs.Lists.{all}
use Rattle.format.specs.Questions.{Answer, accepted, result_or}
use Rattle.format.specs.References.{known, payload_length, Ref, ref_at, rank}
use Rattle.inline_refs.specs.declared.ref_name.RefName.{RefName}
use Rattle.inline_refs.specs.Steps.{read_from}
use Rattle.inline_refs.specs.Scans.{is_wanted}
use Rattle.balance.specs.declared.span.Span.{Span}

-- the references of a type from a position on, so many
unfoldable pub span_refs : ℕ → List ℕ → ℕ → ℕ → List Ref
span_refs kind body from zero = []
span_refs kind body from (suc n) = ref_at kind (drop (from + 1) body) ∷ span_refs kind body (from + (1 + payload_length kind)) n

-- the references that were read
unfoldable pub refs_read : Answer (List Ref) → List Ref
refs_read answer = result_or [] (λ refs. refs) answer

abbrev pub refs_from : List ℕ → ℕ → List Ref
refs_from body at = refs_read (read_from body at)

pub record Readable (body : List ℕ) (at : ℕ) : Type 0 where
  pub reads : read_from body at ≡ accepted (refs_from body at)

-- the first of them is of this type or a higher one, or of another one
abbrev pub reached : ℕ → List Ref → Bool
reached kind [] = true
reached kind (r ∷ refs) = leb kind r.kind

abbrev pub left : ℕ → List Ref → Bool
left kind [] = true
left kind (r ∷ refs) = not (eqb r.kind kind)

pub record Skips (body : List ℕ) (start kind at : ℕ) : Type 0 where
  pub front : List Ref
  pub same : refs_from body start ≡ front ++ refs_from body at
  pub lower : T (all (λ r. ltb r.kind kind) front)
  pub first : T (reached kind (refs_from body at))
  pub reads : read_from body at ≡ accepted (refs_from body at)
  pub inside : at ≤ length body

pub record CountsIn (body : List ℕ) (from kind n : ℕ) : Type 0 where
  pub rest : List Ref
  pub same : refs_from body from ≡ span_refs kind body from n ++ rest
  pub last : T (left kind rest)
  pub inside : from + n * (1 + payload_length kind) ≤ length body

-- where reference number j of so many side by side has its payload, and what it is ordered by
abbrev pub payload_at : ℕ → ℕ → ℕ → ℕ
payload_at kind from j = from + j * (1 + payload_length kind) + 1

abbrev pub rank_at : List ℕ → ℕ → ℕ → ℕ → ℕ
rank_at body kind from j = rank (ref_at kind (drop (payload_at kind from j) body))

-- references of one type side by side, in order
pub record Falling (body : List ℕ) (s : Span) : Type 0 where
  pub kind_known : T (known s.kind)
  pub inside : s.from + s.n * (1 + payload_length s.kind) ≤ length body
  pub falls : (i j : ℕ) → i ≤ j → j < s.n → rank_at body s.kind s.from j ≤ rank_at body s.kind s.from i

-- they are all of the type that stand in the body
pub record Spanned (body : List ℕ) (start : ℕ) (s : Span) : Type 0 where
  pub falling : Falling body s
  pub only : (P : Ref → Bool) → ((r : Ref) → r.kind ≢ s.kind → T (P r))
      → all P (refs_from body start) ≡ all P (span_refs s.kind body s.from s.n)

-- the first so many are above a rank, the others not
pub record CutsAt (body : List ℕ) (s : Span) (rank at : ℕ) : Type 0 where
  pub few : at ≤ s.n
  pub above : (j : ℕ) → j < at → rank < rank_at body s.kind s.from j
  pub below : (j : ℕ) → at ≤ j → j < s.n → rank_at body s.kind s.from j ≤ rank

-- no reference of the span is the wanted one
unfoldable pub absent_in : List ℕ → Span → RefName → Bool
absent_in body s wanted = all (λ r. not (is_wanted wanted r)) (span_refs s.kind body s.from s.n)
