-- The references of a body that can be read. Assumes nothing.
use Rattle.std.specs.Prelude.{◌≡◌, List, [], ℕ, ◌+◌, ◌≤◌, T, length}
use Rattle.format.specs.Questions.{Answer, accepted, result_or}
use Rattle.format.specs.References.{known, payload_length, count_position, Ref}
use Rattle.inline_refs.specs.declared.step.RefAt.{RefAt}
use Rattle.inline_refs.specs.Steps.{read_from}

-- the references that were read
unfoldable pub refs_of : Answer (List Ref) → List Ref
refs_of answer = result_or [] (λ refs. refs) answer

-- those from a position on can be read
abbrev pub ReadsOn : List ℕ → ℕ → Type 0
ReadsOn s at = read_from s at ≡ accepted (refs_of (read_from s at))

-- what a step has shown of a reference: a known kind, with that kind's lengths, whose payload stands in the body
pub record ReadIn (s : List ℕ) (r : RefAt) : Type 0 where
  pub kind_known : T (known r.kind)
  pub long : r.size ≡ payload_length r.kind
  pub count_at : r.count ≡ count_position r.kind
  pub inside : r.start + r.size ≤ length s
