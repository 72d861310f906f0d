-- Document 01, "The reference lister": the text for a type byte and a body, of numbers in decimal and lines of them as `text` has
-- them. Assumes nothing.
use Rattle.std.specs.Prelude.{cond, List, [], ◌∷◌, ◌++◌, ℕ, length}
unfoldable pub use Rattle.text.specs.Numbers.{digits, line}
use Rattle.format.specs.Questions.{Answer, refused, accepted, result_or_code}
use Rattle.format.specs.References.{counted, Ref, flags_of, start_of}
use Rattle.format.specs.Bodies.{on_body}

-- "per reference its type and fields in payload order"
unfoldable pub ref_line : Ref → List ℕ
ref_line r = line (r.kind ∷ (r.fields ++ cond (counted r.kind) (r.weight ∷ []) []))

unfoldable pub ref_lines : List Ref → List ℕ
ref_lines [] = []
ref_lines (r ∷ refs) = ref_line r ++ ref_lines refs

-- "First line: start, total, flags, number of references"
unfoldable pub listing : ℕ → List ℕ → Answer (List ℕ)
listing type body =
    on_body type body (λ b.
    accepted (line (start_of type body ∷ b.total ∷ flags_of body ∷ length b.refs ∷ []) ++ ref_lines b.refs))

-- "A refusal prints only `refused N`"
unfoldable pub printed : Answer (List ℕ) → List ℕ
printed answer =
    result_or_code (λ code. 114 ∷ 101 ∷ 102 ∷ 117 ∷ 115 ∷ 101 ∷ 100 ∷ 32 ∷ line (code ∷ [])) (λ text. text) answer

-- "empty input is 6, a body above 65,535 bytes is 3"
unfoldable pub listed : List ℕ → List ℕ
listed [] = printed (refused 6)
listed (type ∷ body) = printed (listing type body)
