-- What is read of a body: questions 3 and 6 of a call that reads no references; where the references stand; one of them by its
-- number, and where its payload starts, 0 where there is none. Assumes nothing.
use Rattle.std.specs.Prelude.{cond, List, [], ℕ, ◌+◌, ◌≤◌, leb, length, Result, Ok, Err}
use Rattle.format.specs.declared.InlineRef.{InlineRef}
use Rattle.format.specs.declared.Refusal.{Refusal}
use Rattle.format.specs.Questions.{Answer, bind, denied, result_or}
use Rattle.format.specs.References.{Ref}
use Rattle.format.specs.Bodies.{body_fits, positions, ref_numbered}

-- questions 3 and 6
unfoldable pub head_asked : List ℕ → Result (Unit {0}) Refusal
head_asked body = cond (body_fits body) (cond (leb 24 (length body)) (Ok tt) (denied 6)) (denied 3)

-- where the references that were read stand
unfoldable pub positions_in : ℕ → Answer (List Ref) → List ℕ
positions_in start answer = result_or [] (positions start) answer

unfoldable pub pick_in : ℕ → ℕ → Answer (List Ref) → Answer InlineRef
pick_in start index read = bind read (ref_numbered start index)

-- a payload lies within the body
abbrev pub Inside : Result InlineRef Refusal → ℕ → Type 0
Inside (Ok r) size = r.start + r.len ≤ size
Inside (Err refusal) size = Unit {0}

abbrev pub start_in : Answer InlineRef → ℕ
start_in answer = result_or 0 (λ r. r.start) answer
