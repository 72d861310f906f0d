-- One step of the reader, as a function of the body's bytes and a position. Assumes nothing.
use Rattle.std.specs.Prelude.{cond, List, [], ◌∷◌, ℕ, ◌+◌, ◌-◌, leb, ltb, length, drop, get_or, Option, Some, None, Result, Ok, Err}
use Rattle.format.specs.Questions.{Answer, denied}
use Rattle.format.specs.References.{kinds, row_in, Ref, read_refs, start_of}
use Rattle.format.specs.Bodies.{body_fits}
use Rattle.format.specs.declared.Refusal.{Refusal}
use Rattle.inline_refs.specs.declared.kinds.Lengths.{Lengths}
use Rattle.inline_refs.specs.declared.step.RefAt.{RefAt}

-- a row of the table, or none
unfoldable pub row_from : List ℕ → Option Lengths
row_from [] = None
row_from (kind ∷ row) = Some (record { payload = get_or row 0 0; count = get_or row 1 0 })

unfoldable pub step_row : Option Lengths → List ℕ → ℕ → Result (Option RefAt) Refusal
step_row (Some row) s at =
    cond (ltb (length s - (at + 1)) row.payload) (denied 8)
    (Ok (Some (record { kind = get_or s at 0; start = at + 1; size = row.payload; count = row.count; next = record { at = at + 1 + row.payload } })))
step_row None s at = denied 7

unfoldable pub ref_step_at : List ℕ → ℕ → Result (Option RefAt) Refusal
ref_step_at s at = cond (ltb at (length s)) (step_row (row_from (row_in kinds (get_or s at 0))) s at) (Ok None)

-- the references from a position on
unfoldable pub read_from : List ℕ → ℕ → Answer (List Ref)
read_from s at = read_refs (length (drop at s)) (drop at s)

-- questions 3 and 6, then where the references start
unfoldable pub open_of : ℕ → List ℕ → Result ℕ Refusal
open_of type body =
    cond (body_fits body)
    (cond (leb 24 (length body)) (cond (leb (start_of type body) (length body)) (Ok (start_of type body)) (denied 6)) (denied 6))
    (denied 3)

-- where a reader stands after a step: behind a whole reference; otherwise where it stood
unfoldable pub moved : Result (Option RefAt) Refusal → ℕ → ℕ
moved (Ok (Some reference)) at = reference.next.at
moved (Ok None) at = at
moved (Err refusal) at = at
