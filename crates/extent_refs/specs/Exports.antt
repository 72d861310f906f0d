-- What an exported call hands to C: the code of its answer, 0 in every lent number unless it was accepted, and in a lent output
-- the result before the bytes that stood there. One record for each form of result. Assumes nothing.
use Rattle.std.specs.Prelude.{◌≡◌, Bool, cond, List, [], ◌∷◌, ℕ, length, Result, Ok, Err, Option, Some, None}
use Rattle.format.specs.declared.Refusal.{Refusal}
use Rattle.format.specs.declared.Edited.{Edited}
use Rattle.format.specs.declared.Edited.TheVariants.{Written, Absent, Remove}
use Rattle.format.specs.declared.Taken.{Taken}
use Rattle.format.specs.declared.Key.{Key}
use Rattle.format.specs.declared.InlineRef.{InlineRef}
use Rattle.leaf_edit.specs.declared.lookup.ItemRange.{ItemRange}
use Rattle.format.specs.Questions.{Answer, result_or, lent, lent_number, lent_part, code_of, TakenOut, bytes_of}

-- ---- the records

-- bytes, or other numbers, in a lent output, and how many
pub record Coded (a : Answer (List ℕ)) (r len : ℕ) (old new : List ℕ) : Type 0 where
  pub code : r ≡ code_of a
  pub size : len ≡ length (lent_part a)
  pub output : new ≡ lent a old

-- the same with the count of the reference that was taken out
pub record CodedTaken (a : Answer TakenOut) (r len count : ℕ) (old new : List ℕ) : Type 0 where
  pub code : r ≡ code_of a
  pub size : len ≡ length (lent_part (bytes_of a))
  pub number : count ≡ result_or 0 (λ out. out.count) a
  pub output : new ≡ lent (bytes_of a) old

-- a number
pub record CodedNumber (a : Answer ℕ) (r value : ℕ) : Type 0 where
  pub code : r ≡ code_of a
  pub number : value ≡ lent_number a

-- a key
pub record CodedKey (a : Answer Key) (r objectid kind offset : ℕ) : Type 0 where
  pub code : r ≡ code_of a
  pub first : objectid ≡ result_or 0 (λ key. key.objectid) a
  pub second : kind ≡ result_or 0 (λ key. key.kind) a
  pub third : offset ≡ result_or 0 (λ key. key.offset) a

-- yes or no, as 1 or 0
pub record CodedBool (a : Answer Bool) (r value : ℕ) : Type 0 where
  pub code : r ≡ code_of a
  pub number : value ≡ result_or 0 (λ judgement. cond judgement 1 0) a

-- a part of a lent slice: where it starts and how long it is
pub record CodedPart (a : Answer (List ℕ)) (place : Answer ℕ) (r start len : ℕ) : Type 0 where
  pub code : r ≡ code_of a
  pub first : start ≡ lent_number place
  pub size : len ≡ length (lent_part a)

-- a reference of a body: its kind, its first field, and where its payload starts and how long it is
pub record CodedRef (a : Answer InlineRef) (r kind offset start len : ℕ) : Type 0 where
  pub code : r ≡ code_of a
  pub type : kind ≡ result_or 0 (λ x. x.kind) a
  pub field : offset ≡ result_or 0 (λ x. x.offset) a
  pub first : start ≡ result_or 0 (λ x. x.start) a
  pub size : len ≡ result_or 0 (λ x. x.len) a

-- ---- the calls' answers as numbers: the code, then the lent numbers in order

-- of a result or a refusal
unfoldable pub plain_code : {A : Type 0} → Result A Refusal → ℕ
plain_code (Ok result) = 0
plain_code (Err refusal) = refusal.number

abbrev pub edited_numbers : Result Edited Refusal → List ℕ
edited_numbers (Ok (Written size)) = 0 ∷ size ∷ []
edited_numbers (Ok Absent) = 100 ∷ 0 ∷ []
edited_numbers (Ok Remove) = 101 ∷ 0 ∷ []
edited_numbers (Err refusal) = refusal.number ∷ 0 ∷ []

abbrev pub taken_numbers : Result (Option Taken) Refusal → List ℕ
taken_numbers (Ok (Some taken)) = 0 ∷ taken.size ∷ taken.count ∷ []
taken_numbers (Ok None) = 100 ∷ 0 ∷ 0 ∷ []
taken_numbers (Err refusal) = refusal.number ∷ 0 ∷ 0 ∷ []

abbrev pub told_numbers : Result ℕ Refusal → List ℕ
told_numbers (Ok number) = 0 ∷ number ∷ []
told_numbers (Err refusal) = refusal.number ∷ 0 ∷ []

abbrev pub filed_numbers : Result Key Refusal → List ℕ
filed_numbers (Ok key) = 0 ∷ key.objectid ∷ key.kind ∷ key.offset ∷ []
filed_numbers (Err refusal) = refusal.number ∷ 0 ∷ 0 ∷ 0 ∷ []

abbrev pub judged_numbers : Result Bool Refusal → List ℕ
judged_numbers (Ok judgement) = 0 ∷ cond judgement 1 0 ∷ []
judged_numbers (Err refusal) = refusal.number ∷ 0 ∷ []

abbrev pub picked_numbers : Result InlineRef Refusal → List ℕ
picked_numbers (Ok r) = 0 ∷ r.kind ∷ r.offset ∷ r.start ∷ r.len ∷ []
picked_numbers (Err refusal) = refusal.number ∷ 0 ∷ 0 ∷ 0 ∷ 0 ∷ []

abbrev pub ranged_numbers : Result ItemRange Refusal → List ℕ
ranged_numbers (Ok range) = 0 ∷ range.start ∷ range.size ∷ []
ranged_numbers (Err refusal) = refusal.number ∷ 0 ∷ 0 ∷ []
