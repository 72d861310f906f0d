-- Document 01, "Questions at the door": what a call answers, in which order its questions are put, and what a lent output
-- holds afterwards. Assumes nothing.
use Rattle.std.specs.Prelude.{◌≡◌, Bool, true, false, ◌&&◌, cond, List, [], ◌++◌, ℕ, leb, ltb, length, drop, Result, Ok, Err, Option, Some, None}
use Rattle.std.proofs.Math.Option.{Option as Maybe, none, some}
use Rattle.format.specs.declared.Refusal.{Refusal}
use Rattle.format.specs.declared.Edited.{Edited}
use Rattle.format.specs.declared.Edited.TheVariants.{Written, Absent, Remove}
use Rattle.format.specs.declared.Dropped.{Dropped}
use Rattle.format.specs.declared.Dropped.TheVariants.{Written as Less, Absent as Unfound, Remove as Last}
use Rattle.format.specs.declared.Taken.{Taken}

-- ---- answers

-- the number of the first question answered "no"; or no match, which is no refusal; or the item goes; or the result
pub data Answer (A : Type 0) : Type 0 where
  refused : ℕ → Answer A
  absent : Answer A
  remove : Answer A
  accepted : A → Answer A

-- the number of a question: not 0, which says accepted, and none of the codes from 100 on
abbrev pub is_refusal : ℕ → Bool
is_refusal number = leb 1 number && ltb number 100

-- refused with such a number, or accepted: neither absent nor remove
abbrev pub decides : {A : Type 0} → Answer A → Bool
decides (refused number) = is_refusal number
decides absent = false
decides remove = false
decides (accepted result) = true

-- not remove
abbrev pub keeps : {A : Type 0} → Answer A → Bool
keeps (refused number) = is_refusal number
keeps absent = true
keeps remove = false
keeps (accepted result) = true

-- "The first 'no' is the refusal": a question with its number, and what follows a "yes"
unfoldable pub ask : {A : Type 0} → Bool → ℕ → Answer A → Answer A
ask true number next = next
ask false number next = refused number

-- what follows a result
unfoldable pub bind : {A B : Type 0} → Answer A → (A → Answer B) → Answer B
bind (refused number) next = refused number
bind absent next = absent
bind remove next = remove
bind (accepted result) next = next result

-- question 5 and its like: what is not there is that refusal
unfoldable pub needed : {A : Type 0} → ℕ → Maybe A → Answer A
needed number none = refused number
needed number (some it) = accepted it

-- "An inline search that finds no match says absent"
unfoldable pub found : {A : Type 0} → Maybe A → Answer A
found none = absent
found (some it) = accepted it

-- where a search says absent, the second decides
unfoldable pub if_absent : {A : Type 0} → Answer A → Answer A → Answer A
if_absent (refused number) other = refused number
if_absent absent other = other
if_absent remove other = remove
if_absent (accepted result) other = accepted result

-- a further question put to a call, in its place among the call's own: the first "no" is the one with the lower number. So 22,
-- which document 02 puts after 14, is never put by it
unfoldable pub also : {A : Type 0} → Bool → ℕ → Answer A → Answer A
also true number answer = answer
also false number (refused other) = refused (cond (leb other number) other number)
also false number absent = refused number
also false number remove = refused number
also false number (accepted result) = refused number

-- question 21: the lent output and the limits hold the result
unfoldable pub held : {A : Type 0} → (A → Bool) → Answer A → Answer A
held holds answer = bind answer (λ result. ask (holds result) 21 (accepted result))

-- of a text, the lent output alone
abbrev pub held_text : ℕ → List ℕ → Answer (List ℕ)
held_text room text = held (λ bytes. leb (length bytes) room) (accepted text)

-- ---- what is made of an answer

-- of its result; the other where it has none
abbrev pub result_or : {A B : Type 0} → B → (A → B) → Answer A → B
result_or other make (refused number) = other
result_or other make absent = other
result_or other make remove = other
result_or other make (accepted result) = make result

-- of its result, or of its code: 100 for absent, 101 for remove, else the number of the refusal
abbrev pub result_or_code : {A B : Type 0} → (ℕ → B) → (A → B) → Answer A → B
result_or_code other make (refused number) = other number
result_or_code other make absent = other 100
result_or_code other make remove = other 101
result_or_code other make (accepted result) = make result

-- ---- the lent output: "Bytes past an accepted result keep their value", and without a result all do

unfoldable pub lent : Answer (List ℕ) → List ℕ → List ℕ
lent answer old = result_or old (λ result. result ++ drop (length result) old) answer

-- a lent number, or a part that is handed back: the result, else nothing. So "Absent and remove have result length 0", and a
-- refusal too
unfoldable pub lent_number : Answer ℕ → ℕ
lent_number answer = result_or 0 (λ result. result) answer

unfoldable pub lent_part : Answer (List ℕ) → List ℕ
lent_part answer = result_or [] (λ result. result) answer

-- ---- the answers as numbers and as calls hand them back

-- 0 for a result
unfoldable pub code_of : {A : Type 0} → Answer A → ℕ
code_of answer = result_or_code (λ code. code) (λ result. 0) answer

-- a refusal by its number, as a call hands it back
abbrev pub denied : {A : Type 0} → ℕ → Result A Refusal
denied number = Err (record { number = number })

unfoldable pub edited_of : Answer (List ℕ) → Result Edited Refusal
edited_of (refused number) = denied number
edited_of absent = Ok Absent
edited_of remove = Ok Remove
edited_of (accepted result) = Ok (Written (length result))

-- the same with a number that only a result has: how many are left under the name that a drop touched (Left)
unfoldable pub dropped_of : ℕ → Answer (List ℕ) → Result Dropped Refusal
dropped_of left (refused number) = denied number
dropped_of left absent = Ok Unfound
dropped_of left remove = Ok Last
dropped_of left (accepted result) = Ok (Less (length result) left)

-- a body with the count of the reference that was taken out of it
pub record TakenOut : Type 0 where
  pub bytes : List ℕ
  pub count : ℕ

abbrev pub bytes_of : Answer TakenOut → Answer (List ℕ)
bytes_of answer = bind answer (λ out. accepted out.bytes)

-- a reference that is taken out is never answered by remove (`take-keeps` in proofs/Decisions), so 101 does not come
unfoldable pub taken_of : Answer TakenOut → Result (Option Taken) Refusal
taken_of (refused number) = denied number
taken_of absent = Ok None
taken_of remove = denied 101
taken_of (accepted out) = Ok (Some (record { size = length out.bytes; count = out.count }))

-- a number, a judgement, a key or a reference: the calls that answer so decide (proofs/Decisions has the law of each), so 100 and
-- 101 do not come
unfoldable pub told_of : {A : Type 0} → Answer A → Result A Refusal
told_of answer = result_or_code denied Ok answer

-- ---- the contract of a call with a lent output: its answer, and what the output held before and holds after

pub record Answered (a : Answer (List ℕ)) (r : Result Edited Refusal) (old new : List ℕ) : Type 0 where
  pub result : r ≡ edited_of a
  pub output : new ≡ lent a old

-- the same where the result comes with how many are left
pub record AnsweredDropped (a : Answer (List ℕ)) (left : ℕ) (r : Result Dropped Refusal) (old new : List ℕ) : Type 0 where
  pub result : r ≡ dropped_of left a
  pub output : new ≡ lent a old

pub record AnsweredTaken (a : Answer TakenOut) (r : Result (Option Taken) Refusal) (old new : List ℕ) : Type 0 where
  pub result : r ≡ taken_of a
  pub output : new ≡ lent (bytes_of a) old
