-- A list of calls of `post`, each on the sheet that the last accepted one wrote, as their contract tells them; and that it is the
-- list of demand 3. Assumes nothing.
use Rattle.std.specs.Prelude.{◌≡◌, Bool, true, false, not, List, [], ◌∷◌, ℕ, ◌+◌, T, length, take, Result, Ok, Err}
use Rattle.fields.specs.Lists.{all}
use Rattle.format.specs.declared.Change.{Change}
use Rattle.format.specs.declared.Edited.{Edited}
use Rattle.format.specs.declared.Edited.TheVariants.{Written, Absent, Remove}
use Rattle.format.specs.declared.Refusal.{Refusal}
use Rattle.format.specs.Questions.{is_refusal, Answered}
use Rattle.format.specs.Names.{Name, count}
use Rattle.format.specs.Ledger.{posted}
use Rattle.format.specs.History.{Posting, Seen, Tally, history, touched, items_of, sheet_items, balanced_sheet}
use Rattle.theorems.specs.Demand.{Correct}

-- ---- one call: what it was given, what the lent output held before and after, and what it answered

pub record Call : Type 0 where
  pub nodesize : ℕ
  pub change : Change
  pub old : List ℕ
  pub new : List ℕ
  pub result : Result Edited Refusal

abbrev pub CallKept : List ℕ → Call → Type 0
CallKept sheet c = Answered (posted c.nodesize sheet c.change (length c.old)) c.result c.old c.new

-- "accepted", as the caller sees it
abbrev pub was_written : Result Edited Refusal → Bool
was_written (Ok (Written size)) = true
was_written (Ok Absent) = false
was_written (Ok Remove) = false
was_written (Err refusal) = false

-- accepted, or refused with a question's number
abbrev pub was_decided : Result Edited Refusal → Bool
was_decided (Ok (Written size)) = true
was_decided (Ok Absent) = false
was_decided (Ok Remove) = false
was_decided (Err refusal) = is_refusal refusal.number

-- the sheet for the next call: the front of the lent output where it was written, else the same sheet
abbrev pub next_sheet : List ℕ → Result Edited Refusal → List ℕ → List ℕ
next_sheet sheet (Ok (Written size)) new = take size new
next_sheet sheet (Ok Absent) new = sheet
next_sheet sheet (Ok Remove) new = sheet
next_sheet sheet (Err refusal) new = sheet

-- ---- a list of calls

abbrev pub CallsKept : List ℕ → List Call → Type 0
CallsKept sheet [] = Unit {0}
CallsKept sheet (c ∷ calls) = CallKept sheet c × CallsKept (next_sheet sheet c.result c.new) calls

abbrev pub last_sheet : List ℕ → List Call → List ℕ
last_sheet sheet [] = sheet
last_sheet sheet (c ∷ calls) = last_sheet (next_sheet sheet c.result c.new) calls

abbrev pub seen_by : List Call → List Seen
seen_by [] = []
seen_by (c ∷ calls) = record { change = c.change; accepted = was_written c.result } ∷ seen_by calls

-- the postings that these calls are
abbrev pub posting_of : Call → Posting
posting_of c = record { nodesize = c.nodesize; change = c.change; room = length c.old }

abbrev pub postings_of : List Call → List Posting
postings_of [] = []
postings_of (c ∷ calls) = posting_of c ∷ postings_of calls

-- the history of a name, from what the caller saw
abbrev pub tally_by : Name → List ℕ → List Call → Tally
tally_by n sheet calls = history n (count n (sheet_items sheet)) (seen_by calls)

-- ---- demand 3 of what the calls answered and wrote

abbrev pub CallsCorrect : List ℕ → List Call → Type 0
CallsCorrect sheet [] = Unit {0}
CallsCorrect sheet (c ∷ calls) =
    Correct sheet (posting_of c) (was_written c.result) (next_sheet sheet c.result c.new)
    × CallsCorrect (next_sheet sheet c.result c.new) calls

pub record CallsDemand3 (sheet : List ℕ) (calls : List Call) : Type 0 where
  pub correct : CallsCorrect sheet calls
  pub counts : (n : Name)
      → count n (sheet_items (last_sheet sheet calls)) + (tally_by n sheet calls).taken
      ≡ count n (sheet_items sheet) + (tally_by n sheet calls).given
  pub balance : T (balanced_sheet (last_sheet sheet calls))
  pub untouched : (extent : ℕ) → T (not (touched extent (seen_by calls)))
      → items_of extent (sheet_items (last_sheet sheet calls)) ≡ items_of extent (sheet_items sheet)
  pub decided : T (all (λ (c : Call). was_decided c.result) calls)
