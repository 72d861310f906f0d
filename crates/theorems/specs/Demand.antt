-- Demand 3 of document 01, "The entry", as one claim on any list of postings from any balanced sheet. What a sheet, a change and
-- a posting are, when a sheet is balanced, what a name counts and what the history says stand in the crate `format`, in Names,
-- Ledger and History; when a posting is accepted stands in Acceptance. Assumes nothing.
use Rattle.std.specs.Prelude.{◌≡◌, Bool, not, List, [], ◌∷◌, ℕ, ◌+◌, ◌^◌, T, ltb}
use Rattle.fields.specs.Lists.{all}
use Rattle.format.specs.declared.Change.{Change}
use Rattle.format.specs.Questions.{Answer, refused, accepted, is_refusal}
use Rattle.format.specs.Names.{Name, count}
use Rattle.format.specs.Ledger.{name_of}
use Rattle.format.specs.History.{Posting, answer_to, sheet_after, is_accepted, run, all_seen, history_of, touched, items_of, sheet_items, balanced_sheet}
use Rattle.theorems.specs.Acceptance.{AllYes, Made, Exactly}

-- ---- what the types of the numbers give

-- the numbers of a change's name are 64 bits wide; extent, amount, nodesize and room may be any numbers
pub record Wide (c : Change) : Type 0 where
  pub fields : T (all (λ w. ltb w (2 ^ 64)) (name_of c).fields)

abbrev pub Wides : List Posting → Type 0
Wides [] = Unit {0}
Wides (p ∷ postings) = Wide p.change × Wides postings

-- ---- an answer that is a refusal with its number, or a sheet

pub data Decided (answer : Answer (List ℕ)) : Type 0 where
  no : (number : ℕ) → T (is_refusal number) → answer ≡ refused number → Decided answer
  yes : (sheet : List ℕ) → answer ≡ accepted sheet → Decided answer

-- ---- one posting at its own sheet: whether it was accepted, and the sheet for the next one

pub record Correct (sheet : List ℕ) (p : Posting) (accepted : Bool) (next : List ℕ) : Type 0 where
  -- it was accepted exactly if each of its questions is answered yes
  pub exactly : Exactly (T accepted) (AllYes p.nodesize sheet p.change p.room)
  -- then the next sheet is the one that its change makes, else it is the same
  pub made : T accepted → Made p.nodesize sheet p.change next
  pub same : T (not accepted) → next ≡ sheet

abbrev pub AllCorrect : List ℕ → List Posting → Type 0
AllCorrect sheet [] = Unit {0}
AllCorrect sheet (p ∷ postings) =
    Correct sheet p (is_accepted (answer_to sheet p)) (sheet_after sheet (answer_to sheet p))
    × AllCorrect (sheet_after sheet (answer_to sheet p)) postings

-- ---- demand 3

pub record Demand3 (sheet : List ℕ) (postings : List Posting) : Type 0 where
  -- each posting is accepted or refused, and an accepted one's sheet made, as document 01 says
  pub correct : AllCorrect sheet postings
  -- every name counts its opening plus given minus taken, without a floor: as an equation of sums
  pub counts : (n : Name)
      → count n (sheet_items (run sheet postings)) + (history_of n sheet postings).taken
      ≡ count n (sheet_items sheet) + (history_of n sheet postings).given
  -- the sheet is still balanced
  pub balance : T (balanced_sheet (run sheet postings))
  -- an extent that no accepted change named has the items that it opened with, in the same order
  pub untouched : (extent : ℕ) → T (not (touched extent (all_seen sheet postings)))
      → items_of extent (sheet_items (run sheet postings)) ≡ items_of extent (sheet_items sheet)
  -- a posting to any sheet, balanced or not, is refused or accepted, never absent or remove
  pub decided : (s : List ℕ) (p : Posting) → Decided (answer_to s p)
