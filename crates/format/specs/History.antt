-- Document 01, "The entry", with document 02's ticket 1: a list of postings, and the history, "a plain tally". Assumes nothing.
use Rattle.std.specs.Prelude.{Bool, true, false, ◌&&◌, ◌||◌, cond, List, [], ◌∷◌, ℕ, ◌+◌, eqb}
use Rattle.format.specs.declared.Change.{Change}
use Rattle.format.specs.declared.Change.TheVariants.{AddBlock, AddData, AddShared, DropBlock, DropData, DropShared}
use Rattle.format.specs.Questions.{Answer, result_or}
use Rattle.format.specs.Items.{Item, read_sheet}
use Rattle.format.specs.Names.{Name, same_name, count, balanced}
use Rattle.format.specs.Ledger.{name_of, posted}

-- ---- a list of postings, each on the sheet that the last accepted one made, with whatever nodesize and lent room

pub record Posting : Type 0 where
  pub nodesize : ℕ
  pub change : Change
  pub room : ℕ

unfoldable pub answer_to : List ℕ → Posting → Answer (List ℕ)
answer_to sheet p = posted p.nodesize sheet p.change p.room

abbrev pub sheet_after : List ℕ → Answer (List ℕ) → List ℕ
sheet_after sheet answer = result_or sheet (λ result. result) answer

abbrev pub is_accepted : Answer (List ℕ) → Bool
is_accepted answer = result_or false (λ result. true) answer

abbrev pub run : List ℕ → List Posting → List ℕ
run sheet [] = sheet
run sheet (p ∷ postings) = run (sheet_after sheet (answer_to sheet p)) postings

-- "After the opening it sees only each change and whether it was accepted"
pub record Seen : Type 0 where
  pub change : Change
  pub accepted : Bool

abbrev pub all_seen : List ℕ → List Posting → List Seen
all_seen sheet [] = []
all_seen sheet (p ∷ postings) =
    record { change = p.change; accepted = is_accepted (answer_to sheet p) } ∷ all_seen (sheet_after sheet (answer_to sheet p)) postings

-- ---- the tally of one name: "opening, .. and given and taken, which start at 0, all without limit or floor"

pub record Tally : Type 0 where
  pub opening : ℕ
  pub given : ℕ
  pub taken : ℕ

abbrev pub gave : Tally → ℕ → Tally
gave t amount = record { opening = t.opening; given = t.given + amount; taken = t.taken }

abbrev pub took : Tally → ℕ → Tally
took t amount = record { opening = t.opening; given = t.given; taken = t.taken + amount }

-- "The books' history subtracts the amount instead of the whole"
unfoldable pub enter : Change → Tally → Tally
enter (AddBlock extent name) t = gave t 1
enter (AddData extent name amount) t = gave t amount
enter (AddShared extent name amount) t = gave t amount
enter (DropBlock extent name) t = took t 1
enter (DropData extent name) t = took t 1
enter (DropShared extent name amount) t = took t amount

-- "A refused one moves nothing. Accepted, under the change's name"
abbrev pub tally_from : Name → Tally → List Seen → Tally
tally_from n t [] = t
tally_from n t (s ∷ more) = tally_from n (cond (s.accepted && same_name n (name_of s.change)) (enter s.change t) t) more

abbrev pub history : Name → ℕ → List Seen → Tally
history n opening list = tally_from n (record { opening = opening; given = 0; taken = 0 }) list

-- ---- what demand 3 speaks of

-- the items of a sheet, none where it is refused
unfoldable pub items_in : Answer (List Item) → List Item
items_in answer = result_or [] (λ items. items) answer

abbrev pub sheet_items : List ℕ → List Item
sheet_items sheet = items_in (read_sheet sheet)

-- the history of a name over a list of postings from an opening sheet
abbrev pub history_of : Name → List ℕ → List Posting → Tally
history_of n sheet postings = history n (count n (sheet_items sheet)) (all_seen sheet postings)

-- an accepted change named the extent
abbrev pub touched : ℕ → List Seen → Bool
touched extent [] = false
touched extent (s ∷ more) = (s.accepted && eqb (name_of s.change).extent extent) || touched extent more

-- the items of one extent, in order
abbrev pub items_of : ℕ → List Item → List Item
items_of extent [] = []
items_of extent (i ∷ items) = cond (eqb i.key.objectid extent) (i ∷ items_of extent items) (items_of extent items)

-- a sheet that passes questions 1, 2 and 4
abbrev pub passes : Answer (List Item) → Bool
passes answer = result_or false balanced answer

abbrev pub balanced_sheet : List ℕ → Bool
balanced_sheet sheet = passes (read_sheet sheet)
