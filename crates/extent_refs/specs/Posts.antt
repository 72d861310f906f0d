-- A posting whose change arrives as numbers (document 01, "The entry"): fields that a change does not use play no part. A list of
-- calls of the exported `ledger_post`, each on the sheet that the last accepted one wrote, is a list of calls of `post` (theorems,
-- Calls), of which demand 3 is stated. Assumes nothing.
use Rattle.std.specs.Prelude.{Bool, false, ◌&&◌, cond, List, [], ◌∷◌, ℕ, ◌^◌, ltb, eqb, length, Result, Ok}
use Rattle.std.proofs.Math.Option.{Option, none, some}
use Rattle.format.specs.declared.Change.{Change}
use Rattle.format.specs.declared.Change.TheVariants.{AddBlock, AddData, AddShared, DropBlock, DropData, DropShared}
use Rattle.format.specs.declared.Edited.{Edited}
use Rattle.format.specs.declared.Edited.TheVariants.{Written}
use Rattle.format.specs.declared.Refusal.{Refusal}
use Rattle.format.specs.Questions.{Answer, accepted, denied}
use Rattle.format.specs.Items.{on_sheet, held_sheet}
use Rattle.format.specs.Ledger.{posted}
use Rattle.theorems.specs.Calls.{Call, next_sheet}
use Rattle.extent_refs.specs.Exports.{Coded}

-- the change of that number, with its name's fields in document 01's order. A shared kind is the whole 64-bit field
unfoldable pub change_of : ℕ → ℕ → ℕ → ℕ → ℕ → ℕ → Option Change
change_of number extent a b c amount =
    cond (eqb number 1) (some (AddBlock extent (record { tree = a })))
    (cond (eqb number 2) (some (AddData extent (record { tree = a; objectid = b; offset = c }) amount))
    (cond (eqb number 3) (some (AddShared extent (record { kind = a; parent = b }) amount))
    (cond (eqb number 4) (some (DropBlock extent (record { tree = a })))
    (cond (eqb number 5) (some (DropData extent (record { tree = a; objectid = b; offset = c })))
    (cond (eqb number 6) (some (DropShared extent (record { kind = a; parent = b }) amount))
    none)))))

-- another number is refusal 3, put where 3 stands
unfoldable pub posted_if : ℕ → List ℕ → Option Change → ℕ → Answer (List ℕ)
posted_if nodesize sheet (some change) room = posted nodesize sheet change room
posted_if nodesize sheet none room = held_sheet room (on_sheet sheet false (λ items. accepted items))

-- ---- the same as a change that `Change` can hold, whose kind has 8 bits: what would be refused with 3 is one of kind 0

unfoldable pub narrowed : ℕ → ℕ
narrowed kind = cond (ltb kind 256) kind 0

unfoldable pub stand_in : Option Change → Change
stand_in none = DropShared 0 (record { kind = 0; parent = 0 }) 0
stand_in (some (AddBlock extent name)) = AddBlock extent name
stand_in (some (AddData extent name amount)) = AddData extent name amount
stand_in (some (AddShared extent name amount)) = AddShared extent (record { kind = narrowed name.kind; parent = name.parent }) amount
stand_in (some (DropBlock extent name)) = DropBlock extent name
stand_in (some (DropData extent name)) = DropData extent name
stand_in (some (DropShared extent name amount)) = DropShared extent (record { kind = narrowed name.kind; parent = name.parent }) amount

-- ---- one call: the numbers that it was given, what the lent output held before and after, the code and the lent length

pub record PostCall : Type 0 where
  pub nodesize : ℕ
  pub number : ℕ
  pub extent : ℕ
  pub a : ℕ
  pub b : ℕ
  pub c : ℕ
  pub amount : ℕ
  pub old : List ℕ
  pub new : List ℕ
  pub code : ℕ
  pub size : ℕ

abbrev pub asked : PostCall → Option Change
asked p = change_of p.number p.extent p.a p.b p.c p.amount

-- the contract of the call
abbrev pub PostKept : List ℕ → PostCall → Type 0
PostKept sheet p = Coded (posted_if p.nodesize sheet (asked p) (length p.old)) p.code p.size p.old p.new

-- what the types of the numbers give: the fields of a name are 64 bits wide
abbrev pub is_wide : PostCall → Bool
is_wide p = ltb p.a (2 ^ 64) && (ltb p.b (2 ^ 64) && ltb p.c (2 ^ 64))

-- ---- the call of `post` that it is

-- as the caller reads it: code 0 is accepted, another the refusal
abbrev pub answer_by : ℕ → ℕ → Result Edited Refusal
answer_by code size = cond (eqb code 0) (Ok (Written size)) (denied code)

-- a number that is no change's, and a shared kind above 8 bits, are a change that is refused 3
abbrev pub call_of : PostCall → Call
call_of p =
    record {
      nodesize = p.nodesize;
      change = stand_in (asked p);
      old = p.old;
      new = p.new;
      result = answer_by p.code p.size;
    }

-- ---- a list of calls

abbrev pub PostsKept : List ℕ → List PostCall → Type 0
PostsKept sheet [] = Unit {0}
PostsKept sheet (p ∷ posts) = PostKept sheet p × PostsKept (next_sheet sheet (call_of p).result p.new) posts

abbrev pub calls_of : List PostCall → List Call
calls_of [] = []
calls_of (p ∷ posts) = call_of p ∷ calls_of posts
