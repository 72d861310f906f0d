-- Demand 3 at a list of calls that is computed from the list of postings (format's proofs, Postings): what it assumes can be met,
-- and the calls end at the sheet that document 01 says. Assumes nothing.
use mathlib.Core.Path.{◌≡◌, refl, sym, ap, ap₂, ◌∙◌, subst}
use mathlib.Core.List.{List, [], ◌∷◌}
use Prim.Native.Nat.{ℕ}
use lib.ListN.{length, replicate, length-replicate}
use Rattle.format.specs.Questions.{Answer, edited_of, lent}
use Rattle.format.specs.Ledger.{posted}
use Rattle.format.specs.History.{Posting, run}
use Rattle.format.proofs.Computed.{computed}
use Rattle.format.proofs.Postings.{opening, closing, postings, opens, closes}
use Rattle.theorems.specs.Demand.{Wides}
use Rattle.theorems.proofs.Instance.{wide}
use Rattle.theorems.specs.Calls.{Call, next_sheet, CallsKept, last_sheet, postings_of, CallsDemand3}
use Rattle.theorems.proofs.Calls.{same-run, calls-demand-3}

-- a call that keeps its contract, with zeros in the lent output before it
abbrev call_for : List ℕ → Posting → Call
call_for sheet p =
    let old : List ℕ = replicate p.room 0 in
    let answer : Answer (List ℕ) = posted p.nodesize sheet p.change (length old) in
    record { nodesize = p.nodesize; change = p.change; old = old; new = lent answer old; result = edited_of answer }

abbrev next_for : List ℕ → Posting → List ℕ
next_for sheet p = next_sheet sheet (call_for sheet p).result (call_for sheet p).new

abbrev calls_for : List ℕ → List Posting → List Call
calls_for sheet [] = []
calls_for sheet (p ∷ list) = call_for sheet p ∷ calls_for (next_for sheet p) list

kept : (sheet : List ℕ) (list : List Posting) → CallsKept sheet (calls_for sheet list)
kept sheet [] = tt
kept sheet (p ∷ list) = (record { result = refl; output = refl }, kept (next_for sheet p) list)

same-postings : (sheet : List ℕ) (list : List Posting) → postings_of (calls_for sheet list) ≡ list
same-postings sheet [] = refl
same-postings sheet (p ∷ list) =
    ap₂ (λ (n : ℕ) (l : List Posting). record { nodesize = p.nodesize; change = p.change; room = n } ∷ l)
    (length-replicate p.room 0) (same-postings (next_for sheet p) list)

pub calls : List Call
calls = calls_for opening postings

pub met : CallsDemand3 opening calls
unfolding computed calls opening
met = calls-demand-3 opening calls tt opens (subst Wides (sym (same-postings opening postings)) wide) (kept opening postings)

pub ends : last_sheet opening calls ≡ closing
unfolding calls
ends = same-run opening calls (kept opening postings) ∙ ap (run opening) (same-postings opening postings) ∙ closes
