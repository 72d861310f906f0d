-- Demand 3 at a computed list of calls of `ledger_post`: a block added, a number that is no change's, a shared reference dropped.
-- What it assumes can be met. Assumes nothing.
use mathlib.Core.Path.{refl}
use mathlib.Core.List.{List, [], ◌∷◌}
use Prim.Native.Nat.{ℕ}
use lib.ListN.{length, replicate}
use Rattle.format.specs.Questions.{Answer, code_of, lent_part, lent}
use Rattle.format.proofs.Computed.{computed}
use Rattle.format.proofs.Postings.{opening, opens}
use Rattle.theorems.specs.Calls.{next_sheet, CallsDemand3}
use Rattle.extent_refs.specs.Posts.{change_of, posted_if, PostCall, answer_by, PostsKept, calls_of}
use Rattle.extent_refs.proofs.Posts.{posts-demand-3}

-- number, a and b of a call on the block at 8192
record Numbers : Type 0 where
  number : ℕ
  a : ℕ
  b : ℕ

-- a call that keeps its contract, with zeros in the lent output before it
abbrev post_for : List ℕ → Numbers → PostCall
post_for sheet n =
    let old : List ℕ = replicate 1000 0 in
    let answer : Answer (List ℕ) = posted_if 4096 sheet (change_of n.number 8192 n.a n.b 0 1) (length old) in
    record {
      nodesize = 4096;
      number = n.number;
      extent = 8192;
      a = n.a;
      b = n.b;
      c = 0;
      amount = 1;
      old = old;
      new = lent answer old;
      code = code_of answer;
      size = length (lent_part answer);
    }

abbrev next_for : List ℕ → Numbers → List ℕ
next_for sheet n = next_sheet sheet (answer_by (post_for sheet n).code (post_for sheet n).size) (post_for sheet n).new

abbrev posts_for : List ℕ → List Numbers → List PostCall
posts_for sheet [] = []
posts_for sheet (n ∷ list) = post_for sheet n ∷ posts_for (next_for sheet n) list

kept : (sheet : List ℕ) (list : List Numbers) → PostsKept sheet (posts_for sheet list)
kept sheet [] = tt
kept sheet (n ∷ list) = (record { code = refl; size = refl; output = refl }, kept (next_for sheet n) list)

abbrev numbers : List Numbers
numbers =
    record { number = 1; a = 7; b = 0 } ∷ record { number = 9; a = 7; b = 0 } ∷ record { number = 6; a = 182; b = 100 } ∷ []

pub met : CallsDemand3 opening (calls_of (posts_for opening numbers))
unfolding computed opening
met = posts-demand-3 opening (posts_for opening numbers) tt opens tt (kept opening numbers)
