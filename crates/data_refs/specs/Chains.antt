-- Data references that stand side by side, in chains by their triples, and where chains lead. Which chain a triple belongs to is any
-- function of it. Assumes nothing.
use Rattle.std.specs.Prelude.{◌≡◌, false, List, ℕ, ◌-◌, ◌≤◌, ◌<◌, get_or}
use Rattle.fields.specs.Lists.{same}
use Rattle.data_refs.specs.Triples.{triple_of}

-- up to so many are not put in chains
abbrev pub few : ℕ
few = 16

pub record Cleared (list : List ℕ) : Type 0 where
  pub none : (k : ℕ) → get_or list k 0 ≡ 0

-- below number i, `at` leads into chain c: one higher than the number of its last reference, 0 where there is none
pub record LeadsBack (chain : List ℕ → ℕ) (body : List ℕ) (from at c i : ℕ) : Type 0 where
  pub inside : at ≤ i
  pub own : 0 < at → chain (triple_of body from (at - 1)) ≡ c
  pub none : (j : ℕ) → at ≤ j → j < i → chain (triple_of body from j) ≡ c → ⊥

-- each of the first i references has a link into its own chain below it
pub record Linked (chain : List ℕ → ℕ) (body : List ℕ) (from : ℕ) (links : List ℕ) (i : ℕ) : Type 0 where
  pub leads : (p : ℕ) → p < i → LeadsBack chain body from (get_or links p 0) (chain (triple_of body from p)) p

-- heads lead into their chains below number i, and links go on
pub record Chained (chain : List ℕ → ℕ) (body : List ℕ) (from : ℕ) (heads links : List ℕ) (i : ℕ) : Type 0 where
  pub headed : (c : ℕ) → LeadsBack chain body from (get_or heads c 0) c i
  pub linked : Linked chain body from links i

-- `at` leads into the chain of a triple, and none of those from `at` on below number i has the triple
pub record Leading (body : List ℕ) (from : ℕ) (links : List ℕ) (i at : ℕ) (t : List ℕ) : Type 0 where
  pub chain : List ℕ → ℕ
  pub linked : Linked chain body from links i
  pub inside : at ≤ i
  pub own : 0 < at → chain (triple_of body from (at - 1)) ≡ chain t
  pub differ : (j : ℕ) → at ≤ j → j < i → same (triple_of body from j) t ≡ false
