-- Sums and tests over lists, and the first element that passes a test with what stands before and after it. Assumes nothing.
use Rattle.std.specs.Prelude.{Bool, true, false, ◌&&◌, cond, List, [], ◌∷◌, ℕ, ◌+◌, eqb}
use Rattle.std.proofs.Math.Option.{Option, none, some, map}

abbrev pub sum : {A : Type 0} → (A → ℕ) → List A → ℕ
sum f [] = 0
sum f (x ∷ list) = f x + sum f list

abbrev pub all : {A : Type 0} → (A → Bool) → List A → Bool
all p [] = true
all p (x ∷ list) = p x && all p list

-- two lists of numbers are the same
unfoldable pub same : List ℕ → List ℕ → Bool
same [] [] = true
same [] (y ∷ more) = false
same (x ∷ list) [] = false
same (x ∷ list) (y ∷ more) = eqb x y && same list more

-- a list taken apart at one of its elements
pub record Cut (A : Type 0) : Type 0 where
  pub front : List A
  pub hit : A
  pub back : List A

abbrev pub later : {A : Type 0} → A → Cut A → Cut A
later x c = record { front = x ∷ c.front; hit = c.hit; back = c.back }

-- at the first element that passes
abbrev pub first_cut : {A : Type 0} → (A → Bool) → List A → Option (Cut A)
first_cut p [] = none
first_cut p (x ∷ list) = cond (p x) (some (record { front = []; hit = x; back = list })) (map (later x) (first_cut p list))
