-- What a call says of an item where it ends early, at a `?`. Assumes nothing.
use mathlib.Core.Path.{◌≡◌, refl, sym, ap, ◌∙◌, subst}
use mathlib.Core.Logic.{◌⊎◌, inl, inr}
use Prim.Native.Nat.{ℕ}
use native.Mathlib.Omega.{arith}
use mathlib.Core.List.{List}
use Rattle.std.specs.Prelude.{Option, Some, None, Result, Ok, Err}
use Rattle.std.specs.Result.{result_ok, result_unwrap_or}
use Rattle.format.specs.Items.{Item}
use Rattle.balance.specs.declared.group.Group.{Group}
use Rattle.balance.specs.Groups.{kept_after, Taking}

-- ---- a result of which the refusal is dropped

module _ {A E : Type 0} where
  pub ok-some : (r : Result A E) {o : Option A} {x : A} → o ≡ result_ok r → o ≡ Some x → r ≡ Ok x
  ok-some (Ok y) e h = let z : ◌≡◌ {A = Option A} (Some y) (Some _) = sym e ∙ h in cc
  ok-some (Err y) e h = let z : ◌≡◌ {A = Option A} None (Some _) = sym e ∙ h in let q : ◌≡◌ {A = ℕ} 0 1 = cc in absurd (omega arith)

  pub ok-none : (r : Result A E) {o : Option A} → o ≡ result_ok r → o ≡ None → (y : E) × (r ≡ Err y)
  ok-none (Ok y) e h = let z : ◌≡◌ {A = Option A} (Some y) None = sym e ∙ h in let q : ◌≡◌ {A = ℕ} 0 1 = cc in absurd (omega arith)
  ok-none (Err y) e h = (y, refl)

  -- a step where none is left after a refusal
  module _ (r : Result (Option A) E) {o : Option A} (e : o ≡ result_unwrap_or r None) where
    pub step-some : {x : A} → o ≡ Some x → r ≡ Ok (Some x)
    step-some {x = x} h = go r (sym e ∙ h)
      where
        go : (q : Result (Option A) E) → result_unwrap_or q None ≡ Some x → q ≡ Ok (Some x)
        go (Ok p) k = ap Ok k
        go (Err y) k = let q : ◌≡◌ {A = ℕ} 0 1 = cc in absurd (omega arith)

    pub step-none : o ≡ None → (r ≡ Ok None) ⊎ ((y : E) × (r ≡ Err y))
    step-none h = go r (sym e ∙ h)
      where
        go : (q : Result (Option A) E) → result_unwrap_or q None ≡ None → (q ≡ Ok None) ⊎ ((y : E) × (q ≡ Err y))
        go (Ok p) k = inl (ap Ok k)
        go (Err y) k = inr (y, refl)

-- ---- an item that may not stand there

pub not-taken : (s : List ℕ) (g : Group) (i : Item) (next : ℕ) (h : Group) (o : Option (Unit {0})) → o ≡ None → Taking s g i next None → Taking s g i next (kept_after o h)
not-taken s g i next h o e t = subst (λ (p : Option (Unit {0})). Taking s g i next (kept_after p h)) (sym e) t
