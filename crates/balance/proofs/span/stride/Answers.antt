use mathlib.Core.Path.{sym, ap, ◌∙◌}
use Prim.Native.Nat.{ℕ, ◌+◌}
use native.Mathlib.Omega.{arith}
use Rattle.inline_refs.proofs.RowLengths.{row-says, no-row-says}
use Rattle.balance.proofs.span.stride.Goals as goal

pub overflow_add-result : goal.overflow_add-result
overflow_add-result c = omega (arith, (row-says _ _ (sym c.in-Some.is ∙ c.row_of.ensures)).2)

pub returns-in-Some : goal.returns-in-Some
returns-in-Some c = ap (λ (n : ℕ). 1 + n) (row-says _ _ (sym c.in-Some.is ∙ c.row_of.ensures)).0

pub returns-in-None : goal.returns-in-None
returns-in-None c = ap (λ (n : ℕ). 1 + n) (no-row-says _ (sym c.in-None.is ∙ c.row_of.ensures)).0
