use mathlib.Core.Path.{◌≡◌, refl, ap, ◌∙◌}
use mathlib.Core.List.{List, []}
use Prim.Native.Nat.{ℕ}
use native.Mathlib.Omega.{arith}
use lib.ListN.{get_or}
use Rattle.format.specs.References.{kinds, row_in}
use Rattle.inline_refs.specs.Steps.{row_from}
use Rattle.inline_refs.proofs.Steps.{row-found, row-miss}
use Rattle.inline_refs.proofs.kinds.Kinds.row_of.Goals as goal

pub returns-then-row-kind : goal.returns-then-row-kind
returns-then-row-kind c =
    let l = c.loop-row in
    row-found _ l.row-index _ _ _ c.args.self.now.table (omega arith) c.if-row-kind.true l.invariant refl refl

pub loop-row-preserved : goal.loop-row-preserved
loop-row-preserved c =
    let i = c.loop-row.row-index in
    row-miss kinds i _ (omega arith) _ (ap (λ (t : List (List ℕ)). get_or t i []) c.args.self.now.table) c.if-row-kind.false
    ∙ c.loop-row.invariant

pub returns : goal.returns
unfolding row_from row_in
returns c =
    let five : c.loop-row.row-index ≡ 5 = omega arith in
    ap row_from (rw five at c.loop-row.invariant)
