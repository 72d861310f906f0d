use borrow.Author.Rules.{rules}
use mathlib.Core.Path.{sym, ◌∙◌}
use Prim.Native.Nat.{◌+◌}
use native.Mathlib.Omega.{arith}
use Rattle.item_list.proofs.Steps.{WholeAt, whole-size, past_next}
use Rattle.item_list.proofs.Reading.{checked-end, checked-broken, checked-step}
use Rattle.item_list.proofs.checking.check_behind.Goals as goal
use Rattle.item_list.proofs.checking.check_behind.Goals.{Else-size-eq0}

pub returns-then-size-eq0 : goal.returns-then-size-eq0
returns-then-size-eq0 c = sym (c.loop-at.invariant.2 ∙ checked-broken _ _ _ _ _ c.loop-at-test.true (sym c.size_after-size.ensures ∙ c.if-size-eq0.true))

-- the item at hand
here : (c : Else-size-eq0) → WholeAt c.args.s.now c.loop-at.at (c.loop-at.at + c.size_after-size.result)
here c = whole-size _ _ _ c.size_after-size.ensures c.if-size-eq0.false c.loop-at.invariant.0.inside

pub key_at-here-requires : goal.key_at-here-requires
key_at-here-requires c = let w = here (goal.at.key_at-here-requires c).Else-size-eq0 in omega arith

pub overflow_add-at : goal.overflow_add-at
overflow_add-at c = let w = here (goal.at.overflow_add-at c).Else-size-eq0 in search rules

pub loop-at-preserved : goal.loop-at-preserved
loop-at-preserved c =
    let i = c.loop-at.invariant in
    let few = i.1 in
    let w = here (goal.at.loop-at-preserved c).Else-size-eq0 in (
      past_next w,
      omega arith,
      i.2 ∙ checked-step _ _ _ _ _ _ _ _ c.loop-at-test.true c.size_after-size.ensures c.if-size-eq0.false c.key_at-here.ensures c.follows-rising.ensures,
    )

pub returns : goal.returns
returns c = c.verdict.ensures ∙ sym (c.loop-at.invariant.2 ∙ checked-end _ _ _ _ _ c.loop-at-test.false)
