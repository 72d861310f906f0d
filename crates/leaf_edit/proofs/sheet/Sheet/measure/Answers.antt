use mathlib.Core.Path.{refl, sym, subst}
use native.Mathlib.Omega.{arith}
use Rattle.std.specs.Prelude.{Ok}
use Rattle.item_list.specs.Steps.{list_items}
use Rattle.leaf_edit.specs.declared.division.Division.{Division}
use Rattle.item_list.proofs.Steps.{past_first, past_next}
use Rattle.item_list.proofs.Reading.{list-some}
use Rattle.item_list.proofs.Walks.{rest_all, rest_end}
use Rattle.leaf_edit.specs.Division.{Divided}
use Rattle.leaf_edit.proofs.Running.{item-here, passed-bound, space-here}
use Rattle.leaf_edit.proofs.Together.{measuring-none, measuring-all, measuring-over, measuring-stays, measuring-starts}
use Rattle.leaf_edit.proofs.sheet.Sheet.measure.Goals as goal

pub loop-at-init : goal.loop-at-init
loop-at-init c = (past_first _ (list-some _ c.args.self.now.known.0.listed), record { items = _; rest = rest_all _ c.args.self.now.known.0.listed; so = measuring-none _ _ _ c.args.self.now.known.0 })

pub overflow_add-space : goal.overflow_add-space
overflow_add-space c = let w = (item-here c.size_after-size.ensures c.loop-at.invariant.1.rest c.loop-at-test.true).whole in omega arith

pub overflow_add-space-in-loop-at : goal.overflow_add-space-in-loop-at
overflow_add-space-in-loop-at c = let w = (item-here c.size_after-size.ensures c.loop-at.invariant.1.rest c.loop-at-test.true).whole in omega arith

pub returns-then-nodesize-space : goal.returns-then-nodesize-space
returns-then-nodesize-space c =
    (refl, measuring-over _ _ _ _ _ _ _ _ _ c.loop-at.invariant.1.so _ _ _ (item-here c.size_after-size.ensures c.loop-at.invariant.1.rest c.loop-at-test.true) c.if-nodesize-space.true)

pub overflow_add-left : goal.overflow_add-left
overflow_add-left c =
    let i = c.loop-at.invariant.1.so.passed in
    let z = c.args.self.now.known.0 in
    let e = passed-bound _ _ _ _ _ _ _ _ _ _ i (item-here c.size_after-size.ensures c.loop-at.invariant.1.rest c.loop-at-test.true) in
    let f = space-here _ _ _ _ _ _ _ _ _ _ i (item-here c.size_after-size.ensures c.loop-at.invariant.1.rest c.loop-at-test.true) in
    omega (arith, e, f, z.space-is, z.few, z.small)

pub overflow_sub-right : goal.overflow_sub-right
overflow_sub-right c = let f = space-here _ _ _ _ _ _ _ _ _ _ c.loop-at.invariant.1.so.passed (item-here c.size_after-size.ensures c.loop-at.invariant.1.rest c.loop-at-test.true) in omega (arith, f)

pub loop-at-smaller-then-last-space : goal.loop-at-smaller-then-last-space
loop-at-smaller-then-last-space c = let w = (item-here c.size_after-size.ensures c.loop-at.invariant.1.rest c.loop-at-test.true).whole in omega arith

pub loop-at-preserved-then-last-space : goal.loop-at-preserved-then-last-space
loop-at-preserved-then-last-space c =
    let m = item-here c.size_after-size.ensures c.loop-at.invariant.1.rest c.loop-at-test.true in
    let i = c.loop-at.invariant.1 in
    (past_next m.whole, record { items = m.others; rest = m.rest; so = measuring-stays _ _ _ _ _ _ _ _ _ i.so _ _ _ m c.args.self.now.known.1 c.if-nodesize-space.false _ c.improve-best.ensures c.if-last-space.true })

pub loop-at-smaller : goal.loop-at-smaller
loop-at-smaller c = let w = (item-here c.size_after-size.ensures c.loop-at.invariant.1.rest c.loop-at-test.true).whole in omega arith

pub loop-at-preserved : goal.loop-at-preserved
loop-at-preserved c =
    let m = item-here c.size_after-size.ensures c.loop-at.invariant.1.rest c.loop-at-test.true in
    let i = c.loop-at.invariant.1 in
    (past_next m.whole, record { items = m.others; rest = m.rest; so = measuring-starts _ _ _ _ _ _ _ _ _ i.so _ _ _ m c.args.self.now.known.1 c.if-nodesize-space.false _ c.improve-best.ensures c.if-last-space.false })

pub returns : goal.returns
returns c =
    let i = c.loop-at.invariant.1 in
    subst (λ (d : Division). Divided c.args.self.now.nodesize (list_items c.args.self.now.bytes.now) (Ok d)) (sym c.choose.ensures) (measuring-all _ _ _ _ _ _ _ _ _ i.so (rest_end _ _ _ i.rest c.loop-at-test.false))
