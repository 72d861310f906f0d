use native.Mathlib.Omega.{arith}
use Rattle.item_list.proofs.Steps.{past_first, past_next}
use Rattle.item_list.proofs.Reading.{list-some}
use Rattle.item_list.proofs.Walks.{rest_all, rest_end}
use Rattle.leaf_edit.proofs.Filling.{writing-none, writing-all, writing-stays, writing-starts, room-left}
use Rattle.leaf_edit.proofs.Running.{item-here}
use Rattle.leaf_edit.proofs.sheet.Sheet.fill_write.Goals as goal

pub loop-at-init : goal.loop-at-init
loop-at-init c = (past_first _ (list-some _ c.args.self.now.known.0.listed), record { items = _; rest = rest_all _ c.args.self.now.known.0.listed; so = writing-none _ _ _ })

pub overflow_add-space : goal.overflow_add-space
overflow_add-space c = let w = (item-here c.size_after-size.ensures c.loop-at.invariant.1.rest c.loop-at-test.true).whole in omega arith

pub overflow_add-at : goal.overflow_add-at
overflow_add-at c = let w = (item-here c.size_after-size.ensures c.loop-at.invariant.1.rest c.loop-at-test.true).whole in let z = c.args.self.now.known.0.small in omega arith

pub overflow_add-used : goal.overflow_add-used
overflow_add-used c = let w = (item-here c.size_after-size.ensures c.loop-at.invariant.1.rest c.loop-at-test.true).whole in let l = c.loop-at.invariant.1.so.small in omega (arith, w, l)

pub loop-at-smaller-then-used-space : goal.loop-at-smaller-then-used-space
loop-at-smaller-then-used-space c = let w = (item-here c.size_after-size.ensures c.loop-at.invariant.1.rest c.loop-at-test.true).whole in omega arith

pub loop-at-preserved-then-used-space : goal.loop-at-preserved-then-used-space
loop-at-preserved-then-used-space c =
    let m = item-here c.size_after-size.ensures c.loop-at.invariant.1.rest c.loop-at-test.true in
    let i = c.loop-at.invariant.1 in
    (past_next m.whole, record { items = m.others; rest = m.rest; so = writing-stays _ _ _ _ _ _ _ _ _ _ _ i.so m c.args.self.now.known.1 c.if-used-space.true })

pub bounds-cuts-leaves : goal.bounds-cuts-leaves
bounds-cuts-leaves c = room-left _ _ _ _ _ _ _ _ _ _ _ c.loop-at.invariant.1.so (item-here c.size_after-size.ensures c.loop-at.invariant.1.rest c.loop-at-test.true) c.if-used-space.false c.requires

pub overflow_add-used-in-loop-at : goal.overflow_add-used-in-loop-at
overflow_add-used-in-loop-at c = let w = (item-here c.size_after-size.ensures c.loop-at.invariant.1.rest c.loop-at-test.true).whole in omega arith

pub loop-at-smaller : goal.loop-at-smaller
loop-at-smaller c = let w = (item-here c.size_after-size.ensures c.loop-at.invariant.1.rest c.loop-at-test.true).whole in omega arith

pub loop-at-preserved : goal.loop-at-preserved
loop-at-preserved c =
    let m = item-here c.size_after-size.ensures c.loop-at.invariant.1.rest c.loop-at-test.true in
    let i = c.loop-at.invariant.1 in
    (past_next m.whole, record { items = m.others; rest = m.rest; so = writing-starts _ _ _ _ _ _ _ _ _ _ _ i.so m c.if-used-space.false c.requires _ (omega arith) c.args.self.now.known.0.small })

pub returns : goal.returns
returns c =
    let i = c.loop-at.invariant.1 in
    writing-all _ _ _ _ _ _ _ _ i.so (rest_end _ _ _ i.rest c.loop-at-test.false)
