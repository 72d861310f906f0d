use Rattle.std.proofs.Common.{arith, rules}
use Rattle.item_list.proofs.Steps.{whole-size}
use Rattle.demo.proofs.words.print.Goals as goal

-- the item at hand is whole
pub overflow_add-at : goal.overflow_add-at
overflow_add-at g c =
    let w = whole-size _ _ _ c.size_at-size.ensures c.if-size-eq0.false (omega arith) in
    search rules

pub item-requires : goal.item-requires
item-requires g c =
    let w = whole-size _ _ _ c.size_at-size.ensures c.if-size-eq0.false (omega arith) in
    (omega (arith, w.size, w.low), w.within)

pub overflow_add-at-in-loop-at : goal.overflow_add-at-in-loop-at
overflow_add-at-in-loop-at g c =
    let w = whole-size _ _ _ c.size_at-size.ensures c.if-size-eq0.false (omega arith) in
    search rules
