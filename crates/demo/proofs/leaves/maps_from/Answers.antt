use Rattle.std.proofs.Common.{arith, rules}
use Rattle.item_list.proofs.Steps.{whole-size}
use Rattle.demo.proofs.leaves.maps_from.Goals as goal

-- the item at hand is whole
pub key_at-key-requires : goal.key_at-key-requires
key_at-key-requires c =
    let w = whole-size _ _ _ c.size_at-size.ensures c.if-size-eq0.false (omega arith) in
    omega (arith, w.size, w.low, w.within)

pub overflow_add-at : goal.overflow_add-at
overflow_add-at c =
    let w = whole-size _ _ _ c.size_at-size.ensures c.if-size-eq0.false (omega arith) in
    search rules
