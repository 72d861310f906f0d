use Rattle.fields.proofs.Numbers.{are_bytes-in}
use Rattle.transaction.proofs.SharedDrops.{drop-inline}
use Rattle.transaction.proofs.drops.plan_drop_shared.Goals as goal

pub returns : goal.returns
returns c =
    drop-inline _ _ _ _ _ c.if-as_item.false (are_bytes-in c.args.body.now (λ i. (c.type_inv.body i).fits)) _ _
    c.plan_take_shared-taken.ensures c.plan_needed-present.ensures c.plan_reduced.ensures
