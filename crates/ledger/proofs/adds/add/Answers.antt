use lib.ListN.{length}
use Rattle.ledger.proofs.OwnItems.{bytes, found}
use Rattle.ledger.proofs.Adding.{add-answered}
use Rattle.ledger.proofs.adds.add.Goals as goal

pub slice_bounds-plan_add-end : goal.slice_bounds-plan_add-end
slice_bounds-plan_add-end c = (found c.type_inv.sheet c.requires.stands_for).within

pub put_record-requires-clause-item_head_bound : goal.put_record-requires-clause-item_head_bound
put_record-requires-clause-item_head_bound c = let d = found c.type_inv.sheet c.requires.stands_for in (d.ordered, d.within, d.small)

pub returns : goal.returns
returns c =
    let a = c.args in
    add-answered c.requires.stands_for (bytes _ c.type_inv.sheet) a.nodesize a.wanted a.amount (length a.out.now) c.requires.amount_value _ _ _ _ _ a.out.now _
    c.grown_only.ensures c.limit_for-limit.ensures c.plan_add-plan.ensures c.ask_add-asked.ensures c.put_record.ensures
