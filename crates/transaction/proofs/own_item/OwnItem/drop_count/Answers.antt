use mathlib.Core.Path.{ap, ◌∙◌}
use lib.ListN.{length}
use Rattle.std.specs.Prelude.{Ok}
use Rattle.format.proofs.Answers.{handed_on}
use Rattle.transaction.proofs.ItemDrops.{total-refused, item_refused, item-absent, one-counted}
use Rattle.transaction.proofs.own_item.OwnItem.drop_count.Goals as goal

pub returns-in_err-rest : goal.returns-in_err-rest
returns-in_err-rest c =
    total-refused c.args.self.sheet.now c.args.self.target _ c.plan_total-rest.ensures.planned _ c.args.out.now (handed_on c.from_residual.ensures.1) c.in_err-rest.was

pub returns-in_err-plan_drop_keyed : goal.returns-in_err-plan_drop_keyed
returns-in_err-plan_drop_keyed c =
    item_refused c.args.self.sheet.now c.args.self.target _ c.plan_total-rest.ensures.planned c.args.self.from c.args.self.to c.args.name (length c.args.out.now) _
    c.plan_drop_keyed.ensures.planned c.args.out.now c.in_ok-rest.was (handed_on c.from_residual-in_err-plan_drop_keyed.ensures.1) c.in_err-plan_drop_keyed.was

pub overflow_sub-count : goal.overflow_sub-count
overflow_sub-count c =
    one-counted c.args.self.sheet.now c.args.self.from c.args.self.to _ c.args.name _ c.args.self.apart.2 c.args.self.apart.3 c.plan_drop_keyed.ensures.planned
    (c.in_ok-plan_drop_keyed.was ∙ ap Ok c.in-Edit.is) c.get_u32_le-count.ensures

pub returns-in-Absent : goal.returns-in-Absent
returns-in-Absent c =
    item-absent c.args.self.sheet.now c.args.self.target _ c.plan_total-rest.ensures.planned c.args.self.from c.args.self.to c.args.name (length c.args.out.now) _
    c.plan_drop_keyed.ensures.planned c.args.out.now c.in_ok-rest.was (c.in_ok-plan_drop_keyed.was ∙ ap Ok c.in-Absent.is)
