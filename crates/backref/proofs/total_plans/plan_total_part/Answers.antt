use mathlib.Core.Path.{refl, ap, ◌∙◌}
use native.Mathlib.Omega.{arith}
use Rattle.format.proofs.Answers.{handed_on}
use Rattle.format.specs.Bodies.{lowered_by_part}
use Rattle.backref.proofs.Heads.{head, total_plan, total_head, total_refused, total_moved}
use Rattle.backref.proofs.Outcomes.{keeps-refused}
use Rattle.backref.proofs.PlannedTotals.{part-asks, asked-by}
use Rattle.backref.proofs.total_plans.plan_total_part.Goals as goal

pub returns-in_err-ask_head-clause-planned : goal.returns-in_err-ask_head-clause-planned
returns-in_err-ask_head-clause-planned c =
    (total_head c.args.body.now _ _ refl _ c.ask_head.ensures _ c.in_err-ask_head.was (handed_on c.from_residual.ensures.1)).0

pub returns-in_err-ask_head-clause-keeps_length : goal.returns-in_err-ask_head-clause-keeps_length
returns-in_err-ask_head-clause-keeps_length c = keeps-refused (handed_on c.from_residual.ensures.1)

pub returns-in_err-ask_part-clause-planned : goal.returns-in_err-ask_part-clause-planned
returns-in_err-ask_part-clause-planned c =
    let a = c.args in
    (total_refused a.body.now _ _ refl _ c.ask_head.ensures _ _ c.in_ok-ask_head.was refl
    ((asked-by c.ask_part.ensures (part-asks a.amount a.standing _)).refuses c.in_err-ask_part.was) (handed_on c.from_residual-in_err-ask_part.ensures.1)).0

pub returns-in_err-ask_part-clause-keeps_length : goal.returns-in_err-ask_part-clause-keeps_length
returns-in_err-ask_part-clause-keeps_length c = keeps-refused (handed_on c.from_residual-in_err-ask_part.ensures.1)

pub get_u64_le-total-requires : goal.get_u64_le-total-requires
get_u64_le-total-requires c =
    let long = (head c.args.body.now _ c.ask_head.ensures).long c.in_ok-ask_head.was in
    omega (arith, long)

pub returns-clause-planned : goal.returns-clause-planned
returns-clause-planned c =
    let a = c.args in
    (total_moved a.body.now (lowered_by_part a.amount a.standing) _ refl _ c.ask_head.ensures _ _ c.in_ok-ask_head.was c.get_u64_le-total.ensures
    ((asked-by c.ask_part.ensures (part-asks a.amount a.standing _)).passes c.in_ok-ask_part.was) (c.set_total.ensures ∙ ap total_plan c.total_less.ensures) refl).0

pub returns-clause-keeps_length : goal.returns-clause-keeps_length
returns-clause-keeps_length c =
    let a = c.args in
    (total_moved a.body.now (lowered_by_part a.amount a.standing) _ refl _ c.ask_head.ensures _ _ c.in_ok-ask_head.was c.get_u64_le-total.ensures
    ((asked-by c.ask_part.ensures (part-asks a.amount a.standing _)).passes c.in_ok-ask_part.was) (c.set_total.ensures ∙ ap total_plan c.total_less.ensures) refl).1
