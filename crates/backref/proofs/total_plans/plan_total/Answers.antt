use mathlib.Core.Path.{refl}
use native.Mathlib.Omega.{arith}
use Rattle.format.proofs.Answers.{handed_on}
use Rattle.backref.proofs.Heads.{head, change-is, changed-no, changed-to, total_head, total_refused, total_moved}
use Rattle.backref.proofs.Outcomes.{keeps-refused}
use Rattle.backref.proofs.total_plans.plan_total.Goals as goal

pub returns-in_err-ask_head-clause-planned : goal.returns-in_err-ask_head-clause-planned
returns-in_err-ask_head-clause-planned c =
    let a = c.args in
    (total_head a.body.now _ _ (change-is a.body.now a.change) _ c.ask_head.ensures _ c.in_err-ask_head.was (handed_on c.from_residual.ensures.1)).0

pub returns-in_err-ask_head-clause-keeps_length : goal.returns-in_err-ask_head-clause-keeps_length
returns-in_err-ask_head-clause-keeps_length c = keeps-refused (handed_on c.from_residual.ensures.1)

pub get_u64_le-requires : goal.get_u64_le-requires
get_u64_le-requires c =
    let long = (head c.args.body.now _ c.ask_head.ensures).long c.in_ok-ask_head.was in
    omega (arith, long)

pub returns-in_err-total-clause-planned : goal.returns-in_err-total-clause-planned
returns-in_err-total-clause-planned c =
    let a = c.args in
    (total_refused a.body.now _ _ (change-is a.body.now a.change) _ c.ask_head.ensures _ _ c.in_ok-ask_head.was c.get_u64_le.ensures
    (changed-no a.change _ _ c.changed.ensures c.in_err-total.was) (handed_on c.from_residual-in_err-total.ensures.1)).0

pub returns-in_err-total-clause-keeps_length : goal.returns-in_err-total-clause-keeps_length
returns-in_err-total-clause-keeps_length c = keeps-refused (handed_on c.from_residual-in_err-total.ensures.1)

pub returns-clause-planned : goal.returns-clause-planned
returns-clause-planned c =
    let a = c.args in
    (total_moved a.body.now _ _ (change-is a.body.now a.change) _ c.ask_head.ensures _ _ c.in_ok-ask_head.was c.get_u64_le.ensures
    (changed-to a.change _ _ c.changed.ensures c.in_ok-total.was) c.set_total.ensures refl).0

pub returns-clause-keeps_length : goal.returns-clause-keeps_length
returns-clause-keeps_length c =
    let a = c.args in
    (total_moved a.body.now _ _ (change-is a.body.now a.change) _ c.ask_head.ensures _ _ c.in_ok-ask_head.was c.get_u64_le.ensures
    (changed-to a.change _ _ c.changed.ensures c.in_ok-total.was) c.set_total.ensures refl).1
