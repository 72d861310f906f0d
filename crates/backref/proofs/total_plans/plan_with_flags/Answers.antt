use mathlib.Core.Path.{refl}
use native.Mathlib.Omega.{arith}
use Rattle.format.proofs.Answers.{handed_on}
use Rattle.fields.proofs.Numbers.{are_bytes-in}
use Rattle.backref.proofs.Heads.{head, flags-head, flags-plan}
use Rattle.backref.proofs.Outcomes.{keeps-refused}
use Rattle.backref.proofs.total_plans.plan_with_flags.Goals as goal

pub returns-in_err-ask_head-clause-planned : goal.returns-in_err-ask_head-clause-planned
returns-in_err-ask_head-clause-planned c =
    (flags-head c.args.body.now _ c.ask_head.ensures _ _ c.in_err-ask_head.was (handed_on c.from_residual.ensures.1)).0

pub returns-in_err-ask_head-clause-keeps_length : goal.returns-in_err-ask_head-clause-keeps_length
returns-in_err-ask_head-clause-keeps_length c = keeps-refused (handed_on c.from_residual.ensures.1)

pub get_u64_le-requires : goal.get_u64_le-requires
get_u64_le-requires c =
    let long = (head c.args.body.now _ c.ask_head.ensures).long c.in_ok-ask_head.was in
    omega (arith, long)

pub get_u64_le-requires-2 : goal.get_u64_le-requires-2
get_u64_le-requires-2 c =
    let long = (head c.args.body.now _ c.ask_head.ensures).long c.in_ok-ask_head.was in
    omega (arith, long)

pub returns-clause-planned : goal.returns-clause-planned
returns-clause-planned c =
    let a = c.args in
    (flags-plan a.body.now _ c.ask_head.ensures a.set _ _ _ _ c.in_ok-ask_head.was (are_bytes-in a.body.now (λ i. (c.type_inv.body i).fits))
    c.get_u64_le-2.ensures c.get_u64_le.ensures c.word_bytes.ensures refl).0

pub returns-clause-keeps_length : goal.returns-clause-keeps_length
returns-clause-keeps_length c =
    let a = c.args in
    (flags-plan a.body.now _ c.ask_head.ensures a.set _ _ _ _ c.in_ok-ask_head.was (are_bytes-in a.body.now (λ i. (c.type_inv.body i).fits))
    c.get_u64_le-2.ensures c.get_u64_le.ensures c.word_bytes.ensures refl).1
