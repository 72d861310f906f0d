use mathlib.Core.Path.{◌∙◌}
use native.Mathlib.Omega.{arith}
use Rattle.format.proofs.Answers.{handed_on}
use Rattle.backref.proofs.Heads.{head, flags-refused, flags-are}
use Rattle.backref.proofs.total_calls.flags.Goals as goal

pub returns-in_err-ask_head : goal.returns-in_err-ask_head
returns-in_err-ask_head c =
    handed_on c.from_residual.ensures.1 ∙ flags-refused c.args.body.now _ c.ask_head.ensures c.in_err-ask_head.was

pub get_u64_le-requires : goal.get_u64_le-requires
get_u64_le-requires c =
    let long = (head c.args.body.now _ c.ask_head.ensures).long c.in_ok-ask_head.was in
    omega (arith, long)

pub returns : goal.returns
returns c = flags-are c.args.body.now _ c.ask_head.ensures _ c.in_ok-ask_head.was c.get_u64_le.ensures
