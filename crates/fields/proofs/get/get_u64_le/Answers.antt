use native.Mathlib.Omega.{arith}
use Rattle.fields.proofs.Numbers.{le-halves}
use Rattle.fields.proofs.get.get_u64_le.Goals as goal

pub returns : goal.returns
returns c =
    let a = c.args in
    omega (arith, le-halves 4 a.at a.s.now (omega arith))
