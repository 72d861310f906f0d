use native.Mathlib.Omega.{arith}
use Rattle.fields.proofs.Numbers.{swapped-halves}
use Rattle.fields.proofs.get.swapped_u64.Goals as goal

pub returns : goal.returns
returns c = omega (arith, swapped-halves c.args.v)
