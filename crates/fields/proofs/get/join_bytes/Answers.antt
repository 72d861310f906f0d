use native.Mathlib.Omega.{arith}
use Rattle.fields.specs.Numbers.{le}
use Rattle.fields.proofs.get.join_bytes.Goals as goal

pub returns : goal.returns
unfolding le
returns c = omega arith
