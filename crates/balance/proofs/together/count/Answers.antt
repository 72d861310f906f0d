use native.Mathlib.Omega.{arith}
use Rattle.balance.proofs.Admits.{known-178, payload-178}
use Rattle.balance.proofs.together.count.Goals as goal

pub rank_at-requires : goal.rank_at-requires
rank_at-requires c = (known-178, omega (arith, payload-178))
