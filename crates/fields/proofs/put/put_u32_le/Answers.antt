use Rattle.std.proofs.Common.{arith}
use Rattle.std.specs.Int.{w32}
use Rattle.std.proofs.lemmas.Grind.{common_steps}
use Rattle.fields.proofs.Numbers.{to_le, length-le_bytes}
use Rattle.fields.proofs.put.put_u32_le.Goals as goal

pub returns : goal.returns
returns c = grind (arith, common_steps, to_le w32 c.args.v, length-le_bytes 4 c.args.v)
