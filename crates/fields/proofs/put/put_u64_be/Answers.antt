use Rattle.std.proofs.Common.{arith}
use Rattle.std.specs.Int.{w64}
use Rattle.std.proofs.lemmas.Grind.{common_steps}
use Rattle.fields.proofs.Numbers.{to_be, length-be_bytes}
use Rattle.fields.proofs.put.put_u64_be.Goals as goal

pub returns : goal.returns
returns c = grind (arith, common_steps, to_be w64 c.args.v, length-be_bytes 8 c.args.v)
