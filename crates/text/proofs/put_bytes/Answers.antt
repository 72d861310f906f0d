use Rattle.std.proofs.Common.{arith}
use Rattle.text.proofs.Writes.{makes-byte}
use Rattle.text.proofs.put_bytes.Goals as goal

pub loop-byte-preserved : goal.loop-byte-preserved
loop-byte-preserved c = (
  makes-byte _ _ c.loop-byte-test.true c.put_byte-next.ensures c.loop-byte.invariant.0,
  omega (arith, c.put_byte-next.ensures.further, c.loop-byte.invariant.1),
)
