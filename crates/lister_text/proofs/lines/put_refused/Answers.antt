use native.Mathlib.Omega.{arith}
use Rattle.lister_text.proofs.Texts.{put-refusal}
use Rattle.lister_text.proofs.lines.put_refused.Goals as goal

pub returns : goal.returns
returns c = (
  put-refusal _ c.put_bytes-a.ensures c.put_digits-b.ensures.0 c.put_byte.ensures,
  omega (arith, c.put_bytes-a.ensures.further, c.put_digits-b.ensures.1, c.put_byte.ensures.further),
)
