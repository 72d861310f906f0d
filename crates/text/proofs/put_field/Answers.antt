use mathlib.Core.Path.{sym}
use native.Mathlib.Omega.{arith}
use Rattle.text.proofs.Numbers.{spaced-one}
use Rattle.text.proofs.Writes.{put_is, put_then}
use Rattle.text.proofs.put_field.Goals as goal

pub returns : goal.returns
returns c = (
  put_is (sym (spaced-one _)) (put_then c.put_byte-next.ensures c.put_digits.ensures.0),
  omega (arith, c.put_byte-next.ensures.further, c.put_digits.ensures.1),
)
