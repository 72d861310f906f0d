use mathlib.Core.Path.{sym}
use native.Mathlib.Omega.{arith}
use Rattle.text.proofs.Numbers.{digits-one, digits_more, digits-short}
use Rattle.text.proofs.Writes.{put_is, put_then}
use Rattle.text.proofs.+put_digits.Goals as goal

pub returns-then-number-lt10 : goal.returns-then-number-lt10
returns-then-number-lt10 t c = (put_is (sym (digits-one _ c.if-number-lt10.true)) c.put_byte.ensures, omega (arith, c.put_byte.ensures.further))

pub returns : goal.returns
returns t c =
    let p = put_is (sym (digits_more c.args.number c.if-number-lt10.false (omega arith))) (put_then c.put_digits-next.ensures.0 c.put_byte-2.ensures) in
    (p, omega (arith, p.further, digits-short 20 c.args.number))
