use mathlib.Core.Path.{◌≡◌, ap}
use mathlib.Core.List.{[], ◌∷◌}
use Prim.Native.Nat.{ℕ}
use native.Mathlib.Omega.{arith}
use Rattle.text.proofs.Numbers.{hex-none, hex-more, length-hex}
use Rattle.text.proofs.Writes.{put_is, put-none, put_then}
use Rattle.text.proofs.+put_hex.Goals as goal

pub returns-then-width-eq0 : goal.returns-then-width-eq0
returns-then-width-eq0 t c =
    let width : c.args.width ≡ 0 = c.if-width-eq0.true in
    (put_is (hex-none _ _ width) (put-none _ _), omega (arith, width))

pub returns : goal.returns
returns t c =
    let p = put_is (hex-more c.args.width c.args.number c.if-width-eq0.false) (put_then c.put_hex-next.ensures.0 (put_is (ap (λ (d : ℕ). d ∷ []) c.hex_digit.ensures) c.put_byte.ensures)) in
    (p, omega (arith, p.further, length-hex c.args.width c.args.number))
