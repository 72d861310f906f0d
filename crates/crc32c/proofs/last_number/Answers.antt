use Rattle.std.proofs.Common.{rules, ℕ, ◌-◌, ◌≤◌, ◌<◌, length, get_or}
use native.Mathlib.Nat.{one-le-pow}
use native.Mathlib.Omega.{arith}
use Rattle.crc32c.proofs.Slices.{last_none, last-room, last_more, last-bound}
use Rattle.crc32c.proofs.last_number.Goals as goal

pub loop-i-init : goal.loop-i-init
loop-i-init c =
    let bytes = c.args.bytes.now in
    (last_none bytes (length bytes) (omega arith), one-le-pow (length bytes - length bytes) 256 (omega arith))

pub overflow_mul-x : goal.overflow_mul-x
overflow_mul-x c =
    let l = c.loop-i in
    let few : length c.args.bytes.now - l.i ≤ 6 = omega arith in
    omega (arith, last-room _ l.x few l.invariant.1)

pub overflow_add-x : goal.overflow_add-x
overflow_add-x c =
    let l = c.loop-i in
    let few : length c.args.bytes.now - l.i ≤ 6 = omega arith in
    let byte : get_or c.args.bytes.now (l.i - 1) 0 < 256 = search rules in
    omega (arith, last-room _ l.x few l.invariant.1, byte)

pub loop-i-preserved : goal.loop-i-preserved
loop-i-preserved c =
    let l = c.loop-i in
    let bytes = c.args.bytes.now in
    let known : (i : ℕ) → get_or bytes i 0 < 256 = λ i. search rules in
    let more = last_more bytes known l.i (l.i - 1) (omega arith) (omega arith) l.invariant.0 in
    (more, last-bound bytes known (l.i - 1) (length bytes - (l.i - 1)) (omega arith) more)
