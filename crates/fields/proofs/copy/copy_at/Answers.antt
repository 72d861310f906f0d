use mathlib.Core.Path.{◌≡◌}
use Prim.Native.Nat.{◌+◌, ◌<◌}
use native.Mathlib.Numerals.{add-one}
use native.Mathlib.Omega.{arith}
use lib.ListN.{length, drop, length-drop}
use lib.Seq.{paste-zero, paste-suc, get_or-drop}
use Rattle.fields.specs.Parts.{part}
use Rattle.fields.proofs.Parts.{length_part}
use Rattle.fields.proofs.copy.copy_at.Goals as goal

pub loop-i-init : goal.loop-i-init
loop-i-init c = paste-zero c.args.dst.now c.args.at (drop c.args.from c.args.src.now)

pub loop-i-preserved : goal.loop-i-preserved
loop-i-preserved c =
    let loop = c.loop-i in
    let a = c.args in
    let room : a.at + loop.i < length a.dst.now = omega arith in
    let more : loop.i < length (drop a.from a.src.now) = simp length-drop (omega arith) in
    rw (loop.invariant, ← get_or-drop a.from a.src.now loop.i 0, add-one) (paste-suc a.dst.now a.at (drop a.from a.src.now) loop.i 0 room more)

pub returns : goal.returns
returns c =
    let loop = c.loop-i in
    let a = c.args in
    let done : loop.i ≡ a.n = omega arith in
    let size : length (part a.from a.n a.src.now) ≡ a.n = length_part a.n a.from a.src.now c.requires.0 in
    rw size (rw (← done) loop.invariant)
