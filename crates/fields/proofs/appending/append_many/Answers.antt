use mathlib.Core.Path.{◌≡◌, refl, ap, ◌∙◌}
use mathlib.Core.List.{List}
use Prim.Native.Nat.{ℕ, ◌+◌, ◌-◌, ◌%◌, ◌≤◌}
use native.Mathlib.Omega.{arith}
use lib.ListN.{length}
use Rattle.fields.specs.Parts.{part, written}
use Rattle.fields.proofs.Parts.{copied-over, copied-last}
use Rattle.fields.proofs.appending.append_many.Invariants.{done}
use Rattle.fields.proofs.appending.append_many.Goals as goal

pub loop-i-init : goal.loop-i-init
loop-i-init c =
    let a = c.args in
    let e : 64 ≡ done (64 - a.at % 16) = omega arith in
    (omega arith, refl, λ old room h. h ∙ ap (λ (k : ℕ). written a.at (part 0 k a.src.now) old) e)

pub loop-i-preserved : goal.loop-i-preserved
loop-i-preserved c =
    let loop = c.loop-i in
    let a = c.args in
    let src : List ℕ = a.src.now in
    let low : loop.i ≤ done loop.i = omega arith in
    let high : done loop.i ≤ loop.i + 64 = omega arith in
    let end : loop.i + 64 ≤ length src = omega arith in
    let e : loop.i + 64 ≡ done (loop.i + 64) = omega arith in (
      omega arith,
      omega arith,
      λ old room h. copied-over a.at (done loop.i) loop.i 64 src old _ _ low high end room (loop.invariant.2 old room h) c.copy_64-in-loop-i.ensures
          ∙ ap (λ (k : ℕ). written a.at (part 0 k src) old) e,
    )

pub returns : goal.returns
returns c =
    let loop = c.loop-i in
    let a = c.args in
    let src : List ℕ = a.src.now in
    let low : length src - 64 ≤ done loop.i = omega arith in
    let high : done loop.i ≤ length src = omega arith in
    let end : length src - 64 + 64 ≡ length src = omega arith in
    let room = c.requires.1 in
    copied-last a.at (done loop.i) (length src - 64) 64 src a.dst.now _ _ low high end room
    (loop.invariant.2 a.dst.now room c.copy_64.ensures)
    c.copy_64-2.ensures
