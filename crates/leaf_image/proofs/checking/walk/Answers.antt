use mathlib.Core.Path.{sym, ◌∙◌}
use Prim.Native.Nat.{◌<◌}
use native.Mathlib.Omega.{arith}
use Rattle.format.specs.LeafImage.{count_in}
use Rattle.leaf_image.proofs.Packing.{behind-first, behind-apart, behind-next, behind-end}
use Rattle.leaf_image.proofs.checking.walk.Goals as goal

pub loop-n-init : goal.loop-n-init
loop-n-init c =
    let p = c.requires in
    (omega arith, omega arith, behind-first c.args.image.now c.default-last.result (omega (arith, p.0, p.1)))

pub returns-then-position-size : goal.returns-then-position-size
returns-then-position-size c =
    let loop = c.loop-n in
    let more : loop.n < count_in c.args.image.now = omega (arith, c.loop-n-test.true, c.requires.0) in
    sym
    (loop.invariant.2
    ∙ behind-apart _ _ _ _ _ _ more
    (λ e. c.if-position-size.true (omega (arith, e, c.position-position.ensures, c.size.ensures))))

pub loop-n-preserved : goal.loop-n-preserved
loop-n-preserved c =
    let loop = c.loop-n in
    let more : loop.n < count_in c.args.image.now = omega (arith, c.loop-n-test.true, c.requires.0) in (
      omega arith,
      omega arith,
      loop.invariant.2
          ∙ behind-next _ _ _ _ _ _ more _ _ _ _ c.position-position.ensures c.size.ensures c.key-key.ensures c.follows-ordered.ensures
          c.if-position-size.false loop.invariant.1,
    )

pub returns-then-ordered : goal.returns-then-ordered
returns-then-ordered c =
    let loop = c.loop-n in
    sym
    (loop.invariant.2
    ∙ behind-end _ _ _ _ _ _ c.args.count c.requires.0 c.loop-n-test.false loop.auto.n-end c.if-end-count.false
    ∙ rw c.if-ordered.true)

pub returns : goal.returns
returns c =
    let loop = c.loop-n in
    sym
    (loop.invariant.2
    ∙ behind-end _ _ _ _ _ _ c.args.count c.requires.0 c.loop-n-test.false loop.auto.n-end c.if-end-count.false
    ∙ rw c.if-ordered.false)
