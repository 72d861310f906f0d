use mathlib.Core.Path.{◌≡◌}
use lib.ListN.{length}
use native.Mathlib.Omega.{arith}
use Rattle.transaction.proofs.Counts.{equal-none, equal-more}
use Rattle.transaction.proofs.held_counts.equal_end.Goals as goal

pub loop-at-init : goal.loop-at-init
loop-at-init c = equal-none _ _ _

pub returns-then-offsets-at : goal.returns-then-offsets-at
returns-then-offsets-at c =
    record { forward = omega arith; inside = omega arith; equal = c.loop-at.invariant; other = λ h e. c.if-offsets-at.true e }

pub loop-at-preserved : goal.loop-at-preserved
loop-at-preserved c =
    equal-more _ _ _ _ (omega arith) (omega arith) c.if-offsets-at.false c.loop-at.invariant

pub returns : goal.returns
returns c =
    let end : c.loop-at.at ≡ length c.args.offsets.now = omega arith in
    record { forward = c.requires; inside = omega arith; equal = rw end at c.loop-at.invariant; other = λ h e. absurd (omega arith) }
