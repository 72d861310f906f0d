use mathlib.Core.Path.{sym, ap, ◌∙◌}
use Prim.Native.Nat.{◌+◌, ◌-◌}
use native.Mathlib.Omega.{arith}
use Rattle.crc32c_steps.specs.Steps.{steps}
use Rattle.crc32c_steps.proofs.Steps.{one-step, no_step}
use Rattle.crc32c_steps.proofs.entry.Goals as goal

pub loop-k-preserved : goal.loop-k-preserved
loop-k-preserved c =
    let l = c.loop-k in
    let p = c.args.polynomial in (
      omega arith,
      ap (steps p (8 - (l.k + 1))) c.step-register.ensures ∙ sym (one-step p 8 l.k l.register (omega arith)) ∙ l.invariant.1,
    )

pub returns : goal.returns
returns c =
    let l = c.loop-k in
    sym (no_step c.args.polynomial 8 l.k l.register (omega arith)) ∙ l.invariant.1
