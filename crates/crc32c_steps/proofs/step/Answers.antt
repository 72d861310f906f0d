use mathlib.Core.Path.{sym}
use Rattle.crc32c_steps.proofs.Steps.{step-even, step-odd}
use Rattle.crc32c_steps.proofs.step.Goals as goal

pub returns-then-register-eq0 : goal.returns-then-register-eq0
returns-then-register-eq0 c = sym (step-even _ _ c.if-register-eq0.true)

pub returns : goal.returns
returns c = sym (step-odd _ _ c.if-register-eq0.false)
