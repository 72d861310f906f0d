use native.Mathlib.Omega.{arith}
use Rattle.lister_text.proofs.Texts.{fields-before, fields-all}
use Rattle.lister_text.proofs.lines.field_count.Goals as goal

pub returns-then-reference-gt0 : goal.returns-then-reference-gt0
returns-then-reference-gt0 c = fields-before _ _ c.requires.1 c.if-reference-gt0.true

pub returns : goal.returns
returns c = fields-all _ _ _ c.requires.0 c.requires.1 (λ h. omega arith)
