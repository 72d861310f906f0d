use native.Mathlib.Omega.{arith}
use Rattle.text.proofs.Writes.{makes-done}
use Rattle.lister_text.proofs.Fields.{makes-field, words-end}
use Rattle.lister_text.proofs.lines.put_fields.Goals as goal

pub loop-n-preserved : goal.loop-n-preserved
loop-n-preserved c = (
  makes-field _ _ _ _ _ c.loop-n-test.true c.get_u64_le.ensures c.put_field-next.ensures.0 c.loop-n.invariant.0,
  omega (arith, c.put_field-next.ensures.1, c.loop-n.invariant.1),
)

pub returns : goal.returns
returns c =
    (makes-done (words-end _ _ (omega (arith, c.loop-n-test.false))) c.loop-n.invariant.0, omega (arith, c.loop-n.invariant.1, c.loop-n.auto.n-end, c.requires.1))
