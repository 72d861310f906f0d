use native.Mathlib.Omega.{arith}
use Rattle.lister_text.proofs.Texts.{put-head}
use Rattle.lister_text.proofs.lines.put_head.Goals as goal

pub returns : goal.returns
returns c = (
  put-head _ _ _ _ c.args.body.now c.get_u64_le-2.ensures c.get_u64_le.ensures
      c.put_digits-a.ensures.0 c.put_field-b.ensures.0 c.put_field-c.ensures.0 c.put_field-d.ensures.0 c.put_byte.ensures,
  omega (arith, c.put_byte.ensures.further, c.put_field-d.ensures.1, c.put_field-c.ensures.1, c.put_field-b.ensures.1, c.put_digits-a.ensures.1),
)
