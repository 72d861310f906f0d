use native.Mathlib.Omega.{arith}
use Rattle.format.proofs.Rows.{payload-fields}
use Rattle.lister_text.proofs.Texts.{put-line}
use Rattle.lister_text.proofs.lines.put_ref.Goals as goal

pub put_fields-b-requires : goal.put_fields-b-requires
put_fields-b-requires c =
    let r = c.requires.0 in
    let fields = payload-fields c.args.reference.kind r.kind_known in
    (omega (arith, fields, c.field_count-many.ensures, r.long, r.inside), omega (arith, fields, c.field_count-many.ensures, r.long, r.inside, c.requires.1, c.requires.2, c.put_digits-a.ensures.1))

pub returns : goal.returns
returns c =
    put-line _ _ _ c.field_count-many.ensures c.put_digits-a.ensures.0 c.put_fields-b.ensures.0 c.put_count-c.ensures.0 c.put_byte.ensures
