use Rattle.record_edit.proofs.Writes.{record-writes}
use Rattle.record_edit.proofs.write.append_record.Goals as goal

pub returns : goal.returns
returns c =
    record-writes c.args.edit c.args.body.now c.requires.edit_in c.args.sheet.now c.args.start c.args.key c.args.out.now _ _ _ _ _ _ _
    c.requires.start_in_bounds.0 c.requires.start_in_bounds.2 c.edit_length-size.ensures c.append-head.ensures c.append_head-inside.ensures c.append_edit.ensures
