use Rattle.record_edit.proofs.Writes.{sheet-writes}
use Rattle.record_edit.proofs.write.Rewrite.write_record.Goals as goal

pub returns : goal.returns
returns c =
    sheet-writes c.args.self.sheet.now c.args.self.target c.args.edit c.args.self.second c.args.self.behind c.args.self.whole.0 c.requires.edit_in c.args.out.now _ _ _
    c.requires.in_bounds.1 c.append_record-at.ensures c.append_rest.ensures
