use Rattle.record_edit.proofs.Writes.{rest-writes}
use Rattle.record_edit.proofs.write.Rewrite.append_rest.Goals as goal

pub returns : goal.returns
returns c =
    rest-writes c.args.self.second c.args.self.target.end c.args.self.sheet.now c.args.self.behind c.args.out.now _ _ _ c.args.at _ _ c.requires
    c.append-one.ensures c.append-two.ensures c.append.ensures.1
