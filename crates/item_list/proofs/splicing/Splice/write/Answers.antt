use Rattle.item_list.proofs.ItemWrites.{item-writes}
use native.Mathlib.Omega.{arith}
use Rattle.item_list.proofs.splicing.Splice.write.Goals as goal

pub returns : goal.returns
returns c =
    let a = c.args in
    let k = a.self.inside in
    item-writes a.self.sheet.now a.self.start a.self.end (omega arith) (record { key = a.key; bytes = a.body.now }) a.out.now _ _ _ _ _ _ _ c.requires.1
    c.append-head.ensures c.append_head-inside.ensures c.append-rest.ensures c.append.ensures.1
