use Rattle.format.proofs.Outputs.{answered-body}
use Rattle.extent_write.proofs.Fields.{tree_is}
use Rattle.extent_write.proofs.TreeBlockAllocation.body.Goals as goal

pub returns : goal.returns
returns c =
    let a = c.args in
    answered-body _
    (tree_is a.self.generation a.self.owner c.put_head.ensures)
    c.put_body.ensures
