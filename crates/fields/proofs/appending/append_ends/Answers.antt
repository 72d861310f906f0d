use Rattle.fields.proofs.Parts.{copied-ends}
use Rattle.fields.proofs.appending.append_ends.Goals as goal

pub returns : goal.returns
returns g c =
    let a = c.args in
    copied-ends a.at g.row.N a.src.now a.dst.now _ _ c.requires.0 c.requires.1 c.requires.2 c.copy_block.ensures c.copy_block-2.ensures
