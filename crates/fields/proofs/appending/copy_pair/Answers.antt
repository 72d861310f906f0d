use Rattle.fields.proofs.Parts.{copied-pair}
use Rattle.fields.proofs.appending.copy_pair.Goals as goal

pub returns : goal.returns
returns g c =
    let a = c.args in
    copied-pair a.at a.from _ _ a.src.now a.dst.now _ _ c.requires.0 c.requires.1 c.copy_block.ensures c.copy_block-2.ensures
