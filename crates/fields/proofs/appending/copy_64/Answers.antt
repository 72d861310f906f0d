use Rattle.fields.proofs.Parts.{copied-pair}
use Rattle.fields.proofs.appending.copy_64.Goals as goal

pub returns : goal.returns
returns c =
    let a = c.args in
    copied-pair a.at a.from 32 32 a.src.now a.dst.now _ _ c.requires.0 c.requires.1 c.copy_pair.ensures c.copy_pair-2.ensures
