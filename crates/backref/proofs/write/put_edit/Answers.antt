use Rattle.backref.proofs.Writes.{four}
use Rattle.backref.proofs.write.put_edit.Goals as goal

pub returns : goal.returns
returns c =
    four _ _ _ _ _ c.requires.le_from.0 c.requires.le_from.1 c.requires.le_from.2 _ _ _ _ _ _ _ _ _ c.requires.to_in_bounds
    c.put_u64_le.ensures c.append-one.ensures c.append-two.ensures c.append.ensures
