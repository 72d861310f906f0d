use Rattle.backref.proofs.Named.{keyed-block, keyed-data}
use Rattle.backref.proofs.calls.add_inline_keyed.Goals as goal

pub returns-in-Block : goal.returns-in-Block
returns-in-Block c =
    keyed-block _ _ _ _ _ _ c.in-Block.is c.add_keyed.ensures

pub returns-in-Data : goal.returns-in-Data
returns-in-Data c =
    keyed-data _ _ _ _ _ _ c.in-Data.is c.add_keyed-in-Data.ensures
