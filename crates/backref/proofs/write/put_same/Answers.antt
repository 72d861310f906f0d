use Rattle.backref.proofs.Outcomes.{same-edited}
use Rattle.backref.proofs.write.put_same.Goals as goal

pub returns : goal.returns
returns c =
    same-edited c.args.edit c.args.body.now c.requires.edit_in c.args.out.now _ _ _ c.requires.size_value.0
    c.append.ensures.1 c.copy_at.ensures c.put_u64_le.ensures
