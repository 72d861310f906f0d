use Rattle.backref.proofs.Outcomes.{put-edited}
use Rattle.record_edit.proofs.write.append_edit.Goals as goal

pub returns : goal.returns
returns c = put-edited c.args.edit c.args.body.now c.requires.edit_in c.args.out.now _ c.args.at _ c.put_edit.ensures
