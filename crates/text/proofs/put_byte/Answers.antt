use Rattle.text.proofs.Writes.{put-out, put_in}
use Rattle.text.proofs.put_byte.Goals as goal
use Rattle.text.proofs.put_byte.Goals.{then-at-out, else-at-out}

pub returns : goal.returns
returns c =
    elim c.if-at-out.branch [
      | then-at-out w ↦ rw w.out-is (put_in _ _ _)
      | else-at-out w ↦ rw w.out-is (put-out _ _ _ w.if-at-out.false)
    ]
