use mathlib.Core.Path.{refl}
use mathlib.Core.List.{List}
use Prim.Native.Nat.{ℕ}
use lib.ListN.{length}
use Rattle.fields.proofs.Parts.{part-all}
use Rattle.format.proofs.Outputs.{answered-refused, answered-written, held-body, no_room, too_long}
use Rattle.extent_write.proofs.put_body.Goals as goal
use Rattle.extent_write.proofs.put_body.Goals.{then-out-n-via-then-out-n, then-out-n-via-else-out-n+then-n-gt-MOST_DATA}

pub returns-then-out-n : goal.returns-then-out-n
returns-then-out-n c =
    elim c.then-out-n.branch [
      | then-out-n-via-then-out-n w ↦ answered-refused _ (no_room _ _ w.if-out-n.true)
      | then-out-n-via-else-out-n+then-n-gt-MOST_DATA w ↦ answered-refused _ (too_long _ _ w.if-out-n.false w.if-n-gt-MOST_DATA.true)
    ]

pub returns : goal.returns
returns c =
    let bytes : List ℕ = c.args.bytes.now in
    answered-written (held-body bytes _ c.if-out-n.false c.if-n-gt-MOST_DATA.false)
    (rw (part-all (length bytes) bytes refl) at c.copy_at.ensures)
