use mathlib.Core.Path.{◌∙◌}
use native.Mathlib.Nat.{zero-add}
use native.Mathlib.Omega.{arith}
use lib.ListN.{length}
use Rattle.backref.proofs.Outcomes.{edit-no-room, edit-too-long, edit-written, put-asks, put-edited}
use Rattle.backref.proofs.write.write_edit.Goals as goal

pub returns-then-out-n : goal.returns-then-out-n
returns-then-out-n c =
    edit-no-room c.args.edit c.args.body.now c.requires c.args.out.now _ c.edit_length-n.ensures c.if-out-n.true

pub returns-then-n-gt-MOST_DATA : goal.returns-then-n-gt-MOST_DATA
returns-then-n-gt-MOST_DATA c =
    edit-too-long c.args.edit c.args.body.now c.requires c.args.out.now _ c.edit_length-n.ensures c.if-out-n.false c.if-n-gt-MOST_DATA.true

pub slice_bounds-put_edit-end : goal.slice_bounds-put_edit-end
slice_bounds-put_edit-end c =
    let h = c.requires in
    let s = h.small in
    let f = h.full in
    omega arith

pub put_edit-end-requires : goal.put_edit-end-requires
put_edit-end-requires c =
    let all = put-asks c.args.edit c.args.body.now c.requires 0 (length c.args.out.now) (omega (arith, c.edit_length-n.ensures, c.if-out-n.false)) in record { le_from = all.0; to_in_bounds = all.1 }

pub returns : goal.returns
returns c =
    let e = c.edit_length-n.ensures in
    let w = put-edited c.args.edit c.args.body.now c.requires c.args.out.now _ 0 _ c.put_edit-end.ensures in
    edit-written c.args.edit c.args.body.now c.requires c.args.out.now _ (w.0 ∙ zero-add _) _ (omega (arith, w.0, e, c.if-out-n.false)) (omega (arith, w.0, e, c.if-n-gt-MOST_DATA.false)) w.1
