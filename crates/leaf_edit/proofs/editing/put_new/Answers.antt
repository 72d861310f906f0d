use mathlib.Core.Path.{◌≡◌}
use native.Mathlib.Omega.{arith}
use lib.ListN.{length}
use Rattle.format.proofs.Answers.{handed_on}
use Rattle.format.specs.Questions.{accepted}
use Rattle.format.specs.Items.{Item}
use Rattle.item_list.proofs.ItemWrites.{answered-no, answered-by}
use Rattle.leaf_edit.specs.Insertions.{put_new}
use Rattle.leaf_edit.proofs.Insertions.{put-broken, placed, put-fits, put-short, put-large, put-within, put-unbounded}
use Rattle.leaf_edit.proofs.editing.put_new.Goals as goal
use Rattle.leaf_edit.proofs.editing.put_new.Goals.{in-Some+else-nodesize-space, in_default}

pub returns-in_err-target : goal.returns-in_err-target
returns-in_err-target c =
    let a = c.args in
    let new : Item = record { key = a.key; bytes = a.body.now } in
    rw (handed_on c.from_residual.ensures.1) (answered-no (put_new a.nodesize a.sheet.now new) _ _ a.out.now (put-broken a.sheet.now new a.nodesize c.sizes_fit.ensures c.insert_at.ensures c.in_err-target.was))

pub overflow_mul-space : goal.overflow_mul-space
overflow_mul-space c =
    let a = c.args in
    let i = placed a.sheet.now (record { key = a.key; bytes = a.body.now }) a.nodesize c.sizes_fit.ensures c.insert_at.ensures c.type_inv.sheet c.in_ok-target.was in
    let l = i.few in
    omega arith

pub overflow_add-space-2 : goal.overflow_add-space-2
overflow_add-space-2 c =
    let a = c.args in
    let i = placed a.sheet.now (record { key = a.key; bytes = a.body.now }) a.nodesize c.sizes_fit.ensures c.insert_at.ensures c.type_inv.sheet c.in_ok-target.was in
    let l = i.few in
    let m = i.small in
    omega arith

pub overflow_add-space-3 : goal.overflow_add-space-3
overflow_add-space-3 c =
    let a = c.args in
    let new : Item = record { key = a.key; bytes = a.body.now } in
    let i = placed a.sheet.now new a.nodesize c.sizes_fit.ensures c.insert_at.ensures c.type_inv.sheet c.in_ok-target.was in
    let l = i.few in
    let m = i.small in
    let k = put-short a.sheet.now new _ _ a.nodesize i in
    omega arith

pub returns-then-nodesize-space : goal.returns-then-nodesize-space
returns-then-nodesize-space c =
    let a = c.args in
    let new : Item = record { key = a.key; bytes = a.body.now } in
    let i = placed a.sheet.now new a.nodesize c.sizes_fit.ensures c.insert_at.ensures c.type_inv.sheet c.in_ok-target.was in
    answered-no (put_new a.nodesize a.sheet.now new) _ _ a.out.now (put-large a.sheet.now new _ _ a.nodesize _ i c.in-Some.is c.if-nodesize-space.true)

pub overflow_add-target : goal.overflow_add-target
overflow_add-target c =
    let a = c.args in
    let i = placed a.sheet.now (record { key = a.key; bytes = a.body.now }) a.nodesize c.sizes_fit.ensures c.insert_at.ensures c.type_inv.sheet c.in_ok-target.was in
    let l = i.few in
    omega arith

pub invariant_of-between : goal.invariant_of-between
invariant_of-between c =
    let a = c.args in
    let i = placed a.sheet.now (record { key = a.key; bytes = a.body.now }) a.nodesize c.sizes_fit.ensures c.insert_at.ensures c.type_inv.sheet c.in_ok-target.was in
    record { inside = (omega arith, i.within, i.small) }

pub put-requires : goal.put-requires
put-requires c =
    let a = c.args in
    let new : Item = record { key = a.key; bytes = a.body.now } in
    let i = placed a.sheet.now new a.nodesize c.sizes_fit.ensures c.insert_at.ensures c.type_inv.sheet c.in_ok-target.was in
    put-short a.sheet.now new _ _ a.nodesize i

-- question 18 is answered with yes, or not asked
pub returns : goal.returns
returns c =
    let a = c.args in
    let new : Item = record { key = a.key; bytes = a.body.now } in
    let i = placed a.sheet.now new a.nodesize c.sizes_fit.ensures c.insert_at.ensures c.type_inv.sheet c.in_ok-target.was in
    let done : put_new a.nodesize a.sheet.now new ≡ accepted i.items =
    elim c.match-nodesize.branch [ in-Some+else-nodesize-space w ↦ put-within a.sheet.now new _ _ a.nodesize _ i w.in-Some.is w.if-nodesize-space.false | in_default w ↦ put-unbounded a.sheet.now new _ _ a.nodesize i w.in_default.is ] in
    answered-by (put_new a.nodesize a.sheet.now new) (length a.out.now) _ i.items _ _ a.out.now _ done i.bytes-are i.count
    (i.fit (put-fits a.sheet.now new _ _ a.nodesize i)) c.put.ensures
