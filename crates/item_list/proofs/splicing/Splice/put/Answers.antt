use mathlib.Core.Path.{sym, ◌∙◌}
use native.Mathlib.Omega.{arith}
use lib.ListN.{length}
use Rattle.item_list.proofs.ItemWrites.{room_out, item-held, item_refused}
use Rattle.item_list.proofs.splicing.Splice.put.Goals as goal

pub returns-then-not-room_for : goal.returns-then-not-room_for
returns-then-not-room_for c =
    let a = c.args in
    let k = a.self.inside in
    item_refused a.self.sheet.now a.self.start a.self.end (omega (arith, k)) (length a.out.now) a.count a.out.now a.out.now (record { key = a.key; bytes = a.body.now })
    (sym c.room_for.ensures ∙ c.if-not-room_for.true)

pub write-requires : goal.write-requires
write-requires c =
    let l = room_out _ _ _ (sym c.room_for.ensures ∙ c.if-not-room_for.false) in
    (c.requires, omega (arith, l))

pub returns : goal.returns
returns c =
    let a = c.args in
    let k = a.self.inside in
    item-held a.self.sheet.now a.self.start a.self.end (omega (arith, k)) (length a.out.now) a.count a.out.now _ (record { key = a.key; bytes = a.body.now })
    (sym c.room_for.ensures ∙ c.if-not-room_for.false) c.write.ensures
