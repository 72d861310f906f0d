use mathlib.Core.Path.{refl, sym, ◌∙◌}
use lib.ListN.{length}
use Rattle.item_list.proofs.ItemWrites.{room_out}
use Rattle.record_edit.proofs.Writes.{held_fits, over-limit, body-long, no_room, all-written}
use Rattle.record_edit.proofs.write.Rewrite.write_held.Goals as goal

pub returns-then-limit-size : goal.returns-then-limit-size
returns-then-limit-size c =
    over-limit c.args.self.sheet.now c.args.self.target c.args.edit c.args.self.second c.args.self.behind c.args.self.whole.0 c.requires (length c.args.out.now) c.args.count c.args.limit _ c.edit_length-size.ensures c.args.out.now c.if-limit-size.true

pub returns-then-size-gt-MOST_DATA : goal.returns-then-size-gt-MOST_DATA
returns-then-size-gt-MOST_DATA c =
    body-long c.args.self.sheet.now c.args.self.target c.args.edit c.args.self.second c.args.self.behind c.args.self.whole.0 c.requires (length c.args.out.now) c.args.count c.args.limit _ c.edit_length-size.ensures c.args.out.now c.if-limit-size.false c.if-size-gt-MOST_DATA.true

pub returns-then-not-room_for : goal.returns-then-not-room_for
returns-then-not-room_for c =
    no_room c.args.self.sheet.now c.args.self.target c.args.edit c.args.self.second c.args.self.behind c.args.self.whole.0 c.requires (length c.args.out.now) c.args.count c.args.limit _ c.edit_length-size.ensures c.args.out.now c.if-limit-size.false c.if-size-gt-MOST_DATA.false _ refl (sym c.room_for.ensures ∙ c.if-not-room_for.true)

pub write_record-requires-clause-in_bounds : goal.write_record-requires-clause-in_bounds
write_record-requires-clause-in_bounds c =
    let e = c.edit_length-size.ensures in
    let l = room_out _ _ _ (sym c.room_for.ensures ∙ c.if-not-room_for.false) in
    let f = held_fits c.args.self.sheet.now c.args.self.target c.args.edit c.args.self.second c.args.self.behind c.args.self.whole.0 (length c.args.out.now) _ _ e c.if-size-gt-MOST_DATA.false refl l in (f.1, f.2)

pub returns : goal.returns
returns c =
    let e = c.edit_length-size.ensures in
    all-written c.args.self.sheet.now c.args.self.target c.args.edit c.args.self.second c.args.self.behind c.args.self.whole.0 c.requires (length c.args.out.now) c.args.count c.args.limit _ e c.args.out.now c.if-limit-size.false c.if-size-gt-MOST_DATA.false _ refl _
    (sym c.room_for.ensures ∙ c.if-not-room_for.false) c.write_record.ensures
