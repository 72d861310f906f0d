use mathlib.Core.Path.{sym, ◌∙◌}
use native.Mathlib.Omega.{arith}
use lib.ListN.{length}
use lib.Seq.{length-take-le}
use Rattle.item_list.proofs.ItemWrites.{room_out, rest-held, rest-refused, rest-writes}
use Rattle.item_list.proofs.splicing.Splice.remove.Goals as goal

pub returns-then-not-room_for : goal.returns-then-not-room_for
returns-then-not-room_for c =
    let a = c.args in
    let k = a.self.inside in
    rest-refused a.self.sheet.now a.self.start a.self.end (omega (arith, k)) (length a.out.now) a.count a.out.now a.out.now (sym c.room_for.ensures ∙ c.if-not-room_for.true)

pub append-rest-requires : goal.append-rest-requires
append-rest-requires c =
    let l = room_out _ _ _ (sym c.room_for.ensures ∙ c.if-not-room_for.false) in
    let k = c.args.self.inside in
    let t = length-take-le c.args.self.start c.args.self.sheet.now (omega (arith, k)) in
    (omega (arith, k, t), omega (arith, l, k, t))

pub append-requires : goal.append-requires
append-requires c =
    let l = room_out _ _ _ (sym c.room_for.ensures ∙ c.if-not-room_for.false) in
    let k = c.args.self.inside in
    let t = length-take-le c.args.self.start c.args.self.sheet.now (omega (arith, k)) in
    let r = c.append-rest.ensures.0 in
    (omega (arith, k), omega (arith, l, k, t, r))

pub returns : goal.returns
returns c =
    let a = c.args in
    let k = a.self.inside in
    let fits = sym c.room_for.ensures ∙ c.if-not-room_for.false in
    let l = room_out _ _ _ fits in
    rest-held a.self.sheet.now a.self.start a.self.end (omega (arith, k)) (length a.out.now) a.count a.out.now _ fits
    (rest-writes a.self.sheet.now a.self.start a.self.end (omega (arith, k)) a.out.now _ _ _ l c.append-rest.ensures c.append.ensures.1)
