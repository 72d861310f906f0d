use Rattle.balance.proofs.Turns.{record-yes, ref-yes, take-other}
use Rattle.balance.proofs.turning.take.Goals as goal

pub take_record-requires-clause-t : goal.take_record-requires-clause-t
take_record-requires-clause-t c = record-yes c.args.s.now c.args.item.at c.args.item.next _ _ c.is_record.ensures c.if-is_record.true

pub take_ref-requires-clause-t : goal.take_ref-requires-clause-t
take_ref-requires-clause-t c = (ref-yes c.args.s.now c.args.item.at c.args.item.next _ _ c.is_ref.ensures c.if-is_ref.true, c.requires.group_kept)

pub returns : goal.returns
returns c =
    take-other c.args.s.now c.args.g.now c.args.item.at c.args.item.next c.args.item.key c.requires.item_stands.head c.requires.group_kept _ _
    c.is_record.ensures c.if-is_record.false c.is_ref.ensures c.if-is_ref.false
