use Rattle.inline_refs.proofs.Notes.{start-block, start-data, start-other}
use Rattle.inline_refs.proofs.start.refs_start.Goals as goal

pub returns-then-item_type-ne-EXTENT_ITEM : goal.returns-then-item_type-ne-EXTENT_ITEM
returns-then-item_type-ne-EXTENT_ITEM c = start-other _ _ c.if-item_type-ne-EXTENT_ITEM.true

pub returns-then-get_u64_le-eq1 : goal.returns-then-get_u64_le-eq1
returns-then-get_u64_le-eq1 c =
    start-block _ _ _ c.get_u64_le.ensures c.if-item_type-ne-EXTENT_ITEM.false c.if-get_u64_le-eq1.true

pub returns : goal.returns
returns c =
    start-data _ _ _ c.get_u64_le.ensures c.if-item_type-ne-EXTENT_ITEM.false c.if-get_u64_le-eq1.false
