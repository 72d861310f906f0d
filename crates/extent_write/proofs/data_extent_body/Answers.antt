use Rattle.format.proofs.Outputs.{answered-body}
use Rattle.extent_write.proofs.Fields.{data_is}
use Rattle.extent_write.proofs.data_extent_body.Goals as goal

pub returns : goal.returns
returns c =
    answered-body _
    (data_is _ _ _ _ c.put_head.ensures c.put_u64_le.ensures c.put_u64_le-2.ensures c.put_u32_le.ensures)
    c.put_body.ensures
