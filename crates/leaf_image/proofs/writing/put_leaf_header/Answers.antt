use Rattle.leaf_image.proofs.Written.{leaf-header-writes}
use Rattle.leaf_image.proofs.writing.put_leaf_header.Goals as goal

pub returns : goal.returns
returns c =
    let a = c.args in
    let pre = c.requires in
    leaf-header-writes a.header.now _ a.out.now _ _ _ _ pre.0 pre.2
    c.clear.ensures c.append.ensures.1 c.put_u32_le.ensures c.put_u8.ensures
