use Rattle.leaf_image.proofs.Leaves.{leaf-length, leaf-level, leaf-sum}
use Rattle.leaf_image.proofs.reading.is_leaf.Goals as goal

pub returns-then-image-nodesize : goal.returns-then-image-nodesize
returns-then-image-nodesize c = leaf-length _ _ c.if-image-nodesize.true

pub returns-then-image-ne0 : goal.returns-then-image-ne0
returns-then-image-ne0 c = leaf-level _ _ c.if-image-ne0.true

pub returns : goal.returns
returns c =
    let a = c.args in
    leaf-sum a.nodesize a.image.now c.if-image-nodesize.false c.if-image-ne0.false _ _ _
    c.get_u32_le.ensures c.update-register.ensures c.finish.ensures
