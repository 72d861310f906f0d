use Rattle.balance.proofs.Forms.{shared-short, shared-form, plain-long, block-form, parent-form}
use Rattle.balance.proofs.reference.name_of.Goals as goal

pub returns-then-payload-ne4 : goal.returns-then-payload-ne4
returns-then-payload-ne4 c = shared-short _ c.if-key-eq-EXTENT_DATA_REF.false c.if-key-eq-SHARED_DATA_REF.true c.if-payload-ne4.true

pub returns-then-key-eq-SHARED_DATA_REF : goal.returns-then-key-eq-SHARED_DATA_REF
returns-then-key-eq-SHARED_DATA_REF c = shared-form _ c.if-key-eq-EXTENT_DATA_REF.false c.if-key-eq-SHARED_DATA_REF.true _ c.if-payload-ne4.false c.get_u32_le.ensures

pub returns-then-payload-ne0 : goal.returns-then-payload-ne0
returns-then-payload-ne0 c = plain-long _ c.if-key-eq-EXTENT_DATA_REF.false c.if-key-eq-SHARED_DATA_REF.false c.if-payload-ne0.true

pub returns-then-key-eq-TREE_BLOCK_REF : goal.returns-then-key-eq-TREE_BLOCK_REF
returns-then-key-eq-TREE_BLOCK_REF c = block-form _ c.if-key-eq-EXTENT_DATA_REF.false c.if-key-eq-SHARED_DATA_REF.false c.if-key-eq-TREE_BLOCK_REF.true c.if-payload-ne0.false

pub returns : goal.returns
returns c = parent-form _ c.if-key-eq-EXTENT_DATA_REF.false c.if-key-eq-SHARED_DATA_REF.false c.requires c.if-key-eq-TREE_BLOCK_REF.false c.if-payload-ne0.false
