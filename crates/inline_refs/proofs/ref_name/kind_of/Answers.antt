use Rattle.inline_refs.specs.Scans.{kind_of}
use Rattle.inline_refs.proofs.ref_name.kind_of.Goals as goal

pub returns-in-Block : goal.returns-in-Block
unfolding kind_of
returns-in-Block c = rw c.in-Block.is

pub returns-in-Data : goal.returns-in-Data
unfolding kind_of
returns-in-Data c = rw c.in-Data.is

pub returns-in-SharedBlock : goal.returns-in-SharedBlock
unfolding kind_of
returns-in-SharedBlock c = rw c.in-SharedBlock.is

pub returns-in-SharedData : goal.returns-in-SharedData
unfolding kind_of
returns-in-SharedData c = rw c.in-SharedData.is
