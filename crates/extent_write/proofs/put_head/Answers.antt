use Rattle.extent_write.proofs.put_head.Goals as goal

pub returns : goal.returns
returns c = cc
