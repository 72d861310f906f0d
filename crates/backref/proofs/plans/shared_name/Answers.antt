use Rattle.backref.proofs.Named.{other-kind, shared-named}
use Rattle.backref.proofs.plans.shared_name.Goals as goal

pub returns : goal.returns
returns c = shared-named _ 184 (other-kind _ c.requires c.if-shared-eq-SHARED_BLOCK_REF.false)
