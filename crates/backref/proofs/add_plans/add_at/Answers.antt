use Rattle.backref.specs.ByName.{add_at_of}
use borrow.Author.Tests.{eq-eqb, ne_eqb}
use Rattle.backref.proofs.add_plans.add_at.Goals as goal

pub returns-then-kind_of-eq-EXTENT_DATA_REF : goal.returns-then-kind_of-eq-EXTENT_DATA_REF
unfolding add_at_of
returns-then-kind_of-eq-EXTENT_DATA_REF c = rw (← c.kind_of.ensures, eq-eqb _ _ c.if-kind_of-eq-EXTENT_DATA_REF.true) c.add_by_scan.ensures

pub returns : goal.returns
unfolding add_at_of
returns c = rw (← c.kind_of.ensures, ne_eqb _ _ c.if-kind_of-eq-EXTENT_DATA_REF.false) c.add_anywhere.ensures
