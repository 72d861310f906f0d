use mathlib.Core.Path.{refl, ◌∙◌}
use Rattle.inline_refs.proofs.Tests.{stops-owner, stops-higher, stops-lower, stops_same, stops-zero}
use Rattle.inline_refs.proofs.ref_name.stops_at.Goals as goal

pub returns-then-kind-eq-EXTENT_OWNER_REF : goal.returns-then-kind-eq-EXTENT_OWNER_REF
returns-then-kind-eq-EXTENT_OWNER_REF c = stops-owner _ _ _ _ c.if-kind-eq-EXTENT_OWNER_REF.true

pub returns-then-wanted-kind : goal.returns-then-wanted-kind
returns-then-wanted-kind c = stops-higher _ _ _ _ c.if-kind-eq-EXTENT_OWNER_REF.false c.if-wanted-kind.true

pub returns-then-wanted-kind-2 : goal.returns-then-wanted-kind-2
returns-then-wanted-kind-2 c = stops-lower _ _ _ _ c.if-kind-eq-EXTENT_OWNER_REF.false c.if-wanted-kind.false c.if-wanted-kind-2.true

pub returns-then-rank-eq0 : goal.returns-then-rank-eq0
returns-then-rank-eq0 c = stops-zero _ _ _ _ c.if-kind-eq-EXTENT_OWNER_REF.false c.if-wanted-kind-2.false c.if-rank-eq0.true

pub returns : goal.returns
returns c = c.rank_below.ensures ∙ stops_same _ _ _ _ c.if-kind-eq-EXTENT_OWNER_REF.false _ c.if-wanted-kind-2.false refl
