use native.Mathlib.Omega.{arith}
use Rattle.inline_refs.proofs.Tests.{count-inside, weight-count, weight-owner, weight-one}
use Rattle.inline_refs.proofs.scan.weight_at.Goals as goal

pub overflow_add-start : goal.overflow_add-start
overflow_add-start c = omega (arith, count-inside _ _ c.requires.0 c.requires.2 c.if-count-gt0.true)

pub get_u32_le-requires : goal.get_u32_le-requires
get_u32_le-requires c = omega (arith, count-inside _ _ c.requires.0 c.requires.2 c.if-count-gt0.true)

pub returns-then-count-gt0 : goal.returns-then-count-gt0
returns-then-count-gt0 c = weight-count _ _ _ _ c.requires.2 _ c.if-count-gt0.true c.get_u32_le.ensures

pub returns-then-kind-eq-EXTENT_OWNER_REF : goal.returns-then-kind-eq-EXTENT_OWNER_REF
returns-then-kind-eq-EXTENT_OWNER_REF c =
    weight-owner c.args.kind c.args.count c.args.start c.args.body.now c.requires.2 c.if-count-gt0.false c.if-kind-eq-EXTENT_OWNER_REF.true

pub returns : goal.returns
returns c =
    weight-one c.args.kind c.args.count c.args.start c.args.body.now c.requires.2 c.if-count-gt0.false c.if-kind-eq-EXTENT_OWNER_REF.false
