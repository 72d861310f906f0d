use native.Mathlib.Omega.{arith}
use Rattle.inline_refs.proofs.Tests.{payload-eight, payload-178, rank-field, rank-hash}
use Rattle.inline_refs.proofs.ref_name.rank_at.Goals as goal

pub get_u64_le-requires : goal.get_u64_le-requires
get_u64_le-requires c = omega (arith, payload-eight _ c.requires.0, c.requires.1)

pub returns-then-kind-ne-EXTENT_DATA_REF : goal.returns-then-kind-ne-EXTENT_DATA_REF
returns-then-kind-ne-EXTENT_DATA_REF c =
    rank-field c.args.kind c.args.start _ c.args.body.now c.requires.0 c.if-kind-ne-EXTENT_DATA_REF.true c.get_u64_le.ensures

pub get_u64_le-requires-2 : goal.get_u64_le-requires-2
get_u64_le-requires-2 c = omega (arith, payload-178 _ c.if-kind-ne-EXTENT_DATA_REF.false, c.requires.1)

pub get_u64_le-requires-3 : goal.get_u64_le-requires-3
get_u64_le-requires-3 c = omega (arith, payload-178 _ c.if-kind-ne-EXTENT_DATA_REF.false, c.requires.1)

pub get_u64_le-requires-4 : goal.get_u64_le-requires-4
get_u64_le-requires-4 c = omega (arith, payload-178 _ c.if-kind-ne-EXTENT_DATA_REF.false, c.requires.1)

pub returns : goal.returns
returns c =
    let a = c.args in
    rank-hash a.kind a.start _ _ _ _ a.body.now c.if-kind-ne-EXTENT_DATA_REF.false c.get_u64_le-2.ensures
    c.get_u64_le-3.ensures c.get_u64_le-4.ensures c.data_ref_hash.ensures
