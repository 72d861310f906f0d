use mathlib.Core.Path.{sym}
use Prim.Native.Nat.{◌≤◌}
use native.Mathlib.Omega.{arith}
use lib.ListN.{length}
use lib.Seq.{length-take-le}
use Rattle.format.proofs.Outputs.{answered-body}
use Rattle.backref.proofs.KeyedBodies.{long-is, at-is, item-is}
use Rattle.backref.proofs.keyed.keyed_data_ref_body.Goals as goal

pub put_u32_le-requires : goal.put_u32_le-requires
put_u32_le-requires c =
    let at = at-is c.lengths_of-row.ensures.1 in
    omega (arith, at)

pub slice_bounds-new-end : goal.slice_bounds-new-end
slice_bounds-new-end c =
    let long = long-is c.lengths_of-row.ensures.0 in
    omega (arith, long)

pub slice_bounds-put_body-end : goal.slice_bounds-put_body-end
slice_bounds-put_body-end c =
    let long = long-is c.lengths_of-row.ensures.0 in
    let inside : c.lengths_of-row.result.payload ≤ length c.put_u32_le.new.out = omega (arith, long) in
    sym (length-take-le _ _ inside)

pub returns : goal.returns
returns c =
    answered-body _
    (item-is _ _ c.lengths_of-row.ensures.1 c.lengths_of-row.ensures.0 c.put_u64_le.ensures
    c.put_u64_le-2.ensures c.put_u64_le-3.ensures c.put_u32_le.ensures)
    c.put_body.ensures
