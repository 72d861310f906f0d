use native.Mathlib.Omega.{arith}
use Rattle.leaf_image.proofs.Written.{few-items, gap-before, area_writes}
use Rattle.leaf_image.proofs.writing.put_area.Goals as goal

pub overflow_mul-gap : goal.overflow_mul-gap
overflow_mul-gap c =
    let p = c.args.leaf.fits in
    let few = few-items _ _ _ p.2 p.1 p.3 in
    omega arith

pub overflow_add-gap : goal.overflow_add-gap
overflow_add-gap c =
    let p = c.args.leaf.fits in
    let few = few-items _ _ _ p.2 p.1 p.3 in
    omega arith

pub overflow_sub-begin : goal.overflow_sub-begin
overflow_sub-begin c =
    let p = c.args.leaf.fits in
    gap-before _ _ p.2 _ _ c.args.out.now _ p.1 c.requires c.put_items-begin.ensures

pub clear-requires : goal.clear-requires
clear-requires c =
    let p = c.args.leaf.fits in
    let e = c.put_items-begin.ensures in
    let low = gap-before _ _ p.2 _ _ c.args.out.now _ p.1 c.requires e in
    omega (arith, e.0, low, c.requires)

pub returns : goal.returns
returns c =
    let p = c.args.leaf.fits in
    area_writes _ _ p.2 _ _ c.args.out.now _ p.1 c.requires c.put_items-begin.ensures _ c.clear.ensures
