use native.Mathlib.Omega.{arith}
use Rattle.item_list.specs.Steps.{list_items}
use Rattle.leaf_image.proofs.Written.{few-items, image-writes}
use Rattle.leaf_image.proofs.writing.put_image.Goals as goal

pub put_leaf_header-requires : goal.put_leaf_header-requires
put_leaf_header-requires c =
    let p = c.args.leaf.fits in
    let few = few-items _ _ _ p.2 p.1 p.3 in
    (c.requires.0, omega (arith, few), omega (arith, few, c.requires.1))

pub slice_bounds-update-count : goal.slice_bounds-update-count
slice_bounds-update-count c =
    let p = c.args.leaf.fits in
    let few = few-items _ _ _ p.2 p.1 p.3 in
    omega (arith, few)

pub slice_bounds-update-start : goal.slice_bounds-update-start
slice_bounds-update-start c =
    let p = c.args.leaf.fits in
    let few = few-items _ _ _ p.2 p.1 p.3 in
    omega (arith, few)

pub put_u32_le-requires : goal.put_u32_le-requires
put_u32_le-requires c =
    let p = c.args.leaf.fits in
    let few = few-items _ _ _ p.2 p.1 p.3 in
    omega (arith, few, c.requires.1)

pub returns : goal.returns
returns c =
    let leaf = c.args.leaf in
    let p = leaf.fits in
    image-writes leaf.nodesize c.args.header.now (list_items leaf.sheet.now) c.requires.0 p.2 leaf.count c.args.out.now _ _ p.1 c.requires.1
    c.put_leaf_header.ensures c.put_area.ensures _ _ _ c.update-register.ensures c.finish.ensures c.put_u32_le.ensures
