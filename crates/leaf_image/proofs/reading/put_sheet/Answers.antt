use mathlib.Core.Path.{◌∙◌}
use Prim.Native.Nat.{◌≤◌, ◌<◌}
use native.Mathlib.Omega.{arith}
use lib.ListN.{length}
use Rattle.format.specs.Items.{sheet_bytes}
use Rattle.format.specs.LeafImage.{count_in}
use Rattle.format.proofs.Items.{length-sheet_bytes}
use Rattle.leaf_image.specs.Packing.{listed_in}
use Rattle.leaf_image.proofs.Puts.{packed-count, left-first, left-next, left_end, fits-image, fits-header, fits_out, sheet-puts}
use Rattle.leaf_image.proofs.reading.put_sheet.Goals as goal

pub put_u8-requires : goal.put_u8-requires
put_u8-requires c = omega (arith, c.requires.3, length-sheet_bytes (listed_in c.args.image.now))

pub loop-init : goal.loop-init
loop-init c =
    let room : length (sheet_bytes (listed_in c.args.image.now)) ≤ length c.put_u8.new.out = omega (arith, c.requires.3, c.put_u8.auto.out) in
    (omega arith, left-first c.args.image.now _ c.requires.1 room)

pub invariant_of-put_item : goal.invariant_of-put_item
invariant_of-put_item c =
    let i = c.loop.invariant in
    let more : c.loop.counter < count_in c.args.image.now = omega (arith, c.loop-test.true, packed-count _ _ c.requires.1 c.requires.2) in
    record { inside = fits-header i.1 more i.0 }

pub put_item-to-requires : goal.put_item-to-requires
put_item-to-requires c =
    let i = c.loop.invariant in
    let more : c.loop.counter < count_in c.args.image.now = omega (arith, c.loop-test.true, packed-count _ _ c.requires.1 c.requires.2) in
    (fits-image i.1 more, c.requires.0, fits_out i.1 more)

pub loop-preserved : goal.loop-preserved
loop-preserved c =
    let i = c.loop.invariant in
    let put = c.put_item-to in
    let more : c.loop.counter < count_in c.args.image.now = omega (arith, c.loop-test.true, packed-count _ _ c.requires.1 c.requires.2) in
    (omega arith, left-next i.1 more put.result _ put.ensures.0 put.ensures.1 put.auto.out)

pub returns : goal.returns
returns c =
    let a = c.args in
    left_end c.loop.invariant.1 (omega (arith, c.loop-test.false, packed-count a.image.now a.count c.requires.1 c.requires.2))
    ∙ sheet-puts (listed_in a.image.now) a.out.now _ c.requires.3 c.put_u8.ensures
