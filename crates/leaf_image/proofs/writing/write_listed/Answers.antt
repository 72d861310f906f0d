use mathlib.Core.Path.{sym, ◌∙◌, subst}
use native.Mathlib.Omega.{arith}
use lib.Dec.{T}
use Rattle.fields.proofs.Numbers.{are_bytes-in}
use Rattle.format.specs.LeafImage.{write_image}
use Rattle.format.proofs.Items.{nodesize-out}
use Rattle.format.proofs.LeafImagesWritten.{length-image_bytes}
use Rattle.item_list.proofs.Spaces.{space-sheet}
use Rattle.leaf_image.proofs.Asked.{counted-list, write-node, write-header, write-large, write-accepted, image-refused, image-short, image-written}
use Rattle.leaf_image.proofs.writing.write_listed.Goals as goal

pub returns-then-not-nodesize_fits : goal.returns-then-not-nodesize_fits
returns-then-not-nodesize_fits c =
    let a = c.args in
    image-refused (write_image a.nodesize a.header.now a.sheet.now) a.out.now 3 (write-node _ _ _ c.requires.0 (sym c.nodesize_fits.ensures ∙ c.if-not-nodesize_fits.true))

pub returns-then-header-ne-LEAF_HEADER : goal.returns-then-header-ne-LEAF_HEADER
returns-then-header-ne-LEAF_HEADER c =
    let a = c.args in
    image-refused (write_image a.nodesize a.header.now a.sheet.now) a.out.now 3 (write-header _ _ _ c.requires.0 c.if-header-ne-LEAF_HEADER.true)

pub overflow_mul-count : goal.overflow_mul-count
overflow_mul-count c =
    let l = counted-list _ _ (are_bytes-in _ (λ i. (c.type_inv.sheet i).fits)) c.requires.0 c.requires.1 in
    omega (arith, l.few)

pub overflow_add-sheet-2 : goal.overflow_add-sheet-2
overflow_add-sheet-2 c =
    let l = counted-list _ _ (are_bytes-in _ (λ i. (c.type_inv.sheet i).fits)) c.requires.0 c.requires.1 in
    omega (arith, l.few, l.small)

pub returns-then-size-sheet : goal.returns-then-size-sheet
returns-then-size-sheet c =
    let a = c.args in
    let l = counted-list _ _ (are_bytes-in _ (λ i. (c.type_inv.sheet i).fits)) c.requires.0 c.requires.1 in
    let node = sym c.nodesize_fits.ensures ∙ c.if-not-nodesize_fits.false in
    image-refused (write_image a.nodesize a.header.now a.sheet.now) a.out.now 18
    (write-large _ _ _ c.requires.0 node c.if-header-ne-LEAF_HEADER.false (omega (arith, space-sheet _ _ l, c.if-size-sheet.true)))

pub returns-then-out-size : goal.returns-then-out-size
returns-then-out-size c =
    let a = c.args in
    let l = counted-list _ _ (are_bytes-in _ (λ i. (c.type_inv.sheet i).fits)) c.requires.0 c.requires.1 in
    let node = sym c.nodesize_fits.ensures ∙ c.if-not-nodesize_fits.false in
    let image = write-accepted _ _ _ c.requires.0 node c.if-header-ne-LEAF_HEADER.false (omega (arith, space-sheet _ _ l, c.if-size-sheet.false)) in
    image-short (write_image a.nodesize a.header.now a.sheet.now) a.out.now _ _ image
    (length-image_bytes _ _ _ c.if-header-ne-LEAF_HEADER.false (omega (arith, space-sheet _ _ l, c.if-size-sheet.false))) c.if-out-size.true

pub invariant_of-leaf : goal.invariant_of-leaf
invariant_of-leaf c =
    let l = counted-list _ _ (are_bytes-in _ (λ i. (c.type_inv.sheet i).fits)) c.requires.0 c.requires.1 in
    let node = sym c.nodesize_fits.ensures ∙ c.if-not-nodesize_fits.false in
    record { fits = (c.requires.0, c.requires.1, omega (arith, space-sheet _ _ l, c.if-size-sheet.false), (nodesize-out _ (subst T (sym node) tt)).1) }

pub returns : goal.returns
returns c =
    let a = c.args in
    let l = counted-list _ _ (are_bytes-in _ (λ i. (c.type_inv.sheet i).fits)) c.requires.0 c.requires.1 in
    let node = sym c.nodesize_fits.ensures ∙ c.if-not-nodesize_fits.false in
    let image = write-accepted _ _ _ c.requires.0 node c.if-header-ne-LEAF_HEADER.false (omega (arith, space-sheet _ _ l, c.if-size-sheet.false)) in
    image-written (write_image a.nodesize a.header.now a.sheet.now) a.out.now _ _ image
    (length-image_bytes _ _ _ c.if-header-ne-LEAF_HEADER.false (omega (arith, space-sheet _ _ l, c.if-size-sheet.false))) _ c.if-out-size.false c.put_image.ensures
