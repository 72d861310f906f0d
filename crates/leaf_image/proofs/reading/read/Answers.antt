use mathlib.Core.Path.{sym, ◌∙◌, subst}
use lib.Dec.{T}
use native.Mathlib.Omega.{arith}
use Rattle.fields.proofs.Numbers.{are_bytes-in}
use Rattle.format.proofs.Answers.{handed_on}
use Rattle.format.proofs.Items.{nodesize-out}
use Rattle.leaf_image.proofs.Asked.{handed}
use Rattle.leaf_image.proofs.ImageReads.{image-bounds, read-node, read-leaf, read-refused, is-packed, packed-count-is, packed-size-is, read-full, read-written}
use Rattle.leaf_image.proofs.reading.read.Goals as goal

pub returns-then-not-nodesize_fits : goal.returns-then-not-nodesize_fits
returns-then-not-nodesize_fits c = read-node _ _ _ (sym c.nodesize_fits.ensures ∙ c.if-not-nodesize_fits.true)

pub is_leaf-requires : goal.is_leaf-requires
is_leaf-requires c =
    let fits = sym c.nodesize_fits.ensures ∙ c.if-not-nodesize_fits.false in
    omega (arith, (nodesize-out _ (subst T (sym fits) tt)).0)

pub returns-then-not-is_leaf : goal.returns-then-not-is_leaf
returns-then-not-is_leaf c =
    read-leaf _ _ _ (sym c.nodesize_fits.ensures ∙ c.if-not-nodesize_fits.false) (sym c.is_leaf.ensures ∙ c.if-not-is_leaf.true)

pub check-requires : goal.check-requires
check-requires c =
    let fits = sym c.nodesize_fits.ensures ∙ c.if-not-nodesize_fits.false in
    let leaf = sym c.is_leaf.ensures ∙ c.if-not-is_leaf.false in
    omega (arith, (image-bounds _ _ c.args.out.now fits leaf).0)

pub returns-in_err-packed : goal.returns-in_err-packed
returns-in_err-packed c =
    let fits = sym c.nodesize_fits.ensures ∙ c.if-not-nodesize_fits.false in
    let leaf = sym c.is_leaf.ensures ∙ c.if-not-is_leaf.false in
    let bytes = are_bytes-in c.args.image.now (λ i. (c.type_inv.image i).fits) in
    handed (handed_on c.from_residual.ensures.1) (read-refused _ _ _ fits leaf bytes _ (sym c.check.ensures ∙ c.in_err-packed.was))

pub returns-then-out-packed : goal.returns-then-out-packed
returns-then-out-packed c =
    let fits = sym c.nodesize_fits.ensures ∙ c.if-not-nodesize_fits.false in
    let leaf = sym c.is_leaf.ensures ∙ c.if-not-is_leaf.false in
    let bytes = are_bytes-in c.args.image.now (λ i. (c.type_inv.image i).fits) in
    read-full _ _ _ fits leaf bytes _ (sym c.check.ensures ∙ c.in_ok-packed.was) c.if-out-packed.true

pub put_sheet-requires : goal.put_sheet-requires
put_sheet-requires c =
    let fits = sym c.nodesize_fits.ensures ∙ c.if-not-nodesize_fits.false in
    let leaf = sym c.is_leaf.ensures ∙ c.if-not-is_leaf.false in
    let bytes = are_bytes-in c.args.image.now (λ i. (c.type_inv.image i).fits) in
    let is = sym c.check.ensures ∙ c.in_ok-packed.was in
    let out = c.args.out.now in (
      (image-bounds _ _ out fits leaf).1,
      is-packed _ _ out fits leaf bytes _ is,
      packed-count-is _ _ out fits leaf bytes _ is,
      omega (arith, packed-size-is _ _ out fits leaf bytes _ is, c.if-out-packed.false),
    )

pub returns : goal.returns
returns c =
    let fits = sym c.nodesize_fits.ensures ∙ c.if-not-nodesize_fits.false in
    let leaf = sym c.is_leaf.ensures ∙ c.if-not-is_leaf.false in
    let bytes = are_bytes-in c.args.image.now (λ i. (c.type_inv.image i).fits) in
    read-written _ _ _ fits leaf bytes _ (sym c.check.ensures ∙ c.in_ok-packed.was) _ c.if-out-packed.false c.put_sheet.ensures
