use mathlib.Core.Path.{◌≡◌, sym, ◌∙◌}
use native.Mathlib.Omega.{arith}
use Rattle.format.specs.LeafImage.{count_in}
use Rattle.leaf_image.proofs.Packing.{count-is, packed-over}
use Rattle.leaf_image.proofs.checking.check.Lts as lts
use Rattle.leaf_image.proofs.checking.check.Reads as reads
use Rattle.leaf_image.proofs.checking.check.Tie as tie
use Rattle.leaf_image.proofs.checking.check.Goals as goal

abbrev AfterGetU32LeCount : Type 0
AfterGetU32LeCount = lts.After-get_u32_le tie.the-claims reads.Pre reads.Post

-- the count that was read
count-read : (c : AfterGetU32LeCount) → c.get_u32_le-count.result ≡ count_in c.args.image.now
count-read c = c.get_u32_le-count.ensures ∙ count-is c.args.image.now

pub returns-then-image-count : goal.returns-then-image-count
returns-then-image-count c =
    let e = count-read c.before.before in
    sym (packed-over c.args.image.now (omega (arith, e, c.if-image-count.true)))

pub walk-requires : goal.walk-requires
walk-requires c =
    let e = count-read c.before.before in
    (e, omega (arith, c.if-image-count.false, c.requires))
