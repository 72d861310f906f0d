use mathlib.Core.Path.{sym, ◌∙◌}
use Rattle.fields.proofs.Numbers.{are_bytes-in}
use Rattle.format.specs.LeafImage.{write_image}
use Rattle.format.proofs.Answers.{handed_on}
use Rattle.item_list.proofs.Reading.{Counted, counted, sheet-refused}
use Rattle.leaf_image.proofs.Asked.{write-refused, image-refused, handed}
use Rattle.leaf_image.proofs.writing.write.Goals as goal

pub write_listed-requires : goal.write_listed-requires
write_listed-requires c =
    let s = c.args.sheet.now in
    let l : Counted s _ = counted s _ (are_bytes-in s (λ i. (c.type_inv.sheet i).fits)) (sym c.check.ensures ∙ c.in_ok-count.was) in
    (record { reads = l.reads }, sym l.count)

pub returns-in_err-count : goal.returns-in_err-count
returns-in_err-count c =
    let a = c.args in
    handed (handed_on c.from_residual.ensures.1)
    (image-refused (write_image a.nodesize a.header.now a.sheet.now) a.out.now _
    (write-refused _ _ _ _ (sheet-refused _ _ (sym c.check.ensures ∙ c.in_err-count.was))))
