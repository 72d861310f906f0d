use lib.ListN.{drop}
use Rattle.leaf_image.proofs.Puts.{item-puts}
use Rattle.leaf_image.proofs.reading.put_item.Goals as goal

pub returns : goal.returns
returns c =
    let h = c.args.header in
    item-puts h.image.now (drop h.at h.image.now) c.requires.0 c.args.out.now _ _ c.args.to c.position.result c.size-size.result _ _ c.key.result
    c.position.ensures c.size-size.ensures c.key.ensures c.requires.2 c.append_head-inside.ensures c.append.ensures
