use mathlib.Core.Path.{ap, ◌∙◌}
use mathlib.Core.List.{List}
use Prim.Native.Nat.{ℕ, ◌-◌}
use lib.ListN.{length}
use Rattle.transaction.specs.Drops.{held_plan}
use Rattle.transaction.proofs.Plans.{put-held}
use Rattle.transaction.proofs.Rewrites.{four_bytes}
use Rattle.transaction.proofs.own_item.OwnItem.put_count.Goals as goal

pub returns : goal.returns
returns c =
    let a = c.args in
    let e = ap (λ (l : List ℕ). held_plan (length a.out.now) a.self.target.item_count a.self.sheet.now a.self.target a.plan (record { from = a.self.to - 4; to = a.self.to; new = l; size = 4 })) (c.to_le_bytes.ensures ∙ four_bytes a.count) in
    rw (← e) (put-held a.self.sheet.now a.self.target a.plan (record { from = a.self.to - 4; to = a.self.to; new = c.to_le_bytes.result; size = 4 }) (length a.out.now) a.self.target.item_count _ a.out.now _ c.requires c.edit_record.ensures)
