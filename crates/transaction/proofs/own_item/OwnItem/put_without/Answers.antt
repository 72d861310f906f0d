use mathlib.Core.Path.{ap}
use Prim.Native.Nat.{ℕ}
use lib.ListN.{length}
use Rattle.transaction.specs.Drops.{gone, held_plan}
use Rattle.transaction.proofs.Plans.{put-held}
use Rattle.transaction.proofs.own_item.OwnItem.put_without.Goals as goal

pub returns : goal.returns
returns c =
    let a = c.args in
    let e = ap (λ (k : ℕ). held_plan (length a.out.now) k a.self.sheet.now a.self.target a.plan (gone a.self.from a.self.to)) c.saturating_sub-count.ensures in
    rw (← e) (put-held a.self.sheet.now a.self.target a.plan (gone a.self.from a.self.to) (length a.out.now) c.saturating_sub-count.result _ a.out.now _ c.requires c.edit_record.ensures)
