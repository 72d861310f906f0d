use mathlib.Core.Path.{refl, sym, ◌∙◌}
use native.Mathlib.Omega.{arith}
use Rattle.fields.proofs.Numbers.{are_bytes-in}
use Rattle.format.proofs.Answers.{handed_on}
use Rattle.format.proofs.Bodies.{read-long}
use Rattle.backref.proofs.AddedAt.{scan-reads}
use Rattle.backref.proofs.Taken.{take-fault, take-absent, take-gone}
use Rattle.backref.proofs.drop_plans.plan_take.Goals as goal

pub returns-in_err-seen : goal.returns-in_err-seen
returns-in_err-seen c = take-fault _ _ _ _ _ (sym c.in_err-seen.was ∙ c.scan_body.ensures) (handed_on c.from_residual.ensures.1)

pub returns-in_default : goal.returns-in_default
returns-in_default c =
    let a = c.args in
    let r = scan-reads a.item_type a.body.now a.wanted 0 _ (sym c.in_ok-seen.was ∙ c.scan_body.ensures) in
    take-absent _ _ _ _ _ r (sym c.in_default.is ∙ c.hit_of.ensures) refl

pub get_u64_le-requires : goal.get_u64_le-requires
get_u64_le-requires c =
    let r = scan-reads _ _ _ 0 _ (sym c.in_ok-seen.was ∙ c.scan_body.ensures) in
    omega (arith, read-long _ _ _ r.read)

pub returns : goal.returns
returns c =
    let a = c.args in
    let r = scan-reads a.item_type a.body.now a.wanted 0 _ (sym c.in_ok-seen.was ∙ c.scan_body.ensures) in
    take-gone a.item_type a.body.now a.wanted _ _ r _ _ (sym c.in-Some.is ∙ c.hit_of.ensures)
    c.get_u64_le.ensures (are_bytes-in a.body.now (λ i. (c.type_inv.body i).fits)) refl
