use mathlib.Core.Path.{refl, sym, ◌∙◌}
use native.Mathlib.Omega.{arith}
use Rattle.fields.proofs.Numbers.{are_bytes-in}
use Rattle.format.proofs.Answers.{handed_on}
use Rattle.format.proofs.Bodies.{read-long}
use Rattle.backref.specs.ByName.{own_rank}
use Rattle.backref.proofs.AddedAt.{scan-reads}
use Rattle.backref.proofs.Gives.{give-fault, give-ten, give-gap, give-no, give-count}
use Rattle.backref.proofs.add_plans.plan_add.Goals as goal

pub returns-in_err-seen : goal.returns-in_err-seen
returns-in_err-seen c =
    give-fault _ _ _ _ _ _ _ (sym c.in_err-seen.was ∙ c.scan_to_add.ensures) (handed_on c.from_residual.ensures.1)

pub get_u64_le-total-requires : goal.get_u64_le-total-requires
get_u64_le-total-requires c =
    let r = scan-reads _ _ _ _ _ (sym c.in_ok-seen.was ∙ c.scan_to_add.ensures) in
    omega (arith, read-long _ _ _ r.read)

pub returns-then-not-may_add : goal.returns-then-not-may_add
unfolding own_rank
returns-then-not-may_add c =
    let a = c.args in
    let r = scan-reads a.item_type a.body.now a.wanted _ _ (sym c.in_ok-seen.was ∙ c.scan_to_add.ensures) in
    give-ten a.item_type a.body.now a.wanted _ a.amount _ _ r (are_bytes-in a.body.now (λ i. (c.type_inv.body i).fits)) refl _ (sym c.in-Gap.is ∙ c.add_at.ensures)
    (sym c.may_add.ensures ∙ c.if-not-may_add.true) refl

pub returns-in_err-count-in-Standing : goal.returns-in_err-count-in-Standing
unfolding own_rank
returns-in_err-count-in-Standing c =
    let a = c.args in
    let r = scan-reads a.item_type a.body.now a.wanted _ _ (sym c.in_ok-seen.was ∙ c.scan_to_add.ensures) in
    give-no a.item_type a.body.now a.wanted _ a.amount _ _ r (are_bytes-in a.body.now (λ i. (c.type_inv.body i).fits)) refl _ (sym c.in-Standing.is ∙ c.add_at.ensures)
    (omega arith) (sym c.in_err-count-in-Standing.was ∙ c.raised_count.ensures) (handed_on c.from_residual-in_err-count-in-Standing.ensures.1)

pub returns-else-not-may_add : goal.returns-else-not-may_add
unfolding own_rank
returns-else-not-may_add c =
    let a = c.args in
    let r = scan-reads a.item_type a.body.now a.wanted _ _ (sym c.in_ok-seen.was ∙ c.scan_to_add.ensures) in
    give-gap a.item_type a.body.now a.wanted _ a.amount _ _ r (are_bytes-in a.body.now (λ i. (c.type_inv.body i).fits)) refl _ (sym c.in-Gap.is ∙ c.add_at.ensures)
    (sym c.may_add.ensures ∙ c.if-not-may_add.false) (omega arith) _ c.get_u64_le-total.ensures c.edit_raised.ensures

pub returns-in_ok-count-in-Standing : goal.returns-in_ok-count-in-Standing
unfolding own_rank
returns-in_ok-count-in-Standing c =
    let a = c.args in
    let r = scan-reads a.item_type a.body.now a.wanted _ _ (sym c.in_ok-seen.was ∙ c.scan_to_add.ensures) in
    give-count a.item_type a.body.now a.wanted _ a.amount _ _ r (are_bytes-in a.body.now (λ i. (c.type_inv.body i).fits)) refl _ (sym c.in-Standing.is ∙ c.add_at.ensures)
    _ _ (sym c.in_ok-count-in-Standing.was ∙ c.raised_count.ensures) (omega arith) c.get_u64_le-total.ensures c.edit_raised-in-Standing.ensures
