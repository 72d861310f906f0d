use mathlib.Core.Path.{refl, sym, ap, ◌∙◌}
use native.Mathlib.Omega.{arith}
use Rattle.std.specs.Prelude.{Ok}
use Rattle.fields.proofs.Numbers.{are_bytes-in}
use Rattle.format.proofs.Answers.{handed_on}
use Rattle.format.proofs.Bodies.{read-long}
use Rattle.backref.proofs.AddedAt.{scan-reads}
use Rattle.backref.proofs.Gives.{key-fault, key-ten, key-new, key-no, key-count}
use Rattle.backref.proofs.add_plans.plan_add_keyed.Goals as goal

pub returns-in_err-seen : goal.returns-in_err-seen
returns-in_err-seen c =
    key-fault _ _ _ _ _ _ _ (sym c.in_err-seen.was ∙ c.scan_body.ensures) (handed_on c.from_residual.ensures.1)

pub get_u64_le-total-requires : goal.get_u64_le-total-requires
get_u64_le-total-requires c =
    let r = scan-reads _ _ _ _ _ (sym c.in_ok-seen.was ∙ c.scan_body.ensures) in
    omega (arith, read-long _ _ _ r.read)

pub returns-then-not-may_key : goal.returns-then-not-may_key
returns-then-not-may_key c =
    let a = c.args in
    let r = scan-reads a.item_type a.body.now a.wanted a.rank _ (sym c.in_ok-seen.was ∙ c.scan_body.ensures) in
    key-ten a.item_type a.body.now a.wanted a.rank a.amount _ _ r (are_bytes-in a.body.now (λ i. (c.type_inv.body i).fits)) _ (sym c.in-Gap.is ∙ c.add_anywhere.ensures)
    _ c.any_others.ensures (sym c.may_key.ensures ∙ c.if-not-may_key.true) refl

pub returns-in_err-count-in-Standing : goal.returns-in_err-count-in-Standing
returns-in_err-count-in-Standing c =
    let a = c.args in
    let r = scan-reads a.item_type a.body.now a.wanted a.rank _ (sym c.in_ok-seen.was ∙ c.scan_body.ensures) in
    key-no a.item_type a.body.now a.wanted a.rank a.amount _ _ r (are_bytes-in a.body.now (λ i. (c.type_inv.body i).fits)) _ (sym c.in-Standing.is ∙ c.add_anywhere.ensures)
    (omega arith) (sym c.in_err-count-in-Standing.was ∙ c.raised_count.ensures) (handed_on c.from_residual-in_err-count-in-Standing.ensures.1)

pub returns-else-not-may_key : goal.returns-else-not-may_key
returns-else-not-may_key c =
    let a = c.args in
    let r = scan-reads a.item_type a.body.now a.wanted a.rank _ (sym c.in_ok-seen.was ∙ c.scan_body.ensures) in
    let p = c.edit_put.ensures in
    key-new a.item_type a.body.now a.wanted a.rank a.amount _ _ r (are_bytes-in a.body.now (λ i. (c.type_inv.body i).fits)) _ (sym c.in-Gap.is ∙ c.add_anywhere.ensures)
    _ c.any_others.ensures _ _ p.new (sym c.may_key.ensures ∙ c.if-not-may_key.false) (omega arith) c.get_u64_le-total.ensures
    refl (record { front = p.front; long = p.long }) (ap Ok p.is)

pub returns-in_ok-count-in-Standing : goal.returns-in_ok-count-in-Standing
returns-in_ok-count-in-Standing c =
    let a = c.args in
    let r = scan-reads a.item_type a.body.now a.wanted a.rank _ (sym c.in_ok-seen.was ∙ c.scan_body.ensures) in
    key-count a.item_type a.body.now a.wanted a.rank a.amount _ _ r (are_bytes-in a.body.now (λ i. (c.type_inv.body i).fits)) _ (sym c.in-Standing.is ∙ c.add_anywhere.ensures)
    _ _ _ (sym c.in_ok-count-in-Standing.was ∙ c.raised_count.ensures) (omega arith) c.get_u64_le-total.ensures refl c.edit_put-in-Standing.ensures
