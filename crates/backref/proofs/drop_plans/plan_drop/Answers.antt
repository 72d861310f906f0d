use mathlib.Core.Path.{refl, sym, ap, ◌∙◌}
use native.Mathlib.Omega.{arith}
use Rattle.fields.proofs.Numbers.{are_bytes-in}
use Rattle.format.specs.Questions.{accepted}
use Rattle.format.proofs.Answers.{handed_on}
use Rattle.format.proofs.Bodies.{read-long}
use Rattle.backref.proofs.PlannedTotals.{asked-by}
use Rattle.backref.proofs.AddedAt.{scan-reads}
use Rattle.backref.proofs.Takes.{drop-named, lowers, drop-fault, drop-absent, drop-refused, drop-gone, drop-kept}
use Rattle.backref.proofs.drop_plans.plan_drop.Goals as goal

pub returns-in_err-seen : goal.returns-in_err-seen
returns-in_err-seen c =
    drop-named _ _ _ c.requires (drop-fault _ _ _ _ _ _ _ (sym c.in_err-seen.was ∙ c.scan_body.ensures) (handed_on c.from_residual.ensures.1))

pub returns-in_default : goal.returns-in_default
returns-in_default c =
    let a = c.args in
    let r = scan-reads a.item_type a.body.now a.wanted 0 _ (sym c.in_ok-seen.was ∙ c.scan_body.ensures) in
    drop-named _ _ _ c.requires (drop-absent _ _ _ _ _ _ _ r (sym c.in_default.is ∙ c.hit_of.ensures) refl)

pub get_u64_le-total-requires : goal.get_u64_le-total-requires
get_u64_le-total-requires c =
    let r = scan-reads _ _ _ 0 _ (sym c.in_ok-seen.was ∙ c.scan_body.ensures) in
    omega (arith, read-long _ _ _ r.read)

pub returns-in_err-ask_drop : goal.returns-in_err-ask_drop
returns-in_err-ask_drop c =
    let a = c.args in
    let r = scan-reads a.item_type a.body.now a.wanted 0 _ (sym c.in_ok-seen.was ∙ c.scan_body.ensures) in
    let asked = asked-by c.ask_drop.ensures (lowers a.wanted _ _ _ c.requires) in
    drop-named _ _ _ c.requires
    (drop-refused _ _ _ _ _ _ _ r _ _ (sym c.in-Some.is ∙ c.hit_of.ensures) c.get_u64_le-total.ensures _
    (asked.refuses c.in_err-ask_drop.was) (handed_on c.from_residual-in_err-ask_drop.ensures.1))

pub returns-then-found-amount : goal.returns-then-found-amount
returns-then-found-amount c =
    let a = c.args in
    let r = scan-reads a.item_type a.body.now a.wanted 0 _ (sym c.in_ok-seen.was ∙ c.scan_body.ensures) in
    let asked = asked-by c.ask_drop.ensures (lowers a.wanted _ _ _ c.requires) in
    drop-named a.item_type a.wanted _ c.requires
    (drop-gone a.item_type a.body.now a.wanted _ _ _ _ r _ _ (sym c.in-Some.is ∙ c.hit_of.ensures)
    c.get_u64_le-total.ensures (are_bytes-in a.body.now (λ i. (c.type_inv.body i).fits)) _
    (asked.passes c.in_ok-ask_drop.was ∙ ap accepted (sym c.total_less-rest.ensures)) c.if-found-amount.true refl)

pub returns : goal.returns
returns c =
    let a = c.args in
    let r = scan-reads a.item_type a.body.now a.wanted 0 _ (sym c.in_ok-seen.was ∙ c.scan_body.ensures) in
    let asked = asked-by c.ask_drop.ensures (lowers a.wanted _ _ _ c.requires) in
    drop-named a.item_type a.wanted _ c.requires
    (drop-kept a.item_type a.body.now a.wanted _ _ _ _ r _ _ (sym c.in-Some.is ∙ c.hit_of.ensures)
    c.get_u64_le-total.ensures (are_bytes-in a.body.now (λ i. (c.type_inv.body i).fits)) _
    (asked.passes c.in_ok-ask_drop.was ∙ ap accepted (sym c.total_less-rest.ensures))
    _ _ c.if-found-amount.false (record { front = c.bytes_of.ensures.result_value; long = c.bytes_of.ensures.result_len }) c.size_of.ensures refl)
