use mathlib.Core.Path.{refl, sym, ap, ◌∙◌}
use native.Mathlib.Omega.{arith}
use Rattle.std.specs.Prelude.{Some, None, Ok, Err}
use Rattle.fields.proofs.Numbers.{are_bytes-in}
use Rattle.format.proofs.Bodies.{read-long}
use Rattle.backref.proofs.Outcomes.{no-edit}
use Rattle.backref.proofs.PlannedTotals.{asked-all}
use Rattle.backref.proofs.LeftTakes.{scan-says, scan-small, off-fault, off-absent, off-stopped, off-gone, off-kept}
use Rattle.backref.proofs.offs.plan_off.Goals as goal

pub returns-in-Err : goal.returns-in-Err
returns-in-Err c =
    off-fault _ _ _ _ _ (scan-says _ _ _ (Err _) (sym c.in-Err.is ∙ c.scan_to_drop.ensures)) (no-edit c.no_drop.ensures)

pub returns-in-Ok-None : goal.returns-in-Ok-None
returns-in-Ok-None c =
    off-absent _ _ _ _ _ (scan-says _ _ _ (Ok None) (sym (c.in-Ok-None.is ∙ ap Ok c.in-Ok-None.field-0-is) ∙ c.scan_to_drop.ensures)) (no-edit c.no_drop-in-Ok-None.ensures)

pub get_u64_le-total-requires : goal.get_u64_le-total-requires
get_u64_le-total-requires c =
    let a = c.args in
    let r = scan-says a.item_type a.body.now a.wanted (Ok (Some c.in-Ok-Some.first)) (sym (c.in-Ok-Some.is ∙ ap Ok c.in-Ok-Some.field-0-is) ∙ c.scan_to_drop.ensures) in
    omega (arith, read-long _ _ _ r.read)

pub returns-in-Err-ask_off : goal.returns-in-Err-ask_off
returns-in-Err-ask_off c =
    let a = c.args in
    let r = scan-says a.item_type a.body.now a.wanted (Ok (Some c.in-Ok-Some.first)) (sym (c.in-Ok-Some.is ∙ ap Ok c.in-Ok-Some.field-0-is) ∙ c.scan_to_drop.ensures) in
    off-stopped a.item_type a.body.now a.wanted a.off _ r _ c.get_u64_le-total.ensures _ c.ask_off.ensures
    c.in-Err-ask_off.is (no-edit c.no_drop-in-Err-ask_off.ensures)

pub returns-then-found-amount : goal.returns-then-found-amount
returns-then-found-amount c =
    let a = c.args in
    let r = scan-says a.item_type a.body.now a.wanted (Ok (Some c.in-Ok-Some.first)) (sym (c.in-Ok-Some.is ∙ ap Ok c.in-Ok-Some.field-0-is) ∙ c.scan_to_drop.ensures) in
    off-gone a.item_type a.body.now a.wanted a.off _ r _ c.get_u64_le-total.ensures _ c.ask_off.ensures
    (are_bytes-in a.body.now (λ i. (c.type_inv.body i).fits)) (asked-all _ c.in_default.not-Err) _ c.total_off-rest.ensures
    _ c.amount_off-amount.ensures c.if-found-amount.true refl refl

pub overflow_add-result : goal.overflow_add-result
overflow_add-result c =
    let a = c.args in
    let r = scan-says a.item_type a.body.now a.wanted (Ok (Some c.in-Ok-Some.first)) (sym (c.in-Ok-Some.is ∙ ap Ok c.in-Ok-Some.field-0-is) ∙ c.scan_to_drop.ensures) in
    omega (arith, scan-small a.item_type a.body.now a.wanted r (are_bytes-in a.body.now (λ i. (c.type_inv.body i).fits)))

pub returns : goal.returns
returns c =
    let a = c.args in
    let r = scan-says a.item_type a.body.now a.wanted (Ok (Some c.in-Ok-Some.first)) (sym (c.in-Ok-Some.is ∙ ap Ok c.in-Ok-Some.field-0-is) ∙ c.scan_to_drop.ensures) in
    off-kept a.item_type a.body.now a.wanted a.off _ r _ c.get_u64_le-total.ensures _ c.ask_off.ensures
    (are_bytes-in a.body.now (λ i. (c.type_inv.body i).fits)) (asked-all _ c.in_default.not-Err) _ c.total_off-rest.ensures
    _ c.amount_off-amount.ensures _ _ c.if-found-amount.false (record { front = c.bytes_of.ensures.result_value; long = c.bytes_of.ensures.result_len })
    c.size_of.ensures refl refl
