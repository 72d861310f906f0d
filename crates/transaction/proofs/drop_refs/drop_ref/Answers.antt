use mathlib.Core.Path.{sym, ap, ◌∙◌}
use Prim.Native.Nat.{ℕ}
use lib.ListN.{length, get_or}
use mir.Val.{Fits}
use mir.Syntax.{w8}
use Rattle.std.specs.Prelude.{Ok}
use Rattle.fields.proofs.Numbers.{are_bytes-in}
use Rattle.format.specs.Items.{held_sheet}
use Rattle.format.proofs.Answers.{handed_on}
use Rattle.format.proofs.Outputs.{handed}
use Rattle.item_list.specs.Steps.{list_items}
use Rattle.record_edit.specs.Records.{on_key}
use Rattle.record_edit.proofs.Stands.{Stands, stands, key-answered}
use Rattle.transaction.specs.Drops.{drop_ref}
use Rattle.transaction.proofs.BehindRecord.{listed-behind, position-behind}
use Rattle.transaction.proofs.Turns.{not_err, same_ok, put_other, put-absent, lent_again}
use Rattle.transaction.proofs.RefDrops.{drop-inline, drop-none, drop-item, count_fits}
use Rattle.transaction.proofs.drop_refs.drop_ref.Goals as goal
use Rattle.transaction.proofs.drop_refs.drop_ref.Goals.{Start}

-- the record stands there
stood : (c : Start) → ((i : ℕ) → Fits w8 (get_or c.args.sheet.now i 0)) → Stands c.args.sheet.now c.requires.stands_at.at_cut c.args.target
stood c fits = stands (are_bytes-in c.args.sheet.now (λ i. (fits i).fits)) c.requires.stands_at

pub slice_bounds-body-end : goal.slice_bounds-body-end
slice_bounds-body-end c = (stood (goal.at.slice_bounds-body-end c).Start c.type_inv.sheet).within

pub put_record-requires-clause-item_head_bound : goal.put_record-requires-clause-item_head_bound
put_record-requires-clause-item_head_bound c = let d = stood (goal.at.put_record-requires-clause-item_head_bound c).Start c.type_inv.sheet in (d.ordered, d.within, d.small)

pub returns-in_err-edited : goal.returns-in_err-edited
returns-in_err-edited c =
    let at = (goal.at.returns-in_err-edited c).Start in
    let a = at.args in
    let put = c.put_record.ensures in
    handed (handed_on c.from_residual.ensures.1 ∙ sym c.in_err-edited.was)
    (key-answered at.requires.stands_at (drop_ref a.name a.amount (list_items a.sheet.now)) (length a.out.now) _ a.out.now _
    (drop-inline (stood at c.type_inv.sheet) a.name a.amount _ c.plan_drop-plan.ensures (length a.out.now) (put_other _ _ _ _ _ _ _ _ _ put (not_err c.in_err-edited.was)) _ a.out.now _ put))

pub returns-in_default : goal.returns-in_default
returns-in_default c =
    let at = (goal.at.returns-in_default c).Start in
    let a = at.args in
    let put = c.put_record.ensures in
    handed (sym c.in_ok-edited.was)
    (key-answered at.requires.stands_at (drop_ref a.name a.amount (list_items a.sheet.now)) (length a.out.now) _ a.out.now _
    (drop-inline (stood at c.type_inv.sheet) a.name a.amount _ c.plan_drop-plan.ensures (length a.out.now)
    (put_other _ _ _ _ _ _ _ _ _ put (λ e. c.in_default.not-Absent (same_ok c.in_ok-edited.was e))) _ a.out.now _ put))

pub seek-requires : goal.seek-requires
seek-requires c = listed-behind (stood (goal.at.seek-requires c).Start c.type_inv.sheet)

pub returns-in_default-seek : goal.returns-in_default-seek
returns-in_default-seek c =
    let at = (goal.at.returns-in_default-seek c).Start in
    let a = at.args in
    let plan = c.plan_drop-plan.ensures in
    let put = put-absent _ _ _ _ _ _ _ _ _ c.put_record.ensures (c.in_ok-edited.was ∙ ap Ok c.in-Absent.is) in
    lent_again (λ room. held_sheet room (on_key a.target.key (list_items a.sheet.now) (drop_ref a.name a.amount (list_items a.sheet.now)))) _ a.out.now _ _ put.1
    (key-answered at.requires.stands_at (drop_ref a.name a.amount (list_items a.sheet.now)) _ _ _ _
    (drop-none (stood at c.type_inv.sheet) a.name a.amount _ plan _ put.0 _ _ c.kind_of.ensures c.rank_of.ensures _ _ (sym c.seek.ensures ∙ c.in_default-seek.is)))

pub invariant_of-own : goal.invariant_of-own
invariant_of-own c =
    let d = stood (goal.at.invariant_of-own c).Start c.type_inv.sheet in
    let f = position-behind d _ _ _ (sym c.seek.ensures ∙ c.in-Present.is) in
    record { apart = (d.ordered, f.0, f.1, f.2, d.small) }

pub drop_ref-requires : goal.drop_ref-requires
drop_ref-requires c =
    let at = (goal.at.drop_ref-requires c).Start in
    let a = at.args in
    let put = put-absent _ _ _ _ _ _ _ _ _ c.put_record.ensures (c.in_ok-edited.was ∙ ap Ok c.in-Absent.is) in
    count_fits (stood at c.type_inv.sheet) a.name a.amount _ c.plan_drop-plan.ensures (length a.out.now) put.0 _ _ c.kind_of.ensures c.rank_of.ensures _ _
    (sym c.seek.ensures ∙ c.in-Present.is) at.requires.shared_in_form

pub returns : goal.returns
returns c =
    let at = (goal.at.returns c).Start in
    let a = at.args in
    let plan = c.plan_drop-plan.ensures in
    let put = put-absent _ _ _ _ _ _ _ _ _ c.put_record.ensures (c.in_ok-edited.was ∙ ap Ok c.in-Absent.is) in
    lent_again (λ room. held_sheet room (on_key a.target.key (list_items a.sheet.now) (drop_ref a.name a.amount (list_items a.sheet.now)))) _ a.out.now _ _ put.1
    (key-answered at.requires.stands_at (drop_ref a.name a.amount (list_items a.sheet.now)) _ _ _ _
    (drop-item (stood at c.type_inv.sheet) a.name a.amount _ plan _ put.0 _ _ c.kind_of.ensures c.rank_of.ensures _ _ _ _ _
    (sym c.seek.ensures ∙ c.in-Present.is) at.requires.shared_in_form c.drop_ref.ensures))
