use mathlib.Core.Path.{ap, ◌∙◌}
use lib.Dec.{T}
use lib.ListN.{length}
use Rattle.std.specs.Prelude.{Ok}
use Rattle.fields.specs.Numbers.{are_bytes}
use Rattle.fields.proofs.Numbers.{are_bytes-in}
use Rattle.format.proofs.Answers.{handed_on}
use Rattle.format.proofs.Outputs.{handed}
use mathlib.Core.Path.{sym}
use native.Mathlib.Omega.{arith}
use Rattle.format.specs.Items.{nodesize_fits}
use Rattle.record_edit.specs.Records.{RecordFound}
use Rattle.record_edit.proofs.Stands.{Stands, stands}
use Rattle.record_edit.proofs.Searches.{finds-as}
use Rattle.transaction.proofs.KeyedAdditions.{keyed-add-refused, keyed-add-missing, keyed-add-kept, keyed-add-answered}
use Rattle.transaction.proofs.adds.apply_keyed_add.Goals as goal
use Rattle.transaction.proofs.adds.apply_keyed_add.Goals.{In-Some}

pub returns-in_err-found : goal.returns-in_err-found
returns-in_err-found c =
    let a = c.args in
    handed (handed_on c.from_residual.ensures.1)
    (keyed-add-refused a.nodesize (length a.out.now) a.keyed a.count a.as_item a.sheet.now a.bytenr _ a.out.now (finds-as a.sheet.now a.bytenr c.nodesize_fits-three.ensures c.in_err-found.was c.find_record.ensures))

pub returns-in_default : goal.returns-in_default
returns-in_default c =
    let a = c.args in
    keyed-add-missing a.nodesize (length a.out.now) a.keyed a.count a.as_item
    (finds-as a.sheet.now a.bytenr c.nodesize_fits-three.ensures (c.in_ok-found.was ∙ ap Ok c.in_default.is) c.find_record.ensures) a.out.now

-- the record was found
found : (c : In-Some) → RecordFound c.args.sheet.now c.args.bytenr (nodesize_fits c.args.nodesize) c.in-Some.found.index c.in-Some.found.target
found c = finds-as c.args.sheet.now c.args.bytenr c.nodesize_fits-three.ensures (c.in_ok-found.was ∙ ap Ok c.in-Some.is) c.find_record.ensures

bytes : (c : In-Some) → T (are_bytes c.args.sheet.now)
bytes c = are_bytes-in c.args.sheet.now (λ i. (c.type_inv.sheet i).fits)

stood : (c : In-Some) → Stands c.args.sheet.now (found c).there.stands.at_cut c.in-Some.found.target
stood c = stands (bytes c) (found c).there.stands

pub slice_bounds-body-end : goal.slice_bounds-body-end
slice_bounds-body-end c = (stood (goal.at.slice_bounds-body-end c).In-Some).within

pub put_record-requires-clause-item_head_bound : goal.put_record-requires-clause-item_head_bound
put_record-requires-clause-item_head_bound c = let d = stood (goal.at.put_record-requires-clause-item_head_bound c).In-Some in (d.ordered, d.within, d.small)

pub invariant_of-nothing : goal.invariant_of-nothing
invariant_of-nothing c = let d = stood (goal.at.invariant_of-nothing c).In-Some in record { inside = (omega arith, omega arith, d.small) }

pub returns-then-is_unread : goal.returns-then-is_unread
returns-then-is_unread c =
    let a = c.args in
    let p = (goal.at.returns-then-is_unread c).In-Some in
    keyed-add-kept a.nodesize (length a.out.now) a.keyed a.count a.as_item (bytes p) (found p) _ a.out.now _
    (sym c.is_unread.ensures ∙ c.if-is_unread.true) c.remove.ensures

pub returns : goal.returns
returns c =
    let a = c.args in
    let p = (goal.at.returns c).In-Some in
    keyed-add-answered a.nodesize (length a.out.now) a.keyed a.count a.as_item (bytes p) (found p) _ _ _ a.out.now _
    (sym c.is_unread.ensures ∙ c.if-is_unread.false) c.limit_for-limit.ensures c.plan_keyed-plan.ensures c.put_record.ensures
