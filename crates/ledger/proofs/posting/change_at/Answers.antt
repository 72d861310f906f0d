use mathlib.Core.Path.{◌≡◌, ◌∙◌}
use Prim.Native.Nat.{ℕ}
use native.Mathlib.Omega.{arith}
use lib.ListN.{length}
use Rattle.inline_refs.specs.Scans.{kind_of}
use Rattle.item_list.specs.Steps.{list_items}
use Rattle.ledger.specs.Posting.{add_change}
use Rattle.ledger.proofs.Postings.{drop_block, drop-data, drop-shared, shared-add, as-drop, as-change, entered-as, not-block}
use Rattle.inline_refs.specs.declared.ref_name.RefName.TheVariants.{Block, Data}
use Rattle.theorems.proofs.Edit.{balanced-out}
use Rattle.transaction.specs.Drops.{drop_ref}
use Rattle.ledger.proofs.Dropping.{in-form, drop-answered}
use Rattle.ledger.proofs.posting.change_at.Goals as goal

pub returns-in-AddBlock : goal.returns-in-AddBlock
unfolding add_change
returns-in-AddBlock c =
    let a = c.args in
    as-change a.nodesize (length a.out.now) (list_items a.sheet.now) a.change _ c.in-AddBlock.is c.add.ensures

pub add-requires-in-AddData-clause-amount_value : goal.add-requires-in-AddData-clause-amount_value
unfolding kind_of
add-requires-in-AddData-clause-amount_value c = λ h. absurd (let z : ◌≡◌ {A = ℕ} 178 176 = h in omega arith)

pub returns-in-AddData : goal.returns-in-AddData
unfolding add_change
returns-in-AddData c =
    let a = c.args in
    as-change a.nodesize (length a.out.now) (list_items a.sheet.now) a.change _ c.in-AddData.is c.add-in-AddData.ensures

pub add-requires-in-AddShared-clause-amount_value : goal.add-requires-in-AddShared-clause-amount_value
add-requires-in-AddShared-clause-amount_value c = not-block _ c.shared_name-wanted.result c.shared_name-wanted.ensures

pub returns-in-AddShared : goal.returns-in-AddShared
returns-in-AddShared c =
    let a = c.args in
    as-change a.nodesize (length a.out.now) (list_items a.sheet.now) a.change _
    (c.in-AddShared.is ∙ shared-add _ c.shared_name-wanted.result c.shared_name-wanted.ensures _ _) c.add-in-AddShared.ensures

pub returns-in-DropBlock : goal.returns-in-DropBlock
returns-in-DropBlock c =
    let a = c.args in
    as-drop a.nodesize (length a.out.now) (list_items a.sheet.now) a.change _ _ c.in-DropBlock.is (drop_block a.nodesize _ (list_items a.sheet.now) _)
    (drop-answered (entered-as a.change c.in-DropBlock.is c.requires.stands_for) (drop_ref (Block _) 1 (list_items a.sheet.now)) (length a.out.now) _ a.out.now _ c.drop_ref.ensures)

pub returns-in-DropData : goal.returns-in-DropData
returns-in-DropData c =
    let a = c.args in
    as-drop a.nodesize (length a.out.now) (list_items a.sheet.now) a.change _ _ c.in-DropData.is (drop-data a.nodesize _ (list_items a.sheet.now) _)
    (drop-answered (entered-as a.change c.in-DropData.is c.requires.stands_for) (drop_ref (Data _) 1 (list_items a.sheet.now)) (length a.out.now) _ a.out.now _ c.drop_ref-in-DropData.ensures)

pub drop_ref-requires-in-DropShared-clause-shared_in_form : goal.drop_ref-requires-in-DropShared-clause-shared_in_form
drop_ref-requires-in-DropShared-clause-shared_in_form c = in-form c.shared_name-wanted-in-DropShared.result _ (balanced-out _ c.requires.t).goods

pub returns-in-DropShared : goal.returns-in-DropShared
returns-in-DropShared c =
    let a = c.args in
    let w = c.shared_name-wanted-in-DropShared.result in
    as-drop a.nodesize (length a.out.now) (list_items a.sheet.now) a.change _ _ c.in-DropShared.is (drop-shared a.nodesize _ (list_items a.sheet.now) _ w c.shared_name-wanted-in-DropShared.ensures _)
    (drop-answered (entered-as a.change c.in-DropShared.is c.requires.stands_for) (drop_ref w _ (list_items a.sheet.now)) (length a.out.now) _ a.out.now _ c.drop_ref-in-DropShared.ensures)
