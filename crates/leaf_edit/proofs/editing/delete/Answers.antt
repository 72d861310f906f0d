use mathlib.Core.Path.{sym, ◌∙◌}
use native.Mathlib.Omega.{arith}
use lib.ListN.{length}
use Rattle.format.proofs.Answers.{handed_on}
use Rattle.format.specs.Sheets.{delete}
use Rattle.item_list.specs.declared.ItemQuery.TheVariants.{AtOrPast}
use Rattle.item_list.specs.Seeks.{passing}
use Rattle.item_list.proofs.Reading.{Located}
use Rattle.item_list.proofs.Positions.{key-missing, key-room, key-past, key_here}
use Rattle.item_list.proofs.ItemWrites.{answered-no, answered-by}
use Rattle.leaf_edit.proofs.Checks.{found-bad, hit, miss, there, gone, missing}
use Rattle.leaf_edit.proofs.Deletions.{delete-refused, delete-absent, Deletion, deletion}
use Rattle.leaf_edit.proofs.editing.delete.Goals as goal
use Rattle.leaf_edit.proofs.editing.delete.Goals.{In_ok-place, Else-is_past}

pub returns-in_err-listing : goal.returns-in_err-listing
returns-in_err-listing c =
    rw (handed_on c.from_residual.ensures.1) (answered-no (delete _ _) _ _ _ (delete-refused _ _ _ (found-bad _ _ c.find.ensures c.in_err-listing.was)))

pub returns-in_err-place : goal.returns-in_err-place
returns-in_err-place c =
    let a = c.args in
    let l = miss _ _ _ c.find.ensures c.type_inv.sheet c.in_ok-listing.was (gone c.ok_or.ensures.ok_part c.in_err-place.was) in
    rw (missing c.ok_or.ensures.value c.ok_or.ensures.ok_part c.in_err-place.was c.from_residual-in_err-place.ensures.1) (answered-no (delete a.sheet.now a.key) _ _ a.out.now (delete-absent _ _ l.list _ _ (key-missing _ _ _ l)))

pub is_past-requires : goal.is_past-requires
is_past-requires c =
    key-room _ _ _ _ (hit _ _ _ c.find.ensures c.type_inv.sheet c.in_ok-listing.was (there c.ok_or.ensures.ok_part c.in_ok-place.was))

pub returns-then-is_past : goal.returns-then-is_past
returns-then-is_past c =
    let l = hit _ _ _ c.find.ensures c.type_inv.sheet c.in_ok-listing.was (there c.ok_or.ensures.ok_part c.in_ok-place.was) in
    answered-no (delete _ _) _ _ _ (delete-absent _ _ l.list _ _ (key-past _ _ _ _ l (sym c.is_past.ensures ∙ c.if-is_past.true)))

-- a key is not below the wanted one, and it is the wanted one
found : (c : Else-is_past) → Located (passing (AtOrPast c.args.key)) c.args.sheet.now c.in_ok-listing.listing.count c.in_ok-place.place
found c = hit _ _ _ c.find.ensures c.type_inv.sheet c.in_ok-listing.was (there c.ok_or.ensures.ok_part c.in_ok-place.was)

goes : (c : Else-is_past) → Deletion c.args.sheet.now c.in_ok-listing.listing.count (found c).list c.args.key c.in_ok-place.place.start c.in_ok-place.place.end
goes c =
    let l = found c in
    deletion _ _ l.list _ _ _ (key_here _ _ _ _ l (sym c.is_past.ensures ∙ c.if-is_past.false))

pub overflow_sub-listing : goal.overflow_sub-listing
overflow_sub-listing c = let d = goes (goal.at.overflow_sub-listing c).Else-is_past in let l = d.some-items in omega arith

pub invariant_of-item : goal.invariant_of-item
invariant_of-item c = let k = (goal.at.invariant_of-item c).Else-is_past in let d = goes k in record { inside = (d.ordered, d.within, (found k).list.small) }

pub returns : goal.returns
returns c =
    let a = c.args in
    let d = goes (goal.at.returns c).Else-is_past in
    answered-by (delete a.sheet.now a.key) (length a.out.now) _ d.items _ _ a.out.now _ d.result d.bytes-are d.count d.fit c.remove.ensures
