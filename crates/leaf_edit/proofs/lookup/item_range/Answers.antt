use native.Mathlib.Omega.{arith}
use Rattle.format.proofs.Answers.{handed_on}
use Rattle.leaf_edit.proofs.Checks.{found-bad, hit, miss, there, gone, missing}
use Rattle.leaf_edit.proofs.Lookups.{item_refused, start-refused, item-missing, start-missing, stored}
use Rattle.leaf_edit.proofs.lookup.item_range.Goals as goal

pub returns-in_err-listing : goal.returns-in_err-listing
returns-in_err-listing c =
    let e = found-bad _ _ c.find.ensures c.in_err-listing.was in
    rw (handed_on c.from_residual.ensures.1) (item_refused _ _ _ e, start-refused _ _ _ e)

pub returns-in_err-place : goal.returns-in_err-place
returns-in_err-place c =
    let l = miss _ _ _ c.find.ensures c.type_inv.sheet c.in_ok-listing.was (gone c.ok_or.ensures.ok_part c.in_err-place.was) in
    rw (missing c.ok_or.ensures.value c.ok_or.ensures.ok_part c.in_err-place.was c.from_residual-in_err-place.ensures.1) (item-missing _ _ _ l, start-missing _ _ _ l)

pub overflow_add-start : goal.overflow_add-start
overflow_add-start c =
    let d = stored _ _ _ _ (hit _ _ _ c.find.ensures c.type_inv.sheet c.in_ok-listing.was (there c.ok_or.ensures.ok_part c.in_ok-place.was)) in
    let p = d.ordered in
    let q = d.within in
    omega arith

pub overflow_sub-result : goal.overflow_sub-result
overflow_sub-result c =
    let d = stored _ _ _ _ (hit _ _ _ c.find.ensures c.type_inv.sheet c.in_ok-listing.was (there c.ok_or.ensures.ok_part c.in_ok-place.was)) in
    let p = d.ordered in
    omega arith

pub returns : goal.returns
returns c =
    let d = stored _ _ _ _ (hit _ _ _ c.find.ensures c.type_inv.sheet c.in_ok-listing.was (there c.ok_or.ensures.ok_part c.in_ok-place.was)) in
    let p = d.ordered in
    let q = d.within in
    (d.is, d.start_of, omega arith)
