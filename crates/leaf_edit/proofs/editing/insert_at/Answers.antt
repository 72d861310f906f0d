use mathlib.Core.Path.{sym, ◌∙◌}
use Rattle.format.proofs.Answers.{handed_on}
use Rattle.item_list.proofs.Positions.{key-missing, key-room, key-past, key_here}
use Rattle.leaf_edit.proofs.Checks.{found-bad, found-good, hit, miss}
use Rattle.leaf_edit.proofs.Insertions.{target-broken, target-three, target-taken, target-open}
use Rattle.leaf_edit.proofs.editing.insert_at.Goals as goal

pub returns-in_err-listing : goal.returns-in_err-listing
returns-in_err-listing c = handed_on c.from_residual.ensures.1 ∙ target-broken _ _ _ _ (found-bad _ _ c.find.ensures c.in_err-listing.was)

pub returns-then-not-three : goal.returns-then-not-three
returns-then-not-three c =
    target-three _ _ (found-good _ _ _ c.find.ensures c.type_inv.sheet c.in_ok-listing.was) _ _ c.if-not-three.true

pub returns-in_default : goal.returns-in_default
returns-in_default c =
    let l = miss _ _ _ c.find.ensures c.type_inv.sheet c.in_ok-listing.was c.in_default.is in
    target-open _ _ l.list _ _ c.if-not-three.false _ (key-missing _ _ _ l)

pub is_past-requires : goal.is_past-requires
is_past-requires c = key-room _ _ _ _ (hit _ _ _ c.find.ensures c.type_inv.sheet c.in_ok-listing.was c.in-Some.is)

pub returns-then-is_past : goal.returns-then-is_past
returns-then-is_past c =
    let l = hit _ _ _ c.find.ensures c.type_inv.sheet c.in_ok-listing.was c.in-Some.is in
    target-open _ _ l.list _ _ c.if-not-three.false _ (key-past _ _ _ _ l (sym c.is_past.ensures ∙ c.if-is_past.true))

pub returns : goal.returns
returns c =
    let l = hit _ _ _ c.find.ensures c.type_inv.sheet c.in_ok-listing.was c.in-Some.is in
    target-taken _ _ l.list _ _ c.if-not-three.false _ _ (key_here _ _ _ _ l (sym c.is_past.ensures ∙ c.if-is_past.false))
