use lib.ListN.{length}
use Rattle.format.proofs.Answers.{handed_on}
use Rattle.record_edit.proofs.Searches.{passed-shows}
use Rattle.ledger.proofs.Postings.{finds-for, read-for, none-for, sheet-no, unbalanced, missing-answered, kind-yes, balanced-list, post-answered}
use Rattle.ledger.proofs.posting.post.Goals as goal

pub returns-in_err-found : goal.returns-in_err-found
returns-in_err-found c =
    let a = c.args in
    rw (handed_on c.from_residual.ensures.1)
    (sheet-no a.sheet.now a.nodesize a.change (length a.out.now) _ a.out.now
    (finds-for a.sheet.now a.change c.extent_of.ensures c.change_fits-three.ensures c.in_err-found.was c.find_record.ensures))

pub ask_balanced-requires : goal.ask_balanced-requires
ask_balanced-requires c =
    (passed-shows _ _ (read-for c.args.sheet.now c.args.change _ c.extent_of.ensures c.change_fits-three.ensures c.in_ok-found.ensures)).1

pub returns-in_err-ask_balanced : goal.returns-in_err-ask_balanced
returns-in_err-ask_balanced c =
    let a = c.args in
    let p = read-for a.sheet.now a.change _ c.extent_of.ensures c.change_fits-three.ensures c.in_ok-found.ensures in
    rw (handed_on c.from_residual-in_err-ask_balanced.ensures.1)
    (unbalanced a.sheet.now a.nodesize a.change (length a.out.now) p _ a.out.now c.in_err-ask_balanced.ensures)

pub returns-in_default : goal.returns-in_default
returns-in_default c =
    let a = c.args in
    let p = read-for a.sheet.now a.change _ c.extent_of.ensures c.change_fits-three.ensures c.in_ok-found.ensures in
    missing-answered a.sheet.now a.nodesize a.change (length a.out.now) p c.in_ok-ask_balanced.ensures a.out.now
    (none-for a.sheet.now a.change _ c.extent_of.ensures c.change_fits-three.ensures c.in_ok-found.ensures c.in_default.is)

pub change_at-requires-clause-t : goal.change_at-requires-clause-t
change_at-requires-clause-t c =
    let a = c.args in
    balanced-list a.sheet.now a.nodesize a.change 0
    (read-for a.sheet.now a.change _ c.extent_of.ensures c.change_fits-three.ensures c.in_ok-found.ensures) c.in_ok-ask_balanced.ensures

pub change_at-requires-clause-t_2 : goal.change_at-requires-clause-t_2
change_at-requires-clause-t_2 c =
    let a = c.args in
    kind-yes a.sheet.now a.nodesize a.change 0
    (read-for a.sheet.now a.change _ c.extent_of.ensures c.change_fits-three.ensures c.in_ok-found.ensures)

pub returns : goal.returns
returns c =
    let a = c.args in
    let p = read-for a.sheet.now a.change _ c.extent_of.ensures c.change_fits-three.ensures c.in_ok-found.ensures in
    post-answered a.sheet.now a.nodesize a.change (length a.out.now) p c.in_ok-ask_balanced.ensures _ a.out.now _ c.change_at.ensures
