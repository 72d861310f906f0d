use mathlib.Core.Path.{refl, ap, ◌∙◌}
use native.Mathlib.Omega.{arith}
use lib.ListN.{length}
use Rattle.std.specs.Prelude.{Ok}
use Rattle.fields.proofs.Numbers.{are_bytes-in}
use Rattle.format.proofs.Answers.{handed_on}
use Rattle.format.proofs.Outputs.{handed}
use Rattle.record_edit.proofs.Stands.{stands}
use Rattle.transaction.proofs.Owned.{own-fits, own-written, own-other}
use Rattle.transaction.proofs.OwnDrops.{key-owned}
use Rattle.transaction.proofs.Turns.{not_err, same_ok}
use Rattle.transaction.proofs.drop_kept.drop_owned.Goals as goal

pub returns-in_err-edited : goal.returns-in_err-edited
returns-in_err-edited c =
    let o = key-owned (are_bytes-in c.args.sheet.now (λ i. (c.type_inv.sheet i).fits)) c.requires c.args.name (length c.args.out.now) in
    handed (handed_on c.from_residual.ensures.1) (own-other _ _ _ c.args.out.now _ c.in_err-edited.was (λ n. not_err refl) o c.drop_ref.ensures)

pub overflow_add-target : goal.overflow_add-target
overflow_add-target c =
    let d = stands (are_bytes-in c.args.sheet.now (λ i. (c.type_inv.sheet i).fits)) c.requires in
    let p = d.ordered in
    let q = d.within in
    let m = d.small in
    omega arith

pub set_own-requires : goal.set_own-requires
set_own-requires c =
    let o = key-owned (are_bytes-in c.args.sheet.now (λ i. (c.type_inv.sheet i).fits)) c.requires c.args.name (length c.args.out.now) in
    own-fits _ _ _ c.args.out.now _ (c.in_ok-edited.was ∙ ap Ok c.in-Written.is) o c.drop_ref.ensures

pub returns-in-Written : goal.returns-in-Written
returns-in-Written c =
    let o = key-owned (are_bytes-in c.args.sheet.now (λ i. (c.type_inv.sheet i).fits)) c.requires c.args.name (length c.args.out.now) in
    handed (ap Ok c.in-Written.is) (own-written _ _ _ c.args.out.now _ _ (c.in_ok-edited.was ∙ ap Ok c.in-Written.is) o c.drop_ref.ensures c.set_own.ensures)

pub returns-in_default : goal.returns-in_default
returns-in_default c =
    let o = key-owned (are_bytes-in c.args.sheet.now (λ i. (c.type_inv.sheet i).fits)) c.requires c.args.name (length c.args.out.now) in
    own-other _ _ _ c.args.out.now _ c.in_ok-edited.was (λ n e. c.in_default.not-Written n (same_ok refl e)) o c.drop_ref.ensures
