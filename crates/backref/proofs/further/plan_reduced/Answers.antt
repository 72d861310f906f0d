use mathlib.Core.Path.{refl, ap, ◌∙◌}
use Prim.Native.Nat.{◌<◌}
use native.Mathlib.Omega.{arith}
use Rattle.std.specs.Prelude.{Ok}
use Rattle.format.proofs.Answers.{handed_on}
use Rattle.backref.proofs.Reductions.{reduced-low, reduced-edit, reduced-other, reduced-refused}
use Rattle.backref.proofs.further.plan_reduced.Goals as goal

pub returns-in_err-edit : goal.returns-in_err-edit
returns-in_err-edit c = rw (c.in_err-edit.was, handed_on c.from_residual.ensures.1) (reduced-refused _ _)

pub returns-in_default : goal.returns-in_default
returns-in_default c = rw c.in_ok-edit.was (reduced-other _ _ c.in_default.not-Edit)

pub returns-then-edit-amount : goal.returns-then-edit-amount
returns-then-edit-amount c =
    let word : c.in-Edit.edit.total < 18446744073709551616 = omega arith in
    rw (c.in_ok-edit.was ∙ ap Ok c.in-Edit.is) (reduced-low _ _ word _ c.if-edit-amount.true refl)

pub returns : goal.returns
returns c =
    let word : c.in-Edit.edit.total < 18446744073709551616 = omega arith in
    rw (c.in_ok-edit.was ∙ ap Ok c.in-Edit.is) (reduced-edit _ _ word _ c.if-edit-amount.false refl)
