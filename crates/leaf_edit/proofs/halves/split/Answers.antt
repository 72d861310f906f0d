use mathlib.Core.Path.{refl, sym, ap, ◌∙◌}
use mathlib.Core.List.{[], ◌∷◌}
use Prim.Native.Nat.{ℕ}
use native.Mathlib.Omega.{arith}
use Rattle.format.proofs.Answers.{handed_on}
use Rattle.format.specs.Questions.{accepted}
use Rattle.format.specs.Sheets.{split}
use Rattle.leaf_edit.proofs.Checks.{good, bad}
use Rattle.leaf_edit.proofs.Splits.{cuts-refused, cuts-like, half-up, split-refused, split-few, split-half}
use Rattle.leaf_edit.proofs.halves.split.Goals as goal

pub returns-in_err-count : goal.returns-in_err-count
returns-in_err-count c =
    rw (handed_on c.from_residual.ensures.1) (cuts-refused (split _) _ _ _ _ (split-refused _ _ (bad _ c.check.ensures c.in_err-count.was)) refl)

pub returns-then-count-lt2 : goal.returns-then-count-lt2
returns-then-count-lt2 c =
    cuts-refused (split _) _ _ _ _ (split-few _ _ (good c.check.ensures c.type_inv.sheet c.in_ok-count.was) c.if-count-lt2.true) refl

pub put_cut-requires : goal.put_cut-requires
put_cut-requires c =
    let g = good c.check.ensures c.type_inv.sheet c.in_ok-count.was in
    let l = g.few in
    let e = c.div_ceil.ensures ∙ half-up c.in_ok-count.count in
    omega (arith, e, l)

pub returns : goal.returns
returns c =
    let g = good c.check.ensures c.type_inv.sheet c.in_ok-count.was in
    let e = c.div_ceil.ensures ∙ half-up c.in_ok-count.count in
    cuts-like (split c.args.sheet.now) _ (split-half _ _ g c.if-count-lt2.false ∙ ap (λ (n : ℕ). accepted (n ∷ [])) (sym e)) c.put_cut.ensures
