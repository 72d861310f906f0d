use mathlib.Core.Path.{◌≡◌, refl, sym, ap, ◌∙◌}
use Prim.Native.Nat.{ℕ, ◌+◌, ◌-◌}
use native.Mathlib.Omega.{arith}
use Rattle.fields.specs.Parts.{part}
use Rattle.format.specs.Questions.{accepted}
use Rattle.format.proofs.Answers.{handed_on}
use Rattle.backref.proofs.Picks.{no_payload, a-payload}
use Rattle.backref.proofs.pick.inline_payload.Goals as goal

pub returns-in_err-reference : goal.returns-in_err-reference
returns-in_err-reference c =
    rw (handed_on c.from_residual.ensures.1) (no_payload c.args.body.now c.args.item_type c.args.index _ (sym c.in_err-reference.was ∙ c.inline_ref.ensures.0))

pub returns : goal.returns
returns c =
    let a = c.args in
    let r = c.in_ok-reference.reference in
    let h = a-payload a.body.now a.item_type a.index _ (sym c.in_ok-reference.was ∙ c.inline_ref.ensures.0) in
    let n : r.len ≡ r.start + r.len - r.start = omega arith in
    (h.0 ∙ ap (λ (m : ℕ). accepted (part r.start m a.body.now)) n, refl, ap (λ (m : ℕ). m + a.body.ref_ptr.1) h.1)
