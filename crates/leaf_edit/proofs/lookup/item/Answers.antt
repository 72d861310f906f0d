use mathlib.Core.Path.{◌≡◌, refl, sym, ap, ◌∙◌}
use Prim.Native.Nat.{ℕ, ◌+◌, ◌-◌}
use native.Mathlib.Omega.{arith}
use Rattle.fields.specs.Parts.{part}
use Rattle.format.specs.Questions.{Answer, accepted, lent_number}
use Rattle.leaf_edit.proofs.lookup.item.Goals as goal

pub returns : goal.returns
unfolding lent_number
returns c =
    let range = c.in_ok-range.range in
    let r = c.in_ok-range.ensures in
    let e : range.size ≡ range.start + range.size - range.start = omega arith in
    (r.0 ∙ ap (λ (n : ℕ). accepted (part range.start n c.args.sheet.now)) e, refl, sym (ap (λ (x : Answer ℕ). lent_number x + c.args.sheet.ref_ptr.1) r.1))
