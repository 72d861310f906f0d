-- Laws of the call on a data reference's item, one for each way out. Assumes nothing.
use mathlib.Core.Path.{◌≡◌, sym, ◌∙◌}
use mathlib.Core.Bool.{Bool, true, false}
use mathlib.Core.List.{List}
use Prim.Native.Nat.{ℕ, ◌-◌, ◌≤◌, ◌<◌}
use native.Mathlib.Omega.{arith}
use lib.Dec.{T}
use lib.ListN.{length, replicate}
use borrow.Author.Tests.{le-leb, lt-leb, eq-eqb, ne_eqb}
use Rattle.std.specs.Prelude.{Result, Ok}
use Rattle.format.specs.declared.Refusal.{Refusal}
use Rattle.fields.specs.Lists.{same}
use Rattle.fields.specs.Numbers.{le, le_bytes, words, are_bytes}
use Rattle.fields.specs.Parts.{part, written}
use Rattle.fields.proofs.Numbers.{length-le_bytes}
use Rattle.format.specs.declared.DataRef.{DataRef}
use Rattle.format.specs.Questions.{ask, denied}
use Rattle.format.specs.Bodies.{body_fits, triple, keyed_count, drop_keyed_data_ref}
use Rattle.backref.specs.declared.plan.Plan.TheVariants.{Edit, Remove}
use Rattle.backref.specs.declared.plan.Plan.{Plan}
use Rattle.backref.specs.Plans.{edited, Planned}
use Rattle.backref.proofs.Outcomes.{plan-edit, plan-refused, plan-remove}
use Rattle.backref.proofs.PlannedTotals.{rewritten, word-front}

module _ (item : List ℕ) (d : DataRef) (p : Result Plan Refusal) where
  pub keyed-long : 65535 < length item → p ≡ denied 3 → Planned p item (drop_keyed_data_ref item d)
  unfolding drop_keyed_data_ref ask body_fits
  keyed-long h o = plan-refused p item (drop_keyed_data_ref item d) 3 o (simp (lt-leb _ _ h))

  pub keyed-size : length item ≤ 65535 → (length item ≡ 28 → ⊥) → p ≡ denied 15 → Planned p item (drop_keyed_data_ref item d)
  unfolding drop_keyed_data_ref ask body_fits
  keyed-size h k o = plan-refused p item (drop_keyed_data_ref item d) 15 o (simp (le-leb _ _ h, ne_eqb _ _ k))

  module _ (n : length item ≡ 28) (b : Bool) (is : b ≡ same (words 3 item) (triple d)) where
    fits : length item ≤ 65535
    fits = omega arith

    pub keyed-other : b ≡ false → p ≡ denied 15 → Planned p item (drop_keyed_data_ref item d)
    unfolding drop_keyed_data_ref ask body_fits
    keyed-other f o =
        plan-refused p item (drop_keyed_data_ref item d) 15 o (simp (le-leb _ _ fits, eq-eqb _ _ n, sym is ∙ f))

    module _ (t : b ≡ true) (count : ℕ) (q : count ≡ le (part 24 4 item)) where
      pub keyed-none : count ≡ 0 → p ≡ denied 16 → Planned p item (drop_keyed_data_ref item d)
      unfolding drop_keyed_data_ref ask body_fits keyed_count
      keyed-none z o =
          let k : count < 1 = omega arith in
          plan-refused p item (drop_keyed_data_ref item d) 16 o (simp (le-leb _ _ fits, eq-eqb _ _ n, sym is ∙ t, ← q, lt-leb _ _ k))

      pub keyed-last : count ≡ 1 → p ≡ Ok Remove → Planned p item (drop_keyed_data_ref item d)
      unfolding drop_keyed_data_ref ask body_fits keyed_count
      keyed-last z o =
          let k : 1 ≤ count = omega arith in
          plan-remove p item (drop_keyed_data_ref item d) o (simp (le-leb _ _ fits, eq-eqb _ _ n, sym is ∙ t, ← q, le-leb _ _ k, eq-eqb _ _ z))

      pub keyed-less : (tree : ℕ) (new : List ℕ) → T (are_bytes item) → (count ≡ 0 → ⊥) → (count ≡ 1 → ⊥) → tree ≡ le (part 0 8 item)
          → new ≡ written 0 (le_bytes 4 (count - 1)) (replicate 32 0)
          → p ≡ Ok (Edit (record { from = 24; to = 28; new = new; size = 4; total = tree; count = 0 }))
          → Planned p item (drop_keyed_data_ref item d)
      unfolding drop_keyed_data_ref ask body_fits keyed_count edited
      keyed-less tree new bytes y z e w o =
          let k : 1 ≤ count = omega arith in
          let word : List ℕ = le_bytes 4 (count - 1) in
          let n4 : length word ≡ 4 = length-le_bytes 4 (count - 1) in
          let New-is = word-front word new 4 n4 (omega arith) w in
          let high : 28 ≤ length item = omega arith in
          plan-edit p item (drop_keyed_data_ref item d) _ (written 24 word item) o
          (record { low = omega arith; order = omega arith; high = high; fits = fits; small = omega arith; full = New-is.1 })
          (simp (le-leb _ _ fits, eq-eqb _ _ n, sym is ∙ t, ← q, le-leb _ _ k, ne_eqb _ _ z))
          (rewritten item word new tree 24 4 bytes e (omega arith) high n4 New-is.0)
