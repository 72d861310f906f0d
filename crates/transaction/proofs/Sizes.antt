-- Laws of the calls on a shared kind, one for each way out. Assumes nothing.
use mathlib.Core.Path.{◌≡◌, refl, sym, ap, ◌∙◌, subst}
use mathlib.Core.Bool.{true, false}
use mathlib.Core.List.{List, []}
use Prim.Native.Nat.{ℕ, ◌≤◌, ◌<◌}
use native.Mathlib.Omega.{arith}
use borrow.Author.Tests.{le-leb, lt-leb}
use Rattle.fields.specs.Numbers.{le_bytes}
use Rattle.std.specs.Prelude.{Result}
use Rattle.format.specs.declared.Edited.{Edited}
use Rattle.format.specs.declared.Refusal.{Refusal}
use Rattle.format.specs.Questions.{refused, accepted, ask, bind, held, Answered}
use Rattle.format.specs.References.{count_position, counted}
use Rattle.format.specs.Bodies.{held_body, shared_kind, shared_add_item}

-- ---- a shared reference, by the row of its kind

module _ (k : ℕ) where
  module _ (other : shared_kind k ≡ false) where
    pub item-other : (count room : ℕ) → held_body room (shared_add_item k count) ≡ refused 3
    unfolding held_body held bind shared_add_item ask
    item-other count room = rw other refl

  module _ (shared : shared_kind k ≡ true) where
    module _ (count n : ℕ) (is : n ≡ count_position k) where
      item-is : (n ≡ 0 → ⊥) → shared_add_item k count ≡ accepted (le_bytes 4 count)
      unfolding shared_add_item ask counted
      item-is h = let some : 1 ≤ count_position k = omega (arith, is) in simp (shared, le-leb _ _ some)

      item-empty : n ≡ 0 → shared_add_item k count ≡ accepted []
      unfolding shared_add_item ask counted
      item-empty h = let none : count_position k < 1 = omega (arith, is) in simp (shared, lt-leb _ _ none)

      module _ (room : ℕ) where
        pub item-data : {b old new : List ℕ} {r : Result Edited Refusal} → (n ≡ 0 → ⊥) → b ≡ le_bytes 4 count
            → Answered (held_body room (accepted b)) r old new → Answered (held_body room (shared_add_item k count)) r old new
        item-data {old = old} {new = new} {r = r} e q h =
            subst (λ a. Answered (held_body room a) r old new) (ap accepted q ∙ sym (item-is e)) h

        pub item-block : {old new : List ℕ} {r : Result Edited Refusal} → n ≡ 0
            → Answered (held_body room (accepted [])) r old new → Answered (held_body room (shared_add_item k count)) r old new
        item-block {old = old} {new = new} {r = r} e h =
            subst (λ a. Answered (held_body room a) r old new) (sym (item-empty e)) h
