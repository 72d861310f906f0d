-- The measuring pass: question 18, the best two-way cut and the leaves filled from the left, side by side. Assumes nothing.
use mathlib.Core.Path.{◌≡◌, refl, sym, ◌∙◌, subst}
use mathlib.Core.Bool.{true, false}
use mathlib.Core.Option.{Option as Maybe, none, some}
use mathlib.Core.List.{List, []}
use Prim.Native.Nat.{ℕ, ◌+◌, ◌-◌, ◌*◌, ◌≤◌, ◌<◌}
use lib.ListN.{length}
use Rattle.std.specs.Prelude.{Option, None, Ok}
use Rattle.fields.specs.Lists.{all}
use Rattle.format.specs.Items.{Item}
use Rattle.format.specs.Sheets.{best_cut}
use Rattle.item_list.specs.Steps.{list_items}
use Rattle.item_list.proofs.Walks.{More}
use Rattle.leaf_edit.specs.declared.two_way.Cut.{Cut}
use Rattle.leaf_edit.specs.Division.{Sized, fits_alone, Divided, cutting_of, improved, chosen}
use Rattle.leaf_edit.proofs.Running.{Passed, passed_none, passed-all, passed-next, each-end, each_over, each_more}
use Rattle.leaf_edit.proofs.Filling.{Counting, counting-none, counting-all, counting-stays, counting-starts}

pub record Measuring (n : ℕ) (items : List Item) (i left right : ℕ) (best : Option Cut) (used leaves : ℕ) (rest : List Item) : Type 0 where
  pub each : all (fits_alone n) items ≡ all (fits_alone n) rest
  pub passed : Passed n items i left right best rest
  pub counting : Counting n items i used leaves rest

pub measuring-none : (n : ℕ) (s : List ℕ) (count : ℕ) → Sized s count
    → Measuring n (list_items s) 0 101 (100 + length s + 4 * count) None 101 0 (list_items s)
measuring-none n s count z = record { each = refl; passed = passed_none n s count z; counting = counting-none n (list_items s) }

module _ (n : ℕ) (items : List Item) (i left right : ℕ) (best : Option Cut) (used leaves : ℕ) (rest : List Item)
    (k : Measuring n items i left right best used leaves rest) where
  pub measuring-all : rest ≡ [] → Divided n items (Ok (chosen best leaves))
  unfolding cutting_of
  measuring-all e = subst (λ (b : Option Cut). Divided n items (Ok (chosen b leaves))) (sym found) (go (best_cut n items (length items - 1)) refl)
    where
      fits : all (fits_alone n) items ≡ true
      fits = k.each ∙ each-end n rest e

      found : best ≡ cutting_of items (best_cut n items (length items - 1))
      found = passed-all n items i left right best rest k.passed e

      go : (o : Maybe ℕ) → best_cut n items (length items - 1) ≡ o → Divided n items (Ok (chosen (cutting_of items o) leaves))
      go none f = (fits, f, counting-all n items i used leaves rest k.counting e)
      go (some at) f = (fits, f)

  module _ (s : List ℕ) (at size : ℕ) (m : More s at (at + size) rest) where
    pub measuring-over : n < 101 + (size + 4) → all (fits_alone n) items ≡ false
    measuring-over h = k.each ∙ each_over s at size rest m n h

    module _ (l : n ≤ 65536) (a : 101 + (size + 4) ≤ n) (better : Option Cut) (b : better ≡ improved n left right i best) where
      next-with : (u v : ℕ) → Counting n items (i + 1) u v m.others
          → Measuring n items (i + 1) (left + (size + 4)) (right - (size + 4)) better u v m.others
      next-with u v c =
          record {
            each = k.each ∙ each_more s at size rest m n a;
            passed = passed-next n items i left right best s at size rest k.passed m better b;
            counting = c;
          }

      pub measuring-stays : used + (size + 4) ≤ n
          → Measuring n items (i + 1) (left + (size + 4)) (right - (size + 4)) better (used + (size + 4)) leaves m.others
      measuring-stays h = next-with _ _ (counting-stays n items i used leaves s at size rest k.counting m l h)

      pub measuring-starts : n < used + (size + 4)
          → Measuring n items (i + 1) (left + (size + 4)) (right - (size + 4)) better (101 + (size + 4)) (leaves + 1) m.others
      measuring-starts h = next-with _ _ (counting-starts n items i used leaves s at size rest k.counting m l a h)
