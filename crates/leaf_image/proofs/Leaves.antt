-- Question 23 of an image, as code tests it. Assumes nothing.
use mathlib.Core.Path.{◌≡◌, ap, ◌∙◌}
use mathlib.Core.Bool.{false}
use mathlib.Core.List.{List}
use Prim.Native.Nat.{ℕ, ◌-◌}
use lib.Dec.{eqb}
use lib.ListN.{length, drop, get_or}
use borrow.Author.Tests.{eq-eqb, ne_eqb}
use Rattle.crc32c.specs.Register.{crc32c, all_ones, crc_run, inverted}
use Rattle.fields.specs.Numbers.{le}
use Rattle.fields.specs.Parts.{part}
use Rattle.fields.proofs.Lists.{and-false}
use Rattle.fields.proofs.Parts.{part-rest}
use Rattle.format.specs.LeafImage.{checksum, level_in, is_leaf}

module _ (nodesize : ℕ) (image : List ℕ) where
  pub leaf-length : (length image ≡ nodesize → ⊥) → false ≡ is_leaf nodesize image
  unfolding is_leaf
  leaf-length h = rw (ne_eqb (length image) nodesize h)

  pub leaf-level : (get_or image 100 0 ≡ 0 → ⊥) → false ≡ is_leaf nodesize image
  unfolding is_leaf level_in
  leaf-level h = rw (ne_eqb (get_or image 100 0) 0 h, and-false (eqb (length image) nodesize))

  pub leaf-sum : length image ≡ nodesize → get_or image 100 0 ≡ 0 → (stored register finished : ℕ) → stored ≡ le (part 0 4 image)
      → register ≡ crc_run crc32c all_ones (part 32 (length image - 32) image)
      → finished ≡ inverted register
      → eqb stored finished ≡ is_leaf nodesize image
  unfolding is_leaf level_in checksum
  leaf-sum long level stored register finished is run done =
      let sum : finished ≡ inverted (crc_run crc32c all_ones (drop 32 image)) =
      done ∙ ap inverted (run ∙ ap (crc_run crc32c all_ones) (part-rest 32 image)) in
      rw (eq-eqb (length image) nodesize long, eq-eqb (get_or image 100 0) 0 level, ← is, ← sum)
