-- Leaf images of 501 bytes, computed with their checksums: the list without items written with a header of zeros and with one that
-- counts up, and an image that passes question 23. Assumes nothing.
use mathlib.Core.Path.{◌≡◌, refl}
use mathlib.Core.List.{List, [], ◌∷◌, ◌++◌}
use Prim.Native.Nat.{ℕ}
use lib.Dec.{T}
use lib.ListN.{replicate}
use Rattle.format.specs.Questions.{accepted}
use Rattle.format.specs.LeafImage.{is_leaf, write_image, held_image}
use Rattle.format.proofs.LeafImagesComputed.{computed_image, computed_sum, up_from, one_item}

abbrev pub zeros : List ℕ
zeros = 0x4b ∷ 0x15 ∷ 0xdb ∷ 0x7c ∷ replicate 497 0

pub wrote-zeros : held_image 501 (write_image 501 (replicate 101 0) (1 ∷ [])) ≡ accepted zeros
unfolding computed_image computed_sum
wrote-zeros = refl

abbrev pub counting : List ℕ
counting = 0x6d ∷ 0xf0 ∷ 0xa7 ∷ 0xc3 ∷ (replicate 28 0 ++ (up_from 32 64 ++ replicate 405 0))

pub wrote-counting : held_image 501 (write_image 501 (up_from 0 101) (1 ∷ [])) ≡ accepted counting
unfolding computed_image computed_sum
wrote-counting = refl

pub passes : T (is_leaf 501 one_item)
unfolding computed_image computed_sum
passes = tt
