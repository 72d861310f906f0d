-- The laws of document 02's ticket 4 at computed images of 501 bytes: what they assume can be met. Assumes nothing.
use mathlib.Core.Path.{◌≡◌, refl, sym, ap, subst}
use mathlib.Core.List.{List, [], ◌∷◌, ◌++◌}
use Prim.Native.Nat.{ℕ}
use native.Mathlib.Omega.{arith}
use lib.Dec.{T}
use lib.ListN.{length, take, replicate}
use Rattle.fields.specs.Numbers.{le, le_bytes}
use Rattle.format.specs.Questions.{refused, accepted}
use Rattle.format.specs.Items.{Item, sheet_bytes, data_fits, sheet_holds, held_sheet}
use Rattle.format.specs.LeafImage.{is_leaf, read_image, image_bytes, write_image, held_image}
use Rattle.format.proofs.LeafImagesComputed.{computed_image, up_from, item, head, one_item, reads-one}
use Rattle.format.proofs.LeafImagesWritten.{leaf-back}
use Rattle.theorems.specs.LeafImages.{header_items, ReadsImage, WritesImage, gap_cleared, sealed_again}
use Rattle.theorems.proofs.LeafImagesComputed.{zeros, wrote-zeros, counting, wrote-counting, passes}
use Rattle.theorems.proofs.LeafImages.{never-broken, write-accepted, written-length, reads-back}
use Rattle.theorems.proofs.LeafImagesRead.{read-accepted, reads-alike, writes-back}

-- ---- the sheet without items, written with a header of zeros and with one that counts up, and read back

pub read-zeros : held_sheet 1 (read_image 501 zeros) ≡ accepted (1 ∷ [])
read-zeros = reads-back 501 (replicate 101 0) (1 ∷ []) zeros 501 1 tt wrote-zeros (omega arith)

pub read-counting : held_sheet 1 (read_image 501 counting) ≡ accepted (1 ∷ [])
read-counting = reads-back 501 (up_from 0 101) (1 ∷ []) counting 501 1 tt wrote-counting (omega arith)

pub counting-accepted : (items : List Item) × WritesImage 501 (up_from 0 101) (1 ∷ []) 501 items × (counting ≡ image_bytes 501 (up_from 0 101) items)
counting-accepted = (write-accepted 501 (up_from 0 101) (1 ∷ []) 501 counting).only wrote-counting

pub counting-again : held_image 501 (write_image 501 (up_from 0 101) (1 ∷ [])) ≡ accepted counting
counting-again = (write-accepted 501 (up_from 0 101) (1 ∷ []) 501 counting).enough counting-accepted

pub counting-long : length counting ≡ 501
counting-long = written-length 501 (up_from 0 101) (1 ∷ []) 501 counting wrote-counting

-- ---- an image of one item, with something in bytes 4 to 95 and in the gap: it is read, within 25 bytes

abbrev items : List Item
items = item 1 (9 ∷ 8 ∷ 7 ∷ []) ∷ []

read_one : held_sheet 25 (read_image 501 one_item) ≡ accepted (sheet_bytes items)
unfolding computed_image held_sheet sheet_holds data_fits
read_one = ap (held_sheet 25) (reads-one passes)

pub one-accepted : ReadsImage 501 one_item 25 × (sheet_bytes items ≡ sheet_bytes (header_items one_item 0 1))
unfolding le le_bytes
one-accepted = (read-accepted 501 one_item 25 (sheet_bytes items) tt).only read_one

pub one_again : held_sheet 25 (read_image 501 one_item) ≡ accepted (sheet_bytes items)
unfolding le le_bytes
one_again = (read-accepted 501 one_item 25 (sheet_bytes items) tt).enough one-accepted

pub one-not-broken : read_image 501 one_item ≡ refused 1 → ⊥
unfolding le_bytes
one-not-broken = never-broken 501 one_item tt

-- ---- written back with its own header it has nothing in bytes 4 to 31 and in the gap, and is read alike

pub cleared : gap_cleared 501 one_item ≡ up_from 32 64 ++ (le_bytes 4 1 ++ (0 ∷ (head 1 397 3 ++ (replicate 372 0 ++ (9 ∷ 8 ∷ 7 ∷ [])))))
unfolding le le_bytes
cleared = refl

abbrev clean : List ℕ
clean = sealed_again (gap_cleared 501 one_item)

pub written_back : held_image 501 (write_image 501 (take 101 one_item) (sheet_bytes items)) ≡ accepted clean
unfolding le_bytes
written_back = writes-back 501 one_item (sheet_bytes items) 25 501 tt read_one (omega arith)

pub read_again : held_sheet 25 (read_image 501 clean) ≡ accepted (sheet_bytes items)
unfolding computed_image
read_again = reads-back 501 (take 101 one_item) (sheet_bytes items) clean 501 25 tt written_back (omega arith)

-- it passes question 23, since it was written
clean-passes : T (is_leaf 501 clean)
clean-passes =
    let w = (write-accepted 501 (take 101 one_item) (sheet_bytes items) 501 clean).only written_back in
    subst (λ (l : List ℕ). T (is_leaf 501 l)) (sym w.2) (leaf-back 501 (take 101 one_item) w.0 w.1.lent w.1.fits)

pub alike : read_image 501 one_item ≡ read_image 501 clean
unfolding le le_bytes
alike = reads-alike 501 one_item clean passes clean-passes refl refl
