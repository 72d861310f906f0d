-- What the one pass over an image's item headers answers, and what it has shown. Assumes nothing.
use Rattle.std.specs.Prelude.{◌≡◌, List, ℕ, length, Result, Ok}
use Rattle.format.specs.declared.Refusal.{Refusal}
use Rattle.format.specs.Questions.{accepted, ask, bind, result_or_code, denied}
use Rattle.format.specs.Items.{Item, rising, sheet_bytes}
use Rattle.format.specs.History.{items_in}
use Rattle.format.specs.LeafImage.{items_in_image}
use Rattle.leaf_image.specs.declared.Packed.{Packed}

-- so many items, whose list takes so many bytes
abbrev pub packing : ℕ → ℕ → Result Packed Refusal
packing count size = Ok (record { count = count; size = size })

-- questions 24 and 2. They decide, so 100 and 101 do not come
unfoldable pub packed : List ℕ → Result Packed Refusal
packed image =
    result_or_code denied (λ items. packing (length items) (length (sheet_bytes items)))
    (bind (items_in_image (length image) image) (λ items. ask (rising items) 2 (accepted items)))

-- the items of an image that passed question 24
abbrev pub listed_in : List ℕ → List Item
listed_in image = items_in (items_in_image (length image) image)

pub record IsPacked (image : List ℕ) : Type 0 where
  pub reads : items_in_image (length image) image ≡ accepted (listed_in image)
