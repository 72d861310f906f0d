-- The bytes of an image in the parts that the writer makes: the leaf's header behind its checksum, and what follows it. Assumes nothing.
use Rattle.std.specs.Prelude.{List, ◌∷◌, [], ◌++◌, ℕ, ◌-◌, replicate}
use Rattle.fields.specs.Numbers.{le_bytes}
use Rattle.fields.specs.Parts.{part}
use Rattle.format.specs.Constants.{leaf_header}
use Rattle.format.specs.Items.{Item}
use Rattle.format.specs.Sheets.{space_of}
use Rattle.format.specs.LeafImage.{headers_bytes, data_bytes}

-- bytes 4 to 100 with so many items
unfoldable pub leaf_header_bytes : List ℕ → ℕ → List ℕ
leaf_header_bytes header count = replicate 28 0 ++ (part 32 64 header ++ (le_bytes 4 count ++ (0 ∷ [])))

-- bytes 101 to the end
unfoldable pub area_bytes : ℕ → List Item → List ℕ
area_bytes nodesize items = headers_bytes (nodesize - leaf_header) items ++ (replicate (nodesize - space_of items) 0 ++ data_bytes items)
