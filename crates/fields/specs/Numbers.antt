-- Numbers as bytes, over the width: the lowest byte first, as btrfs has them inside data, or the highest first, as an item
-- list has its lengths and keys. Assumes nothing.
use Rattle.std.specs.Prelude.{Bool, List, [], ◌∷◌, ◌++◌, reverse, ℕ, zero, suc, ◌+◌, ◌*◌, ◌/◌, ◌%◌, ltb, take, drop}
use Rattle.fields.specs.Lists.{all}

-- the number of some bytes, lowest first
unfoldable pub le : List ℕ → ℕ
le [] = 0
le (b ∷ bytes) = b + 256 * le bytes

-- the bytes of a number in a width, lowest first
unfoldable pub le_bytes : ℕ → ℕ → List ℕ
le_bytes zero number = []
le_bytes (suc width) number = number % 256 ∷ le_bytes width (number / 256)

-- the number of some bytes, highest first
unfoldable pub be : List ℕ → ℕ
be bytes = le (reverse bytes)

-- the bytes of a number in a width, highest first
unfoldable pub be_bytes : ℕ → ℕ → List ℕ
be_bytes width number = reverse (le_bytes width number)

-- as many numbers of eight bytes, one after the other, each lowest byte first
unfoldable pub words : ℕ → List ℕ → List ℕ
words zero bytes = []
words (suc n) bytes = le (take 8 bytes) ∷ words n (drop 8 bytes)

-- their bytes
unfoldable pub word_bytes : List ℕ → List ℕ
word_bytes [] = []
word_bytes (word ∷ more) = le_bytes 8 word ++ word_bytes more

-- each is a byte: what the type u8 gives
abbrev pub are_bytes : List ℕ → Bool
are_bytes list = all (λ b. ltb b 256) list
