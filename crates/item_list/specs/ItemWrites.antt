-- What an edit of an item list writes, and question 21 of it. Assumes nothing.
use Rattle.std.specs.Prelude.{Bool, ◌&&◌, List, ◌++◌, ℕ, ◌+◌, leb, length}
use Rattle.fields.specs.Numbers.{be_bytes}
use Rattle.format.specs.declared.Key.{Key}
use Rattle.format.specs.Questions.{Answer, accepted, ask}
use Rattle.format.specs.Items.{key_bytes}

-- the first 21 bytes of an item with so many bytes of data
unfoldable pub head_bytes : Key → ℕ → List ℕ
head_bytes key size = be_bytes 4 (17 + size) ++ key_bytes key

-- the lent output and the limits hold so many bytes and items
unfoldable pub room_for : ℕ → ℕ → ℕ → Bool
room_for room size count = leb size room && leb size 262144 && leb count 4096

-- question 21 of the bytes of so many items
abbrev pub held_bytes : ℕ → ℕ → List ℕ → Answer (List ℕ)
held_bytes room count bytes = ask (room_for room (length bytes) count) 21 (accepted bytes)
