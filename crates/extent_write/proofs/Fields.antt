-- The fields of a new extent's body, written one after the other into zeros, are the body.
-- Assumes nothing.
use mathlib.Core.Path.{◌≡◌, ap, ◌∙◌}
use mathlib.Core.List.{List, [], ◌∷◌}
use Prim.Native.Nat.{ℕ}
use lib.ListN.{replicate}
use Rattle.fields.specs.Numbers.{le_bytes, word_bytes}
use Rattle.fields.specs.Parts.{written}
use Rattle.format.specs.References.{row_in, count_position, counted, ref_bytes, refs_bytes, body_bytes}
use Rattle.format.specs.Bodies.{tree_block_body, data_extent_body}

-- what `put_head` writes into so many zeros
abbrev pub head : ℕ → ℕ → ℕ → ℕ → ℕ → List ℕ
head size generation flags kind field =
    written 25 (le_bytes 8 field)
    (written 24 (kind ∷ []) (written 16 (le_bytes 8 flags) (written 8 (le_bytes 8 generation) (written 0 (le_bytes 8 1) (replicate size 0)))))

pub tree_is : (generation owner : ℕ) {b : List ℕ} → b ≡ head 33 generation 2 176 owner
    → b ≡ tree_block_body generation (record { tree = owner })
unfolding le_bytes word_bytes row_in count_position counted ref_bytes refs_bytes body_bytes tree_block_body
tree_is generation owner e = e

pub data_is : (generation root ino offset : ℕ) {b₁ b₂ b₃ b₄ : List ℕ} → b₁ ≡ head 53 generation 1 178 root
    → b₂ ≡ written 33 (le_bytes 8 ino) b₁
    → b₃ ≡ written 41 (le_bytes 8 offset) b₂
    → b₄ ≡ written 49 (le_bytes 4 1) b₃
    → b₄ ≡ data_extent_body generation (record { tree = root; objectid = ino; offset = offset })
unfolding le_bytes word_bytes row_in count_position counted ref_bytes refs_bytes body_bytes data_extent_body
data_is generation root ino offset e₁ e₂ e₃ e₄ =
    e₄ ∙ ap (written 49 (le_bytes 4 1)) (e₃ ∙ ap (written 41 (le_bytes 8 offset)) (e₂ ∙ ap (written 33 (le_bytes 8 ino)) e₁))
