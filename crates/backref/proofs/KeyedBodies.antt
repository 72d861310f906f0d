-- The fields of a data reference's item, written one after the other into zeros, and as many bytes as its row says, are the item.
-- Assumes nothing.
use mathlib.Core.Path.{◌≡◌, ap, ap₂, ◌∙◌}
use mathlib.Core.List.{List}
use Prim.Native.Nat.{ℕ}
use lib.ListN.{replicate, take}
use Rattle.fields.specs.Numbers.{le_bytes, word_bytes}
use Rattle.fields.specs.Parts.{written}
use Rattle.format.specs.declared.DataRef.{DataRef}
use Rattle.format.specs.References.{row_in, payload_length, count_position}
use Rattle.format.specs.Bodies.{keyed_data_ref_body}

-- the row of a data reference
pub long-is : {n : ℕ} → n ≡ payload_length 178 → n ≡ 28
unfolding payload_length row_in
long-is e = e

pub at-is : {n : ℕ} → n ≡ count_position 178 → n ≡ 24
unfolding count_position row_in
at-is e = e

pub item-is : (d : DataRef) (count : ℕ) {at long : ℕ} {b₁ b₂ b₃ b₄ : List ℕ} → at ≡ count_position 178 → long ≡ payload_length 178
    → b₁ ≡ written 0 (le_bytes 8 d.tree) (replicate 32 0)
    → b₂ ≡ written 8 (le_bytes 8 d.objectid) b₁
    → b₃ ≡ written 16 (le_bytes 8 d.offset) b₂
    → b₄ ≡ written at (le_bytes 4 count) b₃
    → take long b₄ ≡ keyed_data_ref_body d count
unfolding le_bytes word_bytes keyed_data_ref_body
item-is d count a l e₁ e₂ e₃ e₄ =
    ap₂ (λ (n : ℕ) (b : List ℕ). take n b) (long-is l)
    (e₄ ∙ ap₂ (λ (n : ℕ) (b : List ℕ). written n (le_bytes 4 count) b) (at-is a)
    (e₃ ∙ ap (written 16 (le_bytes 8 d.offset)) (e₂ ∙ ap (written 8 (le_bytes 8 d.objectid)) e₁)))
