-- Computed cases of a reference by its number: one of each kind, the owner first; a number past the last; what a body that is not
-- read to its end is refused with, whatever the number. Assumes nothing.
use mathlib.Core.Path.{◌≡◌, refl}
use mathlib.Core.List.{List, [], ◌∷◌, ◌++◌}
use Prim.Native.Nat.{ℕ}
use lib.ListN.{take}
use Rattle.fields.specs.Numbers.{le, le_bytes, words, word_bytes}
use Rattle.format.specs.declared.InlineRef.{InlineRef}
use Rattle.format.specs.Questions.{Answer, refused, accepted, ask, bind, needed}
use Rattle.format.specs.References.{row_in, known, payload_length, count_position, counted, field_count, make_ref, weight_of, ref_at, read_refs, ref_bytes, refs_bytes, flags_of, total_of, start_of, read_body, body_bytes}
use Rattle.format.specs.Bodies.{body_fits, on_body, positions, ref_numbered, inline_ref, inline_payload}

five : List ℕ
five =
    body_bytes (record {
      total = 7;
      fixed = le_bytes 8 1 ++ le_bytes 8 2;
      refs = make_ref 172 (9 ∷ []) 0 ∷ make_ref 176 (300 ∷ []) 1 ∷ make_ref 178 (5 ∷ 257 ∷ 4096 ∷ []) 2 ∷ make_ref 182 (65536 ∷ []) 1 ∷ make_ref 184 (8 ∷ []) 3 ∷ [];
    })

abbrev stands : ℕ → ℕ → ℕ → ℕ → Answer InlineRef
stands kind offset start len = accepted (record { kind = kind; offset = offset; start = start; len = len })

each-kind :
    (inline_ref 169 five 0 ≡ stands 172 9 25 8)
    × (inline_ref 169 five 1 ≡ stands 176 300 34 8)
    × (inline_ref 169 five 2 ≡ stands 178 5 43 28)
    × (inline_ref 169 five 3 ≡ stands 182 65536 72 8)
    × (inline_ref 169 five 4 ≡ stands 184 8 81 12)
    × (inline_payload 169 five 4 ≡ accepted (le_bytes 8 8 ++ le_bytes 4 3))
unfolding five body_bytes refs_bytes ref_bytes word_bytes le_bytes le words row_in known payload_length count_position counted field_count weight_of ref_at read_refs flags_of total_of start_of read_body body_fits on_body positions ref_numbered inline_ref inline_payload ask bind needed
each-kind = (refl, refl, refl, refl, refl, refl)

-- with a block's key and level before them, references start at 42: the third of the five is then the first
from-the-start : inline_ref 168 five 0 ≡ stands 178 5 43 28
unfolding five body_bytes refs_bytes ref_bytes word_bytes le_bytes le words row_in known payload_length count_position counted field_count weight_of ref_at read_refs flags_of total_of start_of read_body body_fits on_body positions ref_numbered inline_ref ask bind needed
from-the-start = refl

none-there : (inline_ref 169 five 5 ≡ refused 5) × (inline_ref 169 (take 92 five) 0 ≡ refused 8) × (inline_ref 169 (take 92 five) 7 ≡ refused 8)
unfolding five body_bytes refs_bytes ref_bytes word_bytes le_bytes le words row_in known payload_length count_position counted field_count weight_of ref_at read_refs flags_of total_of start_of read_body body_fits on_body positions ref_numbered inline_ref ask bind needed
none-there = (refl, refl, refl)
