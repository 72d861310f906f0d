-- Texts computed from the definition: the one that document 01 gives for its body E, one with a reference of each kind and
-- another number in each place, and an empty input's. Assumes nothing.
use mathlib.Core.Path.{◌≡◌, refl}
use mathlib.Core.List.{List, [], ◌∷◌, ◌++◌}
use Prim.Native.Nat.{ℕ}
use Rattle.fields.specs.Numbers.{le, le_bytes, words, word_bytes}
use Rattle.format.specs.Questions.{ask, bind}
use Rattle.format.specs.References.{row_in, known, payload_length, count_position, counted, field_count, make_ref, weight_of, ref_at, read_refs, ref_bytes, refs_bytes, total_of, flags_of, start_of, Body, read_body, body_bytes}
use Rattle.format.specs.Bodies.{body_fits, on_body, data_extent_body}
use Rattle.format.specs.Lister.{digits, line, ref_line, ref_lines, listing, printed, listed}

-- 24 1 1 1, and 178 5 257 0 1
abbrev text_e : List ℕ
text_e =
    50 ∷ 52 ∷ 32 ∷ 49 ∷ 32 ∷ 49 ∷ 32 ∷ 49 ∷ 10 ∷ 49 ∷ 55 ∷ 56 ∷ 32 ∷ 53 ∷ 32 ∷ 50 ∷ 53 ∷ 55 ∷ 32 ∷ 48 ∷ 32 ∷ 49 ∷ 10 ∷
    []

pub listed-e : listed (168 ∷ data_extent_body 7 (record { tree = 5; objectid = 257; offset = 0 })) ≡ text_e
unfolding le le_bytes words word_bytes ask bind row_in known payload_length count_position counted field_count weight_of ref_at read_refs ref_bytes refs_bytes total_of flags_of start_of read_body body_bytes body_fits on_body digits line ref_line ref_lines listing printed listed data_extent_body
listed-e = refl

abbrev five : Body
five =
    record {
      total = 9;
      fixed = le_bytes 8 7 ++ le_bytes 8 2;
      refs = make_ref 172 (11 ∷ []) 0 ∷ make_ref 176 (12 ∷ []) 1 ∷ make_ref 178 (13 ∷ 14 ∷ 15 ∷ []) 16 ∷ make_ref 182 (17 ∷ []) 1 ∷ make_ref 184 (18 ∷ []) 19 ∷ [];
    }

-- 24 9 2 5, 172 11, 176 12, 178 13 14 15 16, 182 17, and 184 18 19
abbrev text_five : List ℕ
text_five =
    50 ∷ 52 ∷ 32 ∷ 57 ∷ 32 ∷ 50 ∷ 32 ∷ 53 ∷ 10 ∷ 49 ∷ 55 ∷ 50 ∷ 32 ∷ 49 ∷ 49 ∷ 10 ∷ 49 ∷ 55 ∷ 54 ∷ 32 ∷ 49 ∷ 50 ∷ 10 ∷
    49 ∷ 55 ∷ 56 ∷ 32 ∷ 49 ∷ 51 ∷ 32 ∷ 49 ∷ 52 ∷ 32 ∷ 49 ∷ 53 ∷ 32 ∷ 49 ∷ 54 ∷ 10 ∷ 49 ∷ 56 ∷ 50 ∷ 32 ∷ 49 ∷ 55 ∷ 10 ∷
    49 ∷ 56 ∷ 52 ∷ 32 ∷ 49 ∷ 56 ∷ 32 ∷ 49 ∷ 57 ∷ 10 ∷ []

pub listed-five : listed (169 ∷ body_bytes five) ≡ text_five
unfolding le le_bytes words word_bytes ask bind row_in known payload_length count_position counted field_count weight_of ref_at read_refs ref_bytes refs_bytes total_of flags_of start_of read_body body_bytes body_fits on_body digits line ref_line ref_lines listing printed listed
listed-five = refl

-- refused 6
pub listed-empty : listed [] ≡ 114 ∷ 101 ∷ 102 ∷ 117 ∷ 115 ∷ 101 ∷ 100 ∷ 32 ∷ 54 ∷ 10 ∷ []
unfolding digits line printed listed
listed-empty = refl
