-- The bytes of a new reference. Assumes nothing.
use mathlib.Core.Path.{◌≡◌, refl}
use mathlib.Core.List.{List, [], ◌∷◌}
use Prim.Native.Nat.{ℕ, ◌+◌, ◌≤◌}
use native.Mathlib.Omega.{arith}
use lib.ListN.{length, take, replicate}
use Rattle.fields.specs.Numbers.{le_bytes, word_bytes}
use Rattle.fields.specs.Parts.{written}
use Rattle.format.specs.References.{row_in, payload_length, count_position, counted, make_ref, ref_bytes}
use Rattle.format.specs.declared.DataRef.{DataRef}
use Rattle.inline_refs.specs.Scans.{kind_of, fields_of}
use Rattle.backref.specs.ByName.{with_count}
use Rattle.inline_refs.specs.declared.ref_name.RefName.{RefName}
use Rattle.inline_refs.specs.declared.ref_name.RefName.TheVariants.{Block, Data, SharedBlock, SharedData}

abbrev pub field_bytes : ℕ → ℕ → ℕ → List ℕ
field_bytes kind field count = with_count (count_position kind) count (written 1 (le_bytes 8 field) (written 0 (kind ∷ []) (replicate 32 0)))

abbrev pub triple_bytes : DataRef → ℕ → List ℕ
triple_bytes name count =
    with_count (count_position 178) count
    (written 17 (le_bytes 8 name.offset) (written 9 (le_bytes 8 name.objectid) (written 1 (le_bytes 8 name.tree) (written 0 (178 ∷ []) (replicate 32 0)))))

-- so many bytes in front are the reference's
pub record Holds (w : RefName) (count : ℕ) (new : List ℕ) : Type 0 where
  pub front : take (1 + payload_length (kind_of w)) new ≡ ref_bytes (make_ref (kind_of w) (fields_of w) count)
  pub long : length new ≡ 32

abbrev pub made : RefName → ℕ → List ℕ
made (Block name) count = field_bytes 176 name.tree count
made (Data name) count = triple_bytes name count
made (SharedBlock parent) count = field_bytes 182 parent count
made (SharedData parent) count = field_bytes 184 parent count

pub holds : (w : RefName) (count : ℕ) → Holds w count (made w count)
unfolding with_count kind_of fields_of payload_length count_position counted row_in ref_bytes word_bytes le_bytes
holds (Block name) count = record { front = refl; long = refl }
holds (Data name) count = record { front = refl; long = refl }
holds (SharedBlock parent) count = record { front = refl; long = refl }
holds (SharedData parent) count = record { front = refl; long = refl }

pub wanted-small : (w : RefName) (size : ℕ) → size ≡ 1 + payload_length (kind_of w) → size ≤ 29
unfolding kind_of payload_length row_in
wanted-small (Block name) size e = omega arith
wanted-small (Data name) size e = omega arith
wanted-small (SharedBlock parent) size e = omega arith
wanted-small (SharedData parent) size e = omega arith
