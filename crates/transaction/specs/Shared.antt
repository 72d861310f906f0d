-- The row of a shared kind, or question 3 of another kind. Assumes nothing.
use Rattle.std.specs.Prelude.{◌≡◌, true, false, ℕ, ◌≤◌, Result, Ok, Err}
use Rattle.format.specs.declared.Refusal.{Refusal}
use Rattle.format.specs.References.{payload_length, count_position}
use Rattle.format.specs.Bodies.{shared_kind}
use Rattle.inline_refs.specs.declared.kinds.Lengths.{Lengths}

abbrev pub SharedRow : ℕ → Result Lengths Refusal → Type 0
SharedRow kind (Ok row) = (shared_kind kind ≡ true) × (row.payload ≡ payload_length kind) × (row.count ≡ count_position kind) × (row.payload ≤ 255)
SharedRow kind (Err refusal) = (shared_kind kind ≡ false) × (refusal ≡ record { number = 3 })
