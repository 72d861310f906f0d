-- What is known of a buffer that input was read into: how many bytes of it were read, and that those behind them are as they were.
-- Which bytes a file or a terminal gives, no contract can say. Assumes nothing.
use Rattle.std.specs.Prelude.{◌≡◌, List, ℕ, ◌+◌, ◌≤◌, length, take, drop, Result, Ok, Err}

-- n bytes stand read at the start. The second part is what a caller needs that takes them
abbrev pub FilledTo : ℕ → List ℕ → List ℕ → Type 0
FilledTo n old new = (n ≤ length new) × (n ≡ length (take n new)) × (drop n new ≡ drop n old)

-- by one read to the position `at`, which keeps those before it; a read that failed changes nothing
abbrev pub PutAt : {E : Type 0} → ℕ → Result ℕ E → List ℕ → List ℕ → Type 0
PutAt at (Ok n) old new = FilledTo (at + n) old new × (take at new ≡ take at old)
PutAt at (Err e) old new = new ≡ old

-- by all of them. Where one failed, the bytes that were read before are left open: the caller has no use for them
abbrev pub Read : {E : Type 0} → Result ℕ E → List ℕ → List ℕ → Type 0
Read (Ok n) old new = FilledTo n old new
Read (Err e) old new = length new ≡ length old
