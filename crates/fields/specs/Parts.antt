-- Parts of a run of bytes, and bytes written into others. Assumes nothing.
use Rattle.std.specs.Prelude.{List, ◌++◌, ℕ, ◌+◌, length, take, drop}

-- the `size` bytes at a position
abbrev pub part : ℕ → ℕ → List ℕ → List ℕ
part at size bytes = take size (drop at bytes)

-- `old` with `new` in place of as many bytes from a position on
abbrev pub written : ℕ → List ℕ → List ℕ → List ℕ
written at new old = take at old ++ new ++ drop (at + length new) old

-- `old` with `new` in place of the bytes from `from` up to `to`
abbrev pub spliced : ℕ → ℕ → List ℕ → List ℕ → List ℕ
spliced from to new old = take from old ++ new ++ drop to old
