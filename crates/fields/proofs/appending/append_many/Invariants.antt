use mathlib.Core.Path.{◌≡◌}
use mathlib.Core.List.{List}
use Prim.Native.Nat.{ℕ, ◌+◌, ◌-◌, ◌≤◌}
use lib.ListN.{length}
use Rattle.fields.specs.Parts.{part, written}
use Rattle.fields.proofs.appending.append_many.Given as goal

-- how much is copied: 64 bytes at least, also where the next block starts within them
abbrev pub done : ℕ → ℕ
done i = i + (64 - i)

-- `dst₀` is what the first block left, so the copy is told of whatever stood there before it
abbrev pub invariant-loop-i : goal.invariant-loop-i
invariant-loop-i l =
    (l.i ≤ length l.src) × (length l.dst ≡ length l.initial.dst) × ((old : List ℕ) → l.at + length l.src ≤ length old → l.initial.dst ≡ written l.at (part 0 64 l.src) old → l.dst ≡ written l.at (part 0 (done l.i) l.src) old)

abbrev pub decreases-loop-i : goal.decreases-loop-i
decreases-loop-i l = length l.src - l.i
