-- A law of a buffer that input is read into: one read after others. Assumes nothing.
use mathlib.Core.Path.{sym, ap, ◌∙◌}
use mathlib.Core.List.{List}
use Prim.Native.Nat.{ℕ, ◌+◌}
use lib.ListN.{drop}
use lib.Seq.{drop-drop}
use Rattle.input.specs.Reads.{FilledTo}

-- the next bytes
pub filled_next : (at n : ℕ) (old mid new : List ℕ) → FilledTo at old mid → FilledTo (at + n) mid new → FilledTo (at + n) old new
filled_next at n old mid new f g = (
  g.0,
  g.1,
  g.2 ∙ sym (drop-drop n at mid) ∙ ap (drop n) f.2 ∙ drop-drop n at old,
)
