use mathlib.Core.Path.{◌≡◌}
use Prim.Native.Nat.{◌+◌, ◌-◌, ◌*◌, ◌≤◌}
use lib.ListN.{length}
use Rattle.leaf_image.specs.Packing.{packed}
use Rattle.leaf_image.proofs.Packing.{behind}
use Rattle.leaf_image.proofs.checking.walk.Given as goal

abbrev pub invariant-loop-n : goal.invariant-loop-n
invariant-loop-n l =
    (l.at ≡ 101 + 25 * l.n) × (l.end ≤ length l.image - 101) × (packed l.image ≡ behind l.image l.n l.end l.ordered l.last l.at)
