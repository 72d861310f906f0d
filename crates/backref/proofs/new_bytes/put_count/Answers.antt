use Prim.Native.Nat.{◌<◌}
use native.Mathlib.Omega.{arith}
use borrow.Author.Tests.{le-leb, lt-leb}
use Rattle.backref.specs.ByName.{with_count}
use Rattle.backref.proofs.new_bytes.put_count.Goals as goal

pub returns-then-row-gt0 : goal.returns-then-row-gt0
unfolding with_count
returns-then-row-gt0 c = simp (le-leb _ _ c.if-row-gt0.true) c.put_u32_le.ensures

pub returns-else-row-gt0 : goal.returns-else-row-gt0
unfolding with_count
returns-else-row-gt0 c =
    let none : c.args.row.count < 1 = omega arith in
    simp (lt-leb _ _ none)
