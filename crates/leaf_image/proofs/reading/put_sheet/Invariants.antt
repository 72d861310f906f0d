use mathlib.Core.Path.{◌≡◌}
use Prim.Native.Nat.{◌+◌, ◌*◌}
use Rattle.fields.specs.Parts.{written}
use Rattle.format.specs.Items.{items_bytes}
use Rattle.leaf_image.specs.Packing.{listed_in}
use Rattle.leaf_image.proofs.Puts.{Left}
use Rattle.leaf_image.proofs.reading.put_sheet.Given as goal

abbrev pub invariant-loop : goal.invariant-loop
invariant-loop l =
    (l.at ≡ 101 + 25 * l.counter)
    × Left l.image l.at l.counter l.to l.out (written 1 (items_bytes (listed_in l.image)) l.initial.out)
