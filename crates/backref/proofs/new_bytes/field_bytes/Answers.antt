use mathlib.Core.Path.{ap, ap₂, ◌∙◌}
use mathlib.Core.List.{List}
use Prim.Native.Nat.{ℕ}
use native.Mathlib.Omega.{arith}
use Rattle.fields.specs.Numbers.{le_bytes}
use Rattle.fields.specs.Parts.{written}
use Rattle.inline_refs.proofs.RowLengths.{count-inside}
use Rattle.backref.specs.ByName.{with_count}
use Rattle.backref.proofs.new_bytes.field_bytes.Goals as goal

pub put_count-requires : goal.put_count-requires
put_count-requires c =
    let a = c.args in
    omega (arith, c.lengths_of.ensures.1, count-inside a.kind)

pub returns : goal.returns
returns c =
    let a = c.args in
    c.put_count.ensures
    ∙ ap₂ (λ (n : ℕ) (l : List ℕ). with_count n a.count l) c.lengths_of.ensures.1
    (c.put_u64_le.ensures ∙ ap (written 1 (le_bytes 8 a.field)) c.put_u8.ensures)
