use borrow.Author.Rules.{rules}
use mathlib.Core.Path.{sym, ap, ◌∙◌}
use mathlib.Core.List.{List}
use Prim.Native.Nat.{ℕ, ◌+◌}
use Rattle.fields.specs.Parts.{written}
use Rattle.fields.proofs.Numbers.{le_bytes-one}
use Rattle.leaf_image.proofs.Written.{item-header-writes}
use Rattle.leaf_image.proofs.writing.put_item_header.Goals as goal

pub returns : goal.returns
returns c =
    let a = c.args in
    item-header-writes _ _ _ _ _ _ _ _ _ _ c.requires.2
    c.put_u64_le.ensures
    (c.put_u8.ensures ∙ ap (λ (l : List ℕ). written (a.at + 8) l c.put_u64_le.new.out) (sym (le_bytes-one a.key.kind (search rules))))
    c.put_u64_le-2.ensures c.put_u32_le.ensures c.put_u32_le-2.ensures
