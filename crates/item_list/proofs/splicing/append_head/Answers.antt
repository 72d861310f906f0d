use borrow.Author.Rules.{rules}
use mathlib.Core.Path.{refl, sym, ap, ◌∙◌}
use mathlib.Core.List.{List}
use Prim.Native.Nat.{ℕ, ◌+◌}
use Rattle.fields.specs.Parts.{written}
use Rattle.fields.proofs.Numbers.{be_bytes-one}
use Rattle.item_list.proofs.ItemWrites.{head-writes}
use Rattle.item_list.proofs.splicing.append_head.Goals as goal

pub returns : goal.returns
returns c =
    let a = c.args in
    let kind = ap (λ (l : List ℕ). written (a.at + 12) l c.put_u64_be.new.out) (sym (be_bytes-one a.key.kind (search rules))) in
    (refl, head-writes _ _ _ _ _ _ _ _ c.requires.1 c.put_u32_be.ensures c.put_u64_be.ensures (c.put_u8.ensures ∙ kind) c.put_u64_be-2.ensures)
