use mathlib.Core.Path.{sym, ap₂, ◌∙◌}
use Prim.Native.Nat.{ℕ, ◌+◌}
use lib.ListN.{get_or}
use Rattle.format.specs.Items.{key_of}
use Rattle.item_list.proofs.Steps.{key-is}
use Rattle.item_list.proofs.stepping.key_at.Goals as goal

pub returns : goal.returns
returns c =
    let a = c.args in
    ap₂ (λ (o p : ℕ). key_of o (get_or a.s.now (a.at + 12) 0) p) c.get_u64_be.ensures c.get_u64_be-2.ensures ∙ sym (key-is _ _)
