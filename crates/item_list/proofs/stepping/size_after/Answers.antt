use mathlib.Core.Path.{◌≡◌, ◌∙◌}
use Prim.Native.Nat.{◌+◌}
use native.Mathlib.Omega.{arith}
use lib.ListN.{drop}
use Rattle.format.specs.Items.{item_length}
use Rattle.item_list.proofs.Steps.{length_at, size-whole}
use Rattle.item_list.proofs.stepping.size_after.Goals as goal

pub returns-then-get_u32_be-last : goal.returns-then-get_u32_be-last
returns-then-get_u32_be-last c =
    let a = c.args in
    let e : c.get_u32_be.result ≡ item_length (drop a.at a.s.now) = c.get_u32_be.ensures ∙ length_at a.s.now a.at in
    let is : a.last ≡ 4 + item_length (drop a.at a.s.now) = omega arith in
    is ∙ size-whole _ _ (omega arith) (omega arith) (omega arith)
