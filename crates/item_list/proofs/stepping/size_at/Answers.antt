use mathlib.Core.Path.{◌≡◌, ap, ◌∙◌}
use Prim.Native.Nat.{ℕ, ◌+◌}
use native.Mathlib.Omega.{arith}
use lib.ListN.{drop}
use Rattle.format.specs.Items.{item_length}
use Rattle.item_list.proofs.Steps.{length_at, size-short, size_low, size-high, size-long, size-whole}
use Rattle.item_list.proofs.stepping.size_at.Goals as goal
use Rattle.item_list.proofs.stepping.size_at.Goals.{After-get_u32_be-length, then-length-lt17-via-then-length-lt17, then-length-lt17-via-else-length-lt17+then-length-gt65552, then-length-lt17-via-else-length-lt17+else-length-gt65552+then-left-length}

pub returns-then-left-lt4 : goal.returns-then-left-lt4
returns-then-left-lt4 c = size-short _ _ c.if-left-lt4.true

-- the length that was read
length-read : (c : After-get_u32_be-length) → c.get_u32_be-length.result ≡ item_length (drop c.args.at c.args.s.now)
length-read c = c.get_u32_be-length.ensures ∙ length_at c.args.s.now c.args.at

pub returns-then-length-lt17 : goal.returns-then-length-lt17
returns-then-length-lt17 c =
    let e = length-read (goal.at.returns-then-length-lt17 c).After-get_u32_be-length in
    elim c.then-length-lt17.branch [
      | then-length-lt17-via-then-length-lt17 w ↦ size_low _ _ (omega (arith, e, w.if-length-lt17.true))
      | then-length-lt17-via-else-length-lt17+then-length-gt65552 w ↦ size-high _ _ (omega (arith, e, w.if-length-gt65552.true))
      | then-length-lt17-via-else-length-lt17+else-length-gt65552+then-left-length w ↦ size-long _ _ (omega (arith, e, w.if-left-length.true))
    ]

pub returns : goal.returns
returns c =
    let e = length-read (goal.at.returns c).After-get_u32_be-length in
    ap (λ (k : ℕ). 4 + k) e ∙ size-whole _ _ (omega arith) (omega arith) (omega arith)
