use mathlib.Core.Path.{ap, ◌∙◌}
use mathlib.Core.List.{[], ◌∷◌}
use Prim.Native.Nat.{ℕ}
use native.Mathlib.Omega.{arith}
use Rattle.text.specs.Numbers.{spaced}
use Rattle.text.proofs.Writes.{put-none, put_is}
use Rattle.lister_text.proofs.Texts.{no-count, some-count}
use Rattle.lister_text.proofs.lines.put_count.Goals as goal

pub returns-then-reference-eq0 : goal.returns-then-reference-eq0
returns-then-reference-eq0 c =
    (put_is (no-count _ _ _ c.requires.0.count_at c.if-reference-eq0.true) (put-none _ _), omega arith)

pub returns : goal.returns
returns c = (
  put_is (ap (λ (n : ℕ). spaced (n ∷ [])) c.weight_at-weight.ensures ∙ some-count _ _ _ c.requires.0.count_at c.if-reference-eq0.false) c.put_field.ensures.0,
  c.put_field.ensures.1,
)
