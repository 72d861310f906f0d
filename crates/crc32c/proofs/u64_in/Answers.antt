use mathlib.Core.Path.{◌≡◌, sym, ap, ◌∙◌}
use Prim.Native.Nat.{ℕ, ◌+◌, ◌-◌, ◌*◌, ◌/◌}
use native.Mathlib.Omega.{arith}
use Rattle.fields.specs.Numbers.{le_bytes}
use Rattle.crc32c.specs.Register.{crc32c, crc_run}
use Rattle.crc32c.proofs.Words.{word_more}
use Rattle.crc32c.proofs.u64_in.Goals as goal

pub loop-i-preserved : goal.loop-i-preserved
loop-i-preserved c =
    let l = c.loop-i in
    let left : 4 + 4 * (2 - (l.i + 1)) ≡ 4 * (2 - l.i) = omega arith in
    ap (λ (s : ℕ). crc_run crc32c s (le_bytes (4 * (2 - (l.i + 1))) (l.rest / 4294967296))) c.word_step-r.ensures
    ∙ word_more crc32c (4 * (2 - (l.i + 1))) l.r l.rest
    ∙ ap (λ (n : ℕ). crc_run crc32c l.r (le_bytes n l.rest)) left
    ∙ l.invariant

pub returns : goal.returns
unfolding crc_run le_bytes
returns c =
    let l = c.loop-i in
    let none : 4 * (2 - l.i) ≡ 0 = omega arith in
    sym (ap (λ (n : ℕ). crc_run crc32c l.r (le_bytes n l.rest)) none) ∙ l.invariant
