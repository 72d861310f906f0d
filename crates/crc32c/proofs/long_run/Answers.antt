use mathlib.Core.Path.{refl, ap, ◌∙◌}
use Prim.Native.Nat.{ℕ, ◌+◌}
use native.Mathlib.Omega.{arith}
use lib.ListN.{drop}
use Rattle.fields.proofs.Parts.{part-rest}
use Rattle.crc32c.specs.Register.{crc32c, crc_run}
use Rattle.crc32c.proofs.Apart.{run-part}
use Rattle.crc32c.proofs.long_run.Goals as goal

pub loop-at-init : goal.loop-at-init
loop-at-init c = (omega arith, refl)

pub loop-at-preserved : goal.loop-at-preserved
loop-at-preserved c =
    let l = c.loop-at in
    let bytes = c.args.bytes.now in (
      omega arith,
      ap (λ (s : ℕ). crc_run crc32c s (drop (l.at + 16) bytes)) c.bytes_in-r.ensures ∙ run-part crc32c l.r 16 l.at bytes ∙ l.invariant.1,
    )

pub returns : goal.returns
returns c = c.run.ensures ∙ ap (crc_run crc32c _) (part-rest c.loop-at.at c.args.bytes.now) ∙ c.loop-at.invariant.1
