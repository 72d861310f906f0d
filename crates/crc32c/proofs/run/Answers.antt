use Rattle.std.proofs.Common.{rules, ◌≡◌, ◌∙◌, ap, sym, ℕ, ◌+◌, ◌*◌, ◌/◌, ◌<◌, ◌≤◌, length, drop, get_or}
use native.Mathlib.Omega.{arith}
use Rattle.crc32c.specs.Register.{crc32c, crc_run}
use Rattle.crc32c.proofs.Steps.{run-done}
use Rattle.crc32c.proofs.Slices.{number-chunk, run-chunk}
use Rattle.crc32c.proofs.run.Goals as goal

pub loop-number-preserved : goal.loop-number-preserved
loop-number-preserved c =
    let l = c.loop-number in
    let bytes = c.args.bytes.now in
    let chunks = c.as_chunks.ensures in
    let known : (i : ℕ) → get_or bytes i 0 < 256 = λ i. search rules in
    let inside : l.number-index < length bytes / 8 = omega (arith, chunks.front_len, c.loop-number-test.true) in
    ap (λ (s : ℕ). crc_run crc32c s (drop (8 * (l.number-index + 1)) bytes)) (c.u64_in-r.ensures ∙ ap (crc_run crc32c l.r) (number-chunk bytes known l.number-index inside chunks.front c.get_u64_le.ensures))
    ∙ run-chunk crc32c 8 l.r l.number-index bytes inside chunks.front
    ∙ l.invariant

pub returns-then-is_empty : goal.returns-then-is_empty
returns-then-is_empty c =
    let l = c.loop-number in
    let bytes = c.args.bytes.now in
    let chunks = c.as_chunks.ensures in
    let empty : length c.as_chunks.result.1.now ≡ 0 = search rules in
    let none : length bytes ≤ 8 * l.number-index = omega (arith, empty, chunks.back_len, chunks.front_len, c.loop-number-test.false) in
    sym (run-done crc32c l.r bytes (8 * l.number-index) none) ∙ l.invariant
