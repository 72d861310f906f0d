use Rattle.std.proofs.Common.{rules, ◌≡◌, ℕ, ◌+◌, ◌*◌, Bor, refl}
use Rattle.crc32c_steps.specs.Steps.{crc32c, steps}
use Rattle.crc32c_steps.proofs.Entries.{entries-made}
use Rattle.crc32c_tables.proofs.standing.read_row.Goals as goal

pub returns : goal.returns
returns c =
    let k = c.args.k in
    let made = c.from_fn.ensures.items in
    entries-made (steps crc32c (8 * (k + 1))) {F = record { 0 : Bor ℕ }} _ (λ s. s.0.now ≡ k) _ 256 made.long (λ s i y s' same call. let m = call.met in (search rules, search rules)) _ refl made.each
