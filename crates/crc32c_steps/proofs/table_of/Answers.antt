use Rattle.std.proofs.Common.{rules, ◌≡◌, ℕ, Bor, refl}
use Rattle.crc32c_steps.specs.Steps.{steps, table_of}
use Rattle.crc32c_steps.proofs.Entries.{entries-made}
use Rattle.crc32c_steps.proofs.table_of.Goals as goal

pub returns : goal.returns
unfolding table_of
returns c =
    let p = c.args.polynomial in
    let made = c.from_fn.ensures.items in
    entries-made (steps p 8) {F = record { 0 : Bor ℕ }} _ (λ s. s.0.now ≡ p) _ 256 made.long (λ s i y s' same call. let m = call.met in (search rules, search rules)) _ refl made.each
