use mathlib.Core.Path.{refl}
use Rattle.fields.specs.Numbers.{le_bytes}
use Rattle.crc32c.specs.Register.{crc_run, byte_step, steps, step}
use Rattle.extent_write.proofs.no_tree_run.Goals as goal

-- The register is computed here.

pub invariant_of-result : goal.invariant_of-result
unfolding le_bytes crc_run byte_step steps step
invariant_of-result c = record { is_of_tree = refl }
