use mathlib.Core.Path.{ap}
use Prim.Native.Nat.{ℕ, ◌*◌, ◌/◌, ◌%◌}
use lib.Bits.{bit_xor}
use Rattle.data_refs.specs.Keys.{chain_of}
use Rattle.data_refs.proofs.Products.{scaled-below}
use Rattle.data_refs.proofs.keys.chain_of.Goals as goal

pub returns : goal.returns
unfolding chain_of
returns c =
    let chains = c.args.chains in (
      ap (λ (key : ℕ). bit_xor (key % 4294967296) (key / 4294967296) * 2654435761 % 4294967296 * chains / 4294967296) c.key_of-key.ensures,
      scaled-below _ _ c.requires.0,
    )
