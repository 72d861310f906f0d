use mathlib.Core.Path.{ap₂, ◌∙◌}
use Prim.Native.Nat.{ℕ, ◌*◌, ◌^◌}
use lib.Bits.{bit_xor}
use Rattle.format.specs.Hash.{data_ref_hash}
use Rattle.extent_write.proofs.hash_with.Goals as goal

pub returns : goal.returns
unfolding data_ref_hash
returns c =
    c.joined.ensures ∙ ap₂ (λ (x y : ℕ). bit_xor (x * 2 ^ 31) y) c.args.own.is_of_tree c.run_two.ensures
