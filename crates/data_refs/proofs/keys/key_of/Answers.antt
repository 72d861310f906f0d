use lib.Bits.{bit_xor}
use Rattle.data_refs.specs.Keys.{seeded_key}
use Rattle.data_refs.proofs.keys.key_of.Goals as goal

pub returns : goal.returns
unfolding seeded_key
returns c =
    let e₁ = c.product-tree.ensures in
    let e₂ = c.product-objectid.ensures in
    let e₃ = c.product-offset.ensures in
    λ i. bit_xor (bit_xor (bit_xor c.args.seed (e₁ i)) (e₂ i)) (e₃ i)
