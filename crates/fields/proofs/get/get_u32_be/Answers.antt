use Rattle.fields.proofs.Numbers.{read_swapped}
use Rattle.fields.proofs.get.get_u32_be.Goals as goal

pub returns : goal.returns
returns c =
    read_swapped 4 c.args.at _ _ c.args.s.now c.requires (λ i. (c.shared_slice_known-1.given i).fits) c.get_u32_le.ensures c.swapped_u32.ensures
