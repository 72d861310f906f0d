use Rattle.fields.proofs.Numbers.{read_swapped}
use Rattle.fields.proofs.get.get_u64_be.Goals as goal

pub returns : goal.returns
returns c =
    read_swapped 8 c.args.at _ _ c.args.s.now c.requires (λ i. (c.shared_slice_known-1.given i).fits) c.get_u64_le.ensures c.swapped_u64.ensures
