use mathlib.Core.Path.{◌≡◌, ap, ◌∙◌}
use Prim.Native.Nat.{ℕ, ◌+◌, ◌*◌}
use native.Mathlib.Omega.{arith}
use lib.ListN.{drop}
use Rattle.format.specs.References.{known, payload_length, row_in, ref_at}
use Rattle.data_refs.specs.Triples.{triple_size}
use Rattle.data_refs.proofs.Differing.{times}
use Rattle.transaction.specs.Held.{file_ref}
use Rattle.transaction.proofs.held_refs.weight_of.Goals as goal

pub weight_at-requires : goal.weight_at-requires
unfolding known payload_length row_in
weight_at-requires c =
    (tt, omega (arith, times c.args.k c.data_size.ensures), c.lengths_of-count.ensures.1)

pub returns : goal.returns
unfolding file_ref
returns c =
    let a = c.args in
    let z : a.refs.from + c.data_size.result * a.k + 1 ≡ a.refs.from + triple_size * a.k + 1 = omega (arith, times a.k c.data_size.ensures) in
    c.weight_at.ensures ∙ ap (λ (p : ℕ). (ref_at 178 (drop p a.refs.body.now)).weight) z
