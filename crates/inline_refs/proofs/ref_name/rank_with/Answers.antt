use mathlib.Core.Path.{ap, ◌∙◌}
use mathlib.Core.Logic.{inl, inr}
use Prim.Native.Nat.{ℕ}
use Rattle.format.specs.Hash.{data_ref_hash}
use Rattle.format.specs.References.{rank_of}
use Rattle.inline_refs.specs.Scans.{kind_of, fields_of, tree_of}
use Rattle.inline_refs.proofs.ref_name.rank_with.Goals as goal

pub returns-in-Block : goal.returns-in-Block
unfolding rank_of kind_of fields_of
returns-in-Block c = rw c.in-Block.is

pub returns-in-Data : goal.returns-in-Data
unfolding rank_of kind_of fields_of tree_of
returns-in-Data c =
    let name = c.in-Data.name in
    rw c.in-Data.is
    (c.hash_with.ensures
    ∙ ap (λ (tree : ℕ). data_ref_hash tree name.objectid name.offset) (c.requires ∙ ap tree_of c.in-Data.is))

pub returns-in-SharedBlock : goal.returns-in-SharedBlock
unfolding rank_of kind_of fields_of
returns-in-SharedBlock c = elim c.in-SharedBlock.is [ inl e ↦ rw e | inr e ↦ rw e ]

pub returns-in-SharedBlock-2 : goal.returns-in-SharedBlock-2
unfolding rank_of kind_of fields_of
returns-in-SharedBlock-2 c = elim c.in-SharedBlock.is [ inl e ↦ rw e | inr e ↦ rw e ]
