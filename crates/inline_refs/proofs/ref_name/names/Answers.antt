use mathlib.Core.Path.{sym, ap, ◌∙◌}
use mathlib.Core.Logic.{inl, inr}
use native.Mathlib.Omega.{arith}
use Rattle.inline_refs.specs.Scans.{kind_of, fields_of}
use Rattle.inline_refs.proofs.Tests.{payload-eight, payload-178, named_other, named-is, named-one}
use Rattle.inline_refs.proofs.ref_name.names.Goals as goal

pub returns-then-kind_of-kind : goal.returns-then-kind_of-kind
returns-then-kind_of-kind c = named_other _ _ _ (λ e. c.if-kind_of-kind.true (c.kind_of.ensures ∙ e))

pub get_u64_le-requires : goal.get_u64_le-requires
get_u64_le-requires c = omega (arith, payload-eight _ c.requires.0, c.requires.1)

pub names_triple-requires : goal.names_triple-requires
unfolding kind_of
names_triple-requires c =
    omega (arith, payload-178 _ (sym (sym c.kind_of.ensures ∙ c.if-kind_of-kind.false) ∙ ap kind_of c.in-Data.is), c.requires.1)

pub get_u64_le-requires-in-SharedBlock : goal.get_u64_le-requires-in-SharedBlock
get_u64_le-requires-in-SharedBlock c = omega (arith, payload-eight _ c.requires.0, c.requires.1)

pub returns-in-Block : goal.returns-in-Block
unfolding fields_of
returns-in-Block c =
    named-one _ _ _ _ _ (sym c.kind_of.ensures ∙ c.if-kind_of-kind.false) (ap fields_of c.in-Block.is) c.get_u64_le.ensures

pub returns-in-Data : goal.returns-in-Data
unfolding fields_of
returns-in-Data c =
    c.names_triple.ensures ∙ sym (named-is _ _ _ (sym c.kind_of.ensures ∙ c.if-kind_of-kind.false) ∙ rw c.in-Data.is)

pub returns-in-SharedBlock : goal.returns-in-SharedBlock
unfolding fields_of
returns-in-SharedBlock c =
    let same = sym c.kind_of.ensures ∙ c.if-kind_of-kind.false in
    elim c.in-SharedBlock.is [ inl e ↦ named-one _ _ _ _ _ same (ap fields_of e) c.get_u64_le-in-SharedBlock.ensures | inr e ↦ named-one _ _ _ _ _ same (ap fields_of e) c.get_u64_le-in-SharedBlock.ensures ]
