use mathlib.Core.Path.{◌≡◌, sym, ap, ◌∙◌}
use mathlib.Core.Logic.{inl, inr}
use Prim.Native.Nat.{ℕ}
use Rattle.format.specs.Bodies.{one}
use native.Mathlib.Omega.{arith}
use lib.ListN.{drop}
use Rattle.inline_refs.specs.Scans.{kind_of, fields_of}
use Rattle.inline_refs.proofs.Tests.{payload-eight, payload-178, wanted-known, named-not, named_by, named-alone}
use Rattle.inline_refs.proofs.ref_name.is_named.Goals as goal

pub get_u64_le-requires : goal.get_u64_le-requires
get_u64_le-requires c = omega (arith, payload-eight (kind_of c.args.wanted) (wanted-known c.args.wanted), c.requires)

pub returns-then-get_u64_le-first_field : goal.returns-then-get_u64_le-first_field
returns-then-get_u64_le-first_field c =
    let a = c.args in
    named-not a.wanted (drop a.start a.body.now) _ c.get_u64_le.ensures (λ e. c.if-get_u64_le-first_field.true (e ∙ sym c.first_field.ensures))

pub names_rest-requires : goal.names_rest-requires
unfolding kind_of
names_rest-requires c =
    omega (arith, payload-178 _ (ap kind_of c.in-Data.is), c.requires)

pub returns-in-Data : goal.returns-in-Data
unfolding fields_of
returns-in-Data c =
    let a = c.args in
    c.names_rest.ensures
    ∙ named_by a.wanted (drop a.start a.body.now) _ c.get_u64_le.ensures _ (ap fields_of c.in-Data.is) (c.if-get_u64_le-first_field.false ∙ c.first_field.ensures)

pub returns-in-Block : goal.returns-in-Block
unfolding fields_of
returns-in-Block c =
    let a = c.args in
    let alone = λ (v : ℕ) (f : fields_of a.wanted ≡ one v).
    named-alone a.wanted (drop a.start a.body.now) _ c.get_u64_le.ensures v f (c.if-get_u64_le-first_field.false ∙ c.first_field.ensures) in
    elim c.in-Block.is [ inl block ↦ alone _ (ap fields_of block.1) | inr shared ↦ elim shared [ inl x ↦ alone _ (ap fields_of x.1) | inr x ↦ alone _ (ap fields_of x.1) ] ]
