use mathlib.Core.Path.{sym, ◌∙◌}
use native.Mathlib.Omega.{arith}
use borrow.Author.Tests.{eqb-true, eqb-false}
use Rattle.inline_refs.proofs.Tests.{payload-178}
use Rattle.transaction.proofs.FileRefs.{of-other-kind, of-other-root, of-file}
use Rattle.transaction.proofs.held_refs.is_of_file.Goals as goal
use Rattle.transaction.proofs.held_refs.is_of_file.Goals.{then-kind-eq-EXTENT_DATA_REF, else-kind-eq-EXTENT_DATA_REF}

pub get_u64_le-requires : goal.get_u64_le-requires
get_u64_le-requires c = omega (arith, payload-178 _ c.if-kind-eq-EXTENT_DATA_REF.true, c.requires.1)

pub get_u64_le-requires-then-get_u64_le-root : goal.get_u64_le-requires-then-get_u64_le-root
get_u64_le-requires-then-get_u64_le-root c =
    elim c.if-kind-eq-EXTENT_DATA_REF.branch [
      | then-kind-eq-EXTENT_DATA_REF w ↦ omega (arith, payload-178 _ w.if-kind-eq-EXTENT_DATA_REF.true, c.requires.1)
      | else-kind-eq-EXTENT_DATA_REF w ↦ absurd (w.if-kind-eq-EXTENT_DATA_REF.false (eqb-true _ _ (sym w.value-is ∙ c.if-get_u64_le-root.true)))
    ]

pub returns-then-get_u64_le-root : goal.returns-then-get_u64_le-root
returns-then-get_u64_le-root c =
    elim c.if-kind-eq-EXTENT_DATA_REF.branch [
      | then-kind-eq-EXTENT_DATA_REF w ↦ of-file _ _ _ c.args.start c.args.body.now w.if-kind-eq-EXTENT_DATA_REF.true _ w.get_u64_le.ensures _ c.get_u64_le-then-get_u64_le-root.ensures (eqb-true _ _ (sym w.value-is ∙ c.if-get_u64_le-root.true))
      | else-kind-eq-EXTENT_DATA_REF w ↦ absurd (w.if-kind-eq-EXTENT_DATA_REF.false (eqb-true _ _ (sym w.value-is ∙ c.if-get_u64_le-root.true)))
    ]

pub returns-else-get_u64_le-root : goal.returns-else-get_u64_le-root
returns-else-get_u64_le-root c =
    elim c.if-kind-eq-EXTENT_DATA_REF.branch [
      | then-kind-eq-EXTENT_DATA_REF w ↦ c.if-get_u64_le-root.false ∙ of-other-root _ _ _ c.args.start c.args.body.now w.if-kind-eq-EXTENT_DATA_REF.true _ w.get_u64_le.ensures (eqb-false _ _ (sym w.value-is ∙ c.if-get_u64_le-root.false))
      | else-kind-eq-EXTENT_DATA_REF w ↦ c.if-get_u64_le-root.false ∙ of-other-kind _ _ _ _ w.if-kind-eq-EXTENT_DATA_REF.false
    ]
