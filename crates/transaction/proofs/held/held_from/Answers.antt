use mathlib.Core.Path.{sym, ◌∙◌}
use Rattle.transaction.proofs.Only.{at-total, at-flags, held-total, held-flags, held-agrees, held-not}
use Rattle.transaction.proofs.held.held_from.Goals as goal
use Rattle.transaction.proofs.held.held_from.Goals.{then-get_u64_le-offsets-via-then-get_u64_le-offsets, then-get_u64_le-offsets-via-else-get_u64_le-offsets+then-get_u64_le-ne1}

pub returns-then-get_u64_le-offsets : goal.returns-then-get_u64_le-offsets
returns-then-get_u64_le-offsets c =
    elim c.then-get_u64_le-offsets.branch [
      | then-get_u64_le-offsets-via-then-get_u64_le-offsets w ↦ held-total _ _ _ _ _ _ (λ e. w.if-get_u64_le-offsets.true (at-total _ _ c.get_u64_le.ensures ∙ e))
      | then-get_u64_le-offsets-via-else-get_u64_le-offsets+then-get_u64_le-ne1 w ↦
          held-flags _ _ _ _ _ _ (sym (at-total _ _ c.get_u64_le.ensures) ∙ w.if-get_u64_le-offsets.false)
          (λ e. w.if-get_u64_le-ne1.true (at-flags _ _ w.get_u64_le-else-get_u64_le-offsets.ensures ∙ e))
    ]

pub returns-in-Some : goal.returns-in-Some
returns-in-Some c =
    held-agrees _ _ _ _ _ _ (sym (at-total _ _ c.get_u64_le.ensures) ∙ c.if-get_u64_le-offsets.false)
    (sym (at-flags _ _ c.get_u64_le-else-get_u64_le-offsets.ensures) ∙ c.if-get_u64_le-ne1.false) _ c.held_refs.ensures

pub returns-in-None : goal.returns-in-None
returns-in-None c =
    held-not _ _ _ _ _ _ (sym (at-total _ _ c.get_u64_le.ensures) ∙ c.if-get_u64_le-offsets.false)
    (sym (at-flags _ _ c.get_u64_le-else-get_u64_le-offsets.ensures) ∙ c.if-get_u64_le-ne1.false) c.in-None.ensures
