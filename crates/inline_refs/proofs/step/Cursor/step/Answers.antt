use mathlib.Core.Path.{sym, ◌∙◌}
use borrow.Author.Tests.{le-ltb, lt-ltb}
use Rattle.inline_refs.specs.Steps.{ref_step_at, step_row}
use Rattle.inline_refs.proofs.step.Cursor.step.Goals as goal

pub returns-then-body-self : goal.returns-then-body-self
unfolding ref_step_at
returns-then-body-self c = simp (le-ltb _ _ c.if-body-self.true)

pub returns-in_default : goal.returns-in_default
unfolding ref_step_at step_row
returns-in_default c = simp (lt-ltb _ _ c.if-body-self.false, sym c.row_of.ensures ∙ c.in_default.is)

pub returns-then-body-start : goal.returns-then-body-start
unfolding ref_step_at step_row
returns-then-body-start c =
    simp (lt-ltb _ _ c.if-body-self.false, sym c.row_of.ensures ∙ c.in-Some.is, lt-ltb _ _ c.if-body-start.true)

pub returns : goal.returns
unfolding ref_step_at step_row
returns c =
    simp (lt-ltb _ _ c.if-body-self.false, sym c.row_of.ensures ∙ c.in-Some.is, le-ltb _ _ c.if-body-start.false)
