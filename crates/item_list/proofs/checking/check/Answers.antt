use mathlib.Core.Path.{sym, ap, ◌∙◌}
use native.Mathlib.Omega.{arith}
use Rattle.item_list.specs.Steps.{checked_of}
use Rattle.item_list.proofs.Reading.{sheet-shut, sheet-read, opens-some, check-first}
use Rattle.item_list.proofs.checking.check.Goals as goal

pub returns : goal.returns
returns c = c.check_behind.ensures ∙ sym (ap checked_of (sheet-read _ (sym c.opens.ensures ∙ c.if-not-opens.false)) ∙ check-first c.args.sheet.now _)

pub returns-then-not-opens : goal.returns-then-not-opens
unfolding checked_of
returns-then-not-opens c = sym (ap checked_of (sheet-shut _ (sym c.opens.ensures ∙ c.if-not-opens.true)))

pub check_behind-requires : goal.check_behind-requires
check_behind-requires c =
    (omega arith, opens-some _ (sym c.opens.ensures ∙ c.if-not-opens.false), omega arith, omega arith)
