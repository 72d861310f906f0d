use mathlib.Core.Path.{sym, ◌∙◌, subst}
use Rattle.balance.proofs.Turns.{Enters, enter-here, enter-new, turned, turn-open}
use Rattle.balance.proofs.turning.turn.Lts as lts
use Rattle.balance.proofs.turning.turn.Reads as reads
use Rattle.balance.proofs.turning.turn.Tie as tie
use Rattle.balance.proofs.turning.turn.Goals as goal
use Rattle.balance.proofs.turning.turn.Goals.{then-key-g+else-not-is_closed, else-key-g}

abbrev JoinedKeyG : Type 0
JoinedKeyG = lts.Joined1 tie.the-claims reads.Pre reads.Post tie.handed_clauses

pub returns-then-not-is_closed : goal.returns-then-not-is_closed
returns-then-not-is_closed c =
    turn-open c.args.s.now c.args.g.now c.args.at c.args.next _ c.key_at-key.ensures c.requires.at_value.0 c.if-key-g.true
    (sym c.is_closed.ensures ∙ c.if-not-is_closed.true)

entered : (c : JoinedKeyG)
    → let k = c.key_at-key in
    Enters c.args.s.now c.args.g.now c.args.at c.args.next k.result k.ensures c.requires.at_value.0 c.if-key-g.g
entered c =
    let k = c.key_at-key in
    let q = c.requires.at_value in
    elim c.if-key-g.branch [
      | then-key-g+else-not-is_closed w ↦ enter-new c.args.s.now c.args.g.now c.args.at c.args.next _ k.ensures q.0 _ (w.g-is ∙ w.new.ensures) w.if-key-g.true (sym w.is_closed.ensures ∙ w.if-not-is_closed.false)
      | else-key-g w ↦ subst (Enters c.args.s.now c.args.g.now c.args.at c.args.next _ k.ensures q.0) (sym w.g-is) (enter-here c.args.s.now c.args.g.now c.args.at c.args.next _ k.ensures q.0 q.1 w.if-key-g.false)
    ]

pub take-requires-clause-group_kept : goal.take-requires-clause-group_kept
take-requires-clause-group_kept c = (entered c.before.before).kept

pub returns : goal.returns
returns c =
    turned c.args.s.now c.args.g.now c.args.at c.args.next _ _ c.requires.at_value.0 _ _ _ (entered c.before.before.before) c.take.ensures
