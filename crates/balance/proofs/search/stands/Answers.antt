use mathlib.Core.Path.{sym, ap}
use mathlib.Core.Bool.{not}
use Rattle.balance.proofs.Halves.{rank_is, named-is, scan-start, scan-end, scan-stop, scan-hit}
use Rattle.balance.proofs.search.stands.Goals as goal

pub loop-j-init : goal.loop-j-init
loop-j-init c = scan-start c.args.body.now c.args.span c.args.wanted c.args.rank c.requires.rank_value.0 _ c.requires.rank_value.1

pub returns-then-rank_at-rank : goal.returns-then-rank_at-rank
returns-then-rank_at-rank c =
    let loop = c.loop-j in
    ap not (sym (scan-stop c.args.body.now c.args.span c.args.wanted c.args.rank c.requires.rank_value.0 loop.j loop.invariant c.loop-j-test.true c.requires.size_value.1 _
    (rank_is c.args.body.now c.args.span c.args.size loop.j _ c.requires.size_value.0 c.rank_at.ensures) c.if-rank_at-rank.true))

pub returns-then-names : goal.returns-then-names
returns-then-names c =
    let loop = c.loop-j in
    ap not (sym (scan-hit c.args.body.now c.args.span c.args.wanted c.args.rank c.requires.rank_value.0 loop.j loop.invariant c.loop-j-test.true c.requires.size_value.1 _
    (named-is c.args.body.now c.args.span c.args.wanted c.args.size loop.j _ c.requires.size_value.0 c.names.ensures) c.if-names.true))

pub returns : goal.returns
returns c =
    let loop = c.loop-j in
    ap not (sym (scan-end c.args.body.now c.args.span c.args.wanted c.args.rank c.requires.rank_value.0 loop.j loop.invariant c.loop-j-test.false))
