use native.Mathlib.Omega.{arith}
use Rattle.balance.proofs.Admits.{not-true, not-false}
use Rattle.balance.proofs.Ends.{not-taken}
use Rattle.balance.proofs.Refers.{ref-known, ref-owner, named-form, name-missing, name-unmarked, name-light, name-twice, name-good}
use Rattle.balance.proofs.naming.take_ref.Goals as goal

pub returns-in_err-named : goal.returns-in_err-named
returns-in_err-named c =
    not-taken _ _ _ _ _ _ c.from_residual.ensures
    (name-missing c.args.s.now c.args.g.now c.args.item.at c.args.item.next c.args.item.key c.requires.t.0 _ c.in_err-named.was c.name_of.ensures)

pub returns-in_err-marked : goal.returns-in_err-marked
returns-in_err-marked c =
    not-taken _ _ _ _ _ _ c.from_residual-in_err-marked.ensures
    (name-unmarked c.args.s.now c.args.g.now c.args.item.at c.args.item.next c.args.item.key c.requires.t.0 _ (named-form _ _ _ c.in_ok-named.was c.name_of.ensures) c.in_err-marked.was)

pub returns-then-named-eq0 : goal.returns-then-named-eq0
returns-then-named-eq0 c =
    name-light c.args.s.now c.args.g.now c.args.item.at c.args.item.next c.args.item.key c.requires.t.0 _ (named-form _ _ _ c.in_ok-named.was c.name_of.ensures) c.if-named-eq0.true

pub slice_bounds-body-count : goal.slice_bounds-body-count
slice_bounds-body-count c = let b = c.requires.t.1.body _ c.in_ok-marked.was in omega (arith, b.order)

pub slice_bounds-body-start : goal.slice_bounds-body-start
slice_bounds-body-start c = let b = c.requires.t.1.body _ c.in_ok-marked.was in omega (arith, b.order)

pub slice_bounds-body-end : goal.slice_bounds-body-end
slice_bounds-body-end c = let b = c.requires.t.1.body _ c.in_ok-marked.was in omega (arith, b.order, b.inside)

pub span_for-span-requires-clause-t : goal.span_for-span-requires-clause-t
span_for-span-requires-clause-t c =
    let p = c.requires.t in
    (ref-known _ p.0, (ref-owner _ p.0, (p.1.body _ c.in_ok-marked.was).sorted))

pub span_for-span-requires-clause-spanned : goal.span_for-span-requires-clause-spanned
span_for-span-requires-clause-spanned c = λ sp e k. (c.requires.t.1.body _ c.in_ok-marked.was).spans sp e

pub stands-requires-clause-rank_value : goal.stands-requires-clause-rank_value
stands-requires-clause-rank_value c = ((named-form _ _ _ c.in_ok-named.was c.name_of.ensures).rank_is, c.first_below-first.ensures)

pub returns-then-stands : goal.returns-then-stands
returns-then-stands c =
    let sp = c.span_for-span.ensures in
    name-twice c.args.s.now c.args.g.now c.args.item.at c.args.item.next c.args.item.key c.requires.t.0 _ (named-form _ _ _ c.in_ok-named.was c.name_of.ensures) _ c.in_ok-marked.was _ sp.0 sp.1 (not-true _ _ c.stands.ensures c.if-stands.true)

pub returns : goal.returns
returns c =
    let sp = c.span_for-span.ensures in
    name-good c.args.s.now c.args.g.now c.args.item.at c.args.item.next c.args.item.key c.requires.t.0 _ (named-form _ _ _ c.in_ok-named.was c.name_of.ensures) _ c.in_ok-marked.was _ sp.0 sp.1 c.requires.t.1 c.requires.item_stands.head (omega arith)
    c.first_below-first.result c.if-named-eq0.false (not-false _ _ c.stands.ensures c.if-stands.false)
