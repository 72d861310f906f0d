use mathlib.Core.Path.{sym, ◌∙◌}
use native.Mathlib.Omega.{arith}
use Rattle.balance.proofs.Ends.{ok-some, ok-none, not-taken}
use Rattle.balance.proofs.Marks.{inner-long, light-of, mark-twice, mark-shut, opened, mark-unfit, mark-good}
use Rattle.balance.proofs.marking.take_record.Goals as goal

pub returns-then-is_some : goal.returns-then-is_some
returns-then-is_some c =
    mark-twice c.args.s.now c.args.g.now c.args.item.at c.args.item.next c.args.item.key c.requires.t (sym c.is_some.ensures ∙ c.if-is_some.true)

pub returns-in_err-start : goal.returns-in_err-start
returns-in_err-start c =
    let p = c.requires.item_stands in
    let n = inner-long c.args.s.now c.args.item.at c.args.item.next p.head p.inside in
    let f = ok-none _ c.ok.ensures.value c.in_err-start.was in
    not-taken _ _ _ _ _ _ c.from_residual.ensures
    (mark-shut c.args.s.now c.args.g.now c.args.item.at c.args.item.next c.args.item.key c.requires.t (omega (arith, n, p.small)) _ (sym f.1 ∙ c.open_body.ensures))

pub weigh_refs-requires : goal.weigh_refs-requires
weigh_refs-requires c =
    let p = c.requires.item_stands in
    let e = sym (ok-some _ c.ok.ensures.value c.in_ok-start.was) ∙ c.open_body.ensures in
    let o = opened c.args.s.now c.args.g.now c.args.item.at c.args.item.next c.args.item.key c.requires.t _ e in
    let n = inner-long c.args.s.now c.args.item.at c.args.item.next p.head p.inside in
    (omega (arith, n, p.small), o.inside)

pub returns-in_err-weight : goal.returns-in_err-weight
returns-in_err-weight c =
    let e = sym (ok-some _ c.ok.ensures.value c.in_ok-start.was) ∙ c.open_body.ensures in
    not-taken _ _ _ _ _ _ c.from_residual-in_err-weight.ensures
    (mark-unfit c.args.s.now c.args.g.now c.args.item.at c.args.item.next c.args.item.key c.requires.t _ e (sym c.in_err-weight.was ∙ c.weigh_refs.ensures.0))

pub get_u64_le-total-requires : goal.get_u64_le-total-requires
get_u64_le-total-requires c =
    let e = sym (ok-some _ c.ok.ensures.value c.in_ok-start.was) ∙ c.open_body.ensures in
    let o = opened c.args.s.now c.args.g.now c.args.item.at c.args.item.next c.args.item.key c.requires.t _ e in
    omega (arith, o.long)

pub returns : goal.returns
returns c =
    let p = c.requires.item_stands in
    let e = sym (ok-some _ c.ok.ensures.value c.in_ok-start.was) ∙ c.open_body.ensures in
    let w = c.weigh_refs.ensures in
    mark-good c.args.s.now c.args.g.now c.args.item.at c.args.item.next c.args.item.key c.requires.t _ e p.head p.inside _ _ (sym c.is_some.ensures ∙ c.if-is_some.false) (sym c.in_ok-weight.was ∙ w.0) (light-of _ _ _ c.in_ok-weight.was w.1) c.get_u64_le-total.ensures
