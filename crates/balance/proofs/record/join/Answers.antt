use mathlib.Core.Path.{◌≡◌, refl, sym, ◌∙◌}
use native.Mathlib.Omega.{arith}
use Rattle.balance.proofs.Admits.{no-172, not-true, not-false, says-rises, says-twice, says-joins, as-run}
use Rattle.balance.proofs.record.join.Goals as goal

pub returns-then-last-own : goal.returns-then-last-own
returns-then-last-own c = says-rises c.args.body.now c.args.run c.args.at 178 c.args.start c.requires.start_value.0 c.requires.start_value.1.1 _ c.requires.weight_value.0 no-172 c.requires.kind_value.1.1.1 c.requires.kind_value.0 _ _ c.requires.kind_value.1.0 c.requires.weight_value.1 refl c.if-last-own.true

pub returns-then-stands_twice : goal.returns-then-stands_twice
returns-then-stands_twice c =
    let e : c.args.own ≡ c.args.last = omega (arith, c.if-last-own.false, c.requires.kind_value.1.1.0) in
    says-twice c.args.body.now c.args.run c.args.at 178 c.args.start c.requires.start_value.0 c.requires.start_value.1.1 _ c.requires.weight_value.0 no-172 c.requires.kind_value.1.1.1 c.requires.kind_value.0 refl (sym c.requires.weight_value.1 ∙ e ∙ c.requires.kind_value.1.0) (not-true _ _ c.stands_twice.ensures c.if-stands_twice.true)

pub returns : goal.returns
returns c =
    let e : c.args.own ≡ c.args.last = omega (arith, c.if-last-own.false, c.requires.kind_value.1.1.0) in
    let front = c.known_in-known.ensures in
    as-run c.args.body.now c.args.run _ _ _ _ _ c.one_more.ensures
    (says-joins c.args.body.now c.args.run c.args.at 178 c.args.start c.requires.start_value.0 c.requires.start_value.1.1 _ c.requires.weight_value.0 no-172 c.requires.kind_value.1.1.1 c.requires.kind_value.0 refl (sym c.requires.weight_value.1 ∙ e ∙ c.requires.kind_value.1.0) _ _ (e ∙ c.requires.kind_value.1.0) front.0 front.1 (not-false _ _ c.stands_twice.ensures c.if-stands_twice.false))
