use mathlib.Core.Path.{refl}
use native.Mathlib.Omega.{arith}
use Rattle.inline_refs.proofs.Tests.{payload-178 as long-178}
use Rattle.balance.proofs.Admits.{says-known, says-falls, says_stays, as-run}
use Rattle.balance.proofs.record.follow.Goals as goal

pub returns-then-run : goal.returns-then-run
returns-then-run c =
    as-run _ _ _ _ _ _ _ c.one_more.ensures
    (says-known _ _ _ _ c.requires.start_value.0 c.requires.start_value.1.1 c.if-run.true _ c.requires.weight_value.0 c.requires.t.1.1)

pub returns-then-own-last : goal.returns-then-own-last
returns-then-own-last c =
    let a = c.args in
    says-falls a.body.now a.run a.at a.run.kind a.start c.requires.start_value.0 c.requires.start_value.1.1 _ c.requires.weight_value.0 c.requires.t.1.0 c.requires.t.1.1 refl _ _ c.last_rank-last.ensures c.rank_at-own.ensures c.if-own-last.true

pub returns-then-run-ne-EXTENT_DATA_REF : goal.returns-then-run-ne-EXTENT_DATA_REF
returns-then-run-ne-EXTENT_DATA_REF c =
    let a = c.args in
    says_stays a.body.now a.run a.at a.run.kind a.start c.requires.start_value.0 c.requires.start_value.1.1 _ c.requires.weight_value.0 c.requires.t.1.0 c.requires.t.1.1 refl _ _ c.last_rank-last.ensures c.rank_at-own.ensures c.if-run-ne-EXTENT_DATA_REF.true c.if-own-last.false

pub join-requires-clause-start_value : goal.join-requires-clause-start_value
join-requires-clause-start_value c =
    let d = c.if-run-ne-EXTENT_DATA_REF.false in
    (c.requires.start_value.0, (omega (arith, c.requires.start_value.0, c.requires.start_value.1.0, long-178 _ d), c.requires.start_value.1.1))
