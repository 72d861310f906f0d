use mathlib.Core.Path.{refl, sym, ap, ap₂, ◌∙◌}
use Prim.Native.Nat.{ℕ}
use native.Mathlib.Omega.{arith}
use Rattle.fields.specs.Numbers.{le}
use Rattle.fields.specs.Parts.{part}
use Rattle.fields.proofs.Numbers.{are_bytes-in}
use Rattle.backref.specs.Plans.{KeepsLength}
use Rattle.backref.proofs.AddedAt.{plan_of}
use Rattle.backref.proofs.KeyedBodies.{long-is, at-is}
use Rattle.backref.proofs.KeyedDrops.{keyed-long, keyed-size, keyed-other, keyed-none, keyed-last, keyed-less}
use Rattle.backref.proofs.keyed_plans.plan_drop_keyed.Goals as goal

pub returns-then-item-gt-MOST_DATA-clause-planned : goal.returns-then-item-gt-MOST_DATA-clause-planned
returns-then-item-gt-MOST_DATA-clause-planned c =
    keyed-long _ _ _ c.if-item-gt-MOST_DATA.true refl

pub returns-then-item-row-clause-planned : goal.returns-then-item-row-clause-planned
returns-then-item-row-clause-planned c =
    let long = long-is c.lengths_of-row.ensures.0 in
    keyed-size _ _ _ c.if-item-gt-MOST_DATA.false (λ e. c.if-item-row.true (e ∙ sym long)) refl

pub names_triple-requires : goal.names_triple-requires
names_triple-requires c =
    let long = long-is c.lengths_of-row.ensures.0 in
    omega (arith, c.if-item-row.false, long)

pub returns-then-not-names_triple-clause-planned : goal.returns-then-not-names_triple-clause-planned
returns-then-not-names_triple-clause-planned c =
    let long = long-is c.lengths_of-row.ensures.0 in
    keyed-other _ _ _ (c.if-item-row.false ∙ long) _ c.names_triple.ensures c.if-not-names_triple.true refl

pub get_u32_le-count-requires : goal.get_u32_le-count-requires
get_u32_le-count-requires c =
    let long = long-is c.lengths_of-row.ensures.0 in
    let at = at-is c.lengths_of-row.ensures.1 in
    omega (arith, c.if-item-row.false, long, at)

pub returns-then-count-eq0-clause-planned : goal.returns-then-count-eq0-clause-planned
returns-then-count-eq0-clause-planned c =
    let long = long-is c.lengths_of-row.ensures.0 in
    let at = at-is c.lengths_of-row.ensures.1 in
    keyed-none _ c.args.name _ (c.if-item-row.false ∙ long) _ c.names_triple.ensures c.if-not-names_triple.false
    _ (c.get_u32_le-count.ensures ∙ ap (λ (n : ℕ). le (part n 4 c.args.item.now)) at) c.if-count-eq0.true refl

pub returns-then-count-eq1-clause-planned : goal.returns-then-count-eq1-clause-planned
returns-then-count-eq1-clause-planned c =
    let long = long-is c.lengths_of-row.ensures.0 in
    let at = at-is c.lengths_of-row.ensures.1 in
    keyed-last _ c.args.name _ (c.if-item-row.false ∙ long) _ c.names_triple.ensures c.if-not-names_triple.false
    _ (c.get_u32_le-count.ensures ∙ ap (λ (n : ℕ). le (part n 4 c.args.item.now)) at) c.if-count-eq1.true refl

pub get_u64_le-requires : goal.get_u64_le-requires
get_u64_le-requires c =
    let long = long-is c.lengths_of-row.ensures.0 in
    omega (arith, c.if-item-row.false, long)

pub returns-clause-planned : goal.returns-clause-planned
returns-clause-planned c =
    let long = long-is c.lengths_of-row.ensures.0 in
    let at = at-is c.lengths_of-row.ensures.1 in
    keyed-less _ c.args.name _ (c.if-item-row.false ∙ long) _ c.names_triple.ensures c.if-not-names_triple.false
    _ (c.get_u32_le-count.ensures ∙ ap (λ (n : ℕ). le (part n 4 c.args.item.now)) at) _ _
    (are_bytes-in c.args.item.now (λ i. (c.type_inv.item i).fits))
    c.if-count-eq0.false c.if-count-eq1.false c.get_u64_le.ensures c.count_bytes.ensures
    (ap₂ (λ (from to : ℕ). plan_of from to c.count_bytes.result 4 c.get_u64_le.result 0) at long)

pub returns-clause-keeps_length : goal.returns-clause-keeps_length
unfolding KeepsLength
returns-clause-keeps_length c =
    let long = long-is c.lengths_of-row.ensures.0 in
    let at = at-is c.lengths_of-row.ensures.1 in
    omega (arith, long, at)
