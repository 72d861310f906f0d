use mathlib.Core.Path.{◌≡◌, sym, ◌∙◌}
use mathlib.Core.Bool.{false}
use lib.ListN.{length}
use Rattle.fields.proofs.Numbers.{are_bytes-in}
use Rattle.format.specs.Items.{key_of, key_below}
use Rattle.format.proofs.Answers.{handed_on}
use Rattle.format.proofs.Outputs.{handed}
use Rattle.item_list.specs.declared.ItemQuery.TheVariants.{AtOrPast}
use Rattle.item_list.specs.Seeks.{passing}
use Rattle.item_list.specs.Steps.{item_at}
use Rattle.item_list.proofs.Reading.{Located, located, lacking, listing-refused}
use Rattle.item_list.proofs.Positions.{key-missing, key-room, key-past, key_here}
use Rattle.item_list.proofs.ItemWrites.{answered-no}
use Rattle.record_edit.specs.Records.{StandsAt}
use Rattle.transaction.proofs.KeptRecords.{kept-refused, kept-none, kept-stands, kept-told, kept-plain}
use Rattle.transaction.proofs.drop_kept.drop_kept_tree_ref.Goals as goal
use Rattle.transaction.proofs.drop_kept.drop_kept_tree_ref.Goals.{In-Some}

pub returns-in_err-listing : goal.returns-in_err-listing
returns-in_err-listing c =
    let a = c.args in
    handed (handed_on c.from_residual.ensures.1)
    (answered-no _ _ _ a.out.now (kept-refused a.sheet.now a.bytenr a.level a.name a.own _ (listing-refused _ _ _ (sym c.find.ensures ∙ c.in_err-listing.was))))

pub returns-in_default : goal.returns-in_default
returns-in_default c =
    let a = c.args in
    let l = lacking _ _ _ (are_bytes-in a.sheet.now (λ i. (c.type_inv.sheet i).fits)) (sym c.find.ensures ∙ c.in_ok-listing.was) c.in_default.is in
    answered-no _ _ _ a.out.now (kept-none a.sheet.now a.bytenr a.level a.name a.own l.list _ (key-missing _ _ _ l))

-- a key is not below that of the record
found : (c : In-Some) → Located (passing (AtOrPast (key_of c.args.bytenr 169 c.args.level))) c.args.sheet.now c.in_ok-listing.listing.count c.in-Some.place
found c = located _ _ _ (are_bytes-in c.args.sheet.now (λ i. (c.type_inv.sheet i).fits)) (sym c.find.ensures ∙ c.in_ok-listing.was) _ c.in-Some.is

pub is_past-requires : goal.is_past-requires
is_past-requires c = key-room _ _ _ _ (found c)

pub returns-then-is_past : goal.returns-then-is_past
returns-then-is_past c =
    let a = c.args in
    let l = found (goal.at.returns-then-is_past c).In-Some in
    answered-no _ _ _ a.out.now (kept-none a.sheet.now a.bytenr a.level a.name a.own l.list _ (key-past _ _ _ _ l (sym c.is_past.ensures ∙ c.if-is_past.true)))

-- it is the record
stood : (c : In-Some) → key_below (key_of c.args.bytenr 169 c.args.level) (item_at c.args.sheet.now c.in-Some.place.start).key ≡ false
    → StandsAt c.args.sheet.now (record { key = key_of c.args.bytenr 169 c.args.level; start = c.in-Some.place.start; end = c.in-Some.place.end; item_count = c.in_ok-listing.listing.count })
stood c h =
    let a = c.args in
    let l = found c in
    kept-stands a.sheet.now a.bytenr a.level a.name a.own l.list _ _ (key_here _ _ _ _ l h)

pub drop_owned-requires : goal.drop_owned-requires
drop_owned-requires c = stood (goal.at.drop_owned-requires c).In-Some (sym c.is_past.ensures ∙ c.if-is_past.false)

pub returns-then-own : goal.returns-then-own
returns-then-own c =
    let a = c.args in
    kept-told a.sheet.now a.bytenr a.level a.name a.own (found (goal.at.returns-then-own c).In-Some).list _ (length a.out.now) _ a.out.now _ c.if-own.true c.drop_owned.ensures

pub drop_ref-requires-clause-stands_at : goal.drop_ref-requires-clause-stands_at
drop_ref-requires-clause-stands_at c = stood (goal.at.drop_ref-requires-clause-stands_at c).In-Some (sym c.is_past.ensures ∙ c.if-is_past.false)

pub returns : goal.returns
returns c =
    let a = c.args in
    kept-plain a.sheet.now a.bytenr a.level a.name a.own (found (goal.at.returns c).In-Some).list (length a.out.now) _ a.out.now _ c.if-own.false c.drop_ref.ensures
