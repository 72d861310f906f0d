use mathlib.Core.Path.{sym, ◌∙◌, subst}
use Rattle.fields.proofs.Numbers.{are_bytes-in}
use Rattle.format.proofs.Answers.{handed_on}
use Rattle.item_list.specs.declared.ItemQuery.TheVariants.{Record}
use Rattle.item_list.specs.Seeks.{passing}
use Rattle.item_list.proofs.Reading.{Located, counted, found-is, located, lacking, listing-refused}
use Rattle.record_edit.specs.Records.{Finds}
use Rattle.record_edit.proofs.Searches.{sheet-refused, three-refused, lacks, key-room, has}
use Rattle.record_edit.proofs.search.find_record.Goals as goal
use Rattle.record_edit.proofs.search.find_record.Goals.{In-Some}

pub returns-in_err-listing : goal.returns-in_err-listing
returns-in_err-listing c =
    subst (Finds _ _ _) (sym (handed_on c.from_residual.ensures.1)) (sheet-refused _ _ _ (listing-refused _ _ _ (sym c.find.ensures ∙ c.in_err-listing.was)))

pub returns-then-not-three : goal.returns-then-not-three
returns-then-not-three c =
    three-refused _ _ (counted _ _ (are_bytes-in c.args.sheet.now (λ i. (c.type_inv.sheet i).fits)) (found-is _ _ _ (sym c.find.ensures ∙ c.in_ok-listing.was)).0) c.if-not-three.true

pub returns-in_default : goal.returns-in_default
returns-in_default c =
    lacks _ _ _ (lacking _ _ _ (are_bytes-in c.args.sheet.now (λ i. (c.type_inv.sheet i).fits)) (sym c.find.ensures ∙ c.in_ok-listing.was) c.in_default.is) c.if-not-three.false

found : (c : In-Some) → Located (passing (Record c.args.extent)) c.args.sheet.now c.in_ok-listing.listing.count c.in-Some.place
found c = located _ _ _ (are_bytes-in c.args.sheet.now (λ i. (c.type_inv.sheet i).fits)) (sym c.find.ensures ∙ c.in_ok-listing.was) _ c.in-Some.is

pub key_at-requires : goal.key_at-requires
key_at-requires c = key-room _ c.args.three _ (found c)

pub returns : goal.returns
returns c = has _ _ _ (found (goal.at.returns c).In-Some) c.if-not-three.false _ c.key_at.ensures
