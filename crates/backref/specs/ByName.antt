-- Calls on a body by the wanted name: where an added reference goes; one that loses one count or an amount or is taken out whole.
-- Assumes nothing.
use Rattle.std.specs.Prelude.{◌≡◌, Bool, true, false, cond, List, ◌++◌, ℕ, ◌+◌, ◌-◌, ◌^◌, ◌≤◌, ◌<◌, leb, ltb, eqb, length, take, Result, Ok}
use Rattle.fields.specs.Lists.{first_cut}
use Rattle.fields.specs.Numbers.{le_bytes}
use Rattle.fields.specs.Parts.{written}
use Rattle.format.specs.declared.SharedRef.{SharedRef}
use Rattle.format.specs.Questions.{Answer, accepted, bind, denied, found, TakenOut}
use Rattle.format.specs.References.{payload_length, counted, Ref, make_ref, ref_bytes, body_with, body_bytes, rank_of}
use Rattle.format.specs.Bodies.{on_body, named, one, lowered_by_part, drop_inline, drop_inline_tree_ref, drop_inline_data_ref, RefPosition, position_anywhere, position_by_scan, add_at, add_inline_data, add_inline_shared, keyed_at}
use Rattle.inline_refs.specs.declared.ref_name.RefName.{RefName}
use Rattle.inline_refs.specs.declared.ref_name.RefName.TheVariants.{Block, Data, SharedBlock, SharedData}
use Rattle.inline_refs.specs.declared.scan.Seen.{Seen}
use Rattle.inline_refs.specs.declared.noted.AddAt.{AddAt}
use Rattle.inline_refs.specs.Scans.{kind_of, fields_of, add_anywhere, add_by_scan}
use Rattle.format.specs.declared.Refusal.{Refusal}
use Rattle.backref.specs.declared.plan.Plan.{Plan}
use Rattle.backref.specs.declared.plan.Plan.TheVariants.{Edit}
use Rattle.backref.specs.Totals.{one_asked, part_asked}

-- bytes in front of which a reference stands, with its count at a position of its payload, 0 where it has none
unfoldable pub with_count : ℕ → ℕ → List ℕ → List ℕ
with_count position count bytes = cond (leb 1 position) (written (1 + position) (le_bytes 4 count) bytes) bytes

-- the reference that is added
abbrev pub new_ref : RefName → ℕ → Ref
new_ref wanted amount = make_ref (kind_of wanted) (fields_of wanted) amount

unfoldable pub own_rank : RefName → ℕ
own_rank wanted = rank_of (kind_of wanted) (fields_of wanted)

-- a data reference goes by one scan up to the insert position, another to an equal one anywhere
abbrev pub by_scan : RefName → Bool
by_scan wanted = eqb (kind_of wanted) 178

unfoldable pub position_of : Bool → RefName → List Ref → RefPosition
position_of true wanted refs = position_by_scan (kind_of wanted) (fields_of wanted) refs
position_of false wanted refs = position_anywhere (kind_of wanted) (fields_of wanted) (own_rank wanted) refs

unfoldable pub add_at_of : Bool → ℕ → Seen → AddAt
add_at_of true end seen = add_by_scan end seen
add_at_of false end seen = add_anywhere end seen

abbrev pub shared_ref : ℕ → ℕ → SharedRef
shared_ref kind parent = record { kind = kind; parent = parent }

-- the name of a shared reference
abbrev pub SharedName : SharedRef → RefName → Type 0
SharedName shared (Block name) = ⊥
SharedName shared (Data name) = ⊥
SharedName shared (SharedBlock parent) = shared ≡ shared_ref 182 parent
SharedName shared (SharedData parent) = shared ≡ shared_ref 184 parent

-- add_inline_tree_ref, whose amount is 1, add_inline_data_ref and add_inline_shared in one
abbrev pub add_inline : ℕ → List ℕ → RefName → ℕ → Answer (List ℕ)
add_inline type body (Block name) amount =
    on_body type body (λ b.
    add_at b (make_ref 176 (one name.tree) amount) (position_anywhere 176 (one name.tree) name.tree b.refs))
add_inline type body (Data name) amount = add_inline_data type body name amount
add_inline type body (SharedBlock parent) amount = add_inline_shared type body (shared_ref 182 parent) amount
add_inline type body (SharedData parent) amount = add_inline_shared type body (shared_ref 184 parent) amount

-- add_inline_keyed's two cases in one
unfoldable pub add_keyed : ℕ → List ℕ → RefName → ℕ → ℕ → Answer (List ℕ)
add_keyed type body wanted rank amount =
    on_body type body (λ b. keyed_at b (new_ref wanted amount) (position_anywhere (kind_of wanted) (fields_of wanted) rank b.refs))

-- a plan that puts a reference of that count between two positions, with another total
pub record PutsRef (from to : ℕ) (wanted : RefName) (count total : ℕ) (p : Plan) : Type 0 where
  pub new : List ℕ
  pub is : p ≡ Edit (record { from = from; to = to; new = new; size = 1 + payload_length (kind_of wanted); total = total; count = 0 })
  pub front : take (1 + payload_length (kind_of wanted)) new ≡ ref_bytes (new_ref wanted count)
  pub long : length new ≡ 32

-- the same with the amount added to the total; 12 where the total cannot hold the sum
pub record Raised (from to : ℕ) (wanted : RefName) (count total amount : ℕ) (p : Result Plan Refusal) : Type 0 where
  pub full : 18446744073709551615 - amount < total → p ≡ denied 12
  pub puts : total ≤ 18446744073709551615 - amount → (plan : Plan) × (p ≡ Ok plan) × PutsRef from to wanted count (total + amount) plan

-- questions 9 and 11 of a reference that stands, and its new count
unfoldable pub raised_count : RefName → ℕ → ℕ → Result ℕ Refusal
raised_count wanted weight amount =
    cond (counted (kind_of wanted)) (cond (ltb (weight + amount) (2 ^ 32)) (Ok (weight + amount)) (denied 11)) (denied 9)

-- ---- drops

-- one goes off a block or data reference
abbrev pub OneOff : RefName → ℕ → Type 0
OneOff (Block name) amount = amount ≡ 1
OneOff (Data name) amount = amount ≡ 1
OneOff (SharedBlock parent) amount = Unit {0}
OneOff (SharedData parent) amount = Unit {0}

-- drop_inline_tree_ref and drop_inline_data_ref, and an amount off a shared reference, in one
abbrev pub drop_named : ℕ → List ℕ → RefName → ℕ → Answer (List ℕ)
drop_named type body (Block name) amount = drop_inline_tree_ref type body name
drop_named type body (Data name) amount = drop_inline_data_ref type body name
drop_named type body (SharedBlock parent) amount = drop_inline type body 182 (one parent) amount (lowered_by_part amount)
drop_named type body (SharedData parent) amount = drop_inline type body 184 (one parent) amount (lowered_by_part amount)

-- the questions of it behind those of the body and the name
unfoldable pub drop_asked : RefName → ℕ → ℕ → ℕ → Result (Unit {0}) Refusal
drop_asked (Block name) amount standing total = one_asked total
drop_asked (Data name) amount standing total = one_asked total
drop_asked (SharedBlock parent) amount standing total = part_asked amount standing
drop_asked (SharedData parent) amount standing total = part_asked amount standing

-- take_inline_shared behind its question 3
unfoldable pub take_inline : ℕ → List ℕ → RefName → Answer TakenOut
take_inline type body wanted =
    on_body type body (λ b.
    bind (found (first_cut (named (kind_of wanted) (fields_of wanted)) b.refs)) (λ c.
    accepted (record { bytes = body_bytes (body_with b b.total (c.front ++ c.back)); count = c.hit.weight })))
