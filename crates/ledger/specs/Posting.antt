-- What the steps of a posting say: question 4 as it is put; the name of a wanted reference, and the item at its key; the three changes that add
-- a reference; and a planned edit with further questions put to it. Assumes nothing.
use Rattle.std.specs.Prelude.{◌≡◌, Bool, true, false, ◌&&◌, cond, List, ℕ, leb, eqb, Result, Ok, Err}
use Rattle.fields.specs.Lists.{same}
use Rattle.fields.specs.Numbers.{words}
use Rattle.format.specs.declared.Change.{Change}
use Rattle.format.specs.declared.Change.TheVariants.{AddBlock, AddData, AddShared}
use Rattle.format.specs.declared.Refusal.{Refusal}
use Rattle.format.specs.Questions.{Answer, refused, also, denied}
use Rattle.format.specs.Bodies.{triple}
use Rattle.format.specs.Items.{Item}
use Rattle.format.specs.Names.{Name}
use Rattle.inline_refs.specs.declared.ref_name.RefName.{RefName}
use Rattle.inline_refs.specs.declared.ref_name.RefName.TheVariants.{Block, Data, SharedBlock, SharedData}
use Rattle.inline_refs.specs.Scans.{kind_of, fields_of}
use Rattle.backref.specs.declared.plan.Plan.{Plan}
use Rattle.backref.specs.ByName.{shared_ref, add_inline}
use Rattle.backref.specs.Plans.{plan_answer, PlanIn}

-- question 4: its refusal, or none where it is answered with yes
unfoldable pub balance_asked : Bool → Result (Unit {0}) Refusal
balance_asked four = cond four (Ok tt) (denied 4)

-- the name of a reference of an extent
abbrev pub name_in : ℕ → RefName → Name
name_in extent wanted = record { extent = extent; kind = kind_of wanted; fields = fields_of wanted }

-- an item that stands where one of that name would is of the name; but two triples may have one hash
unfoldable pub is_own_item : RefName → List ℕ → Bool
is_own_item (Block name) bytes = true
is_own_item (Data name) bytes = same (words 3 bytes) (triple name)
is_own_item (SharedBlock parent) bytes = true
is_own_item (SharedData parent) bytes = true

unfoldable pub add_change : ℕ → RefName → ℕ → Change
add_change extent (Block name) amount = AddBlock extent name
add_change extent (Data name) amount = AddData extent name amount
add_change extent (SharedBlock parent) amount = AddShared extent (shared_ref 182 parent) amount
add_change extent (SharedData parent) amount = AddShared extent (shared_ref 184 parent) amount

-- amount 0 of a data reference leaves the body unread
abbrev pub left_unread : RefName → ℕ → Bool
left_unread wanted amount = eqb (kind_of wanted) 178 && eqb amount 0

-- the record's new body; where it is left unread, question 10 refuses
unfoldable pub added_body : Item → RefName → ℕ → Answer (List ℕ)
added_body i wanted amount = cond (left_unread wanted amount) (refused 10) (add_inline i.key.kind i.bytes wanted amount)

-- question 17 "tests the inline limit only if the body grew": of a name that has a tree
unfoldable pub grown_only : RefName → Bool
grown_only (Block name) = true
grown_only (Data name) = true
grown_only (SharedBlock parent) = false
grown_only (SharedData parent) = false

-- the refusal where the further question is answered with no
unfoldable pub first_no : Result Plan Refusal → ℕ → ℕ
first_no (Ok plan) refusal = refusal
first_no (Err other) refusal = cond (leb other.number refusal) other.number refusal

-- one question
pub record AlsoAsked (p : Result Plan Refusal) (yes : Bool) (refusal : ℕ) (r : Result Plan Refusal) : Type 0 where
  pub says : (body : List ℕ) → plan_answer r body ≡ also yes refusal (plan_answer p body)
  pub inside : (body : List ℕ) → PlanIn p body → PlanIn r body

-- questions 9 and 10 of an added reference: `own` says whether its name has no item of its own
pub record AskedAdd (p : Result Plan Refusal) (own : Bool) (amount : ℕ) (r : Result Plan Refusal) : Type 0 where
  pub says : (body : List ℕ) → plan_answer r body ≡ also own 9 (also (leb 1 amount) 10 (plan_answer p body))
  pub inside : (body : List ℕ) → PlanIn p body → PlanIn r body
