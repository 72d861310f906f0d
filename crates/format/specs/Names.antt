-- Document 01, "The entry": names, what a name counts, and when a sheet is balanced. Assumes nothing.
use Rattle.std.specs.Prelude.{Bool, true, false, not, ◌&&◌, ◌||◌, cond, List, [], ◌∷◌, ◌++◌, ℕ, leb, eqb, length}
use Rattle.fields.specs.Lists.{sum, all, same}
use Rattle.fields.specs.Numbers.{le}
use Rattle.format.specs.Questions.{Answer, result_or}
use Rattle.format.specs.References.{known, Ref, make_ref, ref_at, Body, read_body, rank, ordered}
use Rattle.format.specs.Bodies.{one}
use Rattle.format.specs.Items.{Item}
use Rattle.format.specs.Apply.{is_record, record_of}

-- ---- names: "an extent, a type and that type's tree (176), triple (178) or parent (182, 184)"

pub record Name : Type 0 where
  pub extent : ℕ
  pub kind : ℕ
  pub fields : List ℕ

unfoldable pub same_name : Name → Name → Bool
same_name m n = eqb m.extent n.extent && eqb m.kind n.kind && same m.fields n.fields

-- a reference under its name
pub record Entry : Type 0 where
  pub name : Name
  pub weight : ℕ

-- ---- what an item says

-- an extent's record; a reference as an item of its own; neither; or one of them in a form that cannot be read
pub data View : Type 0 where
  extent_record : Body → View
  reference : Ref → View
  unrelated : View
  malformed : View

-- an item of one of the four types that name something: the table's, less 172
unfoldable pub is_ref_item : Item → Bool
is_ref_item i = known i.key.kind && not (eqb i.key.kind 172)

unfoldable pub view_record : Answer Body → View
view_record answer = result_or malformed extent_record answer

unfoldable pub in_form : Bool → Ref → View
in_form form r = cond form (reference r) malformed

-- "176 and 182 with empty data, 178 with 28 bytes standing at its hash, 184 with a 4-byte count"
unfoldable pub view_ref_item : Item → View
view_ref_item i =
    cond (eqb i.key.kind 178)
    (in_form (eqb (length i.bytes) 28 && eqb i.key.offset (rank (ref_at 178 i.bytes))) (ref_at 178 i.bytes))
    (cond (eqb i.key.kind 184)
    (in_form (eqb (length i.bytes) 4) (make_ref 184 (one i.key.offset) (le i.bytes)))
    (in_form (eqb (length i.bytes) 0) (make_ref i.key.kind (one i.key.offset) 1)))

unfoldable pub view_of : Item → View
view_of i = cond (is_record i) (view_record (read_body i.key.kind i.bytes)) (cond (is_ref_item i) (view_ref_item i) unrelated)

-- ---- the references of a sheet, inline and as items: "An owner reference (172) names nothing"

unfoldable pub ref_entry : ℕ → Ref → List Entry
ref_entry extent r =
    cond (eqb r.kind 172) []
    (record { name = record { extent = extent; kind = r.kind; fields = r.fields }; weight = r.weight } ∷ [])

unfoldable pub ref_entries : ℕ → List Ref → List Entry
ref_entries extent [] = []
ref_entries extent (r ∷ refs) = ref_entry extent r ++ ref_entries extent refs

unfoldable pub view_entries : ℕ → View → List Entry
view_entries extent (extent_record b) = ref_entries extent b.refs
view_entries extent (reference r) = ref_entry extent r
view_entries extent unrelated = []
view_entries extent malformed = []

unfoldable pub item_entries : Item → List Entry
item_entries i = view_entries i.key.objectid (view_of i)

unfoldable pub entries : List Item → List Entry
entries [] = []
entries (i ∷ items) = item_entries i ++ entries items

-- "In a sheet it counts the sum of weights under it, inline and as items, 0 if none"
abbrev pub under : Name → Entry → ℕ
under n e = cond (same_name n e.name) e.weight 0

abbrev pub count : Name → List Item → ℕ
count n items = sum (under n) (entries items)

-- ---- balanced

-- each record's references read and stand in order, each reference item is in its form
unfoldable pub well_formed : View → Bool
well_formed (extent_record b) = ordered b.refs
well_formed (reference r) = true
well_formed unrelated = true
well_formed malformed = false

abbrev pub good : Item → Bool
good i = well_formed (view_of i)

-- "each extent that has reference items has exactly one record and no extent has two"
abbrev pub is_record_of : ℕ → Item → ℕ
is_record_of extent i = cond (record_of extent i) 1 0

abbrev pub records : ℕ → List Item → ℕ
records extent items = sum (is_record_of extent) items

abbrev pub paired : List Item → Item → Bool
paired items i = not (is_record i || is_ref_item i) || eqb (records i.key.objectid items) 1

-- "no name stands twice, inline or as an item"
abbrev pub stands : Name → Entry → ℕ
stands n e = cond (same_name n e.name) 1 0

abbrev pub single : List Entry → Entry → Bool
single list e = leb (sum (stands e.name) list) 1

-- "no 178 or 184 counts 0"
abbrev pub counts : Entry → Bool
counts e = leb 1 e.weight

-- "each record's total equals the sum of the weights of its extent's references, inline and as items, as whole numbers"
abbrev pub of_extent : ℕ → Entry → ℕ
of_extent extent e = cond (eqb extent e.name.extent) e.weight 0

unfoldable pub view_total : View → ℕ
view_total (extent_record b) = b.total
view_total (reference r) = 0
view_total unrelated = 0
view_total malformed = 0

abbrev pub totalled : List Entry → Item → Bool
totalled list i = not (is_record i) || eqb (view_total (view_of i)) (sum (of_extent i.key.objectid) list)

unfoldable pub balanced : List Item → Bool
balanced items =
    all good items && all (paired items) items && all (single (entries items)) (entries items)
    && all counts (entries items) && all (totalled (entries items)) items
