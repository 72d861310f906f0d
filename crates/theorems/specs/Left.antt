-- Document 02, ticket 5, "How many are left": the number that a drop reports is what a reading of the bytes that it wrote gives; in
-- the books it is what the history leaves of the count before; and on a balanced sheet it is the count of one reference. To add is
-- the documents' "give", to drop their "take". Assumes nothing.
use Rattle.std.specs.Prelude.{◌≡◌, ◌≢◌, Bool, true, false, not, cond, List, ◌∷◌, ◌++◌, ℕ, ◌+◌, ◌≤◌, T, length, take, Ok, Some}
use Rattle.std.proofs.Math.Option.{some}
use Rattle.fields.specs.Lists.{sum, Cut, first_cut}
use Rattle.fields.specs.Numbers.{are_bytes}
use Rattle.format.specs.declared.BlockRef.{BlockRef}
use Rattle.format.specs.declared.DataRef.{DataRef}
use Rattle.format.specs.declared.SharedRef.{SharedRef}
use Rattle.format.specs.declared.Change.{Change}
use Rattle.format.specs.declared.Dropped.TheVariants.{Written}
use Rattle.format.specs.Questions.{Answer, accepted, result_or, AnsweredDropped, AnsweredTaken}
use Rattle.format.specs.References.{Body, read_body}
use Rattle.format.specs.Bodies.{held_body, held_taken, named, one, triple, drop_inline_tree_ref, drop_inline_data_ref, take_inline_shared, keyed_count, drop_keyed_data_ref}
use Rattle.format.specs.Items.{Item, key_of, read_sheet, held_sheet}
use Rattle.format.specs.Sheets.{has_key}
use Rattle.format.specs.Apply.{is_record, record_of, apply_shared_drop_to, drop_kept_tree_ref_from}
use Rattle.format.specs.Names.{entries, count, stands, balanced}
use Rattle.format.specs.Ledger.{name_of, posted}
use Rattle.format.specs.Left.{left_among, drop_inline_tree_ref_left, drop_inline_data_ref_left, take_inline_shared_left, drop_keyed_data_ref_left, apply_shared_drop_left, drop_kept_tree_ref_left, is_drop, post_left}
use Rattle.format.specs.History.{enter, sheet_items}

-- ---- "the count remaining under the name it touched, summed over that body or item", read off the bytes that were written

-- whatever is read off a body: a call that is accepted, with `size` bytes written, reports that of these bytes
abbrev pub ReadsOff : Type 0
ReadsOff = (left : List ℕ → ℕ) (a : Answer (List ℕ)) (room : ℕ) (old new : List ℕ) (size n : ℕ)
    → AnsweredDropped (held_body room a) (result_or 0 left a) (Ok (Written size n)) old new → n ≡ left (take size new)

-- the bytes are a body that reads, and under the name it has that many
pub record LeftInBody (type kind : ℕ) (fields bytes : List ℕ) (n : ℕ) : Type 0 where
  pub body : Body
  pub reads : read_body type bytes ≡ accepted body
  pub sums : n ≡ left_among kind fields body.refs

abbrev pub TreeRefLeft : Type 0
TreeRefLeft = (type : ℕ) (body : List ℕ) (block : BlockRef) (room : ℕ) (old new : List ℕ) (size n : ℕ) → T (are_bytes body)
    → AnsweredDropped (held_body room (drop_inline_tree_ref type body block)) (drop_inline_tree_ref_left type body block) (Ok (Written size n)) old new
    → LeftInBody type 176 (one block.tree) (take size new) n

abbrev pub DataRefLeft : Type 0
DataRefLeft = (type : ℕ) (body : List ℕ) (d : DataRef) (room : ℕ) (old new : List ℕ) (size n : ℕ) → T (are_bytes body)
    → AnsweredDropped (held_body room (drop_inline_data_ref type body d)) (drop_inline_data_ref_left type body d) (Ok (Written size n)) old new
    → LeftInBody type 178 (triple d) (take size new) n

-- the number that is handed back, `taken`, is the count of the reference that went; the answer does not say what is left
abbrev pub SharedLeft : Type 0
SharedLeft = (type : ℕ) (body : List ℕ) (s : SharedRef) (room : ℕ) (old new : List ℕ) (size taken : ℕ) → T (are_bytes body)
    → AnsweredTaken (held_taken room (take_inline_shared type body s)) (Ok (Some (record { size = size; count = taken }))) old new
    → LeftInBody type s.kind (one s.parent) (take size new) (take_inline_shared_left type body s)

abbrev pub KeyedLeft : Type 0
KeyedLeft = (item : List ℕ) (d : DataRef) (room : ℕ) (old new : List ℕ) (size n : ℕ)
    → AnsweredDropped (held_body room (drop_keyed_data_ref item d)) (drop_keyed_data_ref_left item d) (Ok (Written size n)) old new
    → n ≡ keyed_count (take size new)

-- ---- "sheet calls .. pass it up"

-- the bytes are a sheet that passes questions 1 and 2; the record stands in it, and its body has that many under the name
pub record LeftInSheet (is_it : Item → Bool) (kind : ℕ) (fields sheet : List ℕ) (n : ℕ) : Type 0 where
  pub items : List Item
  pub at : Cut Item
  pub reads : read_sheet sheet ≡ accepted items
  pub found : first_cut is_it items ≡ some at
  pub in_body : LeftInBody at.hit.key.kind kind fields at.hit.bytes n

abbrev pub SharedDropLeft : Type 0
SharedDropLeft = (sheet : List ℕ) (extent : ℕ) (s : SharedRef) (count room : ℕ) (old new : List ℕ) (size n : ℕ) → T (are_bytes sheet)
    → AnsweredDropped (held_sheet room (apply_shared_drop_to sheet extent s count false)) (apply_shared_drop_left sheet extent s count false)
    (Ok (Written size n)) old new
    → LeftInSheet (record_of extent) s.kind (one s.parent) (take size new) n

-- "calls with the item flag report 0"
abbrev pub SharedDropAsItem : Type 0
SharedDropAsItem = (sheet : List ℕ) (extent : ℕ) (s : SharedRef) (count room : ℕ) (old new : List ℕ) (size n : ℕ)
    → AnsweredDropped (held_sheet room (apply_shared_drop_to sheet extent s count true)) (apply_shared_drop_left sheet extent s count true)
    (Ok (Written size n)) old new
    → n ≡ 0

-- over the body alone, also where the reference stood as an item of its own
abbrev pub KeptDropLeft : Type 0
KeptDropLeft = (sheet : List ℕ) (bytenr level : ℕ) (block : BlockRef) (own : Bool) (room : ℕ) (old new : List ℕ) (size n : ℕ)
    → T (are_bytes sheet)
    → AnsweredDropped (held_sheet room (drop_kept_tree_ref_from sheet bytenr level block own)) (drop_kept_tree_ref_left sheet bytenr level block own)
    (Ok (Written size n)) old new
    → LeftInSheet (has_key (key_of bytenr 169 level)) 176 (one block.tree) (take size new) n

-- ---- "and the books pass it up"

-- what the history takes for an accepted change
abbrev pub takes : Change → ℕ
takes change = (enter change (record { opening = 0; given = 0; taken = 0 })).taken

pub record LeftByPosting (sheet : List ℕ) (change : Change) (after : List ℕ) (n : ℕ) : Type 0 where
  -- of a drop, what the change's name counts in the sheet that was written
  pub counts : T (is_drop change) → n ≡ count (name_of change) (sheet_items after)
  -- and it counted as much more before as the history takes
  pub less : T (is_drop change) → n + takes change ≡ count (name_of change) (sheet_items sheet)
  -- "0 when the name is gone", and only then
  pub gone : T (is_drop change) → n ≡ 0 → sum (stands (name_of change)) (entries (sheet_items after)) ≡ 0
  -- "gives .. report 0"
  pub adds : T (not (is_drop change)) → n ≡ 0

-- a sheet that is not balanced accepts nothing
abbrev pub PostingLeft : Type 0
PostingLeft = (nodesize : ℕ) (sheet : List ℕ) (change : Change) (old new : List ℕ) (size n : ℕ) → T (are_bytes sheet)
    → AnsweredDropped (posted nodesize sheet change (length old)) (post_left nodesize sheet change) (Ok (Written size n)) old new
    → LeftByPosting sheet change (take size new) n

-- ---- in the record of a balanced list at most one reference has a name, so that the sum is its count

abbrev pub OneSummand : Type 0
OneSummand = (items : List Item) (at : Cut Item) (b : Body) (kind : ℕ) (fields : List ℕ) → T (balanced items)
    → items ≡ at.front ++ at.hit ∷ at.back → T (is_record at.hit) → read_body at.hit.key.kind at.hit.bytes ≡ accepted b
    → kind ≢ 172
    → sum (λ r. cond (named kind fields r) 1 0) b.refs ≤ 1
