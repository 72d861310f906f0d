-- Document 01, "Questions at the door", with document 02's ticket 1, as they are put to a posting: it is accepted exactly if each
-- of its questions is answered yes. Every answer is a plain fact about the item list (document 01's sheet), beside the number of
-- its question; 6, 7, 8, 12, 15 and 16 ask nothing that the facts do not give. To add is the documents' "give", to drop their
-- "take". Assumes nothing.
use Rattle.std.specs.Prelude.{◌≡◌, cond, List, [], ◌∷◌, ℕ, ◌+◌, ◌-◌, ◌^◌, ◌≤◌, ◌<◌, T, eqb, length}
use Rattle.std.proofs.Math.Option.{some}
use Rattle.fields.specs.Lists.{Cut, first_cut}
use Rattle.fields.specs.Numbers.{are_bytes}
use Rattle.format.specs.declared.Change.{Change}
use Rattle.format.specs.declared.Change.TheVariants.{AddBlock, AddData, AddShared, DropBlock, DropData, DropShared}
use Rattle.format.specs.Questions.{accepted}
use Rattle.format.specs.References.{total_of}
use Rattle.format.specs.Bodies.{shared_kind}
use Rattle.format.specs.Items.{Item, read_sheet, sheet_bytes, without}
use Rattle.format.specs.Apply.{inline_limit, record_of}
use Rattle.format.specs.Names.{Name, count, balanced}
use Rattle.format.specs.Ledger.{name_of, changed, posted}

-- ---- what the six changes share

-- `at` is the extent's record with what stands before and after it
pub record UpToFive (nodesize : ℕ) (sheet : List ℕ) (extent : ℕ) (items : List Item) (at : Cut Item) : Type 0 where
  pub reads : read_sheet sheet ≡ accepted items  -- 1, 2
  pub least : 501 ≤ nodesize  -- 3
  pub most : nodesize ≤ 65536  -- 3
  pub balance : T (balanced items)  -- 4
  pub stands : first_cut (record_of extent) items ≡ some at  -- 5

-- what a name counts inline, in the extent's record alone, and what it counts as an item of its own; at most one is not 0, and
-- together they are what the name counts
abbrev pub inline : Name → Cut Item → ℕ
inline n at = count n (at.hit ∷ [])

abbrev pub apart : Name → Cut Item → ℕ
apart n at = count n (without at)

-- ---- sizes in bytes

-- an inline reference: a type byte and its payload
abbrev pub block_size : ℕ
block_size = 9

abbrev pub data_size : ℕ
data_size = 29

abbrev pub shared_size : ℕ → ℕ
shared_size kind = cond (eqb kind 184) 13 9

-- a reference as an item: length and key, then its data
abbrev pub block_item : ℕ
block_item = 21

abbrev pub data_item : ℕ
data_item = 49

abbrev pub shared_item : ℕ → ℕ
shared_item kind = cond (eqb kind 184) 25 21

-- an add makes the record longer only where the name does not stand inline
abbrev pub grown : Name → Cut Item → ℕ → ℕ
grown n at size = cond (eqb (inline n at) 0) size 0

-- a reference that goes frees its inline size, or that of its item where it does not stand inline
abbrev pub freed : Name → Cut Item → ℕ → ℕ → ℕ
freed n at size item = cond (eqb (inline n at) 0) item size

-- ---- adds

pub record AddsBlock (nodesize : ℕ) (sheet : List ℕ) (n : Name) (room : ℕ) : Type 0 where
  pub items : List Item
  pub at : Cut Item
  pub up_to_five : UpToFive nodesize sheet n.extent items at  -- 1 to 5
  pub free : count n items ≡ 0  -- 9
  pub short : length at.hit.bytes + block_size ≤ inline_limit nodesize  -- 17
  pub roomy : length sheet + block_size ≤ room  -- 21
  pub small : length sheet + block_size ≤ 262144  -- 21

pub record AddsData (nodesize : ℕ) (sheet : List ℕ) (n : Name) (amount room : ℕ) : Type 0 where
  pub items : List Item
  pub at : Cut Item
  pub up_to_five : UpToFive nodesize sheet n.extent items at  -- 1 to 5
  pub free : apart n at ≡ 0  -- 9
  pub positive : 1 ≤ amount  -- 10
  pub holds : inline n at + amount < 2 ^ 32  -- 11
  pub short : inline n at ≡ 0 → length at.hit.bytes + data_size ≤ inline_limit nodesize  -- 17
  pub roomy : length sheet + grown n at data_size ≤ room  -- 21
  pub small : length sheet + grown n at data_size ≤ 262144  -- 21

pub record AddsShared (nodesize : ℕ) (sheet : List ℕ) (n : Name) (amount room : ℕ) : Type 0 where
  pub items : List Item
  pub at : Cut Item
  pub kind : T (shared_kind n.kind)  -- 3
  pub up_to_five : UpToFive nodesize sheet n.extent items at  -- 1 to 5
  pub free : apart n at ≡ 0  -- 9
  pub new : n.kind ≡ 182 → inline n at ≡ 0  -- 9
  pub positive : 1 ≤ amount  -- 10
  pub single : n.kind ≡ 182 → amount ≡ 1  -- 10
  pub holds : inline n at + amount < 2 ^ 32  -- 11
  pub short : length at.hit.bytes + grown n at (shared_size n.kind) ≤ inline_limit nodesize  -- 17
  pub roomy : length sheet + grown n at (shared_size n.kind) ≤ room  -- 21
  pub small : length sheet + grown n at (shared_size n.kind) ≤ 262144  -- 21

-- ---- drops: what is left is no longer than the sheet, so within 262,144 bytes

pub record DropsBlock (nodesize : ℕ) (sheet : List ℕ) (n : Name) (room : ℕ) : Type 0 where
  pub items : List Item
  pub at : Cut Item
  pub up_to_five : UpToFive nodesize sheet n.extent items at  -- 1 to 5
  pub named : 1 ≤ count n items  -- 5
  pub two : 2 ≤ total_of at.hit.bytes  -- 13
  pub roomy : length sheet - freed n at block_size block_item ≤ room  -- 21

-- a reference that counts more than one stays, with one less
pub record DropsData (nodesize : ℕ) (sheet : List ℕ) (n : Name) (room : ℕ) : Type 0 where
  pub items : List Item
  pub at : Cut Item
  pub up_to_five : UpToFive nodesize sheet n.extent items at  -- 1 to 5
  pub named : 1 ≤ count n items  -- 5, 15
  pub two : 2 ≤ total_of at.hit.bytes  -- 13
  pub roomy : length sheet - cond (eqb (count n items) 1) (freed n at data_size data_item) 0 ≤ room  -- 21

-- a reference that counts more than the amount stays, with that much less
pub record DropsShared (nodesize : ℕ) (sheet : List ℕ) (n : Name) (amount room : ℕ) : Type 0 where
  pub items : List Item
  pub at : Cut Item
  pub kind : T (shared_kind n.kind)  -- 3
  pub up_to_five : UpToFive nodesize sheet n.extent items at  -- 1 to 5
  pub named : 1 ≤ count n items  -- 5
  pub positive : 1 ≤ amount  -- 10
  pub within : amount ≤ count n items  -- 22
  pub roomy : length sheet - cond (eqb (count n items) amount) (freed n at (shared_size n.kind) (shared_item n.kind)) 0 ≤ room  -- 21

-- ---- accepted, exactly if

abbrev pub Accepts : ℕ → List ℕ → Change → ℕ → Type 0
Accepts nodesize sheet change room = (result : List ℕ) × (posted nodesize sheet change room ≡ accepted result)

abbrev pub AllYes : ℕ → List ℕ → Change → ℕ → Type 0
AllYes nodesize sheet (AddBlock extent name) room = AddsBlock nodesize sheet (name_of (AddBlock extent name)) room
AllYes nodesize sheet (AddData extent name amount) room = AddsData nodesize sheet (name_of (AddData extent name amount)) amount room
AllYes nodesize sheet (AddShared extent name amount) room = AddsShared nodesize sheet (name_of (AddShared extent name amount)) amount room
AllYes nodesize sheet (DropBlock extent name) room = DropsBlock nodesize sheet (name_of (DropBlock extent name)) room
AllYes nodesize sheet (DropData extent name) room = DropsData nodesize sheet (name_of (DropData extent name)) room
AllYes nodesize sheet (DropShared extent name amount) room = DropsShared nodesize sheet (name_of (DropShared extent name amount)) amount room

-- the sheet that an accepted change makes: the items that it leaves, as bytes
pub record Made (nodesize : ℕ) (sheet : List ℕ) (change : Change) (result : List ℕ) : Type 0 where
  pub items : List Item
  pub after : List Item
  pub reads : read_sheet sheet ≡ accepted items
  pub changes : changed nodesize change items ≡ accepted after
  pub writes : result ≡ sheet_bytes after

pub record Exactly (A B : Type 0) : Type 0 where
  pub only : A → B
  pub enough : B → A

-- for every sheet of bytes, every change, every nodesize and every room
abbrev pub Acceptance : Type 0
Acceptance = (nodesize : ℕ) (sheet : List ℕ) (change : Change) (room : ℕ) → T (are_bytes sheet)
    → Exactly (Accepts nodesize sheet change room) (AllYes nodesize sheet change room)
