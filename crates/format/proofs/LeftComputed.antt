-- How many are left (document 02, ticket 5), computed: what each of the seven calls answers beside the number that it reports, in
-- bodies where a name stands twice, above 32 bits, at an item, with the item flag, and where nothing is left. Assumes nothing.
use mathlib.Core.Path.{◌≡◌, refl}
use mathlib.Core.Bool.{Bool, true, false}
use mathlib.Core.List.{List, [], ◌∷◌}
use Prim.Native.Nat.{ℕ}
use Rattle.fields.specs.Numbers.{le_bytes}
use Rattle.format.specs.declared.DataRef.{DataRef}
use Rattle.format.specs.declared.SharedRef.{SharedRef}
use Rattle.format.specs.declared.Change.{Change}
use Rattle.format.specs.declared.Change.TheVariants.{AddBlock, AddData, AddShared, DropBlock, DropData, DropShared}
use Rattle.format.specs.Questions.{Answer, refused, absent, remove, accepted, result_or, TakenOut}
use Rattle.format.specs.References.{Ref, make_ref}
use Rattle.format.specs.Bodies.{triple, drop_inline_tree_ref, drop_inline_data_ref, take_inline_shared, keyed_data_ref_body, drop_keyed_data_ref, reduced_by, reduce_total, with_flags}
use Rattle.format.specs.Items.{Item, sheet_bytes}
use Rattle.format.specs.Apply.{shared_rest, apply_shared_drop, apply_shared_drop_to, drop_kept_tree_ref, drop_kept_tree_ref_from}
use Rattle.format.specs.Ledger.{post, posted}
use Rattle.format.specs.Left.{left_in, drop_inline_tree_ref_left, drop_inline_data_ref_left, take_inline_shared_left, drop_keyed_data_ref_left, left_at, apply_shared_drop_left, drop_kept_tree_ref_left, changed_left, post_left}
use Rattle.format.proofs.Computed.{computed, tree, by_entry, parent, item, record_bytes, block_record, data_record, data_ref}

-- what a call answers, and the number beside it
pub record Reported (A : Type 0) : Type 0 where
  pub answer : Answer A
  pub left : ℕ

-- an `unfolding` line with `reported` on it opens each definition on the line below
unfoldable pub reported : {A : Type 0} → Answer A → ℕ → Reported A
unfolding computed take_inline_shared reduced_by reduce_total with_flags shared_rest apply_shared_drop apply_shared_drop_to drop_kept_tree_ref drop_kept_tree_ref_from left_in drop_inline_tree_ref_left drop_inline_data_ref_left take_inline_shared_left drop_keyed_data_ref_left left_at apply_shared_drop_left drop_kept_tree_ref_left changed_left post_left
reported answer left = record { answer = answer; left = left }

-- ---- calls on bodies

-- the body of a data extent and of a block, of that total
abbrev data_body : ℕ → List Ref → List ℕ
data_body total refs = record_bytes 1 total [] refs

abbrev block_body : ℕ → List Ref → List ℕ
block_body total refs = record_bytes 2 total [] refs

-- document 01's E names the triple `a`; `b` is another
abbrev a : DataRef
a = record { tree = 5; objectid = 257; offset = 0 }

abbrev b : DataRef
b = record { tree = 256; objectid = 257; offset = 0 }

abbrev of : DataRef → ℕ → Ref
of d count = make_ref 178 (triple d) count

abbrev root : ℕ → Ref
root id = make_ref 176 (id ∷ []) 1

abbrev shared : ℕ → ℕ → ℕ → Ref
shared kind block count = make_ref kind (block ∷ []) count

abbrev drops_data : List ℕ → Reported (List ℕ)
drops_data body = reported (drop_inline_data_ref 168 body a) (drop_inline_data_ref_left 168 body a)

abbrev drops_tree : List ℕ → ℕ → Reported (List ℕ)
drops_tree body id = reported (drop_inline_tree_ref 169 body (tree id)) (drop_inline_tree_ref_left 169 body (tree id))

abbrev takes : List ℕ → SharedRef → Reported TakenOut
takes body s = reported (take_inline_shared 168 body s) (take_inline_shared_left 168 body s)

abbrev drops_keyed : ℕ → DataRef → Reported (List ℕ)
drops_keyed count d = reported (drop_keyed_data_ref (keyed_data_ref_body a count) d) (drop_keyed_data_ref_left (keyed_data_ref_body a count) d)

-- one of two
pub data-less : drops_data (data_body 2 (of a 2 ∷ [])) ≡ reported (accepted (data_body 1 (of a 1 ∷ []))) 1
unfolding reported
data-less = refl

-- the name stands twice, with another between: the first match loses one, and both are summed
pub data-twice : drops_data (data_body 8 (of a 2 ∷ of b 1 ∷ of a 5 ∷ [])) ≡ reported (accepted (data_body 7 (of a 1 ∷ of b 1 ∷ of a 5 ∷ []))) 6
unfolding reported
data-twice = refl

-- the first match goes, and the second is left; or nothing, though a reference of the name stands
pub data-second : drops_data (data_body 2 (of a 0 ∷ of a 2 ∷ [])) ≡ reported (accepted (data_body 1 (of a 2 ∷ []))) 2
unfolding reported
data-second = refl

pub data-nothing : drops_data (data_body 2 (of a 1 ∷ of a 0 ∷ [])) ≡ reported (accepted (data_body 1 (of a 0 ∷ []))) 0
unfolding reported
data-nothing = refl

-- above 32 bits
pub data-wide : drops_data (data_body 4294967298 (of a 3 ∷ of a 4294967295 ∷ []))
    ≡ reported (accepted (data_body 4294967297 (of a 2 ∷ of a 4294967295 ∷ []))) 4294967297
unfolding reported
data-wide = refl

-- absent; 13; a body that does not read
pub data-absent : drops_data (data_body 1 (of b 1 ∷ [])) ≡ reported absent 0
unfolding reported
data-absent = refl

pub data-last : drops_data (data_body 1 (of a 1 ∷ of a 1 ∷ [])) ≡ reported (refused 13) 0
unfolding reported
data-last = refl

pub data-short : drops_data (le_bytes 8 2) ≡ reported (refused 6) 0
unfolding reported
data-short = refl

-- each block reference is one; those of another type or tree are none
pub tree-less : drops_tree (block_body 5 (root 5 ∷ root 7 ∷ root 5 ∷ root 5 ∷ shared 182 5 1 ∷ [])) 5
    ≡ reported (accepted (block_body 4 (root 7 ∷ root 5 ∷ root 5 ∷ shared 182 5 1 ∷ []))) 2
unfolding reported
tree-less = refl

pub tree-last : drops_tree (block_body 1 (root 5 ∷ root 5 ∷ [])) 5 ≡ reported (refused 13) 0
unfolding reported
tree-last = refl

pub tree-absent : drops_tree (block_body 1 (root 5 ∷ root 5 ∷ [])) 7 ≡ reported absent 0
unfolding reported
tree-absent = refl

-- a reference that is taken out goes whole
pub taken-second : takes (data_body 12 (shared 184 9 5 ∷ shared 184 9 7 ∷ [])) (parent 184 9)
    ≡ reported (accepted (record { bytes = data_body 12 (shared 184 9 7 ∷ []); count = 5 })) 7
unfolding reported
taken-second = refl

pub taken-kind : takes (data_body 6 (shared 182 9 1 ∷ shared 182 9 1 ∷ shared 184 9 4 ∷ [])) (parent 182 9)
    ≡ reported (accepted (record { bytes = data_body 6 (shared 182 9 1 ∷ shared 184 9 4 ∷ []); count = 1 })) 1
unfolding reported
taken-kind = refl

pub taken_refused : takes (data_body 5 (shared 184 9 5 ∷ [])) (parent 178 9) ≡ reported (refused 3) 0
unfolding reported
taken_refused = refl

-- an item has one count
pub keyed-most : drops_keyed 4294967295 a ≡ reported (accepted (keyed_data_ref_body a 4294967294)) 4294967294
unfolding reported
keyed-most = refl

pub keyed-last : drops_keyed 1 a ≡ reported remove 0
unfolding reported
keyed-last = refl

pub keyed-other : drops_keyed 2 b ≡ reported (refused 15) 0
unfolding reported
keyed-other = refl

-- ---- calls on sheets

abbrev shared_sheet : ℕ → List Ref → List Item
shared_sheet total refs = data_record 12288 total refs ∷ []

abbrev drops_shared : List Item → ℕ → Bool → Reported (List Item)
drops_shared items count as_item =
    reported (apply_shared_drop_to (sheet_bytes items) 12288 (parent 184 9) count as_item)
    (apply_shared_drop_left (sheet_bytes items) 12288 (parent 184 9) count as_item)

-- the count that was passed plays no part
pub shared-inline : drops_shared (shared_sheet 9 (shared 184 9 5 ∷ shared 184 9 2 ∷ [])) 3 false
    ≡ reported (accepted (shared_sheet 6 (shared 184 9 2 ∷ []))) 2
unfolding reported
shared-inline = refl

-- "calls with the item flag report 0"
pub shared-item : drops_shared (shared_sheet 9 (shared 184 9 5 ∷ shared 184 9 2 ∷ [])) 3 true
    ≡ reported (accepted (shared_sheet 6 (shared 184 9 5 ∷ shared 184 9 2 ∷ []))) 0
unfolding reported
shared-item = refl

pub shared-missing : drops_shared (shared_sheet 9 (shared 182 9 1 ∷ [])) 3 false ≡ reported (refused 5) 0
unfolding reported
shared-missing = refl

abbrev drops_kept : List Item → ℕ → Bool → Reported (List Item)
drops_kept items id own =
    reported (drop_kept_tree_ref_from (sheet_bytes items) 8192 0 (tree id) own) (drop_kept_tree_ref_left (sheet_bytes items) 8192 0 (tree id) own)

-- a tree inline and as an item: out of the body, where an item is no part of the sum; then the item; then 5. The flags stay set
abbrev owned : ℕ → List Ref → Item
owned total refs = item 8192 169 0 (record_bytes 258 total [] refs)

pub kept-inline : drops_kept (block_record 8192 3 (root 7 ∷ root 5 ∷ []) ∷ item 8192 176 5 [] ∷ []) 5 true
    ≡ reported (accepted (owned 2 (root 7 ∷ []) ∷ item 8192 176 5 [] ∷ [])) 0
unfolding reported
kept-inline = refl

pub kept-item : drops_kept (owned 2 (root 7 ∷ []) ∷ item 8192 176 5 [] ∷ []) 5 false ≡ reported (accepted (owned 1 (root 7 ∷ []) ∷ [])) 0
unfolding reported
kept-item = refl

pub kept-missing : drops_kept (owned 1 (root 7 ∷ []) ∷ []) 5 true ≡ reported (refused 5) 0
unfolding reported
kept-missing = refl

-- it stands three times in the body
pub kept_more : drops_kept (block_record 8192 3 (root 5 ∷ root 5 ∷ root 5 ∷ []) ∷ []) 5 true
    ≡ reported (accepted (owned 2 (root 5 ∷ root 5 ∷ []) ∷ [])) 2
unfolding reported
kept_more = refl

-- ---- the books

abbrev posts : List Item → Change → Reported (List Item)
posts items change = reported (post 4096 (sheet_bytes items) change) (post_left 4096 (sheet_bytes items) change)

-- a data reference that counts so much, as an item at its hash, and another extent with the same triple
abbrev data_item : ℕ → List Item
data_item count =
    data_record 12288 count [] ∷ item 12288 178 0x417b1dbc82f63b78 (keyed_data_ref_body (by_entry 128) count)
    ∷ data_record 24576 4 (data_ref 128 4 ∷ []) ∷ []

pub posts-data-item : posts (data_item 3) (DropData 12288 (by_entry 128)) ≡ reported (accepted (data_item 2)) 2
unfolding reported
posts-data-item = refl

pub posts-data-inline : posts (data_item 3) (DropData 24576 (by_entry 128))
    ≡ reported (accepted (data_record 12288 3 [] ∷ item 12288 178 0x417b1dbc82f63b78 (keyed_data_ref_body (by_entry 128) 3) ∷ data_record 24576 3 (data_ref 128 3 ∷ []) ∷ [])) 3
unfolding reported
posts-data-inline = refl

-- a part of shared data, inline and as an item, and all of it
abbrev shared_item : ℕ → List Item
shared_item count = data_record 12288 count [] ∷ item 12288 184 9 (le_bytes 4 count) ∷ []

pub posts-shared-inline : posts (shared_sheet 5 (shared 184 9 5 ∷ [])) (DropShared 12288 (parent 184 9) 2)
    ≡ reported (accepted (shared_sheet 3 (shared 184 9 3 ∷ []))) 3
unfolding reported
posts-shared-inline = refl

pub posts-shared-item : posts (shared_item 5) (DropShared 12288 (parent 184 9) 2) ≡ reported (accepted (shared_item 3)) 3
unfolding reported
posts-shared-item = refl

pub posts-shared-all : posts (shared_item 5) (DropShared 12288 (parent 184 9) 5) ≡ reported (accepted (shared_sheet 0 [])) 0
unfolding reported
posts-shared-all = refl

-- a block reference is gone, inline or as an item
pub posts-block : posts (block_record 8192 2 (root 5 ∷ []) ∷ item 8192 176 7 [] ∷ []) (DropBlock 8192 (tree 7))
    ≡ reported (accepted (block_record 8192 1 (root 5 ∷ []) ∷ [])) 0
unfolding reported
posts-block = refl

-- "gives .. report 0", and so does a refusal
pub posts-add-block : posts (block_record 8192 1 (root 5 ∷ []) ∷ []) (AddBlock 8192 (tree 7))
    ≡ reported (accepted (block_record 8192 2 (root 7 ∷ root 5 ∷ []) ∷ [])) 0
unfolding reported
posts-add-block = refl

pub posts-add-data : posts (data_record 24576 4 (data_ref 128 4 ∷ []) ∷ []) (AddData 24576 (by_entry 128) 2)
    ≡ reported (accepted (data_record 24576 6 (data_ref 128 6 ∷ []) ∷ [])) 0
unfolding reported
posts-add-data = refl

pub posts-add-shared : posts (shared_sheet 5 (shared 184 9 5 ∷ [])) (AddShared 12288 (parent 184 9) 2)
    ≡ reported (accepted (shared_sheet 7 (shared 184 9 7 ∷ []))) 0
unfolding reported
posts-add-shared = refl

pub posts-too-much : posts (shared_item 5) (DropShared 12288 (parent 184 9) 6) ≡ reported (refused 22) 0
unfolding reported
posts-too-much = refl

-- a lent output one byte short: 21, and what was left is not shown
abbrev shown : Answer (List ℕ) → ℕ → Reported (List ℕ)
shown answer left = reported answer (result_or 0 (λ result. left) answer)

pub posts-no-room : shown (posted 4096 (sheet_bytes (shared_item 5)) (DropShared 12288 (parent 184 9) 2) 70)
    (post_left 4096 (sheet_bytes (shared_item 5)) (DropShared 12288 (parent 184 9) 2))
    ≡ reported (refused 21) 0
unfolding reported
posts-no-room = refl
