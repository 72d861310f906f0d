-- The laws of document 02's ticket 5 at computed bodies and sheets: what they assume can be met, and what each call says is left.
-- Assumes nothing.
use mathlib.Core.Path.{◌≡◌, refl}
use mathlib.Core.Bool.{true, false, cond}
use mathlib.Core.List.{List, [], ◌∷◌, ◌++◌}
use Prim.Native.Nat.{ℕ, ◌≤◌}
use native.Mathlib.Omega.{arith}
use lib.ListN.{length, replicate, drop}
use Rattle.std.specs.Prelude.{Ok, Some}
use Rattle.fields.specs.Lists.{sum}
use Rattle.fields.specs.Numbers.{le_bytes}
use Rattle.format.specs.declared.DataRef.{DataRef}
use Rattle.format.specs.declared.Change.TheVariants.{AddShared, DropShared}
use Rattle.format.specs.declared.Dropped.TheVariants.{Written}
use Rattle.format.specs.Questions.{dropped_of, taken_of, lent, AnsweredDropped, AnsweredTaken}
use Rattle.format.specs.References.{Ref, make_ref, Body}
use Rattle.format.specs.Bodies.{held_body, held_taken, named, triple, drop_inline_tree_ref, drop_inline_data_ref, take_inline_shared, keyed_count, keyed_data_ref_body, drop_keyed_data_ref}
use Rattle.format.specs.Items.{Item, key_of, sheet_bytes, held_sheet}
use Rattle.format.specs.Sheets.{has_key}
use Rattle.format.specs.Apply.{record_of, apply_shared_drop_to, drop_kept_tree_ref_from}
use Rattle.format.specs.Ledger.{posted}
use Rattle.format.specs.Left.{drop_inline_tree_ref_left, drop_inline_data_ref_left, drop_keyed_data_ref_left, apply_shared_drop_left, drop_kept_tree_ref_left, post_left}
use Rattle.format.proofs.Computed.{tree, parent, item, record_bytes, data_record, data_ref}
use Rattle.format.proofs.LeftComputed.{reported}
use Rattle.theorems.specs.Left.{LeftInBody, LeftInSheet, LeftByPosting}
use Rattle.theorems.proofs.LeftBodies.{tree-ref-left, data-ref-left, shared-left, keyed-left}
use Rattle.theorems.proofs.LeftSheets.{shared-drop-left, shared-drop-as-item, kept-drop-left}
use Rattle.theorems.proofs.LeftPostings.{posting-left, one-summand}

-- a lent output of that room, and what it holds after so many bytes were written
abbrev zeros : ℕ → List ℕ
zeros room = replicate room 0

abbrev over : ℕ → ℕ → List ℕ → List ℕ
over room size bytes = bytes ++ drop size (zeros room)

-- ---- bodies

abbrev a : DataRef
a = record { tree = 5; objectid = 257; offset = 0 }

abbrev data_body : ℕ → List Ref → List ℕ
data_body total refs = record_bytes 1 total [] refs

abbrev block_body : ℕ → List Ref → List ℕ
block_body total refs = record_bytes 2 total [] refs

abbrev root : ℕ → Ref
root id = make_ref 176 (id ∷ []) 1

abbrev of : DataRef → ℕ → Ref
of d count = make_ref 178 (triple d) count

abbrev shared : ℕ → Ref
shared count = make_ref 184 (9 ∷ []) count

-- a tree that stands three times: two are left
tree-drops : AnsweredDropped (held_body 50 (drop_inline_tree_ref 169 (block_body 3 (root 5 ∷ root 5 ∷ root 5 ∷ [])) (tree 5)))
    (drop_inline_tree_ref_left 169 (block_body 3 (root 5 ∷ root 5 ∷ root 5 ∷ [])) (tree 5)) (Ok (Written 42 2)) (zeros 50)
    (over 50 42 (block_body 2 (root 5 ∷ root 5 ∷ [])))
unfolding reported held_body dropped_of lent
tree-drops = record { result = refl; output = refl }

pub tree-instance : LeftInBody 169 176 (5 ∷ []) (block_body 2 (root 5 ∷ root 5 ∷ [])) 2
unfolding reported
tree-instance =
    tree-ref-left 169 (block_body 3 (root 5 ∷ root 5 ∷ root 5 ∷ [])) (tree 5) 50 (zeros 50) (over 50 42 (block_body 2 (root 5 ∷ root 5 ∷ []))) 42 2 tt
    tree-drops

-- a triple that stands twice, counting 3 and 2 ^ 32 - 1: more than 32 bits hold is left
abbrev most : ℕ
most = 4294967295

data-drops : AnsweredDropped (held_body 90 (drop_inline_data_ref 168 (data_body 9 (of a 3 ∷ of a most ∷ [])) a))
    (drop_inline_data_ref_left 168 (data_body 9 (of a 3 ∷ of a most ∷ [])) a) (Ok (Written 82 4294967297)) (zeros 90)
    (over 90 82 (data_body 8 (of a 2 ∷ of a most ∷ [])))
unfolding reported held_body dropped_of lent
data-drops = record { result = refl; output = refl }

pub data-instance : LeftInBody 168 178 (triple a) (data_body 8 (of a 2 ∷ of a most ∷ [])) 4294967297
unfolding reported
data-instance =
    data-ref-left 168 (data_body 9 (of a 3 ∷ of a most ∷ [])) a 90 (zeros 90) (over 90 82 (data_body 8 (of a 2 ∷ of a most ∷ []))) 82 4294967297 tt
    data-drops

-- a parent that stands twice: the first, which counts 5, is taken out
shared-takes : AnsweredTaken (held_taken 60 (take_inline_shared 168 (data_body 12 (shared 5 ∷ shared 7 ∷ [])) (parent 184 9)))
    (Ok (Some (record { size = 37; count = 5 }))) (zeros 60) (over 60 37 (data_body 12 (shared 7 ∷ [])))
unfolding reported held_taken taken_of lent
shared-takes = record { result = refl; output = refl }

pub shared-instance : LeftInBody 168 184 (9 ∷ []) (data_body 12 (shared 7 ∷ [])) 7
unfolding reported
shared-instance =
    shared-left 168 (data_body 12 (shared 5 ∷ shared 7 ∷ [])) (parent 184 9) 60 (zeros 60) (over 60 37 (data_body 12 (shared 7 ∷ []))) 37 5 tt
    shared-takes

-- an item
keyed-drops : AnsweredDropped (held_body 30 (drop_keyed_data_ref (keyed_data_ref_body a 3) a)) (drop_keyed_data_ref_left (keyed_data_ref_body a 3) a)
    (Ok (Written 28 2)) (zeros 30) (over 30 28 (keyed_data_ref_body a 2))
unfolding reported held_body dropped_of lent
keyed-drops = record { result = refl; output = refl }

pub keyed-instance : 2 ≡ keyed_count (keyed_data_ref_body a 2)
unfolding reported
keyed-instance = keyed-left (keyed_data_ref_body a 3) a 30 (zeros 30) (over 30 28 (keyed_data_ref_body a 2)) 28 2 keyed-drops

-- ---- sheets

abbrev shared_sheet : ℕ → List Ref → List ℕ
shared_sheet total refs = sheet_bytes (data_record 12288 total refs ∷ [])

shared-drops : AnsweredDropped (held_sheet 99 (apply_shared_drop_to (shared_sheet 9 (shared 5 ∷ shared 2 ∷ [])) 12288 (parent 184 9) 3 false))
    (apply_shared_drop_left (shared_sheet 9 (shared 5 ∷ shared 2 ∷ [])) 12288 (parent 184 9) 3 false) (Ok (Written 59 2)) (zeros 99)
    (over 99 59 (shared_sheet 6 (shared 2 ∷ [])))
unfolding reported dropped_of lent
shared-drops = record { result = refl; output = refl }

pub shared-drop-instance : LeftInSheet (record_of 12288) 184 (9 ∷ []) (shared_sheet 6 (shared 2 ∷ [])) 2
unfolding reported
shared-drop-instance =
    shared-drop-left (shared_sheet 9 (shared 5 ∷ shared 2 ∷ [])) 12288 (parent 184 9) 3 99 (zeros 99) (over 99 59 (shared_sheet 6 (shared 2 ∷ []))) 59 2
    tt shared-drops

item-drops : AnsweredDropped (held_sheet 99 (apply_shared_drop_to (shared_sheet 9 (shared 5 ∷ [])) 12288 (parent 184 9) 3 true))
    (apply_shared_drop_left (shared_sheet 9 (shared 5 ∷ [])) 12288 (parent 184 9) 3 true) (Ok (Written 59 0)) (zeros 99)
    (over 99 59 (shared_sheet 6 (shared 5 ∷ [])))
unfolding reported dropped_of lent
item-drops = record { result = refl; output = refl }

pub item-instance : ◌≡◌ {A = ℕ} 0 0
item-instance =
    shared-drop-as-item (shared_sheet 9 (shared 5 ∷ [])) 12288 (parent 184 9) 3 99 (zeros 99) (over 99 59 (shared_sheet 6 (shared 5 ∷ []))) 59 0 item-drops

-- a tree twice inline and once as an item: one of those inline goes, and the body has one; the item of a tree that stands as an item
-- alone goes, and the body has none. The record gets the own-flag
abbrev block : ℕ → ℕ → List Ref → List Item → List ℕ
block flags total refs items = sheet_bytes (item 8192 169 0 (record_bytes flags total [] refs) ∷ items)

abbrev kept_before : List ℕ
kept_before = block 2 3 (root 5 ∷ root 5 ∷ []) (item 8192 176 5 [] ∷ [])

abbrev kept_after : List ℕ
kept_after = block 258 2 (root 5 ∷ []) (item 8192 176 5 [] ∷ [])

kept-drops : AnsweredDropped (held_sheet 99 (drop_kept_tree_ref_from kept_before 8192 0 (tree 5) true)) (drop_kept_tree_ref_left kept_before 8192 0 (tree 5) true)
    (Ok (Written 76 1)) (zeros 99) (over 99 76 kept_after)
unfolding reported dropped_of lent
kept-drops = record { result = refl; output = refl }

pub kept-instance : LeftInSheet (has_key (key_of 8192 169 0)) 176 (5 ∷ []) kept_after 1
unfolding reported
kept-instance = kept-drop-left kept_before 8192 0 (tree 5) true 99 (zeros 99) (over 99 76 kept_after) 76 1 tt kept-drops

abbrev apart_before : List ℕ
apart_before = block 2 2 (root 7 ∷ []) (item 8192 176 5 [] ∷ [])

abbrev apart_after : List ℕ
apart_after = block 258 1 (root 7 ∷ []) []

apart-drops : AnsweredDropped (held_sheet 99 (drop_kept_tree_ref_from apart_before 8192 0 (tree 5) true))
    (drop_kept_tree_ref_left apart_before 8192 0 (tree 5) true) (Ok (Written 55 0)) (zeros 99) (over 99 55 apart_after)
unfolding reported dropped_of lent
apart-drops = record { result = refl; output = refl }

pub apart-instance : LeftInSheet (has_key (key_of 8192 169 0)) 176 (5 ∷ []) apart_after 0
unfolding reported
apart-instance = kept-drop-left apart_before 8192 0 (tree 5) true 99 (zeros 99) (over 99 55 apart_after) 55 0 tt apart-drops

-- ---- the books

abbrev shared_item : ℕ → List ℕ
shared_item count = sheet_bytes (data_record 12288 count [] ∷ item 12288 184 9 (le_bytes 4 count) ∷ [])

-- two of five, at an item: three are left
drop-posts : AnsweredDropped (posted 4096 (shared_item 5) (DropShared 12288 (parent 184 9) 2) (length (zeros 99)))
    (post_left 4096 (shared_item 5) (DropShared 12288 (parent 184 9) 2)) (Ok (Written 71 3)) (zeros 99) (over 99 71 (shared_item 3))
unfolding reported dropped_of lent
drop-posts = record { result = refl; output = refl }

pub drop-instance : LeftByPosting (shared_item 5) (DropShared 12288 (parent 184 9) 2) (shared_item 3) 3
unfolding reported
drop-instance =
    posting-left 4096 (shared_item 5) (DropShared 12288 (parent 184 9) 2) (zeros 99) (over 99 71 (shared_item 3)) 71 3 tt drop-posts

-- two more, inline: an add reports 0
add_posts : AnsweredDropped (posted 4096 (shared_sheet 5 (shared 5 ∷ [])) (AddShared 12288 (parent 184 9) 2) (length (zeros 99)))
    (post_left 4096 (shared_sheet 5 (shared 5 ∷ [])) (AddShared 12288 (parent 184 9) 2)) (Ok (Written 59 0)) (zeros 99)
    (over 99 59 (shared_sheet 7 (shared 7 ∷ [])))
unfolding reported dropped_of lent
add_posts = record { result = refl; output = refl }

pub add-instance : LeftByPosting (shared_sheet 5 (shared 5 ∷ [])) (AddShared 12288 (parent 184 9) 2) (shared_sheet 7 (shared 7 ∷ [])) 0
unfolding reported
add-instance =
    posting-left 4096 (shared_sheet 5 (shared 5 ∷ [])) (AddShared 12288 (parent 184 9) 2) (zeros 99) (over 99 59 (shared_sheet 7 (shared 7 ∷ []))) 59 0 tt
    add_posts

-- ---- one summand

abbrev balanced_items : List Item
balanced_items = data_record 12288 6 (data_ref 128 4 ∷ shared 2 ∷ []) ∷ []

abbrev balanced_body : Body
balanced_body = record { total = 6; fixed = le_bytes 8 7 ++ (le_bytes 8 1 ++ []); refs = data_ref 128 4 ∷ shared 2 ∷ [] }

pub one-instance : sum (λ r. cond (named 184 (9 ∷ []) r) 1 0) (data_ref 128 4 ∷ shared 2 ∷ []) ≤ 1
unfolding reported
one-instance =
    one-summand balanced_items (record { front = []; hit = data_record 12288 6 (data_ref 128 4 ∷ shared 2 ∷ []); back = [] }) balanced_body 184 (9 ∷ []) tt refl
    tt refl (λ e. (let z : ◌≡◌ {A = ℕ} 184 172 = e in absurd (omega arith)))
