-- Single postings computed: sheets that do not read (1), that are out of order (2) or that are not balanced (4), each for one
-- reason of document 01, and which of two reasons a posting is refused for. Assumes nothing.
use mathlib.Core.Path.{◌≡◌, refl}
use mathlib.Core.Bool.{Bool, true, false}
use mathlib.Core.List.{List, [], ◌∷◌, ◌++◌}
use Prim.Native.Nat.{ℕ, ◌+◌}
use lib.ListN.{take}
use Rattle.fields.specs.Numbers.{le_bytes, be_bytes}
use Rattle.format.specs.declared.Change.TheVariants.{AddBlock, AddData, AddShared, DropBlock, DropData, DropShared}
use Rattle.format.specs.References.{Ref, make_ref, ref_at}
use Rattle.format.specs.Bodies.{triple, keyed_data_ref_body}
use Rattle.format.specs.Items.{Item, sheet_bytes}
use Rattle.format.specs.History.{balanced_sheet}
use Rattle.format.proofs.Computed.{computed, tree, by_entry, same_hash, parent, item, record_bytes, block_record, data_record, data_ref, Expected, expect_within, expect}

pub record Single : Type 0 where
  pub sheet : List ℕ
  pub expected : Expected

abbrev on : List Item → Expected → Single
on items expected = record { sheet = sheet_bytes items; expected = expected }

-- a change that is accepted where the sheet is balanced
abbrev add : ℕ → Expected
add code = expect (AddBlock 8192 (tree 7)) code

abbrev bytes : List ℕ → Single
bytes sheet = record { sheet = sheet; expected = add 1 }

-- a block with one reference, and what is put beside it
abbrev beside : List Item → ℕ → Single
beside items code = on (block_record 8192 1 (make_ref 176 (5 ∷ []) 1 ∷ []) ∷ items) (add code)

-- a block with these references, of that total
abbrev of : ℕ → List Ref → ℕ → Single
of total refs code = on (block_record 8192 total refs ∷ []) (add code)

-- the hash of `by_entry 128`
abbrev hash : ℕ
hash = 0x417b1dbc82f63b78

-- a data extent of that total with an item at that offset
abbrev by_item : ℕ → ℕ → List ℕ → Expected → Single
by_item total offset bytes expected = on (data_record 12288 total [] ∷ item 12288 178 offset bytes ∷ []) expected

-- a data extent with a shared data reference that counts 5, inline or as an item
abbrev inline5 : Expected → Single
inline5 expected = on (data_record 12288 5 (make_ref 184 (9 ∷ []) 5 ∷ []) ∷ []) expected

abbrev item5 : Expected → Single
item5 expected = on (data_record 12288 5 [] ∷ item 12288 184 9 (le_bytes 4 5) ∷ []) expected

-- the fields of a data reference are all three of its numbers, in payload order: the postings compute with triples whose hashes
-- take few steps, and no two of those differ in the objectid alone
pub triple-is : triple (record { tree = 1; objectid = 2; offset = 3 }) ≡ 1 ∷ 2 ∷ 3 ∷ []
triple-is = refl

pub fields-are : (ref_at 178 (keyed_data_ref_body (record { tree = 1; objectid = 2; offset = 3 }) 4)).fields ≡ 1 ∷ 2 ∷ 3 ∷ []
unfolding computed
fields-are = refl

unfoldable pub singles : List Single
singles =
    -- 1: no byte, another version, no whole item, L below 17, data cut short
    bytes []
    ∷ bytes (2 ∷ [])
    ∷ bytes (1 ∷ 0 ∷ [])
    ∷ bytes (1 ∷ (be_bytes 4 16 ++ be_bytes 8 0 ++ be_bytes 8 0))
    ∷ bytes (take 54 (sheet_bytes (block_record 8192 1 (make_ref 176 (5 ∷ []) 1 ∷ []) ∷ [])))
    -- 2: equal keys, and falling ones
    ∷ on (item 8192 169 0 [] ∷ item 8192 169 0 [] ∷ []) (add 2)
    ∷ on (item 8192 169 1 [] ∷ item 8192 169 0 [] ∷ []) (add 2)
    ∷ on (item 8193 169 0 [] ∷ item 8192 169 0 [] ∷ []) (expect_within 500 1000 (AddBlock 8192 (tree 7)) 2)
    -- balanced, with items that name nothing
    ∷ beside [] 0
    ∷ beside (item 8192 172 5 (0 ∷ []) ∷ item 8192 192 4096 [] ∷ []) 0
    ∷ of 2 (make_ref 176 (5 ∷ []) 1 ∷ make_ref 182 (9 ∷ []) 1 ∷ []) 0
    -- 4: a total too high, too low
    ∷ of 2 (make_ref 176 (5 ∷ []) 1 ∷ []) 4
    ∷ of 1 (make_ref 176 (5 ∷ []) 1 ∷ make_ref 176 (4 ∷ []) 1 ∷ []) 4
    ∷ of 1 (make_ref 172 (5 ∷ []) 0 ∷ []) 4
    -- two records, a reference item without one
    ∷ on (item 8192 168 4096 (record_bytes 1 0 [] []) ∷ block_record 8192 0 [] ∷ []) (add 4)
    ∷ beside (item 9000 182 100 [] ∷ []) 4
    -- records that do not read: 6, 7 and 8
    ∷ beside (item 9000 169 0 (1 ∷ []) ∷ []) 4
    ∷ beside (item 9000 168 4096 (record_bytes 2 0 [] []) ∷ []) 4
    ∷ beside (item 9000 169 0 (record_bytes 2 0 [] [] ++ 177 ∷ []) ∷ []) 4
    ∷ beside (item 9000 169 0 (record_bytes 2 0 [] [] ++ 172 ∷ 5 ∷ []) ∷ []) 4
    -- types that fall, first fields that rise, a hash that rises
    ∷ of 2 (make_ref 182 (9 ∷ []) 1 ∷ make_ref 176 (5 ∷ []) 1 ∷ []) 4
    ∷ of 2 (make_ref 176 (4 ∷ []) 1 ∷ make_ref 176 (5 ∷ []) 1 ∷ []) 4
    ∷ of 2 (make_ref 182 (4 ∷ []) 1 ∷ make_ref 182 (5 ∷ []) 1 ∷ []) 4
    ∷ of 2 (make_ref 184 (4 ∷ []) 1 ∷ make_ref 184 (5 ∷ []) 1 ∷ []) 4
    ∷ of 2 (data_ref 32 1 ∷ data_ref 64 1 ∷ []) 4
    -- a name twice: inline, and inline and as an item
    ∷ of 2 (data_ref 64 1 ∷ data_ref 64 1 ∷ []) 4
    ∷ on (block_record 8192 2 (make_ref 176 (5 ∷ []) 1 ∷ []) ∷ item 8192 176 5 [] ∷ []) (add 4)
    -- a count of 0, inline and as an item
    ∷ of 0 (make_ref 184 (5 ∷ []) 0 ∷ []) 4
    ∷ beside (item 8192 184 5 (le_bytes 4 0) ∷ []) 4
    -- reference items in another form, whether the total counts them or not
    ∷ on (block_record 8192 2 (make_ref 176 (5 ∷ []) 1 ∷ []) ∷ item 8192 176 6 (0 ∷ []) ∷ []) (add 4)
    ∷ beside (item 8192 182 6 (0 ∷ []) ∷ []) 4
    ∷ on (block_record 8192 2 (make_ref 176 (5 ∷ []) 1 ∷ []) ∷ item 8192 184 6 (le_bytes 8 1) ∷ []) (add 4)
    ∷ by_item 0 hash (take 16 (keyed_data_ref_body (by_entry 128) 1)) (add 4)
    ∷ by_item 1 hash (keyed_data_ref_body (by_entry 128) 1 ++ 0 ∷ []) (add 4)
    ∷ by_item 1 (hash + 1) (keyed_data_ref_body (by_entry 128) 1) (add 4)
    -- 3 before 4, and 4 before 5
    ∷ on (block_record 8192 2 [] ∷ []) (expect_within 500 1000 (AddBlock 8192 (tree 7)) 3)
    ∷ on (block_record 8192 2 [] ∷ []) (expect_within 65537 1000 (DropBlock 8192 (tree 7)) 3)
    ∷ on (block_record 8192 2 [] ∷ []) (expect (AddShared 8192 (parent 178 7) 1) 3)
    ∷ on (block_record 8192 2 [] ∷ []) (expect (DropShared 8192 (parent 178 7) 0) 3)
    ∷ on (block_record 8192 2 [] ∷ []) (expect (AddBlock 9000 (tree 7)) 4)
    ∷ on (block_record 8192 2 [] ∷ []) (expect (DropShared 8192 (parent 184 7) 0) 4)
    -- 17: the new body of 42 bytes is within the limit of a nodesize of 1,173, which is 42
    ∷ on (block_record 8192 1 (make_ref 176 (5 ∷ []) 1 ∷ []) ∷ []) (expect_within 1173 1000 (AddBlock 8192 (tree 7)) 0)
    ∷ on (block_record 8192 1 (make_ref 176 (5 ∷ []) 1 ∷ []) ∷ []) (expect_within 1172 1000 (AddBlock 8192 (tree 7)) 17)
    -- two triples of one hash stand inline, the new one behind
    ∷ on (data_record 12288 2 (data_ref 64 2 ∷ []) ∷ []) (expect (AddData 12288 (same_hash 64) 1) 0)
    ∷ of 2 (data_ref 64 1 ∷ make_ref 178 (triple (same_hash 64)) 1 ∷ []) 0
    -- 11: the largest count, and one more
    ∷ on (data_record 12288 2 (data_ref 64 2 ∷ []) ∷ []) (expect (AddData 12288 (by_entry 64) 4294967293) 0)
    ∷ on (data_record 12288 2 (data_ref 64 2 ∷ []) ∷ []) (expect (AddData 12288 (by_entry 64) 4294967294) 11)
    -- 13 before 15; 13 of the last data reference, inline or as an item
    ∷ by_item 1 hash (keyed_data_ref_body (by_entry 128) 1) (expect (DropData 12288 (same_hash 128)) 13)
    ∷ by_item 1 hash (keyed_data_ref_body (by_entry 128) 1) (expect (DropData 12288 (by_entry 128)) 13)
    ∷ on (data_record 12288 1 (data_ref 64 1 ∷ []) ∷ []) (expect (DropData 12288 (by_entry 64)) 13)
    -- document 02, ticket 1: a part of what stands, inline and as an item, in a lent output that just holds the result and in one
    -- a byte short; 5 before 10, and 22 before 21
    ∷ inline5 (expect_within 4096 59 (DropShared 12288 (parent 184 9) 2) 0)
    ∷ inline5 (expect_within 4096 58 (DropShared 12288 (parent 184 9) 2) 21)
    ∷ inline5 (expect_within 4096 46 (DropShared 12288 (parent 184 9) 5) 0)
    ∷ inline5 (expect_within 4096 45 (DropShared 12288 (parent 184 9) 5) 21)
    ∷ inline5 (expect_within 4096 0 (DropShared 12288 (parent 184 9) 6) 22)
    ∷ inline5 (expect_within 4096 0 (DropShared 12288 (parent 184 9) 0) 10)
    ∷ inline5 (expect_within 4096 0 (DropShared 12288 (parent 184 8) 0) 5)
    ∷ item5 (expect_within 4096 71 (DropShared 12288 (parent 184 9) 2) 0)
    ∷ item5 (expect_within 4096 70 (DropShared 12288 (parent 184 9) 2) 21)
    ∷ item5 (expect_within 4096 46 (DropShared 12288 (parent 184 9) 5) 0)
    ∷ item5 (expect_within 4096 45 (DropShared 12288 (parent 184 9) 5) 21)
    ∷ item5 (expect_within 4096 0 (DropShared 12288 (parent 184 9) 6) 22)
    -- what another name counts plays no part, nor how high the total is
    ∷ on (data_record 12288 15 (make_ref 184 (9 ∷ []) 5 ∷ make_ref 184 (8 ∷ []) 10 ∷ []) ∷ []) (expect (DropShared 12288 (parent 184 9) 6) 22)
    -- the largest count
    ∷ on (data_record 12288 4294967295 (make_ref 184 (9 ∷ []) 4294967295 ∷ []) ∷ []) (expect (DropShared 12288 (parent 184 9) 4294967295) 0)
    ∷ on (data_record 12288 4294967295 (make_ref 184 (9 ∷ []) 4294967295 ∷ []) ∷ []) (expect (DropShared 12288 (parent 184 9) 1) 0)
    ∷ []

abbrev computed_of : List Single → List ℕ
computed_of [] = []
computed_of (s ∷ more) = computed s.sheet s.expected.posting ∷ computed_of more

abbrev codes_of : List Single → List ℕ
codes_of [] = []
codes_of (s ∷ more) = s.expected.code ∷ codes_of more

pub answers : computed_of singles ≡ codes_of singles
unfolding computed singles
answers = refl

-- which of four sheets pass questions 1, 2 and 4: one of no byte, one out of order, one of a wrong total, and the last
abbrev balanced_of : List (List ℕ) → List Bool
balanced_of [] = []
balanced_of (sheet ∷ more) = balanced_sheet sheet ∷ balanced_of more

unfoldable pub four : List (List ℕ)
four =
    []
    ∷ sheet_bytes (block_record 8193 0 [] ∷ block_record 8192 0 [] ∷ [])
    ∷ sheet_bytes (block_record 8192 1 [] ∷ [])
    ∷ sheet_bytes (block_record 8192 0 [] ∷ [])
    ∷ []

pub balances : balanced_of four ≡ false ∷ false ∷ false ∷ true ∷ []
unfolding computed four
balances = refl
