-- A list of postings computed: from a balanced sheet to the sheet that document 01 says, with what each posting answers, what the
-- history says of names and what they count in the end. Each of the six changes is accepted in each of its forms, inline and at
-- an item, and refused with 3, 5, 9, 10, 11, 13, 15, 17, 21 and 22; `Singles` has 1, 2 and 4. Assumes nothing.
use mathlib.Core.Path.{◌≡◌, refl, ap, ◌∙◌}
use mathlib.Core.Bool.{Bool, true, false}
use mathlib.Core.List.{List, [], ◌∷◌}
use Prim.Native.Nat.{ℕ}
use lib.Dec.{T, eqb}
use Rattle.fields.specs.Numbers.{le_bytes}
use Rattle.format.specs.declared.Change.TheVariants.{AddBlock, AddData, AddShared, DropBlock, DropData, DropShared}
use Rattle.format.specs.Questions.{Answer, code_of}
use Rattle.format.specs.References.{make_ref, weight_of}
use Rattle.format.specs.Bodies.{triple, keyed_data_ref_body}
use Rattle.format.specs.Items.{Item, sheet_bytes}
use Rattle.format.specs.Names.{Name, count}
use Rattle.format.specs.History.{Posting, answer_to, sheet_after, is_accepted, run, Seen, all_seen, Tally, history, history_of, touched, items_of, sheet_items, balanced_sheet}
use Rattle.format.proofs.Computed.{computed, tree, by_entry, same_hash, parent, item, block_record, data_record, block_info_record, data_ref, Expected, expect_within, expect}

-- ---- the sheets

-- an extent that no posting names: a triple that another extent has too, a reference item, and an item that names nothing
abbrev others : List Item
others =
    data_record 24576 3 (data_ref 64 1 ∷ []) ∷ item 24576 184 100 (le_bytes 4 2) ∷ item 24576 192 4096 (1 ∷ 2 ∷ 3 ∷ []) ∷ []

unfoldable pub opening : List ℕ
opening =
    sheet_bytes
    (block_record 8192 4 (make_ref 176 (5 ∷ []) 1 ∷ make_ref 182 (100 ∷ []) 1 ∷ [])
    ∷ item 8192 176 9 []
    ∷ item 8192 182 400 []
    ∷ data_record 12288 14 (make_ref 172 (5 ∷ []) 0 ∷ data_ref 64 2 ∷ make_ref 184 (50 ∷ []) 3 ∷ [])
    ∷ item 12288 178 0x417b1dbc82f63b78 (keyed_data_ref_body (by_entry 128) 2)
    ∷ item 12288 184 300 (le_bytes 4 2)
    ∷ item 12288 184 301 (le_bytes 4 5)
    ∷ block_info_record 16384 1 (make_ref 176 (5 ∷ []) 1 ∷ [])
    ∷ block_record 20480 1 (make_ref 182 (100 ∷ []) 1 ∷ [])
    ∷ others)

-- what the block at 8192 ends with
abbrev kept : Item
kept = block_record 8192 4 (make_ref 176 (7 ∷ []) 1 ∷ make_ref 176 (3 ∷ []) 1 ∷ make_ref 176 (2 ∷ []) 1 ∷ make_ref 182 (200 ∷ []) 1 ∷ [])

unfoldable pub closing : List ℕ
closing =
    sheet_bytes
    (kept
    ∷ data_record 12288 14 (make_ref 172 (5 ∷ []) 0 ∷ data_ref 128 6 ∷ data_ref 64 4 ∷ make_ref 184 (60 ∷ []) 1 ∷ [])
    ∷ item 12288 184 301 (le_bytes 4 3)
    ∷ block_info_record 16384 1 (make_ref 176 (4 ∷ []) 1 ∷ [])
    ∷ block_record 20480 0 []
    ∷ others)

-- ---- the postings

unfoldable pub expected : List Expected
expected =
    -- references that stand as items: an add is refused while the item stands, and a drop takes the item. That of a data reference
    -- goes with its last count; another triple has its hash
    expect (DropData 12288 (by_entry 128)) 0
    ∷ expect (DropData 12288 (same_hash 128)) 15
    ∷ expect (AddData 12288 (by_entry 128) 0) 9
    ∷ expect (DropData 12288 (by_entry 128)) 0
    ∷ expect (DropData 12288 (by_entry 128)) 5
    ∷ expect_within 501 1000 (AddBlock 8192 (tree 9)) 9
    ∷ expect (DropBlock 8192 (tree 9)) 0
    ∷ expect (DropBlock 8192 (tree 9)) 5
    ∷ expect (AddShared 12288 (parent 184 300) 1) 9
    ∷ expect (DropShared 12288 (parent 184 300) 0) 10
    ∷ expect (DropShared 12288 (parent 184 300) 3) 22
    ∷ expect (DropShared 12288 (parent 184 300) 1) 0
    ∷ expect (DropShared 12288 (parent 184 300) 2) 22
    ∷ expect (DropShared 12288 (parent 184 300) 1) 0
    ∷ expect (DropShared 12288 (parent 184 300) 1) 5
    ∷ expect (DropShared 12288 (parent 184 301) 2) 0
    ∷ expect (DropShared 8192 (parent 182 400) 0) 10
    ∷ expect (DropShared 8192 (parent 182 400) 2) 22
    ∷ expect (DropShared 8192 (parent 182 400) 1) 0
    -- data references inline. A body that does not grow is not held to the inline limit, which is 0 here
    ∷ expect_within 501 1000 (AddData 12288 (by_entry 64) 3) 0
    ∷ expect_within 501 1000 (AddData 12288 (by_entry 32) 1) 17
    ∷ expect (AddData 12288 (by_entry 64) 4294967291) 11
    ∷ expect (DropData 12288 (by_entry 64)) 0
    ∷ expect (AddData 12288 (by_entry 32) 0) 10
    ∷ expect (AddData 12288 (by_entry 32) 1) 0
    ∷ expect (DropData 12288 (by_entry 32)) 0
    -- block references inline, before and after those that stand
    ∷ expect (AddBlock 8192 (tree 7)) 0
    ∷ expect (AddBlock 8192 (tree 7)) 9
    ∷ expect_within 65536 1000 (AddBlock 8192 (tree 3)) 0
    ∷ expect (DropBlock 8192 (tree 5)) 0
    ∷ expect (DropBlock 16384 (tree 5)) 13
    ∷ expect (AddBlock 16384 (tree 4)) 0
    ∷ expect (DropBlock 16384 (tree 5)) 0
    ∷ expect (AddBlock 4096 (tree 4)) 5
    -- shared references inline
    ∷ expect (AddShared 8192 (parent 182 200) 1) 0
    ∷ expect (AddShared 8192 (parent 182 200) 2) 9
    ∷ expect (AddShared 8192 (parent 182 7) 2) 10
    ∷ expect (AddShared 12288 (parent 184 60) 2) 0
    ∷ expect (AddShared 12288 (parent 184 50) 4) 0
    ∷ expect (AddShared 12288 (parent 184 50) 1) 0
    ∷ expect (AddShared 12288 (parent 184 50) 4294967288) 11
    ∷ expect (AddShared 12288 (parent 184 60) 0) 10
    ∷ expect (AddShared 12288 (parent 183 60) 1) 3
    -- this one is held to the limit, though the body does not grow
    ∷ expect_within 501 1000 (AddShared 12288 (parent 184 50) 1) 17
    -- a part of what stands, all of it, and more, which is 22 though the total is higher
    ∷ expect (DropShared 12288 (parent 184 50) 0) 10
    ∷ expect (DropShared 12288 (parent 184 50) 9) 22
    ∷ expect (DropShared 12288 (parent 184 50) 3) 0
    ∷ expect (DropShared 12288 (parent 184 50) 6) 22
    ∷ expect (DropShared 12288 (parent 184 50) 5) 0
    ∷ expect (DropShared 12288 (parent 184 60) 1) 0
    ∷ expect (DropShared 8192 (parent 182 100) 2) 22
    ∷ expect (DropShared 8192 (parent 182 100) 1) 0
    ∷ expect (AddShared 8192 (parent 182 100) 1) 0
    ∷ expect (DropShared 8192 (parent 182 100) 1) 0
    -- the total may reach 0; an amount above it is 22, not 14
    ∷ expect (DropShared 20480 (parent 182 100) 2) 22
    ∷ expect (DropShared 20480 (parent 182 100) 1) 0
    ∷ expect (DropShared 20480 (parent 182 100) 0) 5
    ∷ expect (DropShared 12288 (parent 185 60) 0) 3
    ∷ expect_within 500 1000 (DropShared 8192 (parent 182 200) 1) 3
    -- a lent output one byte short, and one that just holds the result
    ∷ expect_within 4096 442 (AddBlock 8192 (tree 2)) 21
    ∷ expect_within 4096 443 (AddBlock 8192 (tree 2)) 0
    -- it goes before the triple of a lower hash
    ∷ expect (AddData 12288 (by_entry 128) 6) 0
    ∷ []

abbrev postings_of : List Expected → List Posting
postings_of [] = []
postings_of (e ∷ more) = e.posting ∷ postings_of more

abbrev codes_of : List Expected → List ℕ
codes_of [] = []
codes_of (e ∷ more) = e.code ∷ codes_of more

-- what the history is to see of them
abbrev seen_of : List Expected → List Seen
seen_of [] = []
seen_of (e ∷ more) = record { change = e.posting.change; accepted = eqb e.code 0 } ∷ seen_of more

unfoldable pub postings : List Posting
unfolding expected
postings = postings_of expected

-- ---- one run, with all that it tells: the codes that the postings answer, what the history sees, and the last sheet

pub record Outcome : Type 0 where
  pub codes : List ℕ
  pub told : List Seen
  pub last : List ℕ

abbrev noted : Posting → Answer (List ℕ) → Outcome → Outcome
noted p answer rest =
    record {
      codes = code_of answer ∷ rest.codes;
      told = record { change = p.change; accepted = is_accepted answer } ∷ rest.told;
      last = rest.last;
    }

abbrev outcome : List ℕ → List Posting → Outcome
outcome sheet [] = record { codes = []; told = []; last = sheet }
outcome sheet (p ∷ more) = noted p (answer_to sheet p) (outcome (sheet_after sheet (answer_to sheet p)) more)

last-is : (sheet : List ℕ) (list : List Posting) → run sheet list ≡ (outcome sheet list).last
last-is sheet [] = refl
last-is sheet (p ∷ more) = last-is (sheet_after sheet (answer_to sheet p)) more

told_is : (sheet : List ℕ) (list : List Posting) → all_seen sheet list ≡ (outcome sheet list).told
told_is sheet [] = refl
told_is sheet (p ∷ more) =
    ap (λ (l : List Seen). record { change = p.change; accepted = is_accepted (answer_to sheet p) } ∷ l)
    (told_is (sheet_after sheet (answer_to sheet p)) more)

-- ---- what they give

pub opens : T (balanced_sheet opening)
unfolding computed opening
opens = tt

pub gives : outcome opening postings ≡ record { codes = codes_of expected; told = seen_of expected; last = closing }
unfolding computed opening postings closing
gives = refl

pub answers : (outcome opening postings).codes ≡ codes_of expected
answers = ap (λ (o : Outcome). o.codes) gives

pub sees : all_seen opening postings ≡ seen_of expected
sees = told_is opening postings ∙ ap (λ (o : Outcome). o.told) gives

pub closes : run opening postings ≡ closing
closes = last-is opening postings ∙ ap (λ (o : Outcome). o.last) gives

-- ---- what the history says of names, and what they count in the end

pub record NameTally : Type 0 where
  pub name : Name
  pub tally : Tally
  pub left : ℕ

abbrev name_tally : ℕ → ℕ → List ℕ → ℕ → ℕ → ℕ → ℕ → NameTally
name_tally extent kind fields opening given taken left =
    record {
      name = record { extent = extent; kind = kind; fields = fields };
      tally = record { opening = opening; given = given; taken = taken };
      left = left;
    }

unfoldable pub name_tallies : List NameTally
name_tallies =
    -- given and taken, and the same triple in another extent
    name_tally 12288 178 (triple (by_entry 64)) 2 3 1 4
    ∷ name_tally 24576 178 (triple (by_entry 64)) 1 0 0 1
    -- an item's last count taken, then given inline
    ∷ name_tally 12288 178 (triple (by_entry 128)) 2 6 2 6
    -- of the same hash, never accepted
    ∷ name_tally 12288 178 (triple (same_hash 128)) 0 0 0 0
    ∷ name_tally 8192 176 (7 ∷ []) 0 1 0 1
    ∷ name_tally 8192 176 (5 ∷ []) 1 0 1 0
    ∷ name_tally 8192 176 (9 ∷ []) 1 0 1 0
    -- given twice, and all of it taken in two parts; all of an item taken so
    ∷ name_tally 12288 184 (50 ∷ []) 3 5 8 0
    ∷ name_tally 12288 184 (300 ∷ []) 2 0 2 0
    -- a part taken, inline and of an item
    ∷ name_tally 12288 184 (60 ∷ []) 0 2 1 1
    ∷ name_tally 12288 184 (301 ∷ []) 5 0 2 3
    -- taken, given and taken again
    ∷ name_tally 8192 182 (100 ∷ []) 1 1 2 0
    -- an item in an extent that no posting names; refused, beside tree 7; an owner reference names nothing
    ∷ name_tally 24576 184 (100 ∷ []) 2 0 0 2
    ∷ name_tally 8192 182 (7 ∷ []) 0 0 0 0
    ∷ name_tally 12288 172 (5 ∷ []) 0 0 0 0
    ∷ []

abbrev tallies : List NameTally → List Tally
tallies [] = []
tallies (a ∷ more) = a.tally ∷ tallies more

abbrev tallied_of : List NameTally → List ℕ → List Seen → List Tally
tallied_of [] sheet list = []
tallied_of (a ∷ more) sheet list = history a.name (count a.name (sheet_items sheet)) list ∷ tallied_of more sheet list

abbrev histories_of : List NameTally → List ℕ → List Posting → List Tally
histories_of [] sheet list = []
histories_of (a ∷ more) sheet list = history_of a.name sheet list ∷ histories_of more sheet list

pub tallied : tallied_of name_tallies opening (seen_of expected) ≡ tallies name_tallies
unfolding computed opening name_tallies expected
tallied = refl

pub tells : histories_of name_tallies opening postings ≡ tallies name_tallies
unfolding name_tallies
tells = ap (λ (l : List Seen). tallied_of name_tallies opening l) sees ∙ tallied

abbrev left_of : List NameTally → List ℕ
left_of [] = []
left_of (a ∷ more) = a.left ∷ left_of more

abbrev counts_in : List ℕ → List NameTally → List ℕ
counts_in sheet [] = []
counts_in sheet (a ∷ more) = count a.name (sheet_items sheet) ∷ counts_in sheet more

pub leaves : counts_in closing name_tallies ≡ left_of name_tallies
unfolding computed closing name_tallies
leaves = refl

-- "Weights: 172 is 0, 176 and 182 are 1, 178 and 184 are their count", here of a count of 7
pub weighs : weight_of 172 7 ∷ weight_of 176 7 ∷ weight_of 178 7 ∷ weight_of 182 7 ∷ weight_of 184 7 ∷ [] ≡ 0 ∷ 1 ∷ 7 ∷ 1 ∷ 7 ∷ []
unfolding computed
weighs = refl

-- ---- the extents that an accepted change named, and the items of extents

abbrev touched_of : List Seen → List ℕ → List Bool
touched_of list [] = []
touched_of list (extent ∷ more) = touched extent list ∷ touched_of list more

pub touches : touched_of (all_seen opening postings) (4096 ∷ 8192 ∷ 12288 ∷ 16384 ∷ 20480 ∷ 24576 ∷ [])
    ≡ false ∷ true ∷ true ∷ true ∷ true ∷ false ∷ []
unfolding expected
touches = ap (λ (l : List Seen). touched_of l (4096 ∷ 8192 ∷ 12288 ∷ 16384 ∷ 20480 ∷ 24576 ∷ [])) sees

pub named-items : items_of 8192 (sheet_items closing) ≡ kept ∷ []
unfolding computed closing
named-items = refl

pub other_items : items_of 24576 (sheet_items closing) ≡ others
unfolding computed closing
other_items = refl
