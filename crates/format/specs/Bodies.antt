-- Document 01, "Below that: calls on bodies": what each call on a body gives. A body's length is asked first (question 3) and
-- the lent output last (question 21, `held_body`). Assumes nothing.
use Rattle.std.specs.Prelude.{Bool, true, false, not, ◌&&◌, ◌||◌, cond, List, [], ◌∷◌, ◌++◌, ℕ, ◌+◌, ◌-◌, ◌*◌, ◌^◌, leb, ltb, eqb, length, get_or}
use Rattle.std.proofs.Math.Option.{Option, none, some}
use Rattle.std.specs.Int.Bits.{bit_or}
use Rattle.std.proofs.Math.ListN.{get_elem?}
use Rattle.fields.specs.Lists.{sum, all, same, Cut, first_cut}
use Rattle.fields.specs.Numbers.{le, le_bytes, words, word_bytes}
use Rattle.fields.specs.Parts.{part, written}
use Rattle.format.specs.Constants.{most_data}
use Rattle.format.specs.declared.BlockRef.{BlockRef}
use Rattle.format.specs.declared.DataRef.{DataRef}
use Rattle.format.specs.declared.SharedRef.{SharedRef}
use Rattle.format.specs.declared.InlineRef.{InlineRef}
use Rattle.format.specs.declared.Keyed.{Keyed}
use Rattle.format.specs.declared.Keyed.TheVariants.{Block, Data}
use Rattle.format.specs.declared.Key.{Key}
use Rattle.format.specs.Questions.{Answer, refused, absent, remove, accepted, ask, bind, found, held, TakenOut, needed}
use Rattle.format.specs.References.{payload_length, counted, Ref, make_ref, Body, body_with, total_of, flags_of, start_of, read_body, body_bytes, rank, rank_of}

-- ---- what the calls share

-- question 3 of a body
unfoldable pub body_fits : List ℕ → Bool
body_fits body = leb (length body) most_data

-- question 21 of a call that makes a body
unfoldable pub held_body : ℕ → Answer (List ℕ) → Answer (List ℕ)
held_body room answer = held (λ body. leb (length body) room && body_fits body) answer

unfoldable pub held_taken : ℕ → Answer TakenOut → Answer TakenOut
held_taken room answer = held (λ out. leb (length out.bytes) room && body_fits out.bytes) answer

-- question 3 of a shared kind
unfoldable pub shared_kind : ℕ → Bool
shared_kind kind = eqb kind 182 || eqb kind 184

-- questions 3 and 6 to 8, then the body that was read
unfoldable pub on_body : {A : Type 0} → ℕ → List ℕ → (Body → Answer A) → Answer A
on_body type body next = ask (body_fits body) 3 (bind (read_body type body) next)

-- questions 3 and 6 of a call that reads no references
unfoldable pub on_head : {A : Type 0} → List ℕ → Answer A → Answer A
on_head body next = ask (body_fits body) 3 (ask (leb 24 (length body)) 6 next)

-- a reference of that type and those fields
unfoldable pub named : ℕ → List ℕ → Ref → Bool
named kind fields r = eqb r.kind kind && same r.fields fields

abbrev pub one : ℕ → List ℕ
one field = field ∷ []

abbrev pub triple : DataRef → List ℕ
triple d = d.tree ∷ d.objectid ∷ d.offset ∷ []

-- a reference that counts another weight
abbrev pub weighed : Ref → ℕ → Ref
weighed r weight = make_ref r.kind r.fields weight

-- ---- totals: raise_total, lower_total, reduce_total. The item's type plays no part

-- question 12
unfoldable pub raised_by : ℕ → ℕ → Answer ℕ
raised_by amount total = ask (ltb (total + amount) (2 ^ 64)) 12 (accepted (total + amount))

-- question 13
unfoldable pub lowered_by_one : ℕ → Answer ℕ
lowered_by_one total = ask (leb 2 total) 13 (accepted (total - 1))

-- questions 10 and 22 of an amount that is taken where so much stands (document 02, ticket 1): neither 13 nor 14 is put
unfoldable pub lowered_by_part : ℕ → ℕ → ℕ → Answer ℕ
lowered_by_part amount standing total = ask (leb 1 amount) 10 (ask (leb amount standing) 22 (accepted (total - amount)))

-- question 14
unfoldable pub reduced_by : ℕ → ℕ → Answer ℕ
reduced_by amount total = ask (leb amount total) 14 (accepted (total - amount))

unfoldable pub on_total : List ℕ → (ℕ → Answer ℕ) → Answer (List ℕ)
on_total body next = on_head body (bind (next (total_of body)) (λ total. accepted (written 0 (le_bytes 8 total) body)))

unfoldable pub raise_total : List ℕ → ℕ → Answer (List ℕ)
raise_total body amount = on_total body (raised_by amount)

unfoldable pub lower_total : List ℕ → Answer (List ℕ)
lower_total body = on_total body lowered_by_one

unfoldable pub reduce_total : List ℕ → ℕ → Answer (List ℕ)
reduce_total body amount = on_total body (reduced_by amount)

-- ---- flags, with_flags

unfoldable pub flags : List ℕ → Answer ℕ
flags body = on_head body (accepted (flags_of body))

unfoldable pub with_flags : List ℕ → ℕ → Answer (List ℕ)
with_flags body set = on_head body (accepted (written 16 (le_bytes 8 (bit_or (flags_of body) set)) body))

-- ---- inline_refs, InlineRef, holds_inline_data_ref

-- the byte position of each reference, the first of them at `at`
unfoldable pub positions : ℕ → List Ref → List ℕ
positions at [] = []
positions at (r ∷ refs) = at ∷ positions (at + (1 + 8 * length r.fields + cond (counted r.kind) 4 0)) refs

unfoldable pub inline_refs : ℕ → List ℕ → Answer (List ℕ)
inline_refs type body = on_body type body (λ b. accepted (positions (start_of type body) b.refs))

-- reference number `number`, from 0, of those from `at` on: its payload stands behind the byte with its kind
unfoldable pub ref_numbered : ℕ → ℕ → List Ref → Answer InlineRef
ref_numbered at number refs =
    bind (needed 5 (get_elem? refs number)) (λ r.
    accepted (record { kind = r.kind; offset = get_or r.fields 0 0; start = get_or (positions at refs) number 0 + 1; len = payload_length r.kind }))

-- the whole body is read before question 5 is put
unfoldable pub inline_ref : ℕ → List ℕ → ℕ → Answer InlineRef
inline_ref type body number = on_body type body (λ b. ref_numbered (start_of type body) number b.refs)

-- the part of the body that is its payload
unfoldable pub inline_payload : ℕ → List ℕ → ℕ → Answer (List ℕ)
inline_payload type body number = bind (inline_ref type body number) (λ r. accepted (part r.start r.len body))

unfoldable pub is_found : Option (Cut Ref) → Bool
is_found none = false
is_found (some c) = true

unfoldable pub holds_inline_data_ref : ℕ → List ℕ → DataRef → Answer Bool
holds_inline_data_ref type body d = on_body type body (λ b. accepted (is_found (first_cut (named 178 (triple d)) b.refs)))

-- ---- drops: drop_inline_tree_ref, drop_inline_data_ref, take_inline_shared, drop_keyed_data_ref

-- what is left of a reference with that much off its count
unfoldable pub less : Ref → ℕ → List Ref
less r amount = cond (ltb amount r.weight) (weighed r (r.weight - amount) ∷ []) []

-- so much off the first match; `lowered` puts the questions of it, to what the match counts and to the total, and gives the new
-- total
unfoldable pub drop_inline : ℕ → List ℕ → ℕ → List ℕ → ℕ → (ℕ → ℕ → Answer ℕ) → Answer (List ℕ)
drop_inline type body kind fields amount lowered =
    on_body type body (λ b.
    bind (found (first_cut (named kind fields) b.refs)) (λ c.
    bind (lowered c.hit.weight b.total) (λ total.
    accepted (body_bytes (body_with b total (c.front ++ (less c.hit amount ++ c.back)))))))

-- one count off the first match and off the total
unfoldable pub drop_inline_tree_ref : ℕ → List ℕ → BlockRef → Answer (List ℕ)
drop_inline_tree_ref type body block = drop_inline type body 176 (one block.tree) 1 (λ standing. lowered_by_one)

unfoldable pub drop_inline_data_ref : ℕ → List ℕ → DataRef → Answer (List ℕ)
drop_inline_data_ref type body d = drop_inline type body 178 (triple d) 1 (λ standing. lowered_by_one)

-- the first match goes whole, the total stays, the count (1 for 182) is handed back
unfoldable pub take_inline_shared : ℕ → List ℕ → SharedRef → Answer TakenOut
take_inline_shared type body s =
    ask (shared_kind s.kind) 3
    (on_body type body (λ b.
    bind (found (first_cut (named s.kind (one s.parent)) b.refs)) (λ c.
    accepted (record { bytes = body_bytes (body_with b b.total (c.front ++ c.back)); count = c.hit.weight }))))

-- questions 15 and 16 of a data reference's item; "drop_keyed_data_ref at count 1 says remove"
unfoldable pub keyed_count : List ℕ → ℕ
keyed_count item = le (part 24 4 item)

unfoldable pub drop_keyed_data_ref : List ℕ → DataRef → Answer (List ℕ)
drop_keyed_data_ref item d =
    ask (body_fits item) 3
    (ask (eqb (length item) 28 && same (words 3 item) (triple d)) 15
    (ask (leb 1 (keyed_count item)) 16
    (cond (eqb (keyed_count item) 1) remove (accepted (written 24 (le_bytes 4 (keyed_count item - 1)) item)))))

-- ---- where an added reference goes

-- between two parts, as a new one; or to one that stands
pub data RefPosition : Type 0 where
  gap : List Ref → List Ref → RefPosition
  standing : Cut Ref → RefPosition

-- a new reference of that type and rank goes before this one; "insert_position skips 172"
unfoldable pub stops : ℕ → ℕ → Ref → Bool
stops kind at r = not (eqb r.kind 172) && (ltb kind r.kind || (eqb kind r.kind && ltb (rank r) at))

unfoldable pub gap_at : List Ref → Option (Cut Ref) → RefPosition
gap_at refs none = gap refs []
gap_at refs (some c) = gap c.front (c.hit ∷ c.back)

unfoldable pub insert_position : ℕ → ℕ → List Ref → RefPosition
insert_position kind at refs = gap_at refs (first_cut (stops kind at) refs)

-- an equal reference anywhere, else the insert position
unfoldable pub standing_or : Option (Cut Ref) → RefPosition → RefPosition
standing_or none position = position
standing_or (some c) position = standing c

unfoldable pub position_anywhere : ℕ → List ℕ → ℕ → List Ref → RefPosition
position_anywhere kind fields at refs = standing_or (first_cut (named kind fields) refs) (insert_position kind at refs)

-- one scan, up to an equal reference or to the insert position, whichever comes first
unfoldable pub scanned : ℕ → List ℕ → List Ref → Option (Cut Ref) → RefPosition
scanned kind fields refs none = gap refs []
scanned kind fields refs (some c) = cond (named kind fields c.hit) (standing c) (gap c.front (c.hit ∷ c.back))

unfoldable pub position_by_scan : ℕ → List ℕ → List Ref → RefPosition
position_by_scan kind fields refs =
    scanned kind fields refs (first_cut (λ r. named kind fields r || stops kind (rank_of kind fields) r) refs)

unfoldable pub is_gap : RefPosition → Bool
is_gap (gap front back) = true
is_gap (standing c) = false

unfoldable pub standing_weight : RefPosition → ℕ
standing_weight (gap front back) = 0
standing_weight (standing c) = c.hit.weight

abbrev pub added_at : Ref → RefPosition → List Ref
added_at r (gap front back) = front ++ r ∷ back
added_at r (standing c) = c.front ++ weighed c.hit (c.hit.weight + r.weight) ∷ c.back

-- ---- adds: add_inline_tree_ref, add_inline_data_ref, add_inline_shared, add_inline_keyed

-- 9: a block or shared-block name is absent. 10: amount 1 where the type has no count. 11, 12: count and total hold the sums
unfoldable pub add_at : Body → Ref → RefPosition → Answer (List ℕ)
add_at b r position =
    ask (counted r.kind || is_gap position) 9
    (ask (counted r.kind || eqb r.weight 1) 10
    (ask (ltb (standing_weight position + r.weight) (2 ^ 32)) 11
    (bind (raised_by r.weight b.total) (λ total.
    accepted (body_bytes (body_with b total (added_at r position)))))))

unfoldable pub add_inline_tree_ref : ℕ → List ℕ → BlockRef → Answer (List ℕ)
add_inline_tree_ref type body block =
    on_body type body (λ b.
    add_at b (make_ref 176 (one block.tree) 1) (position_anywhere 176 (one block.tree) block.tree b.refs))

-- add_inline_data_ref so many times: the count is added at one name
unfoldable pub add_inline_data : ℕ → List ℕ → DataRef → ℕ → Answer (List ℕ)
add_inline_data type body d amount =
    on_body type body (λ b. add_at b (make_ref 178 (triple d) amount) (position_by_scan 178 (triple d) b.refs))

unfoldable pub add_inline_data_ref : ℕ → List ℕ → DataRef → Answer (List ℕ)
add_inline_data_ref type body d = add_inline_data type body d 1

unfoldable pub add_inline_shared : ℕ → List ℕ → SharedRef → ℕ → Answer (List ℕ)
add_inline_shared type body s amount =
    ask (shared_kind s.kind) 3
    (on_body type body (λ b.
    add_at b (make_ref s.kind (one s.parent) amount) (position_anywhere s.kind (one s.parent) s.parent b.refs)))

-- the total stays. 10: "no other data reference unless an equal triple stands"
unfoldable pub keyed_at : Body → Ref → RefPosition → Answer (List ℕ)
keyed_at b r position =
    ask (counted r.kind || is_gap position) 9
    (ask (not (counted r.kind) || not (is_gap position) || all (λ s. not (eqb s.kind r.kind)) b.refs) 10
    (ask (ltb (standing_weight position + r.weight) (2 ^ 32)) 11
    (accepted (body_bytes (body_with b b.total (added_at r position))))))

-- a block reference ignores the count; a data reference that is the only one goes before the first higher type
unfoldable pub add_inline_keyed : ℕ → List ℕ → Keyed → ℕ → Answer (List ℕ)
add_inline_keyed type body (Block block) count =
    on_body type body (λ b.
    keyed_at b (make_ref 176 (one block.tree) 1) (position_anywhere 176 (one block.tree) block.tree b.refs))
add_inline_keyed type body (Data d) count =
    on_body type body (λ b. keyed_at b (make_ref 178 (triple d) count) (position_anywhere 178 (triple d) 0 b.refs))

-- ---- bodies and items made new: keyed_data_ref_body, data_extent_body, TreeBlockAllocation, SharedAdd

unfoldable pub keyed_data_ref_body : DataRef → ℕ → List ℕ
keyed_data_ref_body d count = word_bytes (triple d) ++ le_bytes 4 count

-- total 1, the generation, flags 1 (data), and one inline data reference that counts 1
unfoldable pub data_extent_body : ℕ → DataRef → List ℕ
data_extent_body generation d =
    body_bytes (record { total = 1; fixed = le_bytes 8 generation ++ le_bytes 8 1; refs = make_ref 178 (triple d) 1 ∷ [] })

-- total 1, the generation, flags 2 (tree block), and one inline block reference
unfoldable pub tree_block_body : ℕ → BlockRef → List ℕ
tree_block_body generation block =
    body_bytes (record { total = 1; fixed = le_bytes 8 generation ++ le_bytes 8 2; refs = make_ref 176 (one block.tree) 1 ∷ [] })

unfoldable pub tree_block_key : ℕ → ℕ → Key
tree_block_key bytenr level = record { objectid = bytenr; kind = 169; offset = level }

-- the key of SharedAdd's item, and its data: the count where the type has one
unfoldable pub shared_add_key : ℕ → SharedRef → Answer Key
shared_add_key bytenr s =
    ask (shared_kind s.kind) 3 (accepted (record { objectid = bytenr; kind = s.kind; offset = s.parent }))

unfoldable pub shared_add_item : ℕ → ℕ → Answer (List ℕ)
shared_add_item kind count = ask (shared_kind kind) 3 (accepted (cond (counted kind) (le_bytes 4 count) []))

-- the type byte and the payload
unfoldable pub shared_add_inline_size : ℕ → Answer ℕ
shared_add_inline_size kind = ask (shared_kind kind) 3 (accepted (1 + payload_length kind))

-- ---- held_only_by, keyed_data_ref_names: they "say no to a body that can't be read or is too short"

unfoldable pub keyed_data_ref_names : List ℕ → DataRef → Answer Bool
keyed_data_ref_names item d =
    ask (body_fits item) 3 (accepted (leb 24 (length item) && same (words 3 item) (triple d)))

-- how often a number stands among others
abbrev pub times : ℕ → List ℕ → ℕ
times number list = sum (λ x. cond (eqb x number) 1 0) list

-- the offset of a data reference
abbrev pub offset_of : Ref → ℕ
offset_of r = get_or r.fields 2 0

-- the references are data references of that root and inode, each at another of the lent offsets, and each lent offset is
-- counted as often as it was lent; the total is the number of offsets, the flags say data
unfoldable pub held_by : ℕ → ℕ → List ℕ → ℕ → Answer Body → Bool
held_by root ino offsets bits (accepted b) =
    eqb b.total (length offsets) && eqb bits 1
    && all (λ r. named 178 (root ∷ ino ∷ offset_of r ∷ []) r && leb 1 (times (offset_of r) offsets)) b.refs
    && all (λ r. eqb (sum (λ s. cond (eqb (offset_of s) (offset_of r)) 1 0) b.refs) 1) b.refs
    && all (λ offset. eqb (sum (λ r. cond (eqb (offset_of r) offset) r.weight 0) b.refs) (times offset offsets)) offsets
held_by root ino offsets bits (refused number) = false
held_by root ino offsets bits absent = false
held_by root ino offsets bits remove = false

unfoldable pub held_only_by : List ℕ → ℕ → ℕ → List ℕ → Answer Bool
held_only_by body root ino offsets =
    ask (body_fits body && leb (length offsets) 4096) 3
    (accepted (held_by root ino offsets (flags_of body) (read_body 168 body)))
