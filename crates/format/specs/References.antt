-- Document 01, "Below that: calls on bodies", its layout: the table of the five kinds, references, and the body of an extent
-- record, read and written. Assumes nothing.
use Rattle.std.specs.Prelude.{Bool, true, ◌&&◌, ◌||◌, cond, List, [], ◌∷◌, ◌++◌, ℕ, zero, suc, ◌/◌, ◌%◌, leb, ltb, eqb, length, take, drop, get_or}
use Rattle.fields.specs.Numbers.{le, le_bytes, words, word_bytes}
use Rattle.fields.specs.Parts.{part}
use Rattle.format.specs.Questions.{Answer, accepted, ask, bind}
use Rattle.format.specs.Hash.{data_ref_hash}

-- ---- the table of rows: type, payload length, count position (0 where the type has no count)

abbrev pub kinds : List (List ℕ)
kinds =
    (172 ∷ 8 ∷ 0 ∷ []) ∷ (176 ∷ 8 ∷ 0 ∷ []) ∷ (178 ∷ 28 ∷ 24 ∷ []) ∷ (182 ∷ 8 ∷ 0 ∷ []) ∷ (184 ∷ 12 ∷ 8 ∷ []) ∷ []

-- the row of a type, empty where none has it
unfoldable pub row_in : List (List ℕ) → ℕ → List ℕ
row_in [] kind = []
row_in (row ∷ rows) kind = cond (eqb (get_or row 0 0) kind) row (row_in rows kind)

unfoldable pub known : ℕ → Bool
known kind = leb 1 (length (row_in kinds kind))

unfoldable pub payload_length : ℕ → ℕ
payload_length kind = get_or (row_in kinds kind) 1 0

unfoldable pub count_position : ℕ → ℕ
count_position kind = get_or (row_in kinds kind) 2 0

unfoldable pub counted : ℕ → Bool
counted kind = leb 1 (count_position kind)

-- how many fields of 8 bytes stand before the count, or fill the payload
unfoldable pub field_count : ℕ → ℕ
field_count kind = cond (counted kind) (count_position kind) (payload_length kind) / 8

-- ---- references

-- the fields in payload order: a tree, a triple or a parent; of an owner reference (172) its tree
pub record Ref : Type 0 where
  pub kind : ℕ
  pub fields : List ℕ
  pub weight : ℕ

abbrev pub make_ref : ℕ → List ℕ → ℕ → Ref
make_ref kind fields weight = record { kind = kind; fields = fields; weight = weight }

-- "Weights: 172 is 0, 176 and 182 are 1, 178 and 184 are their count"
unfoldable pub weight_of : ℕ → ℕ → ℕ
weight_of kind count = cond (counted kind) count (cond (eqb kind 172) 0 1)

-- the reference of that type whose payload begins these bytes
unfoldable pub ref_at : ℕ → List ℕ → Ref
ref_at kind bytes = make_ref kind (words (field_count kind) bytes) (weight_of kind (le (part (count_position kind) 4 bytes)))

-- questions 7 and 8, a type byte and a payload at a time; the number of bytes bounds the number of references
unfoldable pub read_refs : ℕ → List ℕ → Answer (List Ref)
read_refs zero bytes = accepted []
read_refs (suc n) [] = accepted []
read_refs (suc n) (kind ∷ bytes) =
    ask (known kind) 7
    (ask (leb (payload_length kind) (length bytes)) 8
    (bind (read_refs n (drop (payload_length kind) bytes)) (λ refs. accepted (ref_at kind bytes ∷ refs))))

unfoldable pub ref_bytes : Ref → List ℕ
ref_bytes r = r.kind ∷ (word_bytes r.fields ++ cond (counted r.kind) (le_bytes 4 r.weight) [])

unfoldable pub refs_bytes : List Ref → List ℕ
refs_bytes [] = []
refs_bytes (r ∷ refs) = ref_bytes r ++ refs_bytes refs

-- ---- bodies: "Total at byte 0, generation at 8, flags at 16, 8 bytes each"

unfoldable pub total_of : List ℕ → ℕ
total_of body = le (part 0 8 body)

unfoldable pub flags_of : List ℕ → ℕ
flags_of body = le (part 16 8 body)

-- "References start at 42 if the type is 168 and flag 2 is set, else at 24"
unfoldable pub start_of : ℕ → List ℕ → ℕ
start_of type body = cond (eqb type 168 && eqb (flags_of body / 2 % 2) 1) 42 24

-- the total, the bytes from 8 up to the references, and the references
pub record Body : Type 0 where
  pub total : ℕ
  pub fixed : List ℕ
  pub refs : List Ref

abbrev pub body_with : Body → ℕ → List Ref → Body
body_with b total refs = record { total = total; fixed = b.fixed; refs = refs }

-- question 6, then 7 and 8
unfoldable pub read_body : ℕ → List ℕ → Answer Body
read_body type body =
    ask (leb 24 (length body)) 6
    (ask (leb (start_of type body) (length body)) 6
    (bind (read_refs (length body) (drop (start_of type body) body)) (λ refs.
    accepted (record { total = total_of body; fixed = drop 8 (take (start_of type body) body); refs = refs }))))

unfoldable pub body_bytes : Body → List ℕ
body_bytes b = le_bytes 8 b.total ++ (b.fixed ++ refs_bytes b.refs)

-- ---- order

-- what references of one type are ordered by, and where an item of that name stands: the hash of a triple, else the first field
unfoldable pub rank_of : ℕ → List ℕ → ℕ
rank_of kind fields =
    cond (eqb kind 178) (data_ref_hash (get_or fields 0 0) (get_or fields 1 0) (get_or fields 2 0)) (get_or fields 0 0)

unfoldable pub rank : Ref → ℕ
rank r = rank_of r.kind r.fields

-- "within 176, 182 and 184 the first field falls; within 178 the hash never rises"
unfoldable pub falls : ℕ → ℕ → ℕ → Bool
falls kind first second = cond (eqb kind 172) true (cond (eqb kind 178) (leb second first) (ltb second first))

-- the second may stand right after the first: "inline types never fall"
unfoldable pub follows : Ref → Ref → Bool
follows r s = ltb r.kind s.kind || (eqb r.kind s.kind && falls r.kind (rank r) (rank s))

abbrev pub leads : Ref → List Ref → Bool
leads r [] = true
leads r (s ∷ refs) = follows r s

abbrev pub ordered : List Ref → Bool
ordered [] = true
ordered (r ∷ refs) = leads r refs && ordered refs
