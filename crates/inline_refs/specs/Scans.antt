-- The one scan over the references of a body: what it notes on the way, what it hands back, and what its notes mean to a call.
-- Assumes nothing.
use Rattle.std.specs.Prelude.{◌≡◌, Bool, true, ◌||◌, cond, List, [], ◌∷◌, ℕ, ◌+◌, eqb, length, Option, Some, None, Result, Ok}
use Rattle.format.specs.Questions.{Answer, accepted, denied, result_or_code}
use Rattle.format.specs.References.{payload_length, Ref, rank_of}
use Rattle.format.specs.Bodies.{on_body, named, one, triple, stops}
use Rattle.format.specs.Left.{left_among}
use Rattle.inline_refs.specs.declared.ref_name.RefName.{RefName}
use Rattle.inline_refs.specs.declared.ref_name.RefName.TheVariants.{Block, Data, SharedBlock, SharedData}
use Rattle.inline_refs.specs.declared.ref_name.Ranked.{Ranked}
use Rattle.inline_refs.specs.declared.scan.Seen.{Seen}
use Rattle.inline_refs.specs.declared.scan.Seen.TheVariants.{Open, Gap, Hit, Late}
use Rattle.inline_refs.specs.declared.drop_scan.First.{First}
use Rattle.inline_refs.specs.declared.noted.Found.{Found}
use Rattle.inline_refs.specs.declared.noted.AddAt.{AddAt}
use Rattle.inline_refs.specs.declared.noted.AddAt.TheVariants.{Gap as NewAt, Standing}
use Rattle.format.specs.declared.Refusal.{Refusal}

unfoldable pub kind_of : RefName → ℕ
kind_of (Block name) = 176
kind_of (Data name) = 178
kind_of (SharedBlock parent) = 182
kind_of (SharedData parent) = 184

unfoldable pub fields_of : RefName → List ℕ
fields_of (Block name) = one name.tree
fields_of (Data name) = triple name
fields_of (SharedBlock parent) = one parent
fields_of (SharedData parent) = one parent

-- the tree whose register a data reference's rank is made of; 0 for a rank that is no hash
unfoldable pub tree_of : RefName → ℕ
tree_of (Block name) = 0
tree_of (Data name) = name.tree
tree_of (SharedBlock parent) = 0
tree_of (SharedData parent) = 0

-- a name's own rank
abbrev pub RankedFor : RefName → Ranked → Type 0
RankedFor wanted ranked = ranked.rank ≡ rank_of (kind_of wanted) (fields_of wanted)

abbrev pub KnownFor : RefName → Option Ranked → Type 0
KnownFor wanted (Some ranked) = RankedFor wanted ranked
KnownFor wanted None = Unit {0}

-- the wanted reference
abbrev pub is_wanted : RefName → Ref → Bool
is_wanted wanted r = named (kind_of wanted) (fields_of wanted) r

-- how many bytes a reference takes
unfoldable pub ref_size_of : Ref → ℕ
ref_size_of r = 1 + payload_length r.kind

-- a reference that stands at `at`, in front of the one at `next`
abbrev pub found_at : ℕ → ℕ → Ref → Found
found_at at next r = record { at = at; next = next; weight = r.weight }

-- what is noted at a reference that stands at `at`: the first wanted one; and, while there is none, the first one that a new
-- reference goes before, and whether any of the wanted kind stands
unfoldable pub noted : RefName → ℕ → ℕ → ℕ → Ref → Seen → Seen
noted wanted rank at next r (Open others) =
    cond (is_wanted wanted r) (Hit (found_at at next r))
    (cond (stops (kind_of wanted) rank r) (Gap at (others || eqb r.kind (kind_of wanted))) (Open (others || eqb r.kind (kind_of wanted))))
noted wanted rank at next r (Gap gap others) =
    cond (is_wanted wanted r) (Late gap (found_at at next r)) (Gap gap (others || eqb r.kind (kind_of wanted)))
noted wanted rank at next r (Hit found) = Hit found
noted wanted rank at next r (Late gap found) = Late gap found

-- from a reference that stands at `at` to the last
unfoldable pub walk : RefName → ℕ → ℕ → Seen → List Ref → Seen
walk wanted rank at seen [] = seen
walk wanted rank at seen (r ∷ refs) =
    walk wanted rank (at + ref_size_of r) (noted wanted rank at (at + ref_size_of r) r seen) refs

-- what is noted of the references that were read. Their reader decides (format/proofs/Decisions, `refs-decide`), so 100 and 101 do
-- not come
unfoldable pub scan_of : RefName → ℕ → ℕ → Seen → Answer (List Ref) → Result Seen Refusal
scan_of wanted rank at seen answer = result_or_code denied (λ refs. Ok (walk wanted rank at seen refs)) answer

-- where nothing is noted any more. As above 100 and 101 do not come
unfoldable pub rest_of : Answer (List Ref) → Result (Unit {0}) Refusal
rest_of answer = result_or_code denied (λ refs. Ok tt) answer

-- questions 3 and 6 to 8, then the references
unfoldable pub refs_in : ℕ → List ℕ → Answer (List Ref)
refs_in type body = on_body type body (λ b. accepted b.refs)

-- how many references were read. As above 100 and 101 do not come
unfoldable pub ref_count_of : Answer (List Ref) → Result ℕ Refusal
ref_count_of answer = result_or_code denied (λ refs. Ok (length refs)) answer

-- ---- the scan of a drop. In both definitions by what was read 100 and 101 do not come, as above

-- what the wanted references count
unfoldable pub behind_of : RefName → Answer (List Ref) → Result ℕ Refusal
behind_of wanted answer = result_or_code denied (λ refs. Ok (left_among (kind_of wanted) (fields_of wanted) refs)) answer

-- from a reference that stands at `at` to the last: the first wanted one, and what those behind it count
unfoldable pub drop_walk : RefName → ℕ → List Ref → Option First
drop_walk wanted at [] = None
drop_walk wanted at (r ∷ refs) =
    cond (is_wanted wanted r)
    (Some (record { found = found_at at (at + ref_size_of r) r; behind = left_among (kind_of wanted) (fields_of wanted) refs }))
    (drop_walk wanted (at + ref_size_of r) refs)

unfoldable pub drop_scan_of : RefName → ℕ → Answer (List Ref) → Result (Option First) Refusal
drop_scan_of wanted at answer = result_or_code denied (λ refs. Ok (drop_walk wanted at refs)) answer

-- ---- what a scan's notes mean to a call

unfoldable pub hit_of : Seen → Option Found
hit_of (Open others) = None
hit_of (Gap at others) = None
hit_of (Hit found) = Some found
hit_of (Late gap found) = Some found

unfoldable pub add_anywhere : ℕ → Seen → AddAt
add_anywhere end (Open others) = NewAt end
add_anywhere end (Gap at others) = NewAt at
add_anywhere end (Hit found) = Standing found
add_anywhere end (Late gap found) = Standing found

unfoldable pub add_by_scan : ℕ → Seen → AddAt
add_by_scan end (Open others) = NewAt end
add_by_scan end (Gap at others) = NewAt at
add_by_scan end (Hit found) = Standing found
add_by_scan end (Late gap found) = NewAt gap

unfoldable pub others_in : Seen → Bool
others_in (Open others) = others
others_in (Gap at others) = others
others_in (Hit found) = true
others_in (Late gap found) = true
