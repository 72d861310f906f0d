-- A balanced sheet as one pass over its items, which keeps what it must of the extent at hand; and the pass over the references
-- of one record, what is kept of those passed and what the next one must be. Assumes nothing.
use Rattle.std.specs.Prelude.{Bool, true, false, not, ◌&&◌, ◌||◌, cond, List, [], ◌∷◌, ◌++◌, ℕ, ◌+◌, leb, ltb, eqb}
use Rattle.std.proofs.Math.Option.{Option, none, some}
use Rattle.fields.specs.Lists.{sum, all, same}
use Rattle.format.specs.References.{Ref, rank, falls}
use Rattle.format.specs.Bodies.{named}
use Rattle.format.specs.Items.{Item}
use Rattle.format.specs.Names.{View, extent_record, reference, unrelated, malformed, view_of}

-- the references at hand: the last type, what it was ordered by, and the references of 178 that share that hash
pub record RefRun : Type 0 where
  pub kind : ℕ
  pub rank : ℕ
  pub back : List Ref

abbrev pub start : RefRun
start = record { kind = 0; rank = 0; back = [] }

-- a further data reference of the same hash
unfoldable pub joins : RefRun → Ref → Bool
joins run r = eqb run.kind 178 && (eqb r.kind run.kind && eqb (rank r) run.rank)

unfoldable pub kept_run : RefRun → Ref → RefRun
kept_run run r =
    cond (joins run r) (record { kind = run.kind; rank = run.rank; back = run.back ++ r ∷ [] })
    (record { kind = r.kind; rank = rank r; back = r ∷ [] })

-- in order after the last
unfoldable pub after : RefRun → Ref → Bool
after run r = ltb run.kind r.kind || (eqb run.kind r.kind && falls run.kind run.rank (rank r))

-- of another name than those of its hash
unfoldable pub runs_apart : RefRun → Ref → Bool
runs_apart run r = not (joins run r) || all (λ s. not (same s.fields r.fields)) run.back

-- an owner reference counts nothing
unfoldable pub weighs : Ref → Bool
weighs r = eqb r.kind 172 || leb 1 r.weight

unfoldable pub admits : RefRun → Ref → Bool
admits run r = after run r && (runs_apart run r && weighs r)

unfoldable pub sound : RefRun → List Ref → Bool
sound run [] = true
sound run (r ∷ refs) = admits run r && sound (kept_run run r) refs

-- ---- items

-- of the extent at hand: whether its record stood, the record's references and total, and the weight of all references so far
pub record GroupTally : Type 0 where
  pub extent : ℕ
  pub marked : Bool
  pub refs : List Ref
  pub total : ℕ
  pub weight : ℕ

abbrev pub fresh : ℕ → GroupTally
fresh extent = record { extent = extent; marked = false; refs = []; total = 0; weight = 0 }

abbrev pub weight_in : Ref → ℕ
weight_in r = r.weight

unfoldable pub closed : GroupTally → Bool
closed t = eqb t.total t.weight

-- no inline reference has the name
unfoldable pub unnamed : List Ref → Ref → Bool
unnamed refs r = all (λ s. not (named r.kind r.fields s)) refs

-- an item of the extent at hand
unfoldable pub taken : GroupTally → View → Option GroupTally
taken t (extent_record b) =
    cond (not t.marked && sound start b.refs)
    (some (record { extent = t.extent; marked = true; refs = b.refs; total = b.total; weight = sum weight_in b.refs })) none
taken t (reference r) =
    cond (t.marked && (leb 1 r.weight && unnamed t.refs r))
    (some (record { extent = t.extent; marked = t.marked; refs = t.refs; total = t.total; weight = t.weight + r.weight })) none
taken t unrelated = some t
taken t malformed = none

unfoldable pub here : GroupTally → Item → Bool
here t i = eqb i.key.objectid t.extent

-- the extent of an item is at hand, or the last one is closed
unfoldable pub entered : GroupTally → Item → Bool
entered t i = here t i || closed t

unfoldable pub entry_of : GroupTally → Item → GroupTally
entry_of t i = cond (here t i) t (fresh i.key.objectid)

abbrev pub onward : (GroupTally → Bool) → Option GroupTally → Bool
onward rest none = false
onward rest (some t) = rest t

unfoldable pub pass : List Item → GroupTally → Bool
pass [] t = closed t
pass (i ∷ items) t = entered t i && onward (pass items) (taken (entry_of t i) (view_of i))
