-- What code keeps of the extent at hand, as the tally of the pass; and what its functions say of an item. Assumes nothing.
use Rattle.std.specs.Prelude.{◌≡◌, false, List, [], ◌∷◌, ℕ, ◌+◌, ◌-◌, ◌*◌, ◌≤◌, T, length, Option, Some, None, is_some}
use Rattle.std.proofs.Math.Option.{none, some}
use Rattle.fields.specs.Parts.{part}
use Rattle.format.specs.declared.Key.{Key}
use Rattle.format.specs.References.{Ref, make_ref, rank_of, ordered}
use Rattle.format.specs.Items.{Item}
use Rattle.format.specs.Names.{reference, malformed, view_ref_item, view_of}
use Rattle.inline_refs.specs.Scans.{kind_of, fields_of}
use Rattle.balance.specs.Tally.{GroupTally, taken, pass}
use Rattle.balance.specs.Ranks.{refs_from, Readable, Spanned}
use Rattle.balance.specs.declared.group.Group.{Group}
use Rattle.balance.specs.declared.group.Marked.{Marked}
use Rattle.balance.specs.declared.reference.Named.{Named}
use Rattle.balance.specs.declared.span.Span.{Span}

-- the item that stands from `at` up to `next`, with its key
abbrev pub item_of : List ℕ → ℕ → ℕ → Key → Item
item_of s at next key = record { key = key; bytes = part (at + 21) (next - (at + 21)) s }

-- a whole item of a sheet stands there
pub record ItemStands (s : List ℕ) (at next : ℕ) : Type 0 where
  pub head : at + 21 ≤ next
  pub inside : next ≤ length s
  pub small : next ≤ at + 65556
  pub short : next ≤ 262144

-- ---- a reference as an item

pub record NamedBy (i : Item) (n : Named) : Type 0 where
  pub says : view_ref_item i ≡ reference (make_ref (kind_of n.wanted) (fields_of n.wanted) n.weight)
  pub kind : kind_of n.wanted ≡ i.key.kind
  pub rank_is : n.rank ≡ rank_of (kind_of n.wanted) (fields_of n.wanted)

unfoldable pub Naming : Item → Option Named → Type 0
Naming i None = view_ref_item i ≡ malformed
Naming i (Some n) = NamedBy i n

-- ---- the extent at hand

-- its record's data
abbrev pub body_of : List ℕ → Marked → List ℕ
body_of s m = part m.from (m.to - m.from) s

abbrev pub marked_refs : List ℕ → Option Marked → List Ref
marked_refs s None = []
marked_refs s (Some m) = refs_from (body_of s m) m.start

abbrev pub marked_total : Option Marked → ℕ
marked_total None = 0
marked_total (Some m) = m.total

unfoldable pub tally_of : List ℕ → Group → GroupTally
tally_of s g =
    record {
      extent = g.extent;
      marked = is_some g.marked;
      refs = marked_refs s g.marked;
      total = marked_total g.marked;
      weight = g.weight;
    }

-- the record's references are read and in order, and those of the last type looked for are known
pub record GroupBody (s : List ℕ) (m : Marked) (known : Option Span) : Type 0 where
  pub order : m.from ≤ m.to
  pub inside : m.to ≤ length s
  pub begins : m.start ≤ length (body_of s m)
  pub reads : Readable (body_of s m) m.start
  pub sorted : T (ordered (refs_from (body_of s m) m.start))
  pub spans : (span : Span) → known ≡ Some span → Spanned (body_of s m) m.start span

pub record GroupKept (s : List ℕ) (g : Group) (at : ℕ) : Type 0 where
  pub body : (m : Marked) → g.marked ≡ Some m → GroupBody s m g.span
  pub light : g.weight ≤ 4294967296 * at

-- an extent of which no item was read
abbrev pub empty : ℕ → Group
empty extent = record { extent = extent; marked = None; weight = 0; span = None }

-- what is kept after an item, if it may stand there
abbrev pub kept_after : Option (Unit {0}) → Group → Option Group
kept_after None h = None
kept_after (Some done) h = Some h

-- an item of the extent at hand, up to `next`: what is kept after it, or that it may not stand there
unfoldable pub Taking : List ℕ → Group → Item → ℕ → Option Group → Type 0
Taking s g i next (Some h) = (taken (tally_of s g) (view_of i) ≡ some (tally_of s h)) × GroupKept s h next
Taking s g i next None = taken (tally_of s g) (view_of i) ≡ none

-- an item of any extent
unfoldable pub Turning : List ℕ → Group → Item → ℕ → Option Group → Type 0
Turning s g i next (Some h) = ((rest : List Item) → pass (i ∷ rest) (tally_of s g) ≡ pass rest (tally_of s h)) × GroupKept s h next
Turning s g i next None = (rest : List Item) → pass (i ∷ rest) (tally_of s g) ≡ false
