-- A scan's notes, as the definitions of document 01 have them: the first match, the position of an added reference. Assumes nothing.
use mathlib.Core.Path.{◌≡◌, refl, sym, ap, subst, ◌∙◌}
use mathlib.Core.Bool.{Bool, true, false, ◌||◌, cond}
use mathlib.Core.Option.{Option as Maybe, none, some, map}
use mathlib.Core.List.{List, [], ◌∷◌, append-nil}
use Prim.Native.Nat.{ℕ, ◌+◌}
use native.Mathlib.Omega.{arith}
use Rattle.fields.specs.Lists.{sum, Cut, later, first_cut}
use Rattle.fields.proofs.Lists.{by-test, T-eq, no-some, cut-some}
use Rattle.format.specs.References.{Ref, rank_of}
use Rattle.format.specs.Bodies.{RefPosition, gap, standing, stops, gap_at, insert_position, standing_or, position_anywhere, scanned, position_by_scan}
use Rattle.inline_refs.specs.declared.ref_name.RefName.{RefName}
use Rattle.inline_refs.specs.declared.scan.Seen.{Seen}
use Rattle.inline_refs.specs.declared.scan.Seen.TheVariants.{Open, Gap, Hit, Late}
use Rattle.inline_refs.specs.declared.noted.Found.{Found}
use Rattle.std.specs.Prelude.{Option, Some, None}
use Rattle.inline_refs.specs.declared.noted.AddAt.{AddAt}
use Rattle.inline_refs.specs.declared.noted.AddAt.TheVariants.{Gap as NewAt, Standing}
use Rattle.inline_refs.specs.Scans.{kind_of, fields_of, is_wanted, ref_size_of, hit_of, add_anywhere, add_by_scan}
use Rattle.inline_refs.proofs.Views.{Between, CutAt, either, View}

-- ---- a cut with its positions, as three parts

module _ (m : Ref → Bool) (start : ℕ) (refs : List Ref) (p q x : ℕ) (h : CutAt m start refs p q x) where
  -- the one that passed, with what stands before and after it
  pub cut-between : Between start refs h.parts.front (h.parts.hit ∷ []) h.parts.back p q
  cut-between = record { same = (cut-some m refs h.cuts).same; from = h.from; to = omega (arith, h.to) }

  -- what stands before it, and the rest
  pub cut-before : Between start refs h.parts.front [] (h.parts.hit ∷ h.parts.back) p p
  cut-before = record { same = (cut-some m refs h.cuts).same; from = h.from; to = omega arith }

  pub cut-passed : m h.parts.hit ≡ true
  cut-passed = T-eq (m h.parts.hit) (cut-some m refs h.cuts).hit

pub at-end : (start end : ℕ) (refs : List Ref) → end ≡ start + sum ref_size_of refs → Between start refs refs [] [] end end
at-end start end refs e = record { same = sym (append-nil refs); from = e; to = omega arith }

-- ---- the first match

abbrev pub FoundView : RefName → ℕ → List Ref → Option Found → Type 0
FoundView w start refs (Some f) = CutAt (is_wanted w) start refs f.at f.next f.weight
FoundView w start refs None = first_cut (is_wanted w) refs ≡ none

hit-view : (w : RefName) (rank start : ℕ) (refs : List Ref) (s : Seen) → View w rank start refs false s → FoundView w start refs (hit_of s)
unfolding hit_of
hit-view w rank start refs (Open others) v = v.0
hit-view w rank start refs (Gap at others) v = v.0
hit-view w rank start refs (Hit f) v = v.hit
hit-view w rank start refs (Late g f) v = v.0

pub found-view : (w : RefName) (rank start : ℕ) (refs : List Ref) (s : Seen) (f : Option Found) → f ≡ hit_of s → View w rank start refs false s
    → FoundView w start refs f
found-view w rank start refs s f e v = subst (FoundView w start refs) (sym e) (hit-view w rank start refs s v)

-- ---- the position of an added reference

pub record Stands (w : RefName) (start : ℕ) (refs : List Ref) (p q x : ℕ) (c : Cut Ref) : Type 0 where
  pub between : Between start refs c.front (c.hit ∷ []) c.back p q
  pub weighs : x ≡ c.hit.weight
  pub wanted : is_wanted w c.hit ≡ true

abbrev pub PositionView : RefName → ℕ → List Ref → AddAt → RefPosition → Type 0
PositionView w start refs (NewAt p) (gap front back) = Between start refs front [] back p p
PositionView w start refs (NewAt p) (standing c) = ⊥
PositionView w start refs (Standing f) (gap front back) = ⊥
PositionView w start refs (Standing f) (standing c) = Stands w start refs f.at f.next f.weight c

stands : (w : RefName) (start : ℕ) (refs : List Ref) (p q x : ℕ) (h : CutAt (is_wanted w) start refs p q x) → Stands w start refs p q x h.parts
stands w start refs p q x h = record {
  between = cut-between (is_wanted w) start refs p q x h;
  weighs = h.weighs;
  wanted = cut-passed (is_wanted w) start refs p q x h;
}

map-none : {A B : Type 0} (f : A → B) (o : Maybe A) → map f o ≡ none → o ≡ none
map-none f none e = refl
map-none f (some x) e = no-some (sym e)

-- where none passes the first of two tests, the second decides
cut_or : (m n : Ref → Bool) (refs : List Ref) → first_cut m refs ≡ none → first_cut (λ r. m r || n r) refs ≡ first_cut n refs
cut_or m n [] e = refl
cut_or m n (r ∷ refs) e =
    by-test (m r)
    (λ t. no-some (sym (rw t at e)))
    (λ f. rw f (ap (λ (o : Maybe (Cut Ref)). cond (n r) (some (record { front = []; hit = r; back = refs })) (map (later r) o))
    (cut_or m n refs (map-none (later r) (first_cut m refs) (rw f at e)))))

module _ (w : RefName) (rank start end : ℕ) (refs : List Ref) (e : end ≡ start + sum ref_size_of refs) where
  anywhere-gap : first_cut (is_wanted w) refs ≡ none → (o : Maybe (Cut Ref)) → first_cut (either w rank) refs ≡ o
      → position_anywhere (kind_of w) (fields_of w) rank refs ≡ gap_at refs o
  unfolding position_anywhere standing_or insert_position
  anywhere-gap n o q = rw n (ap (gap_at refs) (sym (cut_or (is_wanted w) (stops (kind_of w) rank) refs n) ∙ q))

  anywhere-stands : (c : Cut Ref) → first_cut (is_wanted w) refs ≡ some c → position_anywhere (kind_of w) (fields_of w) rank refs ≡ standing c
  unfolding position_anywhere standing_or
  anywhere-stands c q = rw q refl

  position-view : (s : Seen) → View w rank start refs false s
      → PositionView w start refs (add_anywhere end s) (position_anywhere (kind_of w) (fields_of w) rank refs)
  unfolding add_anywhere gap_at
  position-view (Open others) v = rw (anywhere-gap v.0 none v.1) (at-end start end refs e)
  position-view (Gap at others) v =
      let h = v.1.stop in
      rw (anywhere-gap v.0 (some h.parts) h.cuts) (cut-before (either w rank) start refs at _ _ h)
  position-view (Hit f) v = rw (anywhere-stands v.hit.parts v.hit.cuts) (stands w start refs f.at f.next f.weight v.hit)
  position-view (Late g f) v = rw (anywhere-stands v.0.parts v.0.cuts) (stands w start refs f.at f.next f.weight v.0)

  pub position-anywhere : (s : Seen) (i : AddAt) → i ≡ add_anywhere end s → View w rank start refs false s
      → PositionView w start refs i (position_anywhere (kind_of w) (fields_of w) rank refs)
  position-anywhere s i q v = subst (λ (j : AddAt). PositionView w start refs j (position_anywhere (kind_of w) (fields_of w) rank refs)) (sym q) (position-view s v)

  module _ (at : rank ≡ rank_of (kind_of w) (fields_of w)) where
    scan-is : (o : Maybe (Cut Ref)) → first_cut (either w rank) refs ≡ o
        → position_by_scan (kind_of w) (fields_of w) refs ≡ scanned (kind_of w) (fields_of w) refs o
    unfolding position_by_scan
    scan-is o q = rw (← at) (ap (scanned (kind_of w) (fields_of w) refs) q)

    scan-view : (s : Seen) → View w rank start refs false s
        → PositionView w start refs (add_by_scan end s) (position_by_scan (kind_of w) (fields_of w) refs)
    unfolding add_by_scan scanned
    scan-view (Open others) v = rw (scan-is none v.1) (at-end start end refs e)
    scan-view (Gap g others) v =
        let h = v.1.stop in
        rw (scan-is (some h.parts) h.cuts) (rw v.1.other (cut-before (either w rank) start refs g _ _ h))
    scan-view (Hit f) v =
        rw (scan-is (some v.hit.parts) v.first)
        (rw (cut-passed (is_wanted w) start refs f.at f.next f.weight v.hit) (stands w start refs f.at f.next f.weight v.hit))
    scan-view (Late g f) v =
        let h = v.1.stop in
        rw (scan-is (some h.parts) h.cuts) (rw v.1.other (cut-before (either w rank) start refs g _ _ h))

    pub position-by-scan : (s : Seen) (i : AddAt) → i ≡ add_by_scan end s → View w rank start refs false s
        → PositionView w start refs i (position_by_scan (kind_of w) (fields_of w) refs)
    position-by-scan s i q v = subst (λ (j : AddAt). PositionView w start refs j (position_by_scan (kind_of w) (fields_of w) refs)) (sym q) (scan-view s v)
