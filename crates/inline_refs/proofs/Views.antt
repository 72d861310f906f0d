-- What a scan saw, as cuts of the list of references: where the wanted one stands, what those behind it count, and where a new one
-- goes. Assumes nothing.
use mathlib.Core.Path.{◌≡◌, refl, sym, ap, subst, ◌∙◌}
use mathlib.Core.Bool.{Bool, true, false, ◌||◌}
use mathlib.Core.Option.{none, some, map}
use mathlib.Core.List.{List, [], ◌∷◌, ◌++◌}
use Prim.Native.Nat.{ℕ, ◌+◌}
use native.Mathlib.Omega.{arith}
use lib.Dec.{eqb}
use Rattle.fields.proofs.Lists.{by-test}
use Rattle.fields.specs.Lists.{sum, Cut, later, first_cut}
use Rattle.format.specs.References.{Ref}
use Rattle.format.specs.Bodies.{stops}
use Rattle.format.specs.Left.{left_among}
use Rattle.inline_refs.specs.declared.ref_name.RefName.{RefName}
use Rattle.inline_refs.specs.declared.scan.Seen.{Seen}
use Rattle.inline_refs.specs.declared.scan.Seen.TheVariants.{Open, Gap, Hit, Late}
use Rattle.std.specs.Prelude.{Option, Some, None}
use Rattle.inline_refs.specs.declared.drop_scan.First.{First}
use Rattle.inline_refs.specs.Scans.{kind_of, fields_of, is_wanted, ref_size_of, found_at, noted, walk, drop_walk}
use Rattle.inline_refs.proofs.Notes.{hit-stays, late-stays}

-- ---- a part of the references that stands from one position up to another

pub record Between (start : ℕ) (refs front old back : List Ref) (p q : ℕ) : Type 0 where
  pub same : refs ≡ front ++ (old ++ back)
  pub from : p ≡ start + sum ref_size_of front
  pub to : q ≡ p + sum ref_size_of old

-- ---- the first that passes a test, with its positions

pub record CutAt (m : Ref → Bool) (start : ℕ) (refs : List Ref) (p q weight : ℕ) : Type 0 where
  pub parts : Cut Ref
  pub cuts : first_cut m refs ≡ some parts
  pub from : p ≡ start + sum ref_size_of parts.front
  pub to : q ≡ p + ref_size_of parts.hit
  pub weighs : weight ≡ parts.hit.weight

module _ (m : Ref → Bool) (start : ℕ) (r : Ref) (refs : List Ref) where
  cut-here : (weight : ℕ) → m r ≡ true → weight ≡ r.weight → CutAt m start (r ∷ refs) start (start + ref_size_of r) weight
  cut-here weight t e = record {
    parts = record { front = []; hit = r; back = refs };
    cuts = rw t refl;
    from = omega arith;
    to = refl;
    weighs = e;
  }

  cut_later : (p q weight : ℕ) → m r ≡ false → CutAt m (start + ref_size_of r) refs p q weight → CutAt m start (r ∷ refs) p q weight
  cut_later p q weight f h = record {
    parts = later r h.parts;
    cuts = rw f (ap (map (later r)) h.cuts);
    from = omega (arith, h.from);
    to = h.to;
    weighs = h.weighs;
  }

  none-later : m r ≡ false → first_cut m refs ≡ none → first_cut m (r ∷ refs) ≡ none
  none-later f e = rw f (ap (map (later r)) e)

module _ (w : RefName) (rank : ℕ) where
  -- the wanted one, or one that a new one goes before
  abbrev pub either : Ref → Bool
  either r = is_wanted w r || stops (kind_of w) rank r

  abbrev pub any_others : List Ref → Bool
  any_others [] = false
  any_others (r ∷ refs) = eqb r.kind (kind_of w) || any_others refs

  -- the insert position came before a wanted one
  pub record StopAt (start : ℕ) (refs : List Ref) (p : ℕ) : Type 0 where
    pub after : ℕ
    pub weight : ℕ
    pub stop : CutAt either start refs p after weight
    pub other : is_wanted w stop.parts.hit ≡ false

  pub record HitAt (start : ℕ) (refs : List Ref) (p q weight : ℕ) : Type 0 where
    pub hit : CutAt (is_wanted w) start refs p q weight
    pub first : first_cut either refs ≡ some hit.parts

  abbrev GapView : ℕ → List Ref → ℕ → Bool → Seen → Type 0
  GapView start refs g others₀ (Open others) = ⊥
  GapView start refs g others₀ (Gap g' others) = (g' ≡ g) × (first_cut (is_wanted w) refs ≡ none) × (others ≡ others₀ || any_others refs)
  GapView start refs g others₀ (Hit f) = ⊥
  GapView start refs g others₀ (Late g' f) = (g' ≡ g) × CutAt (is_wanted w) start refs f.at f.next f.weight

  abbrev pub View : ℕ → List Ref → Bool → Seen → Type 0
  View start refs others₀ (Open others) = (first_cut (is_wanted w) refs ≡ none) × (first_cut either refs ≡ none) × (others ≡ others₀ || any_others refs)
  View start refs others₀ (Gap g others) = (first_cut (is_wanted w) refs ≡ none) × StopAt start refs g × (others ≡ others₀ || any_others refs)
  View start refs others₀ (Hit f) = HitAt start refs f.at f.next f.weight
  View start refs others₀ (Late g f) = CutAt (is_wanted w) start refs f.at f.next f.weight × StopAt start refs g

  or-false : (b : Bool) → b ≡ b || false
  or-false true = refl
  or-false false = refl

  or_assoc : (a b c : Bool) → (a || b) || c ≡ a || (b || c)
  or_assoc true b c = refl
  or_assoc false b c = refl

  gap-later : (start : ℕ) (r : Ref) (refs : List Ref) (g : ℕ) (others₀ : Bool) (s : Seen) → is_wanted w r ≡ false
      → GapView (start + ref_size_of r) refs g (others₀ || eqb r.kind (kind_of w)) s → GapView start (r ∷ refs) g others₀ s
  gap-later start r refs g others₀ (Open others) f v = v
  gap-later start r refs g others₀ (Gap g' others) f v =
      (v.0, none-later (is_wanted w) start r refs f v.1, v.2 ∙ or_assoc others₀ (eqb r.kind (kind_of w)) (any_others refs))
  gap-later start r refs g others₀ (Hit h) f v = v
  gap-later start r refs g others₀ (Late g' h) f v = (v.0, cut_later (is_wanted w) start r refs h.at h.next h.weight f v.1)

  gap-view : (start : ℕ) (refs : List Ref) (g : ℕ) (others₀ : Bool) → GapView start refs g others₀ (walk w rank start (Gap g others₀) refs)
  unfolding walk noted
  gap-view start [] g others₀ = (refl, refl, or-false others₀)
  gap-view start (r ∷ refs) g others₀ =
      by-test (is_wanted w r)
      (λ t. rw t
      (subst (GapView start (r ∷ refs) g others₀) (sym (late-stays w rank (start + ref_size_of r) g (found_at start (start + ref_size_of r) r) refs))
      (refl, cut-here (is_wanted w) start r refs r.weight t refl)))
      (λ f. rw f
      (gap-later start r refs g others₀ (walk w rank (start + ref_size_of r) (Gap g (others₀ || eqb r.kind (kind_of w))) refs) f (gap-view (start + ref_size_of r) refs g (others₀ || eqb r.kind (kind_of w)))))

  stop-later : (start : ℕ) (r : Ref) (refs : List Ref) (g : ℕ) → either r ≡ false → StopAt (start + ref_size_of r) refs g → StopAt start (r ∷ refs) g
  unfolding cut_later
  stop-later start r refs g e h = record {
    after = h.after;
    weight = h.weight;
    stop = cut_later either start r refs g h.after h.weight e h.stop;
    other = h.other;
  }

  view-later : (start : ℕ) (r : Ref) (refs : List Ref) (others₀ : Bool) (s : Seen) → is_wanted w r ≡ false → either r ≡ false
      → View (start + ref_size_of r) refs (others₀ || eqb r.kind (kind_of w)) s → View start (r ∷ refs) others₀ s
  unfolding cut_later
  view-later start r refs others₀ (Open others) f e v =
      (none-later (is_wanted w) start r refs f v.0, none-later either start r refs e v.1, v.2 ∙ or_assoc others₀ (eqb r.kind (kind_of w)) (any_others refs))
  view-later start r refs others₀ (Gap g others) f e v = (
    none-later (is_wanted w) start r refs f v.0,
    stop-later start r refs g e v.1,
    v.2 ∙ or_assoc others₀ (eqb r.kind (kind_of w)) (any_others refs),
  )
  view-later start r refs others₀ (Hit h) f e v = record {
    hit = cut_later (is_wanted w) start r refs h.at h.next h.weight f v.hit;
    first = rw e (ap (map (later r)) v.first);
  }
  view-later start r refs others₀ (Late g h) f e v =
      (cut_later (is_wanted w) start r refs h.at h.next h.weight f v.0, stop-later start r refs g e v.1)

  stop-here : (start : ℕ) (r : Ref) (refs : List Ref) → is_wanted w r ≡ false → either r ≡ true → StopAt start (r ∷ refs) start
  unfolding cut-here
  stop-here start r refs f e = record {
    after = start + ref_size_of r;
    weight = r.weight;
    stop = cut-here either start r refs r.weight e refl;
    other = f;
  }

  -- a gap here, and what follows it
  gap_here : (start : ℕ) (r : Ref) (refs : List Ref) (others₀ : Bool) (s : Seen) → is_wanted w r ≡ false → either r ≡ true
      → GapView (start + ref_size_of r) refs start (others₀ || eqb r.kind (kind_of w)) s → View start (r ∷ refs) others₀ s
  gap_here start r refs others₀ (Open others) f e v = absurd v
  gap_here start r refs others₀ (Gap g others) f e v = (
    none-later (is_wanted w) start r refs f v.1,
    subst (StopAt start (r ∷ refs)) (sym v.0) (stop-here start r refs f e),
    v.2 ∙ or_assoc others₀ (eqb r.kind (kind_of w)) (any_others refs),
  )
  gap_here start r refs others₀ (Hit h) f e v = absurd v
  gap_here start r refs others₀ (Late g h) f e v =
      (cut_later (is_wanted w) start r refs h.at h.next h.weight f v.1, subst (StopAt start (r ∷ refs)) (sym v.0) (stop-here start r refs f e))

  view : (start : ℕ) (refs : List Ref) (others₀ : Bool) → View start refs others₀ (walk w rank start (Open others₀) refs)
  unfolding walk noted cut-here
  view start [] others₀ = (refl, refl, or-false others₀)
  view start (r ∷ refs) others₀ =
      by-test (is_wanted w r)
      (λ t. rw t
      (subst (View start (r ∷ refs) others₀) (sym (hit-stays w rank (start + ref_size_of r) (found_at start (start + ref_size_of r) r) refs))
      (record { hit = cut-here (is_wanted w) start r refs r.weight t refl; first = rw t refl })))
      (λ f. by-test (stops (kind_of w) rank r)
      (λ d. rw (f, d)
      (gap_here start r refs others₀ (walk w rank (start + ref_size_of r) (Gap start (others₀ || eqb r.kind (kind_of w))) refs) f (rw (f, d) refl) (gap-view (start + ref_size_of r) refs start (others₀ || eqb r.kind (kind_of w)))))
      (λ d. rw (f, d)
      (view-later start r refs others₀ (walk w rank (start + ref_size_of r) (Open (others₀ || eqb r.kind (kind_of w))) refs) f (rw (f, d) refl) (view (start + ref_size_of r) refs (others₀ || eqb r.kind (kind_of w))))))

  pub viewed : (start : ℕ) (refs : List Ref) (s : Seen) → s ≡ walk w rank start (Open false) refs → View start refs false s
  viewed start refs s e = subst (View start refs false) (sym e) (view start refs false)

-- ---- what the scan of a drop found

-- the first wanted one, and what those behind it count
pub record FirstAt (w : RefName) (start : ℕ) (refs : List Ref) (p q weight behind : ℕ) : Type 0 where
  pub hit : CutAt (is_wanted w) start refs p q weight
  pub sums : behind ≡ left_among (kind_of w) (fields_of w) hit.parts.back

abbrev pub DropView : RefName → ℕ → List Ref → Option First → Type 0
DropView w start refs None = first_cut (is_wanted w) refs ≡ none
DropView w start refs (Some f) = FirstAt w start refs f.found.at f.found.next f.found.weight f.behind

drop-later : (w : RefName) (start : ℕ) (r : Ref) (refs : List Ref) (s : Option First) → is_wanted w r ≡ false
    → DropView w (start + ref_size_of r) refs s → DropView w start (r ∷ refs) s
unfolding cut_later
drop-later w start r refs None f v = none-later (is_wanted w) start r refs f v
drop-later w start r refs (Some s) f v =
    record { hit = cut_later (is_wanted w) start r refs s.found.at s.found.next s.found.weight f v.hit; sums = v.sums }

drop-view : (w : RefName) (start : ℕ) (refs : List Ref) → DropView w start refs (drop_walk w start refs)
unfolding drop_walk cut-here
drop-view w start [] = refl
drop-view w start (r ∷ refs) =
    by-test (is_wanted w r)
    (λ t. rw t (record { hit = cut-here (is_wanted w) start r refs r.weight t refl; sums = refl }))
    (λ f. rw f (drop-later w start r refs (drop_walk w (start + ref_size_of r) refs) f (drop-view w (start + ref_size_of r) refs)))

pub drop-viewed : (w : RefName) (start : ℕ) (refs : List Ref) (s : Option First) → s ≡ drop_walk w start refs → DropView w start refs s
drop-viewed w start refs s e = subst (DropView w start refs) (sym e) (drop-view w start refs)
