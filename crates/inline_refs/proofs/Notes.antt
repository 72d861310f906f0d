-- Laws of the scan: what is noted at one reference, a step of the walk, and where the references of a body are read.
-- Assumes nothing.
use mathlib.Core.Path.{◌≡◌, refl, sym, ap, ap₂, subst, ◌∙◌}
use mathlib.Core.Bool.{Bool, true, false, ◌||◌}
use mathlib.Core.List.{List, [], ◌∷◌}
use Rattle.std.specs.Prelude.{Option, Some, Result, Ok, Err}
use Rattle.format.specs.declared.Refusal.{Refusal}
use Prim.Native.Nat.{ℕ, ◌+◌, ◌/◌, ◌%◌, ◌≤◌, ◌<◌}
use native.Mathlib.Omega.{arith}
use lib.Dec.{eqb, leb}
use lib.ListN.{length, drop, length-drop}
use native.Mathlib.Nat.{le_refl}
use borrow.Author.Tests.{eq-eqb, ne_eqb, le-leb, lt-leb, leb-true}
use Rattle.fields.proofs.Lists.{by-test}
use Rattle.fields.specs.Numbers.{le}
use Rattle.fields.specs.Parts.{part}
use Rattle.format.specs.Questions.{Answer, refused, absent, remove, accepted, ask, bind, denied}
use Rattle.format.specs.References.{payload_length, Ref, ref_at, read_refs, flags_of, start_of, rank_of, Body, read_body}
use Rattle.format.specs.Bodies.{on_body, body_fits, stops}
use Rattle.format.proofs.Refs.{read_refs-enough}
use Rattle.inline_refs.specs.declared.ref_name.RefName.{RefName}
use Rattle.inline_refs.specs.declared.ref_name.Ranked.{Ranked}
use Rattle.inline_refs.specs.declared.scan.Seen.{Seen}
use Rattle.inline_refs.specs.declared.scan.Seen.TheVariants.{Open, Gap, Hit, Late}
use Rattle.inline_refs.specs.declared.noted.Found.{Found}
use Rattle.inline_refs.specs.Steps.{read_from, open_of}
use Rattle.inline_refs.specs.Scans.{kind_of, fields_of, RankedFor, KnownFor, is_wanted, ref_size_of, found_at, noted, walk, scan_of, rest_of, refs_in}
use Rattle.inline_refs.proofs.Steps.{At}

-- ---- what is noted

module _ (w : RefName) (rank at next : ℕ) (r : Ref) (others b : Bool) (n : b ≡ is_wanted w r) where
  pub note-hit : (f : Found) → b ≡ true → f ≡ found_at at next r → Hit f ≡ noted w rank at next r (Open others)
  unfolding noted
  note-hit f t q = simp (sym n ∙ t, q)

  module _ (f : b ≡ false) (k d : Bool) (q : k ≡ others || eqb r.kind (kind_of w)) (s : d ≡ stops (kind_of w) rank r) where
    pub note-gap : d ≡ true → Gap at k ≡ noted w rank at next r (Open others)
    unfolding noted
    note-gap t = simp (sym n ∙ f, sym s ∙ t, q)

    pub note-open : d ≡ false → Open k ≡ noted w rank at next r (Open others)
    unfolding noted
    note-open t = simp (sym n ∙ f, sym s ∙ t, q)

  module _ (gap : ℕ) where
    pub note-late : (f : Found) → b ≡ true → f ≡ found_at at next r → Late gap f ≡ noted w rank at next r (Gap gap others)
    unfolding noted
    note-late f t q = simp (sym n ∙ t, q)

    pub note-still : (k : Bool) → b ≡ false → k ≡ others || eqb r.kind (kind_of w) → Gap gap k ≡ noted w rank at next r (Gap gap others)
    unfolding noted
    note-still k f q = simp (sym n ∙ f, q)

-- ---- a step of the walk

scan-cons : (w : RefName) (rank at : ℕ) (seen : Seen) (r : Ref) (x : Answer (List Ref))
    → scan_of w rank (at + ref_size_of r) (noted w rank at (at + ref_size_of r) r seen) x ≡ scan_of w rank at seen (bind x (λ refs. accepted (r ∷ refs)))
unfolding scan_of bind walk
scan-cons w rank at seen r (refused refusal) = refl
scan-cons w rank at seen r absent = refl
scan-cons w rank at seen r remove = refl
scan-cons w rank at seen r (accepted refs) = refl

pub scan_step : (w : RefName) (rank at k p n q next : ℕ) (s : List ℕ) (seen after : Seen) → At s at k p n q next
    → after ≡ noted w rank at next (ref_at k (drop p s)) seen
    → scan_of w rank next after (read_from s next) ≡ scan_of w rank at seen (read_from s at)
unfolding ref_size_of ref_at
scan_step w rank at k p n q next s seen after h e =
    let r : Ref = ref_at k (drop p s) in
    let z : at + (1 + payload_length k) ≡ next = omega (arith, h.further, h.long) in
    ap (λ (x : Seen). scan_of w rank next x (read_from s next)) e
    ∙ ap (λ (m : ℕ). scan_of w rank m (noted w rank at m r seen) (read_from s next)) (sym z)
    ∙ scan-cons w rank at seen r (read_from s next)
    ∙ ap (scan_of w rank at seen) (sym h.reads)

pub scan-end : (w : RefName) (rank at : ℕ) (seen : Seen) (x : Answer (List Ref)) → x ≡ accepted [] → Ok seen ≡ scan_of w rank at seen x
unfolding scan_of walk
scan-end w rank at seen x e = rw e refl

pub scan-fault : (w : RefName) (rank at n : ℕ) (seen : Seen) (x : Answer (List Ref)) → x ≡ refused n → denied n ≡ scan_of w rank at seen x
unfolding scan_of
scan-fault w rank at n seen x e = rw e refl

-- ---- behind the wanted one

pub hit-stays : (w : RefName) (rank start : ℕ) (f : Found) (refs : List Ref) → walk w rank start (Hit f) refs ≡ Hit f
unfolding walk noted
hit-stays w rank start f [] = refl
hit-stays w rank start f (r ∷ refs) = hit-stays w rank (start + ref_size_of r) f refs

pub late-stays : (w : RefName) (rank start g : ℕ) (f : Found) (refs : List Ref) → walk w rank start (Late g f) refs ≡ Late g f
unfolding walk noted
late-stays w rank start g f [] = refl
late-stays w rank start g f (r ∷ refs) = late-stays w rank (start + ref_size_of r) g f refs

rest-cons : (r : Ref) (x : Answer (List Ref)) → rest_of x ≡ rest_of (bind x (λ refs. accepted (r ∷ refs)))
unfolding rest_of bind
rest-cons r (refused refusal) = refl
rest-cons r absent = refl
rest-cons r remove = refl
rest-cons r (accepted refs) = refl

pub rest-step : (at k p n q next : ℕ) (s : List ℕ) → At s at k p n q next → rest_of (read_from s next) ≡ rest_of (read_from s at)
rest-step at k p n q next s h = rest-cons (ref_at k (drop p s)) (read_from s next) ∙ ap rest_of (sym h.reads)

pub rest_end : (x : Answer (List Ref)) → x ≡ accepted [] → Ok tt ≡ rest_of x
unfolding rest_of
rest_end x e = rw e refl

pub rest-fault : (n : ℕ) (x : Answer (List Ref)) → x ≡ refused n → denied n ≡ rest_of x
unfolding rest_of
rest-fault n x e = rw e refl

-- what is noted stays, so the rest decides
abbrev Settled : Seen → Result (Unit {0}) Refusal → Result Seen Refusal
Settled seen (Ok clean) = Ok seen
Settled seen (Err refusal) = Err refusal

settled : (w : RefName) (rank at : ℕ) (seen : Seen) → ((refs : List Ref) → walk w rank at seen refs ≡ seen)
    → (x : Answer (List Ref)) → Settled seen (rest_of x) ≡ scan_of w rank at seen x
unfolding rest_of scan_of
settled w rank at seen stays (refused refusal) = refl
settled w rank at seen stays absent = refl
settled w rank at seen stays remove = refl
settled w rank at seen stays (accepted refs) = ap Ok (sym (stays refs))

pub rest-hit : (w : RefName) (rank at : ℕ) (f : Found) (r : Result (Unit {0}) Refusal) (x : Answer (List Ref)) → r ≡ rest_of x → Settled (Hit f) r ≡ scan_of w rank at (Hit f) x
rest-hit w rank at f r x e = ap (Settled (Hit f)) e ∙ settled w rank at (Hit f) (hit-stays w rank at f) x

pub rest-late : (w : RefName) (rank at g : ℕ) (f : Found) (r : Result (Unit {0}) Refusal) (x : Answer (List Ref)) → r ≡ rest_of x
    → Settled (Late g f) r ≡ scan_of w rank at (Late g f) x
rest-late w rank at g f r x e = ap (Settled (Late g f)) e ∙ settled w rank at (Late g f) (late-stays w rank at g f) x

-- ---- where the references start

module _ (type flags : ℕ) (s : List ℕ) (e : flags ≡ le (part 16 8 s)) where
  pub start-block : type ≡ 168 → flags / 2 % 2 ≡ 1 → 42 ≡ start_of type s
  unfolding start_of flags_of
  start-block h k = simp (eq-eqb _ _ h, ← e, eq-eqb _ _ k)

  pub start-data : type ≡ 168 → (flags / 2 % 2 ≡ 1 → ⊥) → 24 ≡ start_of type s
  unfolding start_of flags_of
  start-data h k = simp (eq-eqb _ _ h, ← e, ne_eqb _ _ k)

pub start-other : (type : ℕ) (s : List ℕ) → (type ≡ 168 → ⊥) → 24 ≡ start_of type s
unfolding start_of
start-other type s h = simp (ne_eqb _ _ h)

module _ (type : ℕ) (s : List ℕ) where
  pub open-long : 65535 < length s → denied 3 ≡ open_of type s
  unfolding open_of body_fits
  open-long h = simp (lt-leb _ _ h)

  module _ (fits : length s ≤ 65535) where
    pub open-short : length s < 24 → denied 6 ≡ open_of type s
    unfolding open_of body_fits
    open-short h = simp (le-leb _ _ fits, lt-leb _ _ h)

    module _ (long : 24 ≤ length s) (start : ℕ) (e : start ≡ start_of type s) where
      pub open-cut : length s < start → denied 6 ≡ open_of type s
      unfolding open_of body_fits
      open-cut h = simp (le-leb _ _ fits, le-leb _ _ long, ← e, lt-leb _ _ h)

      pub open-from : start ≤ length s → Ok start ≡ open_of type s
      unfolding open_of body_fits
      open-from h = simp (le-leb _ _ fits, le-leb _ _ long, ← e, le-leb _ _ h)

-- ---- what an open body says of the reading

-- a call that looks at the references alone
pub on-refs : {A : Type 0} (type : ℕ) (s : List ℕ) (f : List Ref → Answer A) → on_body type s (λ b. f b.refs) ≡ bind (refs_in type s) f
unfolding refs_in on_body ask bind
on-refs {A} type s f = go (body_fits s) (read_body type s)
  where
    go : (t : Bool) (x : Answer Body) → ask t 3 (bind x (λ b. f b.refs)) ≡ bind (ask t 3 (bind x (λ b. accepted b.refs))) f
    go false x = refl
    go true (refused refusal) = refl
    go true absent = refl
    go true remove = refl
    go true (accepted b) = refl

pub record Opens (type : ℕ) (s : List ℕ) (start : ℕ) : Type 0 where
  pub at : start ≡ start_of type s
  pub fits : length s ≤ 65535
  pub long : 24 ≤ length s
  pub inside : start ≤ length s
  pub reads : refs_in type s ≡ read_from s start

abbrev pub Opened : ℕ → List ℕ → Result ℕ Refusal → Type 0
Opened type s (Ok start) = Opens type s start
Opened type s (Err refusal) = refs_in type s ≡ refused refusal.number

abbrev made : ℕ → List ℕ → List Ref → Body
made total fixed refs = record { total = total; fixed = fixed; refs = refs }

refs-again : (x : Answer (List Ref)) (total : ℕ) (fixed : List ℕ)
    → bind (bind x (λ refs. accepted (made total fixed refs))) (λ b. accepted b.refs) ≡ x
unfolding bind
refs-again (refused refusal) total fixed = refl
refs-again absent total fixed = refl
refs-again remove total fixed = refl
refs-again (accepted refs) total fixed = refl

pub opened : (type : ℕ) (s : List ℕ) → Opened type s (open_of type s)
unfolding open_of refs_in on_body read_body ask bind read_from body_fits
opened type s =
    let st : ℕ = start_of type s in
    by-test (leb (length s) 65535)
    (λ a. rw a
    (by-test (leb 24 (length s))
    (λ b. rw b
    (by-test (leb (start_of type s) (length s))
    (λ d. rw d
    let z : length (drop st s) ≤ length s = rw length-drop (omega arith) in
    record {
      at = refl;
      fits = leb-true _ _ a;
      long = leb-true _ _ b;
      inside = leb-true _ _ d;
      reads = rw (a, b, d) (refs-again (read_refs (length s) (drop st s)) _ _
          ∙ read_refs-enough (length s) (length (drop st s)) (drop st s) z (le_refl (length (drop st s))));
    })
    (λ d. rw d (rw (a, b, d) refl))))
    (λ b. rw b (rw (a, b) refl))))
    (λ a. rw a (rw a refl))

pub opens : (type : ℕ) (s : List ℕ) (r : Result ℕ Refusal) → r ≡ open_of type s → Opened type s r
opens type s r e = subst (Opened type s) (sym e) (opened type s)

-- a scan from where the references start is the scan of the body
module _ (type : ℕ) (s : List ℕ) (w : RefName) (rank : ℕ) where
  pub scan-opened : (start : ℕ) {scan : Result Seen Refusal} → Ok start ≡ open_of type s → scan ≡ scan_of w rank start (Open false) (read_from s start)
      → scan ≡ scan_of w rank (start_of type s) (Open false) (refs_in type s)
  scan-opened start o e =
      let w₁ = opens type s _ o in
      e ∙ ap₂ (λ (at : ℕ) (x : Answer (List Ref)). scan_of w rank at (Open false) x) w₁.at (sym w₁.reads)

  pub scan-shut : (n : ℕ) → denied n ≡ open_of type s → denied n ≡ scan_of w rank (start_of type s) (Open false) (refs_in type s)
  scan-shut n o = scan-fault w rank _ n _ _ (opens type s _ o)

-- ---- a name's own place

-- a scan by a place that is the name's own
pub by_rank : (w : RefName) {rank : ℕ} (start : ℕ) (x : Answer (List Ref)) {scan : Result Seen Refusal} → rank ≡ rank_of (kind_of w) (fields_of w)
    → scan ≡ scan_of w rank start (Open false) x → scan ≡ scan_of w (rank_of (kind_of w) (fields_of w)) start (Open false) x
by_rank w start x h e = e ∙ ap (λ (r : ℕ). scan_of w r start (Open false) x) h

pub known-ranked : (w : RefName) {known : Option Ranked} {ranked : Ranked} → KnownFor w known → known ≡ Some ranked → RankedFor w ranked
known-ranked w h e = subst (KnownFor w) e h
