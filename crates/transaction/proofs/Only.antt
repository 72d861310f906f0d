-- Laws of held_only_by, one for each way out. Assumes nothing.
use mathlib.Core.Path.{◌≡◌, refl, sym, ap, ◌∙◌, subst}
use mathlib.Core.Bool.{Bool, false, ◌&&◌, and_assoc}
use mathlib.Core.List.{List, [], ◌∷◌}
use Prim.Native.Nat.{ℕ, ◌≤◌}
use native.Mathlib.Nat.{le_refl}
use native.Mathlib.Omega.{arith}
use lib.Dec.{eqb}
use lib.ListN.{length, take, drop, length-drop}
use borrow.Author.Tests.{eq-eqb, ne_eqb, le-leb}
use Rattle.std.specs.Prelude.{Ok}
use Rattle.fields.specs.Lists.{all}
use Rattle.fields.specs.Numbers.{le}
use Rattle.fields.specs.Parts.{part}
use Rattle.fields.proofs.Lists.{by-test, and-false}
use Rattle.format.specs.Questions.{Answer, refused, absent, remove, accepted, ask, bind, told_of}
use Rattle.format.specs.References.{Ref, Body, total_of, flags_of, start_of, read_refs, read_body}
use Rattle.format.specs.Bodies.{body_fits, on_body, held_by, held_only_by}
use Rattle.format.proofs.Answers.{refused-not}
use Rattle.format.proofs.Refs.{read_refs-enough}
use Rattle.inline_refs.specs.Steps.{read_from}
use Rattle.inline_refs.specs.Scans.{refs_in}
use Rattle.inline_refs.proofs.Notes.{Opens}
use Rattle.transaction.specs.Held.{all_of, adds_at, is_of_file, is_ours, is_once, is_counted, agrees, held_in}

pub at-total : (d : List ℕ) (n : ℕ) → n ≡ le (part 0 8 d) → n ≡ total_of d
unfolding total_of
at-total d n e = e

pub at-flags : (d : List ℕ) (n : ℕ) → n ≡ le (part 16 8 d) → n ≡ flags_of d
unfolding flags_of
at-flags d n e = e

-- ---- the total, the flags, and references that are not all of the file

module _ (root ino : ℕ) (offsets : List ℕ) where
  all-not : (refs : List Ref) → all (is_of_file root ino) refs ≡ false → all (is_ours root ino offsets) refs ≡ false
  unfolding is_ours
  all-not [] e = e
  all-not (r ∷ refs) e =
      by-test (is_of_file root ino r)
      (λ y. ap (λ (b : Bool). is_ours root ino offsets r && b) (all-not refs (simp y at e)) ∙ and-false (is_ours root ino offsets r))
      (λ y. rw y refl)

  agrees-not : (x : Answer (List Ref)) → all_of (is_of_file root ino) x ≡ false → false ≡ agrees root ino offsets x
  unfolding all_of agrees
  agrees-not (refused refusal) e = refl
  agrees-not absent e = refl
  agrees-not remove e = refl
  agrees-not (accepted refs) e = rw (all-not refs e) refl

  module _ (total flags : ℕ) (x : Answer (List Ref)) where
    pub held-total : (total ≡ length offsets → ⊥) → false ≡ held_in root ino offsets total flags x
    unfolding held_in
    held-total h = simp (ne_eqb _ _ h)

    module _ (h : total ≡ length offsets) where
      pub held-flags : (flags ≡ 1 → ⊥) → false ≡ held_in root ino offsets total flags x
      unfolding held_in
      held-flags g = simp (eq-eqb _ _ h, ne_eqb _ _ g)

      module _ (g : flags ≡ 1) where
        pub held-agrees : (b : Bool) → b ≡ agrees root ino offsets x → b ≡ held_in root ino offsets total flags x
        unfolding held_in
        held-agrees b e = e ∙ simp (eq-eqb _ _ h, eq-eqb _ _ g)

        pub held-not : all_of (is_of_file root ino) x ≡ false → false ≡ held_in root ino offsets total flags x
        held-not f = held-agrees false (agrees-not x f)

-- ---- from the reading to the body

module _ (root ino : ℕ) (offsets : List ℕ) (flags : ℕ) where
  held-body : (total : ℕ) (fixed : List ℕ) (x : Answer (List Ref)) → held_in root ino offsets total flags x
      ≡ held_by root ino offsets flags (bind x (λ refs. accepted (record { total = total; fixed = fixed; refs = refs })))
  unfolding held_in agrees held_by bind adds_at is_of_file is_ours is_once is_counted
  held-body total fixed (refused refusal) = and-false (eqb total (length offsets) && eqb flags 1)
  held-body total fixed absent = and-false (eqb total (length offsets) && eqb flags 1)
  held-body total fixed remove = and-false (eqb total (length offsets) && eqb flags 1)
  held-body total fixed (accepted refs) = sym (simp and_assoc)

  not-read : (d : List ℕ) (n : ℕ) (y : Answer Body) → length d ≤ 65535
      → ask (body_fits d) 3 (bind y (λ b. accepted b.refs)) ≡ refused n → false ≡ held_by root ino offsets flags y
  unfolding held_by bind ask body_fits
  not-read d n (refused refusal) h e = refl
  not-read d n absent h e = refl
  not-read d n remove h e = refl
  not-read d n (accepted b) h e = refused-not (sym (rw (le-leb _ _ h) at e))

reads-body : (d : List ℕ) (start : ℕ) → Opens 168 d start
    → bind (read_from d start) (λ refs. accepted (record { total = total_of d; fixed = drop 8 (take (start_of 168 d) d); refs = refs })) ≡ read_body 168 d
unfolding read_body ask read_from
reads-body d start o =
    let inside : start_of 168 d ≤ length d = subst (λ m. m ≤ length d) o.at o.inside in
    let z : length (drop start d) ≤ length d = rw length-drop (omega arith) in
    let e : read_refs (length (drop start d)) (drop start d) ≡ read_refs (length d) (drop (start_of 168 d) d) =
    read_refs-enough (length (drop start d)) (length d) (drop start d) (le_refl (length (drop start d))) z
    ∙ ap (λ (m : ℕ). read_refs (length d) (drop m d)) o.at in
    rw (le-leb 24 (length d) o.long, le-leb (start_of 168 d) (length d) inside)
    (ap (λ (x : Answer (List Ref)). bind x (λ refs. accepted (record { total = total_of d; fixed = drop 8 (take (start_of 168 d) d); refs = refs }))) e)

module _ (d : List ℕ) (root ino : ℕ) (offsets : List ℕ) where
  module _ (fits : length d ≤ 65535) where
    module _ (few : length offsets ≤ 4096) where
      only-is : (b : Bool) → b ≡ held_by root ino offsets (flags_of d) (read_body 168 d) → Ok b ≡ told_of (held_only_by d root ino offsets)
      unfolding told_of held_only_by ask body_fits
      only-is b e = simp (le-leb _ _ fits, le-leb _ _ few, e)

      pub only-shut : (n : ℕ) → refs_in 168 d ≡ refused n → Ok false ≡ told_of (held_only_by d root ino offsets)
      unfolding refs_in on_body
      only-shut n e = only-is false (not-read root ino offsets (flags_of d) d n (read_body 168 d) fits e)

      pub only-held : (b : Bool) (start : ℕ) → Opens 168 d start → b ≡ held_in root ino offsets (total_of d) (flags_of d) (read_from d start)
          → Ok b ≡ told_of (held_only_by d root ino offsets)
      only-held b start o e =
          only-is b (e ∙ held-body root ino offsets (flags_of d) (total_of d) (drop 8 (take (start_of 168 d) d)) (read_from d start)
          ∙ ap (held_by root ino offsets (flags_of d)) (reads-body d start o))
