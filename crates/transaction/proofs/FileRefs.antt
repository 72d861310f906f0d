-- Laws of references read one after the other: whether each is one of a file, and that those of a file stand side by side.
-- Assumes nothing.
use mathlib.Core.Path.{◌≡◌, refl, sym, ap, ◌∙◌, subst}
use mathlib.Core.Bool.{Bool, true, false, ◌&&◌}
use mathlib.Core.List.{List, [], ◌∷◌, ◌++◌, append-nil}
use Prim.Native.Nat.{ℕ, ◌+◌, ◌*◌, ◌≤◌}
use native.Mathlib.Numerals.{add-one}
use native.Mathlib.Omega.{arith}
use lib.Dec.{T, eqb}
use lib.ListN.{length, drop}
use lib.Seq.{append_snoc}
use borrow.Author.Tests.{eq-eqb, ne_eqb, eqb-true}
use Rattle.std.specs.Prelude.{Option as Maybe, Some, None, Result, Ok, Err}
use Rattle.std.specs.Result.{result_ok}
use Rattle.fields.specs.Lists.{same}
use Rattle.fields.specs.Numbers.{le}
use Rattle.fields.specs.Parts.{part}
use Rattle.fields.proofs.Lists.{by-test, and-true, and-false, eqb_same}
use Rattle.format.specs.declared.Refusal.{Refusal}
use Rattle.format.specs.Questions.{Answer, refused, absent, remove, accepted, bind}
use Rattle.format.specs.References.{row_in, count_position, counted, field_count, Ref, ref_at}
use Rattle.format.specs.Bodies.{named}
use Rattle.inline_refs.specs.Steps.{read_from}
use Rattle.inline_refs.proofs.Steps.{At}
use Rattle.inline_refs.proofs.Tests.{triple-words}
use Rattle.data_refs.specs.Triples.{triple_size}
use Rattle.transaction.specs.Held.{all_of, is_of_file, file_ref, file_refs, SideBySide}

-- ---- one reference

pub of-file-kind : (root ino k : ℕ) (l : List ℕ) → is_of_file root ino (ref_at k l) ≡ true → k ≡ 178
unfolding is_of_file named ref_at
of-file-kind root ino k l e =
    by-test (eqb k 178) (λ y. eqb-true _ _ y) (λ y. let z : false ≡ true = simp y at e in absurd (subst T (sym z) tt))

pub of-other-kind : (root ino k : ℕ) (l : List ℕ) → (k ≡ 178 → ⊥) → false ≡ is_of_file root ino (ref_at k l)
unfolding is_of_file named ref_at
of-other-kind root ino k l h = simp (ne_eqb _ _ h)

module _ (root ino k p : ℕ) (s : List ℕ) (e : k ≡ 178) (a : ℕ) (q : a ≡ le (part p 8 s)) where
  of-file-is : is_of_file root ino (ref_at k (drop p s)) ≡ eqb a root && eqb (le (part (p + 8) 8 s)) ino
  unfolding is_of_file named ref_at field_count counted count_position row_in same
  of-file-is = rw (e, triple-words p s, eqb_same (le (part (p + 16) 8 s)), ← q, and-true) refl

  pub of-other-root : (a ≡ root → ⊥) → false ≡ is_of_file root ino (ref_at k (drop p s))
  of-other-root h = sym (of-file-is ∙ rw (ne_eqb _ _ h) refl)

  pub of-file : (b : ℕ) → b ≡ le (part (p + 8) 8 s) → a ≡ root → eqb b ino ≡ is_of_file root ino (ref_at k (drop p s))
  of-file b z h = sym (of-file-is ∙ rw (eq-eqb _ _ h, ← z) refl)

-- ---- a step of the reading, its end, and where it stops

module _ (m : Ref → Bool) where
  all_more : (r : Ref) (x : Answer (List Ref)) → all_of m (bind x (λ refs. accepted (r ∷ refs))) ≡ m r && all_of m x
  unfolding all_of bind
  all_more r (refused refusal) = sym (and-false (m r))
  all_more r absent = sym (and-false (m r))
  all_more r remove = sym (and-false (m r))
  all_more r (accepted refs) = refl

  module _ (s : List ℕ) (at k p n q next : ℕ) (h : At s at k p n q next) (b : Bool) (e : b ≡ m (ref_at k (drop p s))) where
    all_here : b && all_of m (read_from s next) ≡ all_of m (read_from s at)
    all_here =
        ap (λ (y : Bool). y && all_of m (read_from s next)) e
        ∙ sym (ap (all_of m) h.reads ∙ all_more (ref_at k (drop p s)) (read_from s next))

    pub all-step : b ≡ true → all_of m (read_from s next) ≡ all_of m (read_from s at)
    all-step t = rw t at all_here

    pub all-no : b ≡ false → false ≡ all_of m (read_from s at)
    all-no f = rw f at all_here

  pub all_end : (x : Answer (List Ref)) → x ≡ accepted [] → true ≡ all_of m x
  unfolding all_of
  all_end x e = rw e refl

  pub all-fault : (x : Answer (List Ref)) (n : ℕ) → x ≡ refused n → false ≡ all_of m x
  unfolding all_of
  all-fault x n e = rw e refl

-- ---- a step that is read or stops the search

pub ok_some : {A : Type 0} (r : Result A Refusal) {o : Maybe A} {a : A} → o ≡ result_ok r → o ≡ Some a → r ≡ Ok a
ok_some (Ok b) {o} {a} e h = let f = sym e ∙ h in let p : b ≡ a = cc in ap Ok p
ok_some (Err x) e h = let f = sym e ∙ h in let z : ◌≡◌ {A = ℕ} 0 1 = cc in absurd (omega arith)

pub ok_none : {A : Type 0} (r : Result A Refusal) {o : Maybe A} → o ≡ result_ok r → o ≡ None → (x : Refusal) × (r ≡ Err x)
ok_none (Ok b) e h = let f = sym e ∙ h in let z : ◌≡◌ {A = ℕ} 0 1 = cc in absurd (omega arith)
ok_none (Err x) e h = (x, refl)

-- ---- references in front of what is read

abbrev pub behind : List Ref → Answer (List Ref) → Answer (List Ref)
behind front x = bind x (λ refs. accepted (front ++ refs))

behind-none : (x : Answer (List Ref)) → x ≡ behind [] x
unfolding bind
behind-none (refused refusal) = refl
behind-none absent = refl
behind-none remove = refl
behind-none (accepted refs) = refl

behind_more : (front : List Ref) (r : Ref) (x : Answer (List Ref)) → behind front (bind x (λ refs. accepted (r ∷ refs))) ≡ behind (front ++ (r ∷ [])) x
unfolding bind
behind_more front r (refused refusal) = refl
behind_more front r absent = refl
behind_more front r remove = refl
behind_more front r (accepted refs) = ap accepted (sym (append_snoc front r refs))

behind-end : (front : List Ref) → behind front (accepted []) ≡ accepted front
unfolding bind
behind-end front = ap accepted (append-nil front)

-- ---- a reading of n that stand side by side

pub record Passed (body : List ℕ) (from at n : ℕ) : Type 0 where
  pub reaches : at ≡ from + triple_size * n
  pub inside : at ≤ length body
  pub reads : read_from body from ≡ behind (file_refs body from n) (read_from body at)

module _ (body : List ℕ) (from : ℕ) where
  pub passed_none : from ≤ length body → Passed body from from 0
  unfolding file_refs
  passed_none h = record { reaches = omega arith; inside = h; reads = behind-none (read_from body from) }

  pub passed-more : (at n k p size q next : ℕ) → Passed body from at n → At body at k p size q next → k ≡ 178 → size ≡ 28 → Passed body from next (n + 1)
  unfolding file_refs file_ref
  passed-more at n k p size q next passed h e l =
      let z : p ≡ from + triple_size * n + 1 = h.start ∙ ap (λ (m : ℕ). m + 1) passed.reaches in
      let r : ref_at k (drop p body) ≡ file_ref body from n = (λ i. ref_at (e i) (drop (z i) body)) in
      record {
        reaches = omega (arith, h.further, passed.reaches, l);
        inside = h.within;
        reads =
            passed.reads
            ∙ ap (behind (file_refs body from n)) (h.reads ∙ ap (λ (s : Ref). bind (read_from body next) (λ refs. accepted (s ∷ refs))) r)
            ∙ behind_more (file_refs body from n) (file_ref body from n) (read_from body next)
            ∙ ap (λ (m : ℕ). behind (file_refs body from m) (read_from body next)) (sym (add-one n));
      }

  pub passed-all : (root ino at n : ℕ) → Passed body from at n → read_from body at ≡ accepted [] → true ≡ all_of (is_of_file root ino) (read_from body from) → SideBySide root ino body from n
  unfolding all_of
  passed-all root ino at n passed e t =
      let z : read_from body from ≡ accepted (file_refs body from n) =
      passed.reads ∙ ap (behind (file_refs body from n)) e ∙ behind-end (file_refs body from n) in
      record {
        inside = subst (λ (m : ℕ). m ≤ length body) passed.reaches passed.inside;
        reads = z;
        of_file = subst T (t ∙ ap (all_of (is_of_file root ino)) z) tt;
      }
