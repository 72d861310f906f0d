-- Laws of one step of the reader: a search of the table, and what a step says of the reading from there. Assumes nothing.
use mathlib.Core.Path.{◌≡◌, refl, sym, ap, ap₂, subst, ◌∙◌}
use mathlib.Core.Bool.{true}
use mathlib.Core.List.{List, [], ◌∷◌}
use Prim.Native.Nat.{ℕ, zero, suc, ◌+◌, ◌-◌, ◌≤◌, ◌<◌}
use native.Mathlib.Numerals.{add-one}
use native.Mathlib.Omega.{arith}
use lib.Dec.{T, leb, ltb}
use lib.ListN.{length, drop, get_or, length-drop, drop_of_length-le}
use lib.Seq.{drop-cons, drop-drop}
use borrow.Author.Tests.{eq-eqb, ne_eqb, le-leb, lt-leb, lt-ltb, le-ltb, ltb-true, ltb-false}
use Rattle.fields.proofs.Lists.{by-test}
use Rattle.format.specs.Questions.{refused, accepted, ask, bind}
use Rattle.format.specs.References.{kinds, row_in, known, payload_length, count_position, ref_at, read_refs}
use Rattle.format.proofs.Refs.{read_refs-nil, read_refs-cons}
use Rattle.std.specs.Prelude.{Option, Some, None, Result, Ok, Err}
use Rattle.format.specs.declared.Refusal.{Refusal}
use Rattle.format.specs.Questions.{denied}
use Rattle.inline_refs.specs.declared.kinds.Lengths.{Lengths}
use Rattle.inline_refs.specs.declared.step.RefAt.{RefAt}
use Rattle.inline_refs.specs.Steps.{row_from, step_row, ref_step_at, read_from}

-- ---- a search of the table

module _ (t : List (List ℕ)) (i k : ℕ) (h : i < length t) where
  pub row-hit : (row : List ℕ) → row ≡ get_or t i [] → get_or row 0 0 ≡ k → row_in (drop i t) k ≡ row
  unfolding row_in
  row-hit row e q = rw (drop-cons t i [], ← e) (simp (eq-eqb _ _ q))

  pub row-miss : (row : List ℕ) → row ≡ get_or t i [] → (get_or row 0 0 ≡ k → ⊥) → row_in (drop (i + 1) t) k ≡ row_in (drop i t) k
  unfolding row_in
  row-miss row e q = rw (add-one, drop-cons t i [], ← e) (simp (ne_eqb _ _ q))

row-long : (i : ℕ) → i < 5 → length (get_or kinds i []) ≡ 3
row-long zero h = refl
row-long (suc zero) h = refl
row-long (suc (suc zero)) h = refl
row-long (suc (suc (suc zero))) h = refl
row-long (suc (suc (suc (suc zero)))) h = refl
row-long (suc (suc (suc (suc (suc i))))) h = absurd (omega arith)

abbrev row : ℕ → ℕ → Option Lengths
row size count = Some (record { payload = size; count = count })

row-from : (l : List ℕ) → length l ≡ 3 → row (get_or l 1 0) (get_or l 2 0) ≡ row_from l
unfolding row_from
row-from [] e = absurd (omega arith)
row-from (kind ∷ l) e = refl

-- the row that a search stops at
pub row-found : (t : List (List ℕ)) (i k size count : ℕ) → t ≡ kinds → i < 5 → get_or (get_or t i []) 0 0 ≡ k
    → row_in (drop i kinds) k ≡ row_in kinds k → size ≡ get_or (get_or t i []) 1 0 → count ≡ get_or (get_or t i []) 2 0
    → row size count ≡ row_from (row_in kinds k)
row-found t i k size count e h q inv e₁ e₂ =
    let same : get_or t i [] ≡ get_or kinds i [] = ap (λ (l : List (List ℕ)). get_or l i []) e in
    let n : length (get_or t i []) ≡ 3 = ap length same ∙ row-long i h in
    ap₂ row e₁ e₂ ∙ row-from (get_or t i []) n ∙ ap row_from (sym (row-hit kinds i k h (get_or t i []) same q) ∙ inv)

-- ---- a step over a kind whose lengths are at hand

row-with : (l : List ℕ) (size count : ℕ) → T (leb 1 (length l)) → size ≡ get_or l 1 0 → count ≡ get_or l 2 0 → row_from l ≡ row size count
unfolding row_from
row-with [] size count t e₁ e₂ = absurd t
row-with (kind ∷ l) size count t e₁ e₂ = sym (ap₂ row e₁ e₂)

module _ (s : List ℕ) (at k size count : ℕ) (inside : at < length s) (is : get_or s at 0 ≡ k) (t : T (known k)) (long : size ≡ payload_length k) (count_at : count ≡ count_position k) where
  row_here : row_from (row_in kinds k) ≡ row size count
  unfolding known payload_length count_position
  row_here = row-with (row_in kinds k) size count t long count_at

  pub step_cut : length s - (at + 1) < size → denied 8 ≡ ref_step_at s at
  unfolding ref_step_at step_row
  step_cut h = simp (lt-ltb _ _ inside, is, row_here, lt-ltb _ _ h)

  pub step-whole : size ≤ length s - (at + 1)
      → Ok (Some (record { kind = k; start = at + 1; size = size; count = count; next = record { at = at + 1 + size } })) ≡ ref_step_at s at
  unfolding ref_step_at step_row
  step-whole h = simp (lt-ltb _ _ inside, is, row_here, le-ltb _ _ h)

-- ---- a step, and the reading from there

pub record At (s : List ℕ) (at k p n q next : ℕ) : Type 0 where
  pub inside : at < length s
  pub start : p ≡ at + 1
  pub further : next ≡ at + 1 + n
  pub within : next ≤ length s
  pub kind_known : T (known k)
  pub long : n ≡ payload_length k
  pub count_at : q ≡ count_position k
  pub reads : read_from s at ≡ bind (read_from s next) (λ refs. accepted (ref_at k (drop p s) ∷ refs))

-- a reference that was stepped over ends within the body
pub ends-within : (s : List ℕ) (at k p n q next : ℕ) → At s at k p n q next → p + payload_length k ≤ length s
ends-within s at k p n q next h = omega (arith, h.start, h.further, h.within, h.long)

abbrev pub View : List ℕ → ℕ → Result (Option RefAt) Refusal → Type 0
View s at (Ok (Some r)) = At s at r.kind r.start r.size r.count r.next.at
View s at (Ok None) = read_from s at ≡ accepted []
View s at (Err e) = read_from s at ≡ refused e.number

-- the reading at a type byte
reads_at : (s : List ℕ) (at : ℕ) → at < length s
    → read_from s at
    ≡ ask (known (get_or s at 0)) 7 (ask (leb (payload_length (get_or s at 0)) (length s - (at + 1))) 8
    (bind (read_from s (at + 1 + payload_length (get_or s at 0))) (λ refs. accepted (ref_at (get_or s at 0) (drop (at + 1) s) ∷ refs))))
unfolding read_from
reads_at s at h =
    let k : ℕ = get_or s at 0 in
    let n : ℕ = payload_length k in
    let e : drop at s ≡ k ∷ drop (at + 1) s = rw (add-one, drop-cons s at 0) in
    let d : drop n (drop (at + 1) s) ≡ drop (at + 1 + n) s = drop-drop n (at + 1) s in
    ap (λ (l : List ℕ). read_refs (length l) l) e
    ∙ read_refs-cons k (drop (at + 1) s)
    ∙ ap (λ (m : ℕ). ask (known k) 7 (ask (leb n m) 8 (bind (read_refs (length (drop n (drop (at + 1) s))) (drop n (drop (at + 1) s))) (λ refs. accepted (ref_at k (drop (at + 1) s) ∷ refs)))))
    (length-drop (at + 1) s)
    ∙ ap (λ (l : List ℕ). ask (known k) 7 (ask (leb n (length s - (at + 1))) 8 (bind (read_refs (length l) l) (λ refs. accepted (ref_at k (drop (at + 1) s) ∷ refs))))) d

view-row : (s : List ℕ) (at : ℕ) → at < length s → (row : List ℕ) → row ≡ row_in kinds (get_or s at 0)
    → View s at (step_row (row_from row) s at)
unfolding step_row row_from ask known payload_length count_position
view-row s at h [] e = reads_at s at h ∙ rw (← e)
view-row s at h (kind ∷ row) e =
    let k : ℕ = get_or s at 0 in
    let some : 1 ≤ length (kind ∷ row) = omega arith in
    let yes : known k ≡ true = rw (← e) (le-leb _ _ some) in
    let long : payload_length k ≡ get_or row 0 0 = rw (← e) in
    let count_at : count_position k ≡ get_or row 1 0 = rw (← e) in
    by-test (ltb (length s - (at + 1)) (get_or row 0 0))
    (λ y. rw y
    let less : length s - (at + 1) < get_or row 0 0 = ltb-true _ _ y in
    reads_at s at h ∙ simp (yes, long, lt-leb _ _ less))
    (λ y. rw y
    let fits : get_or row 0 0 ≤ length s - (at + 1) = ltb-false _ _ y in
    record {
      inside = h;
      start = refl;
      further = refl;
      within = omega arith;
      kind_known = rw yes tt;
      long = sym long;
      count_at = sym count_at;
      reads = reads_at s at h ∙ simp (yes, long, le-leb _ _ fits);
    })

pub view : (s : List ℕ) (at : ℕ) → View s at (ref_step_at s at)
unfolding ref_step_at read_from
view s at =
    by-test (ltb at (length s))
    (λ y. rw y (view-row s at (ltb-true _ _ y) (row_in kinds (get_or s at 0)) refl))
    (λ y. rw y (ap (λ (l : List ℕ). read_refs (length l) l) (drop_of_length-le s (ltb-false _ _ y)) ∙ read_refs-nil 0))

-- what a step found, by its case
pub seen : (s : List ℕ) (at : ℕ) (r : Result (Option RefAt) Refusal) → r ≡ ref_step_at s at → View s at r
seen s at r e = subst (View s at) (sym e) (view s at)

-- the same by the two cases that a loop over references tells apart, and at a fault
module _ (s : List ℕ) (at : ℕ) {r : Result (Option RefAt) Refusal} (e : r ≡ ref_step_at s at) where
  pub stepped : {o : Option RefAt} {x : RefAt} → r ≡ Ok o → o ≡ Some x → At s at x.kind x.start x.size x.count x.next.at
  stepped h k = seen s at (Ok (Some _)) (sym (h ∙ ap Ok k) ∙ e)

  pub ended : {o : Option RefAt} → r ≡ Ok o → o ≡ None → read_from s at ≡ accepted []
  ended h k = seen s at (Ok None) (sym (h ∙ ap Ok k) ∙ e)

  pub stopped : {x : Refusal} → r ≡ Err x → read_from s at ≡ refused x.number
  stopped h = seen s at (Err _) (sym h ∙ e)
