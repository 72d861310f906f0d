-- One step over the references of a body, and the references of one type among them. Assumes nothing.
use mathlib.Core.Path.{◌≡◌, refl, sym, ap, ◌∙◌, subst}
use mathlib.Core.Logic.{◌⊎◌, inl, inr}
use Prim.Native.Nat.{ℕ, ◌+◌, ◌*◌, ◌≤◌, ◌<◌}
use native.Mathlib.Nat.{suc-mul, zero-mul}
use native.Mathlib.Numerals.{add-one}
use native.Mathlib.Omega.{arith}
use mathlib.Core.Bool.{true}
use mathlib.Core.List.{List, [], ◌∷◌, ◌++◌, append_assoc}
use lib.Dec.{T, ltb, le→leb, lt→ltb}
use lib.ListN.{length, drop}
use mir.Facts.{yes_and, no_eqb}
use Rattle.fields.specs.Lists.{all}
use Rattle.fields.proofs.Lists.{all_both}
use Rattle.format.specs.Questions.{Answer, refused, accepted}
use Rattle.format.specs.References.{payload_length, Ref, ref_at}
use Rattle.format.proofs.Answers.{refused-not, accepted-inj, bind_ok}
use Rattle.std.specs.Prelude.{Option, None, Result, Ok, Err}
use Rattle.format.specs.declared.Refusal.{Refusal}
use Rattle.inline_refs.specs.declared.step.RefAt.{RefAt}
use Rattle.inline_refs.specs.Steps.{ref_step_at, read_from}
use Rattle.inline_refs.proofs.Steps.{At, ended, stopped}
use Rattle.balance.specs.Ranks.{span_refs, refs_read, refs_from, reached, left, Skips, CountsIn, payload_at}
use Rattle.balance.proofs.SideBySide.{span-snoc}

pub mul_next : (n k : ℕ) → (n + 1) * k ≡ n * k + k
mul_next n k = ap (λ (m : ℕ). m * k) (add-one n) ∙ suc-mul n k

-- ---- a step where all references read

pub read_is : (body : List ℕ) (at : ℕ) (refs : List Ref) → read_from body at ≡ accepted refs → read_from body at ≡ accepted (refs_from body at)
unfolding refs_read
read_is body at refs e = e ∙ sym (ap (λ (a : Answer (List Ref)). accepted (refs_read a)) e)

pub record More (body : List ℕ) (at k p next : ℕ) : Type 0 where
  pub same : refs_from body at ≡ ref_at k (drop p body) ∷ refs_from body next
  pub reads : read_from body next ≡ accepted (refs_from body next)

pub step-more : (body : List ℕ) (at k p n q next : ℕ) → read_from body at ≡ accepted (refs_from body at) → At body at k p n q next → More body at k p next
unfolding refs_read
step-more body at k p n q next r h =
    let b = bind_ok (read_from body next) (λ refs. accepted (ref_at k (drop p body) ∷ refs)) (sym h.reads ∙ r) in
    let e : refs_from body next ≡ b.0 = ap refs_read b.1 in
    record { same = sym (accepted-inj b.2) ∙ ap (λ (l : List Ref). ref_at k (drop p body) ∷ l) (sym e); reads = b.1 ∙ ap accepted (sym e) }

pub step_end : (body : List ℕ) (at : ℕ) → read_from body at ≡ accepted [] → refs_from body at ≡ []
unfolding refs_read
step_end body at e = ap refs_read e

pub step-never : (body : List ℕ) (at refusal : ℕ) → read_from body at ≡ accepted (refs_from body at) → read_from body at ≡ refused refusal → ⊥
step-never body at number r e = refused-not (sym e ∙ r)

-- the same from what a step says, where all read
pub step_over : (body : List ℕ) (at : ℕ) {r : Result (Option RefAt) Refusal} → r ≡ ref_step_at body at → (r ≡ Ok None) ⊎ ((y : Refusal) × (r ≡ Err y))
    → read_from body at ≡ accepted (refs_from body at) → refs_from body at ≡ []
step_over body at e (inl h) k = step_end body at (ended body at e h refl)
step_over body at e (inr h) k = absurd (step-never body at _ k (stopped body at e h.1))

-- ---- the walk to the first of a type

module _ (body : List ℕ) (start kind at : ℕ) where
  pub record Skipping : Type 0 where
    pub front : List Ref
    pub same : refs_from body start ≡ front ++ refs_from body at
    pub lower : T (all (λ r. ltb r.kind kind) front)
    pub reads : read_from body at ≡ accepted (refs_from body at)
    pub inside : at ≤ length body

  pub skip-here : Skipping → T (reached kind (refs_from body at)) → Skips body start kind at
  skip-here s t = record { front = s.front; same = s.same; lower = s.lower; first = t; reads = s.reads; inside = s.inside }

  pub skip-end : Skipping → refs_from body at ≡ [] → Skips body start kind at
  skip-end s e = skip-here s (subst (λ (l : List Ref). T (reached kind l)) (sym e) tt)

  module _ (k p n q next : ℕ) (s : Skipping) (h : At body at k p n q next) where
    pub skip_stop : kind ≤ k → Skips body start kind at
    unfolding ref_at
    skip_stop l =
        skip-here s (subst (λ (l : List Ref). T (reached kind l)) (sym (step-more body at k p n q next s.reads h).same) (le→leb kind k l))

pub skip-next : (body : List ℕ) (start kind at k p n q next : ℕ) → Skipping body start kind at → At body at k p n q next → k < kind → Skipping body start kind next
unfolding ref_at
skip-next body start kind at k p n q next s h l =
    let m = step-more body at k p n q next s.reads h in
    let r : Ref = ref_at k (drop p body) in
    record {
      front = s.front ++ r ∷ [];
      same = s.same ∙ ap (λ (l : List Ref). s.front ++ l) m.same ∙ sym (append_assoc s.front (r ∷ []) (refs_from body next));
      lower = all_both (λ r. ltb r.kind kind) s.front (r ∷ []) s.lower (yes_and (ltb k kind) true (lt→ltb k kind l) tt);
      reads = m.reads;
      inside = h.within;
    }

-- ---- the walk over those of a type

module _ (body : List ℕ) (from kind : ℕ) where
  pub record Counting (at n : ℕ) : Type 0 where
    pub same : refs_from body from ≡ span_refs kind body from n ++ refs_from body at
    pub where-at : at ≡ from + n * (1 + payload_length kind)
    pub reads : read_from body at ≡ accepted (refs_from body at)
    pub inside : at ≤ length body
    pub few : n ≤ at

  pub count-start : read_from body from ≡ accepted (refs_from body from) → from ≤ length body → Counting from 0
  unfolding span_refs
  count-start r i = record { same = refl; where-at = rw (zero-mul (1 + payload_length kind)) (omega arith); reads = r; inside = i; few = omega arith }

  pub count-end : (at n : ℕ) → Counting at n → T (left kind (refs_from body at)) → CountsIn body from kind n
  count-end at n c t = record { rest = refs_from body at; same = c.same; last = t; inside = subst (λ (m : ℕ). m ≤ length body) c.where-at c.inside }

  pub count-stop : (at n k p size q next : ℕ) → Counting at n → At body at k p size q next → (k ≡ kind → ⊥) → CountsIn body from kind n
  unfolding ref_at
  count-stop at n k p size q next c h ne =
      count-end at n c (subst (λ (l : List Ref). T (left kind l)) (sym (step-more body at k p size q next c.reads h).same) (no_eqb ne))

  pub count-over : (at n : ℕ) → Counting at n → refs_from body at ≡ [] → CountsIn body from kind n
  count-over at n c e = count-end at n c (subst (λ (l : List Ref). T (left kind l)) (sym e) tt)

  pub count_next : (at n k p size q next : ℕ) → Counting at n → At body at k p size q next → k ≡ kind → Counting next (n + 1)
  count_next at n k p size q next c h e =
      let m = step-more body at k p size q next c.reads h in
      let u : payload_at kind from n ≡ p = omega (arith, c.where-at, h.start) in
      let r : ref_at kind (drop (payload_at kind from n) body) ≡ ref_at k (drop p body) = (λ i. ref_at (sym e i) (drop (u i) body)) in
      record {
        same = c.same ∙ ap (λ (l : List Ref). span_refs kind body from n ++ l) (m.same ∙ ap (λ (x : Ref). x ∷ refs_from body next) (sym r))
            ∙ sym (append_assoc (span_refs kind body from n) (ref_at kind (drop (payload_at kind from n) body) ∷ []) (refs_from body next))
            ∙ ap (λ (l : List Ref). l ++ refs_from body next) (sym (span-snoc kind body from n));
        where-at =
            let z : size ≡ payload_length kind = h.long ∙ ap payload_length e in
            omega (arith, c.where-at, h.further, mul_next n (1 + payload_length kind));
        reads = m.reads;
        inside = h.within;
        few = omega (arith, c.few, h.further);
      }
