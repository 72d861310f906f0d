-- A walk along the chain of a triple finds a reference that has the triple, or shows that none has. Assumes nothing.
use mathlib.Core.Path.{◌≡◌, refl, sym, ap, ◌∙◌, subst}
use mathlib.Core.Logic.{◌⊎◌, inl, inr}
use mathlib.Core.Bool.{Bool, true, false}
use mathlib.Core.List.{List}
use Prim.Native.Nat.{ℕ, zero, suc, ◌+◌, ◌-◌, ◌≤◌, ◌<◌}
use native.Mathlib.Omega.{arith}
use lib.Dec.{T}
use lib.ListN.{length, get_or, set, replicate}
use lib.Seq.{get_or-set_same, get_or-set_other}
use Rattle.fields.specs.Lists.{same}
use Rattle.fields.proofs.Lists.{same-yes, lt-or}
use Rattle.data_refs.specs.Triples.{triple_of}
use Rattle.data_refs.specs.Chains.{Cleared, LeadsBack, Chained, Leading}

-- equal triples belong to one chain
apart_by : (chain : List ℕ → ℕ) (u t : List ℕ) (b : Bool) → (chain u ≡ chain t → ⊥) → same u t ≡ b → b ≡ false
apart_by chain u t true n e = absurd (n (ap chain (same-yes u t (subst T (sym e) tt))))
apart_by chain u t false n e = refl

apart : (chain : List ℕ → ℕ) (u t : List ℕ) → (chain u ≡ chain t → ⊥) → same u t ≡ false
apart chain u t n = apart_by chain u t (same u t) n refl

module _ (body : List ℕ) (from : ℕ) where
  abbrev here : ℕ → List ℕ
  here i = triple_of body from i

  -- ---- a walk

  pub first-leads : (chain : List ℕ → ℕ) (heads links : List ℕ) (i : ℕ) → Chained chain body from heads links i
      → (t : List ℕ) (c : ℕ) → c ≡ chain t → Leading body from links i (get_or heads c 0) t
  first-leads chain heads links i s t c is =
      let l = s.headed c in
      record {
        chain = chain;
        linked = s.linked;
        inside = l.inside;
        own = λ some. l.own some ∙ is;
        differ = λ j h k. apart chain (here j) t (λ e. l.none j h k (e ∙ sym is));
      }

  module _ (links : List ℕ) (i at : ℕ) (t : List ℕ) (w : Leading body from links i at t) where
    module _ (some : 0 < at) where
      lower : at - 1 < i
      lower = omega (arith, some, w.inside)

      link : LeadsBack w.chain body from (get_or links (at - 1) 0) (w.chain (here (at - 1))) (at - 1)
      link = w.linked.leads (at - 1) lower

      differ-on : (j : ℕ) → same (here (at - 1)) t ≡ false → get_or links (at - 1) 0 ≤ j → j < i → (j < at) ⊎ (at ≤ j) → (j < at - 1) ⊎ (at - 1 ≤ j) → same (here j) t ≡ false
      differ-on j n h k (inr a) o = w.differ j a k
      differ-on j n h k (inl b) (inl m) = apart w.chain (here j) t (λ e. link.none j h m (e ∙ sym (w.own some)))
      differ-on j n h k (inl b) (inr m) = let e : at - 1 ≡ j = omega (arith, b, m) in subst (λ (q : ℕ). same (here q) t ≡ false) e n

      pub walk-on : same (here (at - 1)) t ≡ false → Leading body from links i (get_or links (at - 1) 0) t
      walk-on n =
          record {
            chain = w.chain;
            linked = w.linked;
            inside = omega (arith, link.inside, lower);
            own = λ e. link.own e ∙ w.own some;
            differ = λ j h k. differ-on j n h k (lt-or j at) (lt-or j (at - 1));
          }

  -- ---- one more

  module _ (chain : List ℕ → ℕ) (heads links : List ℕ) (i : ℕ) (s : Chained chain body from heads links i) (c : ℕ) (is : c ≡ chain (here i)) where
    abbrev Link : List ℕ → ℕ → Type 0
    Link list p = LeadsBack chain body from (get_or list p 0) (chain (here p)) p

    abbrev Head : List ℕ → ℕ → Type 0
    Head list d = LeadsBack chain body from (get_or list d 0) d (i + 1)

    link-more : (p : ℕ) → i < length links → p < i + 1 → (p < i) ⊎ (i ≤ p) → Link (set links i (get_or heads c 0)) p
    link-more p r h (inl k) =
        let n : p ≡ i → ⊥ = (λ e. omega (arith, k, e)) in
        subst (λ (at : ℕ). LeadsBack chain body from at (chain (here p)) p) (sym (get_or-set_other links i p (get_or heads c 0) 0 n)) (s.linked.leads p k)
    link-more p r h (inr k) =
        let e : i ≡ p = omega (arith, h, k) in
        let first : LeadsBack chain body from (get_or heads c 0) (chain (here i)) i = subst (λ (d : ℕ). LeadsBack chain body from (get_or heads c 0) d i) is (s.headed c) in
        subst (Link (set links i (get_or heads c 0))) e
        (subst (λ (at : ℕ). LeadsBack chain body from at (chain (here i)) i) (sym (get_or-set_same links i (get_or heads c 0) 0 r)) first)

    -- the new reference heads its own chain
    own-head : LeadsBack chain body from (i + 1) c (i + 1)
    own-head =
        let q : i ≡ i + 1 - 1 = omega arith in
        record {
          inside = omega arith;
          own = λ l. subst (λ (k : ℕ). chain (here k) ≡ c) q (sym is);
          none = λ j h k e. absurd (omega (arith, h, k));
        }

    none_more : (d j : ℕ) → (d ≡ c → ⊥) → get_or heads d 0 ≤ j → j < i + 1 → (j < i) ⊎ (i ≤ j) → chain (here j) ≡ d → ⊥
    none_more d j n h k (inl m) e = (s.headed d).none j h m e
    none_more d j n h k (inr m) e = let q : i ≡ j = omega (arith, k, m) in n (sym (is ∙ ap (λ (x : ℕ). chain (here x)) q ∙ e))

    other-head : (d : ℕ) → (d ≡ c → ⊥) → Head (set heads c (i + 1)) d
    other-head d n =
        let l = s.headed d in
        subst (λ (at : ℕ). LeadsBack chain body from at d (i + 1)) (sym (get_or-set_other heads c d (i + 1) 0 n))
        (record { inside = omega (arith, l.inside); own = l.own; none = λ j h k. none_more d j n h k (lt-or j i) })

    head_more : (d : ℕ) → c < length heads → (d < c) ⊎ (c ≤ d) → (c < d) ⊎ (d ≤ c) → Head (set heads c (i + 1)) d
    head_more d r (inl k) o = other-head d (λ e. omega (arith, k, e))
    head_more d r (inr k) (inl m) = other-head d (λ e. omega (arith, m, e))
    head_more d r (inr k) (inr m) =
        let e : c ≡ d = omega (arith, k, m) in
        subst (Head (set heads c (i + 1))) e
        (subst (λ (at : ℕ). LeadsBack chain body from at c (i + 1)) (sym (get_or-set_same heads c (i + 1) 0 r)) own-head)

    pub chained_more : c < length heads → i < length links → Chained chain body from (set heads c (i + 1)) (set links i (get_or heads c 0)) (i + 1)
    chained_more r q =
        record {
          headed = λ d. head_more d r (lt-or d c) (lt-or c d);
          linked = record { leads = λ p h. link-more p q h (lt-or p i) };
        }

  -- ---- none yet

  leads-nowhere : (chain : List ℕ → ℕ) (c : ℕ) → LeadsBack chain body from 0 c 0
  leads-nowhere chain c = record { inside = omega arith; own = λ l. absurd (omega (arith, l)); none = λ j h k e. absurd (omega (arith, k)) }

  pub chained-none : (chain : List ℕ → ℕ) (heads links : List ℕ) → Cleared heads → Chained chain body from heads links 0
  chained-none chain heads links z =
      record {
        headed = λ c. subst (λ (at : ℕ). LeadsBack chain body from at c 0) (sym (z.none c)) (leads-nowhere chain c);
        linked = record { leads = λ p h. absurd (omega (arith, h)) };
      }

zero-at : (n k : ℕ) → ◌≡◌ {A = ℕ} (get_or (replicate n 0) k 0) 0
zero-at zero zero = refl
zero-at zero (suc k) = refl
zero-at (suc n) zero = refl
zero-at (suc n) (suc k) = zero-at n k

pub cleared-none : (n : ℕ) → Cleared (replicate n 0)
cleared-none n = record { none = zero-at n }
