-- The references of one type in a record whose references are in order: they stand side by side, and their ranks never rise.
-- Assumes nothing.
use mathlib.Core.Path.{◌≡◌, refl, sym, ap, ap₂, ◌∙◌, subst}
use mathlib.Core.Logic.{◌≢◌, ◌⊎◌, inl, inr}
use Prim.Native.Nat.{ℕ, zero, suc, ◌+◌, ◌≤◌, ◌<◌}
use native.Mathlib.Nat.{suc-mul, zero-mul}
use native.Mathlib.Omega.{arith}
use mathlib.Core.Bool.{Bool, true, false, ◌&&◌, cond}
use mathlib.Core.List.{List, [], ◌∷◌, ◌++◌}
use lib.Dec.{T, leb, ltb, eqb, eqb_refl, eqb→eq, leb→le, le→leb, ltb→lt}
use lib.ListN.{drop}
use mir.Facts.{and_yes, yes_and, T_not, yes_eqb}
use Rattle.fields.specs.Lists.{all}
use Rattle.fields.proofs.Lists.{T-eq, all_right, all_map, all_two}
use Rattle.format.specs.References.{known, payload_length, Ref, ref_at, rank, falls, follows, leads, ordered}
use Rattle.theorems.proofs.Order.{follows-out, ordered-back, follows-trans}
use Rattle.balance.specs.Ranks.{span_refs, refs_from, reached, left, Skips, CountsIn, payload_at, rank_at, Spanned}
use Rattle.balance.specs.declared.span.Span.{Span}

-- ---- those of a span, by number

shift : (kind from j : ℕ) → payload_at kind (from + (1 + payload_length kind)) j ≡ payload_at kind from (suc j)
shift kind from j = omega (arith, suc-mul j (1 + payload_length kind))

first-at : (kind from : ℕ) → payload_at kind from 0 ≡ from + 1
first-at kind from = omega (arith, zero-mul (1 + payload_length kind))

module _ (P : Ref → Bool) (kind : ℕ) (body : List ℕ) where
  pub span-at : (from n : ℕ) → T (all P (span_refs kind body from n)) → (j : ℕ) → j < n → T (P (ref_at kind (drop (payload_at kind from j) body)))
  unfolding span_refs
  span-at from zero t j h = absurd (omega arith)
  span-at from (suc n) t zero h =
      subst (λ (m : ℕ). T (P (ref_at kind (drop m body)))) (sym (first-at kind from)) (and_yes (P (ref_at kind (drop (from + 1) body))) _ t).0
  span-at from (suc n) t (suc j) h =
      subst (λ (m : ℕ). T (P (ref_at kind (drop m body)))) (shift kind from j)
      (span-at (from + (1 + payload_length kind)) n (and_yes (P (ref_at kind (drop (from + 1) body))) _ t).1 j (omega arith))

  pub span-all : (from n : ℕ) → ((j : ℕ) → j < n → T (P (ref_at kind (drop (payload_at kind from j) body)))) → T (all P (span_refs kind body from n))
  unfolding span_refs
  span-all from zero f = tt
  span-all from (suc n) f =
      yes_and (P (ref_at kind (drop (from + 1) body))) _
      (subst (λ (m : ℕ). T (P (ref_at kind (drop m body)))) (first-at kind from) (f 0 (omega arith)))
      (span-all (from + (1 + payload_length kind)) n (λ j h. subst (λ (m : ℕ). T (P (ref_at kind (drop m body)))) (sym (shift kind from j)) (f (suc j) (omega arith))))

-- ---- the order

ordered-front : (a b : List Ref) → T (ordered (a ++ b)) → T (ordered a)
ordered-front [] b t = tt
ordered-front (r ∷ []) b t = tt
ordered-front (r ∷ s ∷ a) b t = let h = and_yes (follows r s) _ t in yes_and (follows r s) _ h.0 (ordered-front (s ∷ a) b h.1)

ordered-all : (r : Ref) (l : List Ref) → T (ordered (r ∷ l)) → T (all (follows r) l)
ordered-all r [] t = tt
ordered-all r (s ∷ l) t =
    let h = and_yes (follows r s) _ t in
    yes_and (follows r s) _ h.0 (all_map (follows s) (follows r) (λ u k. follows-trans r s u h.0 k) l (ordered-all s l h.1))

follows-up : (m : ℕ) (r s : Ref) → T (follows r s) → m ≤ r.kind → m ≤ s.kind
follows-up m r s t h = go (follows-out r s t)
  where
    go : (r.kind < s.kind) ⊎ ((r.kind ≡ s.kind) × T (falls r.kind (rank r) (rank s))) → m ≤ s.kind
    go (inl k) = omega arith
    go (inr (k, f)) = omega arith

-- types never fall
kinds-up : (m : ℕ) (r : Ref) (l : List Ref) → T (ordered (r ∷ l)) → m ≤ r.kind → T (all (λ s. leb m s.kind) (r ∷ l))
kinds-up m r l t h =
    yes_and (leb m r.kind) _ (le→leb _ _ h)
    (all_map (follows r) (λ s. leb m s.kind) (λ s k. le→leb _ _ (follows-up m r s k h)) l (ordered-all r l t))

-- of one type but 172, ranks never rise
follows-down : (r s : Ref) → T (follows r s) → r.kind ≡ s.kind → r.kind ≢ 172 → rank s ≤ rank r
unfolding falls
follows-down r s t e ne = go (follows-out r s t)
  where
    weak : (c d : Bool) → eqb r.kind 172 ≡ c → T (cond c true (cond d (leb (rank s) (rank r)) (ltb (rank s) (rank r)))) → rank s ≤ rank r
    weak true d q t = absurd (ne (eqb→eq _ _ (subst T (sym q) tt)))
    weak false true q t = leb→le _ _ t
    weak false false q t = let h : rank s < rank r = ltb→lt _ _ t in omega arith

    go : (r.kind < s.kind) ⊎ ((r.kind ≡ s.kind) × T (falls r.kind (rank r) (rank s))) → rank s ≤ rank r
    go (inl k) = absurd (omega arith)
    go (inr (k, f)) = weak (eqb r.kind 172) (eqb r.kind 178) refl f

span-kinds : (kind : ℕ) (body : List ℕ) (from n : ℕ) → T (all (λ s. eqb s.kind kind) (span_refs kind body from n))
unfolding ref_at
span-kinds kind body from n = span-all (λ s. eqb s.kind kind) kind body from n (λ j h. eqb_refl kind)

span-falls : (kind : ℕ) → kind ≢ 172 → (body : List ℕ) (from n : ℕ) → T (ordered (span_refs kind body from n))
    → (i j : ℕ) → i ≤ j → j < n → rank_at body kind from j ≤ rank_at body kind from i
unfolding span_refs ref_at
span-falls kind ne body from zero t i j h k = absurd (omega arith)
span-falls kind ne body from (suc n) t zero zero h k = omega arith
span-falls kind ne body from (suc n) t zero (suc j) h k =
    let r : Ref = ref_at kind (drop (from + 1) body) in
    let l : List Ref = span_refs kind body (from + (1 + payload_length kind)) n in
    let down : T (all (λ s. leb (rank s) (rank r)) l) =
    all_two (follows r) (λ s. eqb s.kind kind) (λ s. leb (rank s) (rank r))
    (λ s f e. le→leb _ _ (follows-down r s f (sym (eqb→eq _ _ e)) ne)) l (ordered-all r l t) (span-kinds kind body (from + (1 + payload_length kind)) n) in
    let m : rank (ref_at kind (drop (payload_at kind (from + (1 + payload_length kind)) j) body)) ≤ rank r =
    leb→le _ _ (span-at (λ s. leb (rank s) (rank r)) kind body (from + (1 + payload_length kind)) n down j (omega arith)) in
    subst (λ (x : ℕ). rank (ref_at kind (drop (payload_at kind from (suc j)) body)) ≤ rank (ref_at kind (drop x body))) (sym (first-at kind from))
    (subst (λ (x : ℕ). rank (ref_at kind (drop x body)) ≤ rank r) (shift kind from j) m)
span-falls kind ne body from (suc n) t (suc i) zero h k = absurd (omega arith)
span-falls kind ne body from (suc n) t (suc i) (suc j) h k =
    let ih : rank_at body kind (from + (1 + payload_length kind)) j ≤ rank_at body kind (from + (1 + payload_length kind)) i =
    span-falls kind ne body (from + (1 + payload_length kind)) n (and_yes (leads (ref_at kind (drop (from + 1) body)) (span_refs kind body (from + (1 + payload_length kind)) n)) _ t).1 i j (omega arith) (omega arith) in
    subst (λ (x : ℕ). rank (ref_at kind (drop (payload_at kind from (suc j)) body)) ≤ rank (ref_at kind (drop x body))) (shift kind from i)
    (subst (λ (x : ℕ). rank (ref_at kind (drop x body)) ≤ rank (ref_at kind (drop (payload_at kind (from + (1 + payload_length kind)) i) body))) (shift kind from j) ih)

-- ---- what is left over is of other types

all-cut : (P : Ref → Bool) (a b : List Ref) → all P (a ++ b) ≡ (all P a && all P b)
all-cut P [] b = refl
all-cut P (r ∷ a) b = ap (λ (c : Bool). P r && c) (all-cut P a b) ∙ assoc (P r) (all P a) (all P b)
  where
    assoc : (x y z : Bool) → (x && (y && z)) ≡ ((x && y) && z)
    assoc true y z = refl
    assoc false y z = refl

and-true : (b : Bool) → (b && true) ≡ b
and-true true = refl
and-true false = refl

rest-higher : (kind : ℕ) (rest : List Ref) → T (ordered rest) → T (left kind rest) → T (all (λ r. leb kind r.kind) rest) → T (all (λ r. leb (kind + 1) r.kind) rest)
rest-higher kind [] o t l = tt
rest-higher kind (r ∷ rest) o t l =
    let a : kind ≤ r.kind = leb→le _ _ (and_yes (leb kind r.kind) _ l).0 in
    let b : r.kind ≢ kind = (λ e. T_not (eqb r.kind kind) (yes_eqb e) t) in
    kinds-up (kind + 1) r rest o (omega arith)

from_up : (kind : ℕ) (l : List Ref) → T (ordered l) → T (reached kind l) → T (all (λ r. leb kind r.kind) l)
from_up kind [] o t = tt
from_up kind (r ∷ l) o t = kinds-up kind r l o (leb→le _ _ t)

module _ (body : List ℕ) (start kind from n : ℕ) (s : Skips body start kind from) (c : CountsIn body from kind n) (ne : kind ≢ 172)
    (o : T (ordered (refs_from body start))) where
  back_ordered : T (ordered (span_refs kind body from n ++ c.rest))
  back_ordered =
      subst (λ (l : List Ref). T (ordered l)) c.same
      (ordered-back s.front (refs_from body from) (subst (λ (l : List Ref). T (ordered l)) s.same o))

  rest-above : T (all (λ r. leb (kind + 1) r.kind) c.rest)
  rest-above =
      rest-higher kind c.rest (ordered-back (span_refs kind body from n) c.rest back_ordered) c.last
      (all_right (λ r. leb kind r.kind) (span_refs kind body from n) c.rest
      (subst (λ (l : List Ref). T (all (λ r. leb kind r.kind) l)) c.same (from_up kind (refs_from body from) (rw c.same back_ordered) s.first)))

  pub span-only : (P : Ref → Bool) → ((r : Ref) → r.kind ≢ kind → T (P r)) → all P (refs_from body start) ≡ all P (span_refs kind body from n)
  span-only P f =
      let front : all P s.front ≡ true =
      T-eq _ (all_map (λ r. ltb r.kind kind) P (λ r h. f r (λ e. let k : r.kind < kind = ltb→lt _ _ h in absurd (omega arith))) s.front s.lower) in
      let rest : all P c.rest ≡ true =
      T-eq _ (all_map (λ r. leb (kind + 1) r.kind) P (λ r h. f r (λ e. let k : kind + 1 ≤ r.kind = leb→le _ _ h in absurd (omega arith))) c.rest rest-above) in
      ap (all P) (s.same ∙ ap (λ (l : List Ref). s.front ++ l) c.same)
      ∙ all-cut P s.front (span_refs kind body from n ++ c.rest)
      ∙ ap₂ (λ (x y : Bool). x && y) front (all-cut P (span_refs kind body from n) c.rest ∙ ap (λ (x : Bool). all P (span_refs kind body from n) && x) rest ∙ and-true _)

  pub spanned : T (known kind) → Spanned body start (record { kind = kind; from = from; n = n; near = n })
  spanned k = record {
    falling = record {
      kind_known = k;
      inside = c.inside;
      falls = span-falls kind ne body from n (ordered-front (span_refs kind body from n) c.rest back_ordered);
    };
    only = span-only;
  }

-- wherever the next search begins
pub spanned-near : (body : List ℕ) (start : ℕ) (s : Span) (near : ℕ) → Spanned body start s
    → Spanned body start (record { kind = s.kind; from = s.from; n = s.n; near = near })
spanned-near body start s near p = record {
  falling = record { kind_known = p.falling.kind_known; inside = p.falling.inside; falls = p.falling.falls };
  only = p.only;
}
