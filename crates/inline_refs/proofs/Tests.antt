-- Laws of one reference, tested where it stands: whether it is the wanted one, whether a new one goes before it, its weight.
-- Assumes nothing.
use mathlib.Core.Path.{◌≡◌, refl, sym, ap, ◌∙◌}
use mathlib.Core.Bool.{Bool, true, false, ◌&&◌, cond}
use mathlib.Core.List.{List, [], ◌∷◌}
use Prim.Native.Nat.{ℕ, ◌+◌, ◌≤◌, ◌<◌}
use native.Mathlib.Omega.{arith}
use lib.Dec.{T, eqb, ltb}
use lib.ListN.{length, take, drop, get_or}
use lib.Seq.{drop-drop}
use borrow.Author.Tests.{eq-eqb, ne_eqb, le-leb, lt-leb, lt-ltb, le-ltb}
use Rattle.fields.specs.Lists.{same}
use Rattle.fields.specs.Numbers.{le, words}
use Rattle.fields.specs.Parts.{part}
use Rattle.fields.proofs.Lists.{eqb_same, cond_yes}
use Rattle.fields.proofs.Numbers.{words-at}
use Rattle.format.specs.Hash.{data_ref_hash}
use Rattle.format.specs.References.{row_in, known, payload_length, count_position, counted, field_count, weight_of, ref_at, rank, rank_of}
use Rattle.format.specs.Bodies.{named, one, stops}
use Rattle.format.proofs.Rows.{payload-fields, count-after-fields, some-field}
use Rattle.inline_refs.specs.declared.ref_name.RefName.{RefName}
use Rattle.inline_refs.specs.declared.ref_name.RefName.TheVariants.{Block, Data, SharedBlock, SharedData}
use Rattle.inline_refs.specs.Scans.{kind_of, fields_of, is_wanted}

and-true : (b : Bool) → b && true ≡ b
and-true true = refl
and-true false = refl

-- ---- bounds

pub payload-eight : (k : ℕ) → T (known k) → 8 ≤ payload_length k
payload-eight k t = omega (arith, payload-fields k t, some-field k t)

pub payload-178 : (k : ℕ) → k ≡ 178 → payload_length k ≡ 28
unfolding payload_length row_in
payload-178 k e = rw e refl

pub count-inside : (k n : ℕ) → T (known k) → n ≡ count_position k → 0 < n → n + 4 ≤ payload_length k
unfolding counted
count-inside k n t e h =
    let c : T (counted k) = rw (le-leb 1 (count_position k) (omega arith)) tt in
    let four : ◌≡◌ {A = ℕ} (cond (counted k) 4 0) 4 = cond_yes (counted k) 4 0 c in
    omega (arith, payload-fields k t, count-after-fields k c)

-- ---- names

pub wanted-fields : (w : RefName) → length (fields_of w) ≡ field_count (kind_of w)
unfolding kind_of fields_of field_count counted count_position payload_length row_in
wanted-fields (Block name) = refl
wanted-fields (Data name) = refl
wanted-fields (SharedBlock parent) = refl
wanted-fields (SharedData parent) = refl

pub wanted-known : (w : RefName) → T (known (kind_of w))
unfolding kind_of known row_in
wanted-known (Block name) = tt
wanted-known (Data name) = tt
wanted-known (SharedBlock parent) = tt
wanted-known (SharedData parent) = tt

module _ (w : RefName) (k : ℕ) (l : List ℕ) where
  pub named_other : (kind_of w ≡ k → ⊥) → false ≡ is_wanted w (ref_at k l)
  unfolding named ref_at
  named_other h = simp (ne_eqb k (kind_of w) (λ e. h (sym e)))

  pub named-is : kind_of w ≡ k → is_wanted w (ref_at k l) ≡ same (words (length (fields_of w)) l) (fields_of w)
  unfolding named ref_at
  named-is e = rw (wanted-fields w, e) (simp (eqb_same k))

  pub named-one : (x v : ℕ) → kind_of w ≡ k → fields_of w ≡ one v → x ≡ le (take 8 l) → eqb x v ≡ is_wanted w (ref_at k l)
  unfolding same words
  named-one x v e f q =
      sym (named-is e ∙ ap (λ (fs : List ℕ). same (words (length fs) l) fs) f ∙ and-true (eqb (le (take 8 l)) v) ∙ ap (λ (n : ℕ). eqb n v) (sym q))

-- words against fields: the first, then the others
module _ (l : List ℕ) (x : ℕ) (e : x ≡ le (take 8 l)) where
  pub first-differs : (fs : List ℕ) → 1 ≤ length fs → (x ≡ get_or fs 0 0 → ⊥) → false ≡ same (words (length fs) l) fs
  unfolding same words
  first-differs [] some h = absurd (omega arith)
  first-differs (f ∷ fs) some h = simp (← e, ne_eqb _ _ h)

  pub first-agrees : (fs : List ℕ) → 1 ≤ length fs → x ≡ get_or fs 0 0 → same (drop 1 (words (length fs) l)) (drop 1 fs) ≡ same (words (length fs) l) fs
  unfolding same words
  first-agrees [] some h = absurd (omega arith)
  first-agrees (f ∷ fs) some h = simp (← e, eq-eqb _ _ h)

module _ (w : RefName) (l : List ℕ) where
  some-wanted : 1 ≤ length (fields_of w)
  some-wanted = omega (arith, wanted-fields w, some-field (kind_of w) (wanted-known w))

  module _ (x : ℕ) (e : x ≡ le (take 8 l)) where
    pub named-not : (x ≡ get_or (fields_of w) 0 0 → ⊥) → false ≡ is_wanted w (ref_at (kind_of w) l)
    named-not h = first-differs l x e (fields_of w) some-wanted h ∙ sym (named-is w (kind_of w) l refl)

    -- the first field agrees, so the others decide
    pub named_by : (fs : List ℕ) → fields_of w ≡ fs → x ≡ get_or (fields_of w) 0 0 → same (drop 1 (words (length fs) l)) (drop 1 fs) ≡ is_wanted w (ref_at (kind_of w) l)
    named_by fs f h =
        ap (λ (gs : List ℕ). same (drop 1 (words (length gs) l)) (drop 1 gs)) (sym f) ∙ first-agrees l x e (fields_of w) some-wanted h ∙ sym (named-is w (kind_of w) l refl)

    pub named-alone : (v : ℕ) → fields_of w ≡ one v → x ≡ get_or (fields_of w) 0 0 → true ≡ is_wanted w (ref_at (kind_of w) l)
    unfolding same words
    named-alone v f h = named_by (one v) f h

module _ (p : ℕ) (s : List ℕ) where
  pub triple-words : words 3 (drop p s) ≡ le (part p 8 s) ∷ le (part (p + 8) 8 s) ∷ le (part (p + 16) 8 s) ∷ []
  unfolding words
  triple-words =
      let e₁ : drop 8 (drop p s) ≡ drop (p + 8) s = drop-drop 8 p s in
      let z : p + 8 + 8 ≡ p + 16 = omega arith in
      let e₂ : drop 8 (drop 8 (drop p s)) ≡ drop (p + 16) s = ap (drop 8) e₁ ∙ drop-drop 8 (p + 8) s ∙ ap (λ (n : ℕ). drop n s) z in
      λ i. le (part p 8 s) ∷ le (take 8 (e₁ i)) ∷ le (take 8 (e₂ i)) ∷ []

  module _ (t o f x : ℕ) (e : x ≡ le (part p 8 s)) where
    pub triple-first : (x ≡ t → ⊥) → false ≡ same (words 3 (drop p s)) (t ∷ o ∷ f ∷ [])
    unfolding same
    triple-first h = rw triple-words (simp (← e, ne_eqb _ _ h))

    pub triple-second : (y : ℕ) → y ≡ le (part (p + 8) 8 s) → x ≡ t → (y ≡ o → ⊥) → false ≡ same (words 3 (drop p s)) (t ∷ o ∷ f ∷ [])
    unfolding same
    triple-second y e₂ h₁ h = rw triple-words (simp (← e, ← e₂, eq-eqb _ _ h₁, ne_eqb _ _ h))

    pub triple-third : (y z : ℕ) → y ≡ le (part (p + 8) 8 s) → z ≡ le (part (p + 16) 8 s) → x ≡ t → y ≡ o
        → eqb z f ≡ same (words 3 (drop p s)) (t ∷ o ∷ f ∷ [])
    unfolding same
    triple-third y z e₂ e₃ h₁ h₂ = rw triple-words (simp (← e, ← e₂, ← e₃, eq-eqb _ _ h₁, eq-eqb _ _ h₂, and-true))

  module _ (o f y : ℕ) (e : y ≡ le (part (p + 8) 8 s)) where
    pub rest-second : (y ≡ o → ⊥) → false ≡ same (drop 1 (words 3 (drop p s))) (o ∷ f ∷ [])
    unfolding same
    rest-second h = rw triple-words (simp (← e, ne_eqb _ _ h))

    pub rest-third : (z : ℕ) → z ≡ le (part (p + 16) 8 s) → y ≡ o → eqb z f ≡ same (drop 1 (words 3 (drop p s))) (o ∷ f ∷ [])
    unfolding same
    rest-third z e₂ h = rw triple-words (simp (← e, ← e₂, eq-eqb _ _ h, and-true))

-- ---- ranks

pub rank-field : (k p x : ℕ) (s : List ℕ) → T (known k) → (k ≡ 178 → ⊥) → x ≡ le (part p 8 s) → x ≡ rank (ref_at k (drop p s))
unfolding rank rank_of ref_at
rank-field k p x s t h e = e ∙ sym (words-at (field_count k) 0 (drop p s) (some-field k t)) ∙ simp (ne_eqb _ _ h)

pub rank-hash : (k p x a b c : ℕ) (s : List ℕ) → k ≡ 178 → a ≡ le (part p 8 s) → b ≡ le (part (p + 8) 8 s) → c ≡ le (part (p + 16) 8 s)
    → x ≡ data_ref_hash a b c → x ≡ rank (ref_at k (drop p s))
unfolding rank rank_of ref_at field_count counted count_position row_in
rank-hash k p x a b c s h e₁ e₂ e₃ q =
    q ∙ rw h (ap (λ (l : List ℕ). data_ref_hash (get_or l 0 0) (get_or l 1 0) (get_or l 2 0))
    ((λ i. e₁ i ∷ e₂ i ∷ e₃ i ∷ []) ∙ sym (triple-words p s)))

module _ (w at k : ℕ) (l : List ℕ) where
  pub stops-owner : k ≡ 172 → false ≡ stops w at (ref_at k l)
  unfolding stops ref_at
  stops-owner e = simp (eq-eqb _ _ e)

  module _ (h : k ≡ 172 → ⊥) where
    pub stops-higher : w < k → true ≡ stops w at (ref_at k l)
    unfolding stops ref_at
    stops-higher e = simp (ne_eqb _ _ h, lt-ltb _ _ e)

    pub stops-lower : k ≤ w → (w ≡ k → ⊥) → false ≡ stops w at (ref_at k l)
    unfolding stops ref_at
    stops-lower e n = simp (ne_eqb _ _ h, le-ltb _ _ e, ne_eqb _ _ n)

    pub stops_same : (x : ℕ) → w ≡ k → x ≡ rank (ref_at k l) → ltb x at ≡ stops w at (ref_at k l)
    unfolding stops ref_at
    stops_same x e q =
        let z : k ≤ w = omega arith in
        rw q (simp (ne_eqb _ _ h, le-ltb _ _ z, eq-eqb _ _ e))

    pub stops-zero : w ≡ k → at ≡ 0 → false ≡ stops w at (ref_at k l)
    stops-zero e q =
        let z : at ≤ rank (ref_at k l) = omega arith in
        sym (le-ltb (rank (ref_at k l)) at z) ∙ stops_same (rank (ref_at k l)) e refl

-- ---- weights

module _ (k n p : ℕ) (s : List ℕ) (e : n ≡ count_position k) where
  pub weight-count : (x : ℕ) → 0 < n → x ≡ le (part (p + n) 4 s) → x ≡ (ref_at k (drop p s)).weight
  unfolding ref_at weight_of counted
  weight-count x h q =
      let c : 1 ≤ count_position k = omega arith in
      q ∙ simp (le-leb _ _ c, ← e, drop-drop)

  pub weight-owner : n ≤ 0 → k ≡ 172 → 0 ≡ (ref_at k (drop p s)).weight
  unfolding ref_at weight_of counted
  weight-owner h q =
      let c : count_position k < 1 = omega arith in
      simp (lt-leb _ _ c, eq-eqb _ _ q)

  pub weight-one : n ≤ 0 → (k ≡ 172 → ⊥) → 1 ≡ (ref_at k (drop p s)).weight
  unfolding ref_at weight_of counted
  weight-one h q =
      let c : count_position k < 1 = omega arith in
      simp (lt-leb _ _ c, ne_eqb _ _ q)
