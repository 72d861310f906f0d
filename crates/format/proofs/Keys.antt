-- Keys in order, and lists of items whose keys rise: with an item taken out, put in or given other data they still rise, and no
-- key stands twice. Assumes nothing.
use mathlib.Core.Path.{◌≡◌, refl, sym, ap, ◌∙◌, subst}
use mathlib.Core.Logic.{◌⊎◌, inl, inr}
use mathlib.Core.Bool.{Bool, true, false, not, cond, ◌&&◌, ◌||◌}
use mathlib.Core.Option.{Option, none, some, map}
use mathlib.Core.List.{List, [], ◌∷◌, ◌++◌, append-nil}
use Prim.Native.Nat.{ℕ, ◌≤◌, ◌<◌}
use native.Mathlib.Omega.{arith}
use lib.Dec.{T, ltb, eqb, eqb→eq, eqb_refl, ltb→lt, lt→ltb, T_not, not_T}
use mir.Facts.{and_yes, yes_and, yes_eqb, or_yes}
use Rattle.fields.specs.Lists.{all, Cut, later, first_cut}
use Rattle.fields.proofs.Lists.{or_left, or_right, cond_yes, cond_no, lt-or, all_left, all_both, all-mid, all_map, all_two, Found, cut-some, cut-none}
use Rattle.std.proofs.Common.{Ordering, Less, Equal, Greater, Some, nat_cmp}
use Rattle.std.specs.Ordering.{is_lt, is_gt, is_ge, is_some_and, ordering_then, partial_ordering_then, ordering_reverse, partial_lt, partial_ge}
use Rattle.std.proofs.lemmas.Cmp.{nat_cmp_total}
use Rattle.format.specs.contracts.KeyOrd.TheImpl as ord
use Rattle.format.specs.contracts.KeyPartialOrd.TheImpl as partial
use Rattle.format.specs.declared.Key.{Key}
use Rattle.format.specs.Questions.{accepted}
use Rattle.format.specs.Items.{Item, same_key, key_below, above, rising, with_bytes}
use Rattle.format.specs.Sheets.{has_key, put_before, inserted}
use Rattle.format.proofs.Answers.{accepted-inj, ask-ok}

-- ---- equal keys

pub same_key-yes : (a b : Key) → T (same_key a b) → a ≡ b
unfolding same_key
same_key-yes a b t =
    let h = and_yes (eqb a.objectid b.objectid) _ t in
    let k = and_yes (eqb a.kind b.kind) _ h.1 in
    let e₁ : a.objectid ≡ b.objectid = eqb→eq _ _ h.0 in
    let e₂ : a.kind ≡ b.kind = eqb→eq _ _ k.0 in
    let e₃ : a.offset ≡ b.offset = eqb→eq _ _ k.1 in
    λ i. record { objectid = e₁ i; kind = e₂ i; offset = e₃ i }

pub same_key-refl : (a : Key) → T (same_key a a)
unfolding same_key
same_key-refl a =
    yes_and (eqb a.objectid a.objectid) _ (eqb_refl a.objectid)
    (yes_and (eqb a.kind a.kind) _ (eqb_refl a.kind) (eqb_refl a.offset))

-- ---- the order

-- "by objectid, type, offset"
abbrev pub Before : Key → Key → Type 0
Before a b = (a.objectid < b.objectid) ⊎ ((a.objectid ≡ b.objectid) × ((a.kind < b.kind) ⊎ ((a.kind ≡ b.kind) × (a.offset < b.offset))))

pub below_out : (a b : Key) → T (key_below a b) → Before a b
unfolding key_below
below_out a b t = first (or_yes (ltb a.objectid b.objectid) _ t)
  where
    third : T (ltb a.kind b.kind) ⊎ T (eqb a.kind b.kind && ltb a.offset b.offset)
        → (a.kind < b.kind) ⊎ ((a.kind ≡ b.kind) × (a.offset < b.offset))
    third (inl h) = inl (ltb→lt _ _ h)
    third (inr h) = let k = and_yes (eqb a.kind b.kind) _ h in inr (eqb→eq _ _ k.0, ltb→lt _ _ k.1)

    first : T (ltb a.objectid b.objectid)
        ⊎ T (eqb a.objectid b.objectid && (ltb a.kind b.kind || (eqb a.kind b.kind && ltb a.offset b.offset))) → Before a b
    first (inl h) = inl (ltb→lt _ _ h)
    first (inr h) =
        let k = and_yes (eqb a.objectid b.objectid) _ h in
        inr (eqb→eq _ _ k.0, third (or_yes (ltb a.kind b.kind) _ k.1))

pub below_in : (a b : Key) → Before a b → T (key_below a b)
unfolding key_below
below_in a b (inl h) = or_left (ltb a.objectid b.objectid) _ (lt→ltb _ _ h)
below_in a b (inr (e, inl h)) =
    or_right (ltb a.objectid b.objectid) _
    (yes_and (eqb a.objectid b.objectid) _ (yes_eqb e) (or_left (ltb a.kind b.kind) _ (lt→ltb _ _ h)))
below_in a b (inr (e, inr (f, h))) =
    or_right (ltb a.objectid b.objectid) _
    (yes_and (eqb a.objectid b.objectid) _ (yes_eqb e)
    (or_right (ltb a.kind b.kind) _ (yes_and (eqb a.kind b.kind) _ (yes_eqb f) (lt→ltb _ _ h))))

pub before-trans : (a b c : Key) → Before a b → Before b c → Before a c
before-trans a b c (inl h) (inl k) = inl (omega arith)
before-trans a b c (inl h) (inr (e, k)) = inl (omega arith)
before-trans a b c (inr (e, h)) (inl k) = inl (omega arith)
before-trans a b c (inr (e, inl h)) (inr (f, inl k)) = inr (e ∙ f, inl (omega arith))
before-trans a b c (inr (e, inl h)) (inr (f, inr (g, k))) = inr (e ∙ f, inl (omega arith))
before-trans a b c (inr (e, inr (g, h))) (inr (f, inl k)) = inr (e ∙ f, inl (omega arith))
before-trans a b c (inr (e, inr (g, h))) (inr (f, inr (l, k))) = inr (e ∙ f, inr (g ∙ l, omega arith))

pub below-trans : (a b c : Key) → T (key_below a b) → T (key_below b c) → T (key_below a c)
below-trans a b c s t = below_in a c (before-trans a b c (below_out a b s) (below_out b c t))

pub before-irrefl : (a : Key) → Before a a → ⊥
before-irrefl a (inl h) = absurd (omega arith)
before-irrefl a (inr (e, inl h)) = absurd (omega arith)
before-irrefl a (inr (e, inr (f, h))) = absurd (omega arith)

pub below_irrefl : (a : Key) → T (key_below a a) → ⊥
below_irrefl a t = before-irrefl a (below_out a a t)

-- one of three
pub below_or : (a b : Key) → T (key_below a b) ⊎ (T (same_key a b) ⊎ T (key_below b a))
unfolding same_key
below_or a b =
    go (lt-or a.objectid b.objectid) (lt-or b.objectid a.objectid) (lt-or a.kind b.kind) (lt-or b.kind a.kind)
    (lt-or a.offset b.offset) (lt-or b.offset a.offset)
  where
    go : (a.objectid < b.objectid) ⊎ (b.objectid ≤ a.objectid) → (b.objectid < a.objectid) ⊎ (a.objectid ≤ b.objectid)
        → (a.kind < b.kind) ⊎ (b.kind ≤ a.kind) → (b.kind < a.kind) ⊎ (a.kind ≤ b.kind)
        → (a.offset < b.offset) ⊎ (b.offset ≤ a.offset) → (b.offset < a.offset) ⊎ (a.offset ≤ b.offset)
        → T (key_below a b) ⊎ (T (same_key a b) ⊎ T (key_below b a))
    go (inl h) o₂ k₁ k₂ f₁ f₂ = inl (below_in a b (inl h))
    go (inr h) (inl k) k₁ k₂ f₁ f₂ = inr (inr (below_in b a (inl k)))
    go (inr h) (inr k) (inl l) k₂ f₁ f₂ = inl (below_in a b (inr (omega arith, inl l)))
    go (inr h) (inr k) (inr l) (inl m) f₁ f₂ = inr (inr (below_in b a (inr (omega arith, inl m))))
    go (inr h) (inr k) (inr l) (inr m) (inl n) f₂ = inl (below_in a b (inr (omega arith, inr (omega arith, n))))
    go (inr h) (inr k) (inr l) (inr m) (inr n) (inl o) = inr (inr (below_in b a (inr (omega arith, inr (omega arith, o)))))
    go (inr h) (inr k) (inr l) (inr m) (inr n) (inr o) =
        let e₁ : a.objectid ≡ b.objectid = omega arith in
        let e₂ : a.kind ≡ b.kind = omega arith in
        let e₃ : a.offset ≡ b.offset = omega arith in
        inr (inl (yes_and (eqb a.objectid b.objectid) _ (yes_eqb e₁) (yes_and (eqb a.kind b.kind) _ (yes_eqb e₂) (yes_eqb e₃))))

pub below-not-same : (a b : Key) → T (key_below a b) → T (not (same_key a b))
below-not-same a b t = not_T (same_key a b) (λ s. below_irrefl b (subst (λ (k : Key). T (key_below k b)) (same_key-yes a b s) t))

pub above-not-same : (a b : Key) → T (key_below b a) → T (not (same_key a b))
above-not-same a b t = not_T (same_key a b) (λ s. below_irrefl b (subst (λ (k : Key). T (key_below b k)) (same_key-yes a b s) t))

-- neither the same nor above is below
pub else-below : (a b : Key) → T (not (same_key a b)) → T (not (key_below b a)) → T (key_below a b)
else-below a b s t = go (below_or a b)
  where
    go : T (key_below a b) ⊎ (T (same_key a b) ⊎ T (key_below b a)) → T (key_below a b)
    go (inl h) = h
    go (inr (inl h)) = absurd (T_not (same_key a b) s h)
    go (inr (inr h)) = absurd (T_not (key_below b a) t h)

-- ---- keys that rise

abbrev pub below : Key → Item → Bool
below key i = key_below i.key key

abbrev pub beyond : Key → Item → Bool
beyond key i = key_below key i.key

pub rising-right : (a b : List Item) → T (rising (a ++ b)) → T (rising b)
rising-right [] b t = t
rising-right (i ∷ a) b t = rising-right a b (and_yes (above i (a ++ b)) _ t).1

-- from the next to all that follow
pub rising-after : (x : Item) (b : List Item) → T (rising (x ∷ b)) → T (all (beyond x.key) b)
rising-after x [] t = tt
rising-after x (y ∷ b) t =
    let h = and_yes (key_below x.key y.key) _ t in
    yes_and (key_below x.key y.key) _ h.0
    (all_map (beyond y.key) (beyond x.key) (λ i k. below-trans x.key y.key i.key h.0 k) b (rising-after y b h.1))

pub rising-before : (a : List Item) (x : Item) (b : List Item) → T (rising (a ++ x ∷ b)) → T (all (below x.key) a)
rising-before [] x b t = tt
rising-before (w ∷ a) x b t =
    let h = rising-after w (a ++ x ∷ b) t in
    yes_and (key_below w.key x.key) _ (all-mid (beyond w.key) a x b h)
    (rising-before a x b (and_yes (above w (a ++ x ∷ b)) _ t).1)

-- an item put where those before are below and the next is above
pub rising-put : (a : List Item) (x : Item) (b : List Item) → T (rising (a ++ b)) → T (all (below x.key) a) → T (above x b)
    → T (rising (a ++ x ∷ b))
rising-put [] x b t s h = yes_and (above x b) _ h t
rising-put (w ∷ []) x b t s h =
    yes_and (key_below w.key x.key) _ (and_yes (key_below w.key x.key) _ s).0 (yes_and (above x b) _ h (and_yes (above w b) _ t).1)
rising-put (w ∷ v ∷ a) x b t s h =
    let k = and_yes (key_below w.key v.key) _ t in
    yes_and (key_below w.key v.key) _ k.0 (rising-put (v ∷ a) x b k.1 (and_yes (key_below w.key x.key) _ s).1 h)

pub above-drop : (w x : Item) (b : List Item) → T (key_below w.key x.key) → T (above x b) → T (above w b)
above-drop w x [] h k = tt
above-drop w x (y ∷ b) h k = below-trans w.key x.key y.key h k

pub rising-drop : (a : List Item) (x : Item) (b : List Item) → T (rising (a ++ x ∷ b)) → T (rising (a ++ b))
rising-drop [] x b t = (and_yes (above x b) _ t).1
rising-drop (w ∷ []) x b t =
    let h = and_yes (key_below w.key x.key) _ t in
    let k = and_yes (above x b) _ h.1 in
    yes_and (above w b) _ (above-drop w x b h.0 k.0) k.1
rising-drop (w ∷ v ∷ a) x b t =
    let h = and_yes (key_below w.key v.key) _ t in yes_and (key_below w.key v.key) _ h.0 (rising-drop (v ∷ a) x b h.1)

pub above-swap : (x : Item) (bytes : List ℕ) (b : List Item) → T (above x b) → T (above (with_bytes x bytes) b)
above-swap x bytes [] h = tt
above-swap x bytes (y ∷ b) h = h

pub rising-swap : (a : List Item) (x : Item) (bytes : List ℕ) (b : List Item) → T (rising (a ++ x ∷ b)) → T (rising (a ++ with_bytes x bytes ∷ b))
rising-swap [] x bytes b t =
    let h = and_yes (above x b) _ t in yes_and (above (with_bytes x bytes) b) _ (above-swap x bytes b h.0) h.1
rising-swap (w ∷ []) x bytes b t =
    let h = and_yes (key_below w.key x.key) _ t in yes_and (key_below w.key x.key) _ h.0 (rising-swap [] x bytes b h.1)
rising-swap (w ∷ v ∷ a) x bytes b t =
    let h = and_yes (key_below w.key v.key) _ t in yes_and (key_below w.key v.key) _ h.0 (rising-swap (v ∷ a) x bytes b h.1)

-- ---- no key stands twice

pub rising-unique : (a : List Item) (x : Item) (b : List Item) → T (rising (a ++ x ∷ b)) → T (all (λ i. not (has_key x.key i)) (a ++ b))
rising-unique a x b t =
    all_both (λ i. not (has_key x.key i)) a b
    (all_map (below x.key) (λ i. not (has_key x.key i)) (λ i h. below-not-same i.key x.key h) a (rising-before a x b t))
    (all_map (beyond x.key) (λ i. not (has_key x.key i)) (λ i h. above-not-same i.key x.key h) b
    (rising-after x b (rising-right a (x ∷ b) t)))

-- a cut stands at an element that passes, if none before it does
pub cut-here : {A : Type 0} (p : A → Bool) (a : List A) (x : A) (b : List A) → T (all (λ y. not (p y)) a) → T (p x)
    → first_cut p (a ++ x ∷ b) ≡ some (record { front = a; hit = x; back = b })
cut-here p [] x b s t = cond_yes (p x) _ _ t
cut-here p (w ∷ a) x b s t =
    let h = and_yes (not (p w)) _ s in
    cond_no (p w) _ _ h.0 ∙ ap (map (later w)) (cut-here p a x b h.1 t)

-- so the cut at a key finds the item that has it
pub cut-at-key : (a : List Item) (x : Item) (b : List Item) → T (rising (a ++ x ∷ b))
    → first_cut (has_key x.key) (a ++ x ∷ b) ≡ some (record { front = a; hit = x; back = b })
cut-at-key a x b t =
    cut-here (has_key x.key) a x b (all_left (λ i. not (has_key x.key i)) a b (rising-unique a x b t)) (same_key-refl x.key)

-- ---- the place that an inserted item gets

pub record Between (new : Item) (items result : List Item) : Type 0 where
  pub front : List Item
  pub back : List Item
  pub were : items ≡ front ++ back
  pub are : result ≡ front ++ new ∷ back
  pub lower : T (all (below new.key) front)
  pub higher : T (above new back)

pub inserted-out : (new : Item) (items result : List Item) → inserted new items ≡ accepted result → Between new items result
unfolding inserted put_before
inserted-out new items result e =
    let h = ask-ok (all (λ i. not (has_key new.key i)) items) 9 _ e in
    go (first_cut (beyond new.key) items) refl h.0 (accepted-inj h.1)
  where
    lower_of : (l : List Item) → T (all (λ i. not (has_key new.key i)) l) → T (all (λ i. not (beyond new.key i)) l)
        → T (all (below new.key) l)
    lower_of l s t =
        all_two (λ i. not (has_key new.key i)) (λ i. not (beyond new.key i)) (below new.key)
        (λ i x y. else-below i.key new.key x y) l s t

    go : (o : Option (Cut Item)) → first_cut (beyond new.key) items ≡ o → T (all (λ i. not (has_key new.key i)) items)
        → put_before new items o ≡ result → Between new items result
    go none f s q =
        record {
          front = items;
          back = [];
          were = sym (append-nil items);
          are = sym q;
          lower = lower_of items s (cut-none (beyond new.key) items f);
          higher = tt;
        }
    go (some c) f s q =
        let k : Found (beyond new.key) items c = cut-some (beyond new.key) items f in
        record {
          front = c.front;
          back = c.hit ∷ c.back;
          were = k.same;
          are = sym q;
          lower = lower_of c.front
              (all_left (λ i. not (has_key new.key i)) c.front (c.hit ∷ c.back)
              (subst (λ (l : List Item). T (all (λ i. not (has_key new.key i)) l)) k.same s)) k.miss;
          higher = k.hit;
        }

-- ---- the order that the declared type derives, by which code compares keys

key-order : (a b d e f g : Bool)
    → is_lt (ordering_then (cond a Less (cond b Equal Greater)) (ordering_then (cond d Less (cond e Equal Greater)) (cond f Less (cond g Equal Greater))))
    ≡ (a || (b && (d || (e && f))))
key-order true b d e f g = refl
key-order false true true e f g = refl
key-order false true false true true g = refl
key-order false true false true false true = refl
key-order false true false true false false = refl
key-order false true false false f g = refl
key-order false false d e f g = refl

-- by the three answers of `cmp`
pub key_cmp : (a b : Key) → is_lt (ord.cmp-value.it a b) ≡ key_below a b
unfolding key_below
key_cmp a b =
    key-order (ltb a.objectid b.objectid) (eqb a.objectid b.objectid) (ltb a.kind b.kind) (eqb a.kind b.kind) (ltb a.offset b.offset) (eqb a.offset b.offset)

back : (x y z : Ordering) → is_gt (ordering_then (ordering_reverse x) (ordering_then (ordering_reverse y) (ordering_reverse z))) ≡ is_lt (ordering_then x (ordering_then y z))
back Less y z = refl
back Greater y z = refl
back Equal Less z = refl
back Equal Greater z = refl
back Equal Equal Less = refl
back Equal Equal Equal = refl
back Equal Equal Greater = refl

pub key_cmp_back : (a b : Key) → is_gt (ord.cmp-value.it a b) ≡ key_below b a
key_cmp_back a b =
    let e = nat_cmp_total.antisymm in
    rw (e a.objectid b.objectid, e a.kind b.kind, e a.offset b.offset) (back (nat_cmp b.objectid a.objectid) (nat_cmp b.kind a.kind) (nat_cmp b.offset a.offset) ∙ key_cmp b a)

-- by `<` and `>=`
some-then : (x y : Ordering) → partial_ordering_then (Some x) (Some y) ≡ Some (ordering_then x y)
some-then Less y = refl
some-then Equal y = refl
some-then Greater y = refl

key-partial : (a b : Key) → partial.partial_cmp-value.it a b ≡ Some (ord.cmp-value.it a b)
key-partial a b =
    let x = nat_cmp a.objectid b.objectid in
    let y = nat_cmp a.kind b.kind in
    let z = nat_cmp a.offset b.offset in
    ap (partial_ordering_then (Some x)) (some-then y z) ∙ some-then x (ordering_then y z)

pub key_lt : (a b : Key) → partial_lt partial.partial_cmp-value.it a b ≡ key_below a b
key_lt a b = ap (is_some_and is_lt) (key-partial a b) ∙ key_cmp a b

ge-not : (x : Ordering) → is_ge x ≡ not (is_lt x)
ge-not Less = refl
ge-not Equal = refl
ge-not Greater = refl

pub key_ge : (a b : Key) → partial_ge partial.partial_cmp-value.it a b ≡ not (key_below a b)
key_ge a b = ap (is_some_and is_ge) (key-partial a b) ∙ ge-not (ord.cmp-value.it a b) ∙ ap not (key_cmp a b)
