-- The pass over the items of a rising list says exactly whether they are balanced. Assumes nothing.
use mathlib.Core.Path.{◌≡◌, refl, sym, ◌∙◌, subst}
use mathlib.Core.Logic.{◌≢◌, ◌⊎◌, inl, inr}
use Prim.Native.Nat.{ℕ, ◌≤◌}
use native.Mathlib.Omega.{arith}
use mathlib.Core.Bool.{Bool, true, false, not, ◌&&◌, ◌||◌, cond}
use mathlib.Core.Option.{Option, none, some}
use mathlib.Core.List.{List, [], ◌∷◌}
use lib.Dec.{T, leb, eqb, eqb→eq, le→leb}
use mir.Facts.{and_yes, yes_and, or_yes, T_not, yes_eqb}
use Rattle.fields.specs.Lists.{all}
use Rattle.fields.proofs.Lists.{or_left, or_right, cond_yes, cond_no, all_map}
use Rattle.format.specs.Items.{Item, above, rising}
use Rattle.format.specs.Names.{View, malformed, view_of, ref_entries, entries, well_formed, good, balanced}
use Rattle.format.proofs.Refs.{yes_or_no}
use Rattle.format.proofs.Keys.{Before, below_out, beyond, rising-after}
use Rattle.format.proofs.Items.{sane, sane-out}
use Rattle.balance.specs.Tally.{start, sound, GroupTally, fresh, closed, unnamed, taken, here, entered, entry_of, onward, pass}
use Rattle.balance.proofs.Parts.{nil, none_named, balanced-facts, facts-balanced, facts-same}
use Rattle.balance.proofs.Says.{Says, a_record, a_reference, nothing, bad, says}
use Rattle.balance.proofs.Extents.{Of, Valid, zero-cond, fresh-valid, far-all, ahead, past, leave, return}
use Rattle.balance.proofs.Taking.{marked_by, take-record, record-sound, record-taken, record-first, marked-valid, weighed-by, take-ref, ref-marked, ref-heavy, ref-unnamed, ref_taken, weighed-valid, take_none, none-taken}

ahead_of : (t : GroupTally) (i : Item) (rest : List Item) → i.key.objectid ≡ t.extent → T (rising (i ∷ rest)) → T (all (ahead t) rest)
ahead_of t i rest e r = all_map (beyond i.key) (ahead t) (λ j b. le→leb _ _ (low j (below_out i.key j.key b))) rest (rising-after i rest r)
  where
    low : (j : Item) → Before i.key j.key → t.extent ≤ j.key.objectid
    low j (inl h) = omega arith
    low j (inr (h, k)) = omega arith

-- ---- an item of the extent at hand, from what holds of the rest

module _ (t : GroupTally) (i : Item) (rest : List Item) (self : i.key.objectid ≡ t.extent) (v : Valid t) (up : T (rising (i ∷ rest)))
    (sanes : T (all sane rest)) where
  ahead-here : (u : GroupTally) → u.extent ≡ t.extent → T (all (ahead u) rest)
  ahead-here u e = ahead_of u i rest (self ∙ sym e) up

  no-good : view_of i ≡ malformed → Of t (i ∷ rest) → ⊥
  unfolding well_formed
  no-good e F = let g : T (good i) = (and_yes (good i) _ F.goods).0 in rw e at g

  yes-taken : ((u : GroupTally) → Valid u → T (all (ahead u) rest) → T (pass rest u) → Of u rest)
      → Says i → T (onward (pass rest) (taken t (view_of i))) → Of t (i ∷ rest)
  unfolding taken
  yes-taken ih (a_record b is_rec e w) p =
      go (not t.marked && sound start b.refs) refl (subst (λ (x : View). T (onward (pass rest) (taken t x))) e p)
    where
      go : (c : Bool) → (not t.marked && sound start b.refs) ≡ c
          → T (onward (pass rest) (cond c (some (marked_by t i rest self v b is_rec e w)) none)) → Of t (i ∷ rest)
      go true q h =
          let k = and_yes (not t.marked) (sound start b.refs) (subst T (sym q) tt) in
          take-record t i rest self v b is_rec e w k.0 k.1
          (ih (marked_by t i rest self v b is_rec e w) (marked-valid t i rest self v b is_rec e w k.1) (ahead-here (marked_by t i rest self v b is_rec e w) refl) h)
      go false q h = absurd h
  yes-taken ih (a_reference r not_rec is_ref naming e ek ep) p =
      go (t.marked && (leb 1 r.weight && unnamed t.refs r)) refl (subst (λ (x : View). T (onward (pass rest) (taken t x))) e p)
    where
      go : (c : Bool) → (t.marked && (leb 1 r.weight && unnamed t.refs r)) ≡ c
          → T (onward (pass rest) (cond c (some (weighed-by t i rest self v r not_rec is_ref naming e ek ep up sanes)) none)) → Of t (i ∷ rest)
      go true q h =
          let k = and_yes t.marked _ (subst T (sym q) tt) in
          let l = and_yes (leb 1 r.weight) _ k.1 in
          let u : GroupTally = weighed-by t i rest self v r not_rec is_ref naming e ek ep up sanes in
          take-ref t i rest self v r not_rec is_ref naming e ek ep up sanes k.0 l.0 l.1
          (ih u (weighed-valid t i rest self v r not_rec is_ref naming e ek ep up sanes k.0) (ahead-here u refl) h)
      go false q h = absurd h
  yes-taken ih (nothing not_rec not_ref e) p =
      take_none t i rest self v not_rec not_ref e (ih t v (ahead-here t refl) (subst (λ (x : View). T (onward (pass rest) (taken t x))) e p))
  yes-taken ih (bad e) p = absurd (subst (λ (x : View). T (onward (pass rest) (taken t x))) e p)

  taken_yes : ((u : GroupTally) → Valid u → T (all (ahead u) rest) → Of u rest → T (pass rest u))
      → Says i → Of t (i ∷ rest) → T (onward (pass rest) (taken t (view_of i)))
  unfolding taken
  taken_yes ih (a_record b is_rec e w) F =
      let m = record-first t i rest self v b is_rec e w F in
      let s = record-sound t i rest self v b is_rec e w m F in
      let u : GroupTally = marked_by t i rest self v b is_rec e w in
      subst (λ (x : View). T (onward (pass rest) (taken t x))) (sym e)
      (subst (λ (o : Option GroupTally). T (onward (pass rest) o)) (sym (cond_yes (not t.marked && sound start b.refs) (some u) none (yes_and (not t.marked) _ m s)))
      (ih u (marked-valid t i rest self v b is_rec e w s) (ahead-here u refl) (record-taken t i rest self v b is_rec e w m F)))
  taken_yes ih (a_reference r not_rec is_ref naming e ek ep) F =
      let m = ref-marked t i rest self v r not_rec is_ref naming e ek ep up sanes F in
      let h = ref-heavy t i rest self v r not_rec is_ref naming e ek ep up sanes F in
      let n = ref-unnamed t i rest self v r not_rec is_ref naming e ek ep up sanes F in
      let u : GroupTally = weighed-by t i rest self v r not_rec is_ref naming e ek ep up sanes in
      subst (λ (x : View). T (onward (pass rest) (taken t x))) (sym e)
      (subst (λ (o : Option GroupTally). T (onward (pass rest) o))
      (sym (cond_yes (t.marked && (leb 1 r.weight && unnamed t.refs r)) (some u) none (yes_and t.marked _ m (yes_and (leb 1 r.weight) _ h n))))
      (ih u (weighed-valid t i rest self v r not_rec is_ref naming e ek ep up sanes m) (ahead-here u refl) (ref_taken t i rest self v r not_rec is_ref naming e ek ep up sanes F)))
  taken_yes ih (nothing not_rec not_ref e) F =
      subst (λ (x : View). T (onward (pass rest) (taken t x))) (sym e) (ih t v (ahead-here t refl) (none-taken t i rest self v not_rec not_ref e F))
  taken_yes ih (bad e) F = absurd (no-good e F)

-- ---- the whole list

nothing_left : (x : ℕ) → Of (fresh x) []
unfolding entries ref_entries
nothing_left x = record {
  goods = tt;
  once = λ y. omega (arith, zero-cond (eqb x y));
  owned = λ y h. absurd (omega arith);
  names = λ n. omega arith;
  heavy = tt;
  totals = λ y h. omega (arith, zero-cond (eqb x y));
}

entry_here : (t : GroupTally) (i : Item) → T (here t i) → entry_of t i ≡ t
unfolding entry_of
entry_here t i h = cond_yes (here t i) t _ h

entry_new : (t : GroupTally) (i : Item) → T (not (here t i)) → entry_of t i ≡ fresh i.key.objectid
unfolding entry_of
entry_new t i h = cond_no (here t i) t _ h

here-is : (t : GroupTally) (i : Item) → T (here t i) → i.key.objectid ≡ t.extent
unfolding here
here-is t i h = eqb→eq _ _ h

not-here : (t : GroupTally) (i : Item) → T (not (here t i)) → i.key.objectid ≢ t.extent
unfolding here
not-here t i h e = T_not (eqb i.key.objectid t.extent) (yes_eqb e) h

new-closed : (t : GroupTally) (i : Item) → T (entered t i) → T (not (here t i)) → T (closed t)
unfolding entered
new-closed t i n h = go (or_yes (here t i) (closed t) n)
  where
    go : T (here t i) ⊎ T (closed t) → T (closed t)
    go (inl k) = absurd (T_not (here t i) k h)
    go (inr k) = k

pub pass-facts : (rest : List Item) (t : GroupTally) → Valid t → T (all (ahead t) rest) → T (rising rest) → T (all sane rest) → T (pass rest t) → Of t rest
unfolding pass
pass-facts [] t v a up s p = return t 0 [] v (far-all t.extent [] tt) p (nothing_left 0)
pass-facts (i ∷ rest) t v a up s p =
    let h = and_yes (entered t i) _ p in
    go (λ u w b q. pass-facts rest u w b (and_yes (above i rest) _ up).1 (and_yes (sane i) _ s).1 q) h.0 h.1 (yes_or_no (here t i))
  where
    sanes : T (all sane rest)
    sanes = (and_yes (sane i) _ s).1

    word : Says i
    word = says i (sane-out i (and_yes (sane i) _ s).0).bytes_small

    go : ((u : GroupTally) → Valid u → T (all (ahead u) rest) → T (pass rest u) → Of u rest) → T (entered t i)
        → T (onward (pass rest) (taken (entry_of t i) (view_of i))) → T (here t i) ⊎ T (not (here t i)) → Of t (i ∷ rest)
    go ih n p (inl h) =
        yes-taken t i rest (here-is t i h) v up sanes ih word (subst (λ (u : GroupTally). T (onward (pass rest) (taken u (view_of i)))) (entry_here t i h) p)
    go ih n p (inr h) =
        return t i.key.objectid (i ∷ rest) v
        (far-all t.extent (i ∷ rest) (past t i rest (and_yes (ahead t i) _ a).0 (not-here t i h) up)) (new-closed t i n h)
        (yes-taken (fresh i.key.objectid) i rest refl (fresh-valid i.key.objectid) up sanes ih word
        (subst (λ (u : GroupTally). T (onward (pass rest) (taken u (view_of i)))) (entry_new t i h) p))

pub facts-pass : (rest : List Item) (t : GroupTally) → Valid t → T (all (ahead t) rest) → T (rising rest) → T (all sane rest) → Of t rest → T (pass rest t)
unfolding pass entered
facts-pass [] t v a up s F = (leave t 0 [] v (far-all t.extent [] tt) F).0
facts-pass (i ∷ rest) t v a up s F =
    go (λ u w b q. facts-pass rest u w b (and_yes (above i rest) _ up).1 (and_yes (sane i) _ s).1 q) (yes_or_no (here t i))
  where
    sanes : T (all sane rest)
    sanes = (and_yes (sane i) _ s).1

    word : Says i
    word = says i (sane-out i (and_yes (sane i) _ s).0).bytes_small

    go : ((u : GroupTally) → Valid u → T (all (ahead u) rest) → Of u rest → T (pass rest u)) → T (here t i) ⊎ T (not (here t i))
        → T ((here t i || closed t) && onward (pass rest) (taken (entry_of t i) (view_of i)))
    go ih (inl h) =
        yes_and (here t i || closed t) _ (or_left (here t i) _ h)
        (subst (λ (u : GroupTally). T (onward (pass rest) (taken u (view_of i)))) (sym (entry_here t i h)) (taken_yes t i rest (here-is t i h) v up sanes ih word F))
    go ih (inr h) =
        let l = leave t i.key.objectid (i ∷ rest) v (far-all t.extent (i ∷ rest) (past t i rest (and_yes (ahead t i) _ a).0 (not-here t i h) up)) F in
        yes_and (here t i || closed t) _ (or_right (here t i) _ l.0)
        (subst (λ (u : GroupTally). T (onward (pass rest) (taken u (view_of i)))) (sym (entry_new t i h))
        (taken_yes (fresh i.key.objectid) i rest refl (fresh-valid i.key.objectid) up sanes ih word l.1))

-- two tests that say yes together are the same
same_test : (a b : Bool) → (T a → T b) → (T b → T a) → a ≡ b
same_test true true f g = refl
same_test true false f g = absurd (f tt)
same_test false true f g = absurd (g tt)
same_test false false f g = refl

first-ahead : (l : List Item) → T (all (ahead (fresh 0)) l)
first-ahead [] = tt
first-ahead (i ∷ l) = yes_and (leb 0 i.key.objectid) _ (le→leb 0 i.key.objectid (omega arith)) (first-ahead l)

pub pass-balanced : (items : List Item) → T (rising items) → T (all sane items) → pass items (fresh 0) ≡ balanced items
unfolding ref_entries
pass-balanced items up s =
    same_test (pass items (fresh 0)) (balanced items)
    (λ p. facts-balanced items (facts-same _ _ _ nil nil nil _ none_named items (λ y. zero-cond (eqb 0 y)) (λ y. zero-cond (eqb 0 y)) (λ y. zero-cond (eqb 0 y)) (λ n. refl)
    (pass-facts items (fresh 0) (fresh-valid 0) (first-ahead items) up s p)))
    (λ b. facts-pass items (fresh 0) (fresh-valid 0) (first-ahead items) up s
    (facts-same nil nil nil _ _ _ none_named _ items (λ y. sym (zero-cond (eqb 0 y))) (λ y. sym (zero-cond (eqb 0 y))) (λ y. sym (zero-cond (eqb 0 y))) (λ n. refl)
    (balanced-facts items b)))
