-- Inline references in order: what removing, weighing anew and inserting do to the order, and where an added reference goes.
-- Knows nothing of bytes. Assumes nothing.
use mathlib.Core.Path.{◌≡◌, refl, sym, ap, ap₂, ◌∙◌, subst}
use mathlib.Core.Logic.{◌≢◌, ◌⊎◌, inl, inr}
use Prim.Native.Nat.{ℕ, ◌≤◌, ◌<◌}
use native.Mathlib.Omega.{arith}
use mathlib.Core.Bool.{Bool, true, false, not, ◌&&◌, ◌||◌, cond}
use mathlib.Core.Option.{Option, none, some}
use mathlib.Core.List.{List, [], ◌∷◌, ◌++◌, append-nil}
use lib.ListN.{length, get_or}
use lib.Dec.{T, leb, ltb, eqb, eqb→eq, leb→le, le→leb, ltb→lt, lt→ltb}
use mir.Facts.{and_yes, yes_and, or_yes, or_no, T_not, not_T, yes_eqb, no_eqb}
use Rattle.fields.specs.Lists.{all, same, Cut, first_cut}
use Rattle.fields.proofs.Lists.{or_left, or_right, lt-or, all_left, all_both, all_map, all_two, same-yes, same_refl, Found, cut-some, cut-none}
use Rattle.format.specs.References.{field_count, Ref, make_ref, rank_of, rank, falls, follows, leads, ordered}
use Rattle.format.specs.Bodies.{named, weighed, RefPosition, gap, standing, stops, gap_at, insert_position, standing_or, position_anywhere, scanned, position_by_scan}
use Rattle.theorems.proofs.Naming.{Naming, above-172, not-172, one_field}

-- ---- the order

pub falls-trans : (k x y z : ℕ) → T (falls k x y) → T (falls k y z) → T (falls k x z)
unfolding falls
falls-trans k x y z = go (eqb k 172) (eqb k 178)
  where
    go : (c d : Bool) → T (cond c true (cond d (leb y x) (ltb y x))) → T (cond c true (cond d (leb z y) (ltb z y)))
        → T (cond c true (cond d (leb z x) (ltb z x)))
    go true d s t = tt
    go false true s t = let p : y ≤ x = leb→le y x s in let q : z ≤ y = leb→le z y t in le→leb z x (omega arith)
    go false false s t = let p : y < x = ltb→lt y x s in let q : z < y = ltb→lt z y t in lt→ltb z x (omega arith)

pub falls-strict : (k x y : ℕ) → y < x → T (falls k x y)
unfolding falls
falls-strict k x y h = go (eqb k 172) (eqb k 178)
  where
    go : (c d : Bool) → T (cond c true (cond d (leb y x) (ltb y x)))
    go true d = tt
    go false true = le→leb y x (omega arith)
    go false false = lt→ltb y x h

pub follows-out : (r s : Ref) → T (follows r s)
    → (r.kind < s.kind) ⊎ ((r.kind ≡ s.kind) × T (falls r.kind (rank r) (rank s)))
unfolding follows
follows-out r s t = go (or_yes (ltb r.kind s.kind) _ t)
  where
    go : T (ltb r.kind s.kind) ⊎ T (eqb r.kind s.kind && falls r.kind (rank r) (rank s))
        → (r.kind < s.kind) ⊎ ((r.kind ≡ s.kind) × T (falls r.kind (rank r) (rank s)))
    go (inl h) = inl (ltb→lt _ _ h)
    go (inr h) = let k = and_yes (eqb r.kind s.kind) _ h in inr (eqb→eq _ _ k.0, k.1)

pub follows-lt : (r s : Ref) → r.kind < s.kind → T (follows r s)
unfolding follows
follows-lt r s h = or_left (ltb r.kind s.kind) _ (lt→ltb _ _ h)

pub follows-eq : (r s : Ref) → r.kind ≡ s.kind → T (falls r.kind (rank r) (rank s)) → T (follows r s)
unfolding follows
follows-eq r s e t = or_right (ltb r.kind s.kind) _ (yes_and (eqb r.kind s.kind) _ (yes_eqb e) t)

pub follows-trans : (r s u : Ref) → T (follows r s) → T (follows s u) → T (follows r u)
follows-trans r s u p q = go (follows-out r s p) (follows-out s u q)
  where
    go : (r.kind < s.kind) ⊎ ((r.kind ≡ s.kind) × T (falls r.kind (rank r) (rank s)))
        → (s.kind < u.kind) ⊎ ((s.kind ≡ u.kind) × T (falls s.kind (rank s) (rank u))) → T (follows r u)
    go (inl h) (inl k) = follows-lt r u (omega arith)
    go (inl h) (inr k) = follows-lt r u (omega arith)
    go (inr h) (inl k) = follows-lt r u (omega arith)
    go (inr h) (inr k) =
        follows-eq r u (h.0 ∙ k.0) (falls-trans r.kind (rank r) (rank s) (rank u) h.1 (rw h.0 k.1))

pub ordered-drop : (a : List Ref) (x : Ref) (b : List Ref) → T (ordered (a ++ x ∷ b)) → T (ordered (a ++ b))
ordered-drop [] x b t = (and_yes (leads x b) _ t).1
ordered-drop (w ∷ []) x [] t = tt
ordered-drop (w ∷ []) x (y ∷ b) t =
    let h = and_yes (follows w x) _ t in
    let k = and_yes (follows x y) _ h.1 in
    yes_and (follows w y) _ (follows-trans w x y h.0 k.0) k.1
ordered-drop (w ∷ v ∷ a) x b t =
    let h = and_yes (follows w v) _ t in
    yes_and (follows w v) _ h.0 (ordered-drop (v ∷ a) x b h.1)

pub ordered-back : (a b : List Ref) → T (ordered (a ++ b)) → T (ordered b)
ordered-back [] b t = t
ordered-back (r ∷ a) b t = ordered-back a b (and_yes (leads r (a ++ b)) _ t).1

pub ordered-put : (a : List Ref) (n : Ref) (b : List Ref) → T (ordered (a ++ b)) → T (all (λ r. follows r n) a) → T (leads n b)
    → T (ordered (a ++ n ∷ b))
ordered-put [] n b t f h = yes_and (leads n b) _ h t
ordered-put (r ∷ []) n b t f h =
    yes_and (follows r n) _ (and_yes (follows r n) _ f).0 (yes_and (leads n b) _ h (and_yes (leads r b) _ t).1)
ordered-put (r ∷ s ∷ a) n b t f h =
    let k = and_yes (follows r s) _ t in
    yes_and (follows r s) _ k.0 (ordered-put (s ∷ a) n b k.1 (and_yes (follows r n) _ f).1 h)

follows-weighed : (r x : Ref) (w : ℕ) → follows r (weighed x w) ≡ follows r x
unfolding follows rank
follows-weighed r x w = refl

leads-weighed : (x : Ref) (w : ℕ) (b : List Ref) → leads (weighed x w) b ≡ leads x b
unfolding follows rank
leads-weighed x w [] = refl
leads-weighed x w (y ∷ b) = refl

pub ordered-weighed : (a : List Ref) (x : Ref) (w : ℕ) (b : List Ref) → T (ordered (a ++ x ∷ b))
    → T (ordered (a ++ weighed x w ∷ b))
ordered-weighed [] x w b t =
    let h = and_yes (leads x b) _ t in yes_and (leads (weighed x w) b) _ (rw (leads-weighed x w b) h.0) h.1
ordered-weighed (r ∷ []) x w b t =
    let h = and_yes (follows r x) _ t in
    yes_and (follows r (weighed x w)) _ (rw (follows-weighed r x w) h.0) (ordered-weighed [] x w b h.1)
ordered-weighed (r ∷ s ∷ a) x w b t =
    let h = and_yes (follows r s) _ t in
    yes_and (follows r s) _ h.0 (ordered-weighed (s ∷ a) x w b h.1)

-- ---- a type and its fields

pub named-yes : (kind : ℕ) (fields : List ℕ) (r : Ref) → T (named kind fields r) → (r.kind ≡ kind) × (r.fields ≡ fields)
unfolding named
named-yes kind fields r t =
    let h = and_yes (eqb r.kind kind) (same r.fields fields) t in
    (eqb→eq _ _ h.0, same-yes r.fields fields h.1)

pub yes-named : (kind : ℕ) (fields : List ℕ) (r : Ref) → r.kind ≡ kind → r.fields ≡ fields → T (named kind fields r)
unfolding named
yes-named kind fields r e f =
    yes_and (eqb r.kind kind) (same r.fields fields) (yes_eqb e)
    (subst (λ (l : List ℕ). T (same r.fields l)) f (same_refl r.fields))

-- as many fields as the type has
unfoldable pub long : Ref → Bool
long r = eqb (length r.fields) (field_count r.kind)

-- two lists of one number
same_first : (a b : List ℕ) → length a ≡ 1 → length b ≡ 1 → get_or a 0 0 ≡ get_or b 0 0 → a ≡ b
same_first [] b p q e = absurd (omega arith)
same_first (x ∷ a) [] p q e = absurd (omega arith)
same_first (x ∷ []) (y ∷ []) p q e = ap (λ (n : ℕ). n ∷ []) e
same_first (x ∷ []) (y ∷ z ∷ b) p q e = absurd (omega arith)
same_first (x ∷ w ∷ a) (y ∷ b) p q e = absurd (omega arith)

-- away from 178, the type and the rank are the name
rank-fields : (kind : ℕ) (a b : List ℕ) → Naming kind → length a ≡ field_count kind → length b ≡ field_count kind
    → eqb kind 178 ≡ false
    → rank_of kind a ≡ rank_of kind b → a ≡ b
unfolding rank_of
rank-fields kind a b k p q f e =
    let o = one_field kind k f in
    let e' : get_or a 0 0 ≡ get_or b 0 0 = rw f at e in
    same_first a b (p ∙ o) (q ∙ o) e'

-- ---- where a reference of that type, those fields and any weight goes

module _ (kind : ℕ) (fields : List ℕ) (weight : ℕ) (naming : Naming kind) (size : length fields ≡ field_count kind) where
  rank-new : rank (make_ref kind fields weight) ≡ rank_of kind fields
  unfolding rank
  rank-new = refl

  rank-named : (r : Ref) → T (named kind fields r) → rank r ≡ rank_of kind fields
  unfolding rank
  rank-named r t = let h = named-yes kind fields r t in ap₂ rank_of h.0 h.1

  stop-out : (r : Ref) → T (stops kind (rank_of kind fields) r)
      → (kind < r.kind) ⊎ ((kind ≡ r.kind) × (rank r < rank_of kind fields))
  unfolding stops
  stop-out r t =
      go (or_yes (ltb kind r.kind) (eqb kind r.kind && ltb (rank r) (rank_of kind fields)) (and_yes (not (eqb r.kind 172)) _ t).1)
    where
      go : T (ltb kind r.kind) ⊎ T (eqb kind r.kind && ltb (rank r) (rank_of kind fields))
          → (kind < r.kind) ⊎ ((kind ≡ r.kind) × (rank r < rank_of kind fields))
      go (inl h) = inl (ltb→lt _ _ h)
      go (inr h) = let k = and_yes (eqb kind r.kind) _ h in inr (eqb→eq _ _ k.0, ltb→lt _ _ k.1)

  no-owner : (r : Ref) → kind ≤ r.kind → T (not (eqb r.kind 172))
  no-owner r h = let a = above-172 kind naming in no_eqb (λ (e : r.kind ≡ 172). omega arith)

  stop-lt : (r : Ref) → kind < r.kind → T (stops kind (rank_of kind fields) r)
  unfolding stops
  stop-lt r h =
      let g : kind ≤ r.kind = omega arith in
      yes_and (not (eqb r.kind 172)) _ (no-owner r g) (or_left (ltb kind r.kind) _ (lt→ltb _ _ h))

  stop-eq : (r : Ref) → kind ≡ r.kind → rank r < rank_of kind fields → T (stops kind (rank_of kind fields) r)
  unfolding stops
  stop-eq r e h =
      let g : kind ≤ r.kind = omega arith in
      yes_and (not (eqb r.kind 172)) _ (no-owner r g)
      (or_right (ltb kind r.kind) _ (yes_and (eqb kind r.kind) _ (yes_eqb e) (lt→ltb _ _ h)))

  -- the new one may stand before what stops the scan
  stop-follows : (r : Ref) → T (stops kind (rank_of kind fields) r) → T (follows (make_ref kind fields weight) r)
  stop-follows r t = go (stop-out r t)
    where
      go : (kind < r.kind) ⊎ ((kind ≡ r.kind) × (rank r < rank_of kind fields)) → T (follows (make_ref kind fields weight) r)
      go (inl h) = follows-lt (make_ref kind fields weight) r h
      go (inr h) =
          follows-eq (make_ref kind fields weight) r h.0
          (falls-strict kind (rank (make_ref kind fields weight)) (rank r) (rw rank-new h.1))

  -- what stops the scan has another name
  stop-other : (r : Ref) → T (stops kind (rank_of kind fields) r) → T (not (named kind fields r))
  stop-other r t = not_T (named kind fields r) (λ u. go u (stop-out r t))
    where
      go : T (named kind fields r) → (kind < r.kind) ⊎ ((kind ≡ r.kind) × (rank r < rank_of kind fields)) → ⊥
      go u (inl h) = let e = (named-yes kind fields r u).0 in omega arith
      go u (inr h) = let k = h.1 in omega (arith, rank-named r u)

  -- and whatever follows it stops the scan too
  stop-up : (r s : Ref) → T (stops kind (rank_of kind fields) r) → T (follows r s) → T (stops kind (rank_of kind fields) s)
  unfolding falls
  stop-up r s t f = go (stop-out r t) (follows-out r s f)
    where
      weak : (c d : Bool) → c ≡ false → T (cond c true (cond d (leb (rank s) (rank r)) (ltb (rank s) (rank r))))
          → rank s ≤ rank r
      weak true d q t = absurd (subst T q tt)
      weak false true q t = leb→le _ _ t
      weak false false q t = let h : rank s < rank r = ltb→lt _ _ t in omega arith

      go : (kind < r.kind) ⊎ ((kind ≡ r.kind) × (rank r < rank_of kind fields))
          → (r.kind < s.kind) ⊎ ((r.kind ≡ s.kind) × T (falls r.kind (rank r) (rank s)))
          → T (stops kind (rank_of kind fields) s)
      go (inl h) (inl k) = stop-lt s (omega arith)
      go (inl h) (inr k) = let e = k.0 in stop-lt s (omega arith)
      go (inr h) (inl k) = let e = h.0 in stop-lt s (omega arith)
      go (inr h) (inr k) =
          let q : eqb r.kind 172 ≡ false = ap (λ (n : ℕ). eqb n 172) (sym h.0) ∙ not-172 kind naming in
          let w : rank s ≤ rank r = weak (eqb r.kind 172) (eqb r.kind 178) q k.1 in
          let v = h.1 in
          stop-eq s (h.0 ∙ k.0) (omega arith)

  -- what the scan passes, and has another name, may stand before the new one
  pass-follows : (r : Ref) → T (not (stops kind (rank_of kind fields) r)) → T (long r && not (named kind fields r))
      → T (follows r (make_ref kind fields weight))
  unfolding falls long rank
  pass-follows r t lu = kinds (lt-or r.kind kind)
    where
      no_eq : r.kind ≡ kind → eqb r.kind 178 ≡ false → rank (make_ref kind fields weight) ≢ rank r
      no_eq e q p =
          let h = and_yes (eqb (length r.fields) (field_count r.kind)) _ lu in
          let sz : length r.fields ≡ field_count kind = eqb→eq _ _ h.0 ∙ ap field_count e in
          let q' : eqb kind 178 ≡ false = ap (λ (n : ℕ). eqb n 178) (sym e) ∙ q in
          let p' : rank_of kind r.fields ≡ rank_of kind fields = ap (λ (n : ℕ). rank_of n r.fields) (sym e) ∙ sym p in
          T_not (named kind fields r) (yes-named kind fields r e (rank-fields kind r.fields fields naming sz size q' p'))
          h.1

      down : (c d : Bool) → eqb r.kind 178 ≡ d → r.kind ≡ kind → rank (make_ref kind fields weight) ≤ rank r
          → T (cond c true (cond d (leb (rank (make_ref kind fields weight)) (rank r)) (ltb (rank (make_ref kind fields weight)) (rank r))))
      down true d q e h = tt
      down false true q e h = le→leb _ _ h
      down false false q e h =
          let ne : rank (make_ref kind fields weight) ≢ rank r = no_eq e q in
          lt→ltb (rank (make_ref kind fields weight)) (rank r) (omega arith)

      kinds : (r.kind < kind) ⊎ (kind ≤ r.kind) → T (follows r (make_ref kind fields weight))
      kinds (inl h) = follows-lt r (make_ref kind fields weight) h
      kinds (inr h) = ranks (lt-or (rank r) (rank (make_ref kind fields weight))) (lt-or kind r.kind)
        where
          ranks : (rank r < rank (make_ref kind fields weight)) ⊎ (rank (make_ref kind fields weight) ≤ rank r)
              → (kind < r.kind) ⊎ (r.kind ≤ kind) → T (follows r (make_ref kind fields weight))
          ranks x (inl k) = absurd (T_not (stops kind (rank_of kind fields) r) (stop-lt r k) t)
          ranks (inl x) (inr k) =
              absurd (T_not (stops kind (rank_of kind fields) r) (stop-eq r (omega arith) (rw rank-new at x)) t)
          ranks (inr x) (inr k) =
              let e : r.kind ≡ kind = omega arith in
              follows-eq r (make_ref kind fields weight) e (down (eqb r.kind 172) (eqb r.kind 178) refl e x)

  -- from what stops the scan on, all stop it
  stop-rest : (r : Ref) (l : List Ref) → T (ordered (r ∷ l)) → T (stops kind (rank_of kind fields) r)
      → T (all (stops kind (rank_of kind fields)) (r ∷ l))
  stop-rest r [] o t = yes_and (stops kind (rank_of kind fields) r) _ t tt
  stop-rest r (s ∷ l) o t =
      let h = and_yes (follows r s) _ o in
      yes_and (stops kind (rank_of kind fields) r) _ t (stop-rest s l h.1 (stop-up r s t h.0))

  -- a position for the reference in a list: a gap that keeps the order, where no other has the name, or the first that has it
  pub data PositionOk (l : List Ref) : RefPosition → Type 0 where
    at_gap : {p q : List Ref} → l ≡ p ++ q → T (ordered (p ++ make_ref kind fields weight ∷ q))
        → T (all (λ r. not (named kind fields r)) l)
        → PositionOk l (gap p q)
    at-standing : {x : Cut Ref} → Found (named kind fields) l x → PositionOk l (standing x)

  pass_all : (l : List Ref) → T (all long l) → T (all (λ r. not (named kind fields r)) l)
      → T (all (λ r. not (stops kind (rank_of kind fields) r)) l) → T (all (λ r. follows r (make_ref kind fields weight)) l)
  pass_all l lo t u =
      all_two (λ r. not (stops kind (rank_of kind fields) r)) (λ r. long r && not (named kind fields r))
      (λ r. follows r (make_ref kind fields weight)) pass-follows l u
      (all_two long (λ r. not (named kind fields r)) (λ r. long r && not (named kind fields r)) (λ r a b. yes_and (long r) _ a b) l lo t)

  -- the position of the scan, where the list up to it has other names
  new-end : (l : List Ref) → T (ordered l) → T (all long l) → T (all (λ r. not (named kind fields r)) l)
      → T (all (λ r. not (stops kind (rank_of kind fields) r)) l) → PositionOk l (gap l [])
  new-end l o lo t u =
      at_gap (sym (append-nil l)) (ordered-put l (make_ref kind fields weight) [] (rw (append-nil l) o) (pass_all l lo t u) tt) t

  new-at : (l : List Ref) (x : Cut Ref) → l ≡ x.front ++ x.hit ∷ x.back → T (ordered l) → T (all long l)
      → T (all (λ r. not (named kind fields r)) x.front) → T (all (λ r. not (stops kind (rank_of kind fields) r)) x.front)
      → T (stops kind (rank_of kind fields) x.hit) → PositionOk l (gap x.front (x.hit ∷ x.back))
  new-at l x e o lo t u h =
      let o' : T (ordered (x.front ++ x.hit ∷ x.back)) = rw e at o in
      let lo' : T (all long x.front) = all_left long x.front (x.hit ∷ x.back) (rw e at lo) in
      let s : T (all (stops kind (rank_of kind fields)) (x.hit ∷ x.back)) =
      stop-rest x.hit x.back (ordered-back x.front (x.hit ∷ x.back) o') h in
      at_gap e
      (ordered-put x.front (make_ref kind fields weight) (x.hit ∷ x.back) o' (pass_all x.front lo' t u) (stop-follows x.hit h))
      (rw e (all_both (λ r. not (named kind fields r)) x.front (x.hit ∷ x.back) t
      (all_map (stops kind (rank_of kind fields)) (λ r. not (named kind fields r)) stop-other (x.hit ∷ x.back) s)))

  -- an equal one anywhere, else the insert position
  anywhere-ok : (l : List Ref) → T (ordered l) → T (all long l) → (o : Option (Cut Ref)) → first_cut (named kind fields) l ≡ o
      → PositionOk l (standing_or o (insert_position kind (rank_of kind fields) l))
  unfolding standing_or insert_position gap_at
  anywhere-ok l o lo none e = go (first_cut (stops kind (rank_of kind fields)) l) refl
    where
      t : T (all (λ r. not (named kind fields r)) l)
      t = cut-none (named kind fields) l e

      go : (y : Option (Cut Ref)) → first_cut (stops kind (rank_of kind fields)) l ≡ y → PositionOk l (gap_at l y)
      go none q = new-end l o lo t (cut-none (stops kind (rank_of kind fields)) l q)
      go (some x) q =
          let f = cut-some (stops kind (rank_of kind fields)) l q in
          new-at l x f.same o lo (all_left (λ r. not (named kind fields r)) x.front (x.hit ∷ x.back) (rw f.same at t)) f.miss f.hit
  anywhere-ok l o lo (some x) e = at-standing (cut-some (named kind fields) l e)

  pub position-anywhere : (l : List Ref) → T (ordered l) → T (all long l)
      → PositionOk l (position_anywhere kind fields (rank_of kind fields) l)
  unfolding position_anywhere
  position-anywhere l o lo = anywhere-ok l o lo (first_cut (named kind fields) l) refl

  -- one scan
  scan-ok : (l : List Ref) → T (ordered l) → T (all long l) → (o : Option (Cut Ref))
      → first_cut (λ r. named kind fields r || stops kind (rank_of kind fields) r) l ≡ o → PositionOk l (scanned kind fields l o)
  unfolding scanned
  scan-ok l o lo none e =
      let p : Ref → Bool = (λ r. not (named kind fields r || stops kind (rank_of kind fields) r)) in
      let t = cut-none (λ r. named kind fields r || stops kind (rank_of kind fields) r) l e in
      new-end l o lo (all_map p (λ r. not (named kind fields r)) (λ r h. (or_no (named kind fields r) (stops kind (rank_of kind fields) r) h).0) l t)
      (all_map p (λ r. not (stops kind (rank_of kind fields) r)) (λ r h. (or_no (named kind fields r) (stops kind (rank_of kind fields) r) h).1) l t)
  scan-ok l o lo (some x) e = go (named kind fields x.hit) refl
    where
      f : Found (λ r. named kind fields r || stops kind (rank_of kind fields) r) l x
      f = cut-some (λ r. named kind fields r || stops kind (rank_of kind fields) r) l e

      other : T (all (λ r. not (named kind fields r)) x.front)
      other =
          all_map (λ r. not (named kind fields r || stops kind (rank_of kind fields) r)) (λ r. not (named kind fields r))
          (λ r h. (or_no (named kind fields r) (stops kind (rank_of kind fields) r) h).0) x.front f.miss

      go : (c : Bool) → named kind fields x.hit ≡ c → PositionOk l (cond c (standing x) (gap x.front (x.hit ∷ x.back)))
      go true q = at-standing (record { same = f.same; hit = subst T (sym q) tt; miss = other })
      go false q =
          new-at l x f.same o lo other
          (all_map (λ r. not (named kind fields r || stops kind (rank_of kind fields) r)) (λ r. not (stops kind (rank_of kind fields) r))
          (λ r h. (or_no (named kind fields r) (stops kind (rank_of kind fields) r) h).1) x.front f.miss)
          (subst (λ (c : Bool). T (c || stops kind (rank_of kind fields) x.hit)) q f.hit)

  pub position-by-scan : (l : List Ref) → T (ordered l) → T (all long l) → PositionOk l (position_by_scan kind fields l)
  unfolding position_by_scan
  position-by-scan l o lo = scan-ok l o lo (first_cut (λ r. named kind fields r || stops kind (rank_of kind fields) r) l) refl
