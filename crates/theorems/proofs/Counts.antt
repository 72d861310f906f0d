-- What a name counts on a balanced sheet, inline and as an item of its own: where it stands inline, where it has an item, and
-- where it stands nowhere. Assumes nothing.
use mathlib.Core.Path.{◌≡◌, refl, sym, ap, ◌∙◌, subst}
use mathlib.Core.Logic.{◌≢◌, ◌⊎◌, inl, inr}
use mathlib.Core.Bool.{Bool, true, false, not, ◌&&◌, ◌||◌, cond}
use mathlib.Core.List.{List, [], ◌∷◌, ◌++◌, append-nil}
use mathlib.Core.Option.{Option, none, some}
use Prim.Native.Nat.{ℕ, ◌+◌, ◌≤◌, ◌<◌}
use native.Mathlib.Omega.{arith}
use lib.Dec.{T, leb, eqb, eqb→eq, leb→le}
use lib.ListN.{length, get_or}
use mir.Facts.{and_yes, yes_and, or_no, T_not-not, yes_eqb, eqb_no}
use Rattle.fields.specs.Lists.{sum, all, Cut, first_cut}
use Rattle.fields.specs.Numbers.{words, are_bytes}
use Rattle.fields.proofs.Lists.{T-eq, lt-or, imp-out, or_left, cond_yes, sum-append, all_map, all-mid, all_rest, all-put, cut-some, cut-none}
use Rattle.format.specs.References.{known, Ref, ref_at, Body, read_body, rank, rank_of}
use Rattle.format.specs.Bodies.{named, one, keyed_count}
use Rattle.format.specs.Items.{Item, key_of, without}
use Rattle.format.specs.Apply.{is_record, record_of}
use Rattle.format.specs.Names.{Name, same_name, Entry, unrelated, is_ref_item, view_record, view_ref_item, view_of, ref_entries, view_entries, item_entries, entries, under, count, good, records, paired, stands}
use Rattle.format.specs.Ledger.{not_its_own, shared_count}
use Rattle.format.proofs.Rows.{Kind, k172, k176, k178, k182, k184, known-kind}
use Rattle.theorems.proofs.Sums.{same_name-yes, empty, sum-mid, sum-two, sum-refs}
use Rattle.theorems.proofs.Naming.{Naming, is176, is178, is182, is184, not-172}
use Rattle.theorems.proofs.Order.{named-yes}
use Rattle.theorems.proofs.Edit.{only, only-stands, only-counts, Balanced, lone, record-entries}
use Rattle.theorems.proofs.Facts.{rest-none, refs-none, named-entries, view-item, form-out, plain_entry, data-entry, ref_at-178, unstood}
use Rattle.theorems.proofs.Steps.{tidy, Here, here_of, balanced-at}
use Rattle.theorems.proofs.Drops.{weight-at, Own, own_of}
use Rattle.theorems.specs.Acceptance.{UpToFive, inline, apart}
use Rattle.theorems.proofs.Posting.{sheet-facts}

-- ---- sums

-- where nothing counts 0, a name that stands is counted
pub stood : (n : Name) (l : List Entry) → sum empty l ≡ 0 → sum (stands n) l ≤ sum (under n) l
stood n [] e = omega arith
stood n (x ∷ l) e = go (same_name n x.name) (leb 1 x.weight) refl (stood n l) e
  where
    go : (c d : Bool) → leb 1 x.weight ≡ d → (sum empty l ≡ 0 → sum (stands n) l ≤ sum (under n) l)
        → cond d 0 1 + sum empty l ≡ 0
        → cond c 1 0 + sum (stands n) l ≤ cond c x.weight 0 + sum (under n) l
    go true true q f e =
        let h : 1 ≤ x.weight = leb→le 1 x.weight (subst T (sym q) tt) in
        let k = f (omega arith) in
        omega arith
    go false true q f e = let k = f (omega arith) in omega arith
    go c false q f e = absurd (omega arith)

-- items without an item of the name's own
own-none : (m : Name) (l : List Item) → sum (stands m) (entries l) ≡ 0 → T (all (not_its_own m) l)
unfolding entries
own-none m [] e = tt
own-none m (i ∷ l) e =
    let s = sum-append (stands m) (item_entries i) (entries l) in
    let z : sum (stands m) (item_entries i) ≡ 0 = omega arith in
    yes_and (not_its_own m i) _ (go (is_record i) (yes_eqb z)) (own-none m l (omega arith))
  where
    go : (c : Bool) → T (eqb (sum (stands m) (item_entries i)) 0) → T (c || eqb (sum (stands m) (item_entries i)) 0)
    go true t = tt
    go false t = t

-- ---- inline and apart

module _ (m : Name) (items : List Item) (c : Cut Item) (b : Body) (H : Here m items c b) (bal : Balanced items)
    (td : T (all tidy items)) where
  inline-refs : (g : Entry → ℕ) → sum g (entries (c.hit ∷ [])) ≡ sum g (ref_entries m.extent b.refs)
  unfolding entries
  inline-refs g =
      ap (sum g) (append-nil (item_entries c.hit) ∙ record-entries c.hit b H.view)
      ∙ ap (λ (x : ℕ). sum g (ref_entries x b.refs)) H.extent

  sum-split : (g : Entry → ℕ) → sum g (entries items) ≡ sum g (entries (c.hit ∷ [])) + sum g (entries (without c))
  unfolding entries
  sum-split g =
      let e₁ = ap (λ (l : List Item). sum g (entries l)) H.found.same ∙ sum-mid g c.front c.hit c.back in
      let e₂ = sum-two g c.front c.back in
      let e₃ = ap (sum g) (append-nil (item_entries c.hit)) in
      omega arith

  pub count-split : count m items ≡ inline m c + apart m c
  count-split = sum-split (under m)

  -- not both inline and apart
  pub inline-or-apart : (inline m c ≡ 0) ⊎ (apart m c ≡ 0)
  inline-or-apart = go (lt-or 0 (sum (stands m) (entries (c.hit ∷ []))))
    where
      go : (0 < sum (stands m) (entries (c.hit ∷ []))) ⊎ (sum (stands m) (entries (c.hit ∷ [])) ≤ 0)
          → (inline m c ≡ 0) ⊎ (apart m c ≡ 0)
      go (inl h) =
          let n₁ = bal.names m in
          let n₂ = sum-split (stands m) in
          inr (unstood m (entries (without c)) (omega arith))
      go (inr h) = inl (unstood m (entries (c.hit ∷ [])) (omega arith))

  -- no inline reference has the name
  pub inline-none : T (all (λ r. not (named m.kind m.fields r)) b.refs) → inline m c ≡ 0
  inline-none t = inline-refs (under m) ∙ unstood m (ref_entries m.extent b.refs) (refs-none m b.refs t)

  -- one has it: it is the only one, and the name has no item
  pub inline-one : Naming m.kind → (x : Cut Ref) → b.refs ≡ x.front ++ x.hit ∷ x.back
      → T (named m.kind m.fields x.hit)
      → (inline m c ≡ x.hit.weight) × (apart m c ≡ 0) × (1 ≤ x.hit.weight)
  inline-one n x e t =
      let h = named-yes m.kind m.fields x.hit t in
      let f : List Entry = ref_entries m.extent x.front in
      let z : List Entry = ref_entries m.extent x.back in
      let me : ref_entries m.extent (x.hit ∷ []) ≡ only m (some x.hit.weight) =
      named-entries m x.hit (not-172 m.kind n) h.0 h.1 in
      let parts : (g : Entry → ℕ) → sum g (entries (c.hit ∷ [])) ≡ sum g f + sum g (only m (some x.hit.weight)) + sum g z =
      (λ g. inline-refs g ∙ ap (λ (l : List Ref). sum g (ref_entries m.extent l)) e ∙ sum-refs g m.extent x.front
      (x.hit ∷ []) x.back
      ∙ ap (λ (l : List Entry). sum g f + sum g l + sum g z) me) in
      let n₁ = bal.names m in
      let n₂ = sum-split (stands m) in
      let n₃ = parts (stands m) in
      let n₄ = only-stands m x.hit.weight in
      let u₁ = unstood m f (omega arith) in
      let u₂ = unstood m z (omega arith) in
      let u₃ = unstood m (entries (without c)) (omega arith) in
      let p = parts (under m) in
      let q = only-counts m x.hit.weight in
      (omega arith, u₃, weight-at m n items c b H bal td x e t)

  -- the other items are no records of the extent
  lone-at : T (all (λ i. not (record_of m.extent i)) (without c))
  lone-at =
      let a : List Item = c.front in let r : Item = c.hit in let z : List Item = c.back in
      let B = balanced-at m items c b H bal td in
      let lo : records r.key.objectid (a ++ r ∷ z) ≡ 1 =
      eqb→eq _ 1 (imp-out (is_record r || is_ref_item r) _ (all-mid (paired (a ++ r ∷ z)) a r z B.pairs)
      (rw (T-eq (is_record r) H.is_rec) tt)) in
      subst (λ (x : ℕ). T (all (λ i. not (record_of x i)) (a ++ z))) H.extent (lone a r z H.is_rec lo)

  -- the name has no item of its own, as a question and as a count
  pub own_out : T (all (not_its_own m) items) → apart m c ≡ 0
  own_out t =
      unstood m (entries (without c))
      (rest-none m (without c) lone-at (all_rest (not_its_own m) c.front c.hit c.back (rw H.found.same at t)))

  pub own_in : apart m c ≡ 0 → T (all (not_its_own m) items)
  own_in e =
      let w₁ = bal.nonempty in
      let w₂ = sum-split empty in
      let s = stood m (entries (without c)) (omega arith) in
      let rest : T (all (not_its_own m) (without c)) = own-none m (without c) (omega arith) in
      rw H.found.same
      (all-put (not_its_own m) c.front c.hit c.back rest
      (or_left (is_record c.hit) (eqb (sum (stands m) (item_entries c.hit)) 0) H.is_rec))

-- ---- an item of the name's own

-- the data of a data reference's item
pub data-form : (i : Item) → i.key.kind ≡ 178 → T (good i)
    → (length i.bytes ≡ 28) × (i.key.offset ≡ rank_of 178 (words 3 i.bytes))
unfolding view_ref_item rank
data-form i e t =
    let d : List ℕ = i.bytes in
    let f : Bool = eqb (length d) 28 && eqb i.key.offset (rank (ref_at 178 d)) in
    let u : T f = form-out (view_of i) f (ref_at 178 d)
    (view-item i (is178 e) ∙ cond_yes (eqb i.key.kind 178) _ _ (yes_eqb e)) t in
    let h = and_yes (eqb (length d) 28) _ u in
    (eqb→eq _ _ h.0, eqb→eq _ _ h.1 ∙ ap rank (ref_at-178 d))

-- an item that is no record and says anything is of one of the four types
says-naming : (i : Item) (n : Name) → T (not (is_record i)) → sum (stands n) (item_entries i) ≢ 0 → Naming i.key.kind
unfolding item_entries view_of view_entries is_ref_item
says-naming i n t h = go (is_record i) (known i.key.kind) (eqb i.key.kind 172) refl refl t h
  where
    kinds : Kind i.key.kind → eqb i.key.kind 172 ≡ false → Naming i.key.kind
    kinds (k172 e) q = absurd (subst T (sym (T-eq (eqb i.key.kind 172) (yes_eqb e)) ∙ q) tt)
    kinds (k176 e) q = is176 e
    kinds (k178 e) q = is178 e
    kinds (k182 e) q = is182 e
    kinds (k184 e) q = is184 e

    go : (r k o : Bool) → known i.key.kind ≡ k → eqb i.key.kind 172 ≡ o → T (not r)
        → sum (stands n) (view_entries i.key.objectid (cond r (view_record (read_body i.key.kind i.bytes)) (cond (k && not o) (view_ref_item i) unrelated))) ≢ 0
        → Naming i.key.kind
    go true k o p q t h = absurd t
    go false true false p q t h = kinds (known-kind i.key.kind (subst T (sym p) tt)) q
    go false true true p q t h = absurd (h refl)
    go false false o p q t h = absurd (h refl)

-- one entry under a name that stands there
only_same : (m n : Name) (w : ℕ) → sum (stands m) (only n (some w)) ≢ 0 → m ≡ n
only_same m n w h = go (same_name m n) refl (λ (z : ◌≡◌ {A = ℕ} (cond (same_name m n) 1 0) 0). h (omega arith))
  where
    go : (c : Bool) → same_name m n ≡ c → (◌≡◌ {A = ℕ} (cond c 1 0) 0 → ⊥) → m ≡ n
    go true q f = same_name-yes m n (subst T (sym q) tt)
    go false q f = absurd (f refl)

module _ (m : Name) (items : List Item) (c : Cut Item) (b : Body) (H : Here m items c b) (bal : Balanced items)
    (td : T (all tidy items)) where
  -- an item that says the name and is no record
  record Says (k : Cut Item) : Type 0 where
    same : items ≡ k.front ++ k.hit ∷ k.back
    no_record : T (not (is_record k.hit))
    says : sum (stands m) (item_entries k.hit) ≢ 0

  says_of : 1 ≤ apart m c → (k : Cut Item) × Says k
  says_of h = go (first_cut (λ i. not (not_its_own m i)) items) refl
    where
      go : (o : Option (Cut Item)) → first_cut (λ i. not (not_its_own m i)) items ≡ o → (k : Cut Item) × Says k
      go none e =
          let z = own_out m items c b H bal td
          (all_map (λ i. not (not (not_its_own m i))) (not_its_own m) (λ i t. T_not-not (not_its_own m i) t) items
          (cut-none (λ i. not (not_its_own m i)) items e)) in
          absurd (omega arith)
      go (some k) e =
          let f = cut-some (λ i. not (not_its_own m i)) items e in
          let t = or_no (is_record k.hit) (eqb (sum (stands m) (item_entries k.hit)) 0) f.hit in
          (k, record { same = f.same; no_record = t.0; says = eqb_no t.1 })

  -- of 176, 182 and 184: it stands at the field
  pub plain-own : (field : ℕ) → m.fields ≡ one field → eqb m.kind 178 ≡ false → 1 ≤ apart m c
      → (k : Cut Item) × Own m items k (shared_count k.hit) × (k.hit.key ≡ key_of m.extent m.kind field)
  plain-own field fs no178 h =
      let (k, s) = says_of h in
      go k s (says-naming k.hit m s.no_record s.says) (eqb k.hit.key.kind 178) refl
    where
      go : (k : Cut Item) → Says k → Naming k.hit.key.kind → (z : Bool) → eqb k.hit.key.kind 178 ≡ z
          → (k : Cut Item) × Own m items k (shared_count k.hit) × (k.hit.key ≡ key_of m.extent m.kind field)
      go k s n true q =
          let g : T (good k.hit) = all-mid good k.front k.hit k.back (rw s.same at bal.goods) in
          let kd : k.hit.key.kind ≡ 178 = eqb→eq _ _ (subst T (sym q) tt) in
          let n' : Name = record { extent = k.hit.key.objectid; kind = 178; fields = words 3 k.hit.bytes } in
          let e : m ≡ n' = only_same m n' (keyed_count k.hit.bytes)
          (λ z. s.says (ap (sum (stands m)) (data-entry k.hit kd g) ∙ z)) in
          absurd (subst T (sym (ap (λ (x : Name). eqb x.kind 178) e) ∙ no178) tt)
      go k s n false q =
          let g : T (good k.hit) = all-mid good k.front k.hit k.back (rw s.same at bal.goods) in
          let n' : Name = record { extent = k.hit.key.objectid; kind = k.hit.key.kind; fields = one k.hit.key.offset } in
          let en : item_entries k.hit ≡ only n' (some (shared_count k.hit)) = plain_entry k.hit n q g in
          let e : m ≡ n' = only_same m n' (shared_count k.hit) (λ z. s.says (ap (sum (stands m)) en ∙ z)) in
          let e₁ : k.hit.key.objectid ≡ m.extent = sym (ap (λ (x : Name). x.extent) e) in
          let e₂ : k.hit.key.kind ≡ m.kind = sym (ap (λ (x : Name). x.kind) e) in
          let e₃ : k.hit.key.offset ≡ field = ap (λ (l : List ℕ). get_or l 0 0) (sym (ap (λ (x : Name). x.fields) e) ∙ fs) in (
            k,
            own_of m items k (shared_count k.hit) bal s.same e₂ e₁
                (en ∙ ap (λ (x : Name). only x (some (shared_count k.hit))) (sym e)),
            (λ i. record { objectid = e₁ i; kind = e₂ i; offset = e₃ i }),
          )

  -- of 178: at the hash, with the fields in its data
  pub data-own : m.kind ≡ 178 → 1 ≤ apart m c
      → (k : Cut Item) × Own m items k (keyed_count k.hit.bytes)
      × (k.hit.key ≡ key_of m.extent 178 (rank_of 178 m.fields))
  data-own is h =
      let (k, s) = says_of h in
      go k s (says-naming k.hit m s.no_record s.says) (eqb k.hit.key.kind 178) refl
    where
      go : (k : Cut Item) → Says k → Naming k.hit.key.kind → (z : Bool) → eqb k.hit.key.kind 178 ≡ z
          → (k : Cut Item) × Own m items k (keyed_count k.hit.bytes)
          × (k.hit.key ≡ key_of m.extent 178 (rank_of 178 m.fields))
      go k s n true q =
          let g : T (good k.hit) = all-mid good k.front k.hit k.back (rw s.same at bal.goods) in
          let kd : k.hit.key.kind ≡ 178 = eqb→eq _ _ (subst T (sym q) tt) in
          let w : ℕ = keyed_count k.hit.bytes in
          let n' : Name = record { extent = k.hit.key.objectid; kind = 178; fields = words 3 k.hit.bytes } in
          let en : item_entries k.hit ≡ only n' (some w) = data-entry k.hit kd g in
          let e : m ≡ n' = only_same m n' w (λ z. s.says (ap (sum (stands m)) en ∙ z)) in
          let fm = data-form k.hit kd g in
          let e₁ : k.hit.key.objectid ≡ m.extent = sym (ap (λ (x : Name). x.extent) e) in
          let e₃ : words 3 k.hit.bytes ≡ m.fields = sym (ap (λ (x : Name). x.fields) e) in
          let e₄ : k.hit.key.offset ≡ rank_of 178 m.fields = fm.1 ∙ ap (rank_of 178) e₃ in (
            k,
            own_of m items k w bal s.same (kd ∙ sym is) e₁ (en ∙ ap (λ (x : Name). only x (some w)) (sym e)),
            (λ i. record { objectid = e₁ i; kind = kd i; offset = e₄ i }),
          )
      go k s n false q =
          let g : T (good k.hit) = all-mid good k.front k.hit k.back (rw s.same at bal.goods) in
          let n' : Name = record { extent = k.hit.key.objectid; kind = k.hit.key.kind; fields = one k.hit.key.offset } in
          let e : m ≡ n' = only_same m n' (shared_count k.hit)
          (λ z. s.says (ap (sum (stands m)) (plain_entry k.hit n q g) ∙ z)) in
          absurd (subst T (sym (T-eq (eqb m.kind 178) (yes_eqb is)) ∙ ap (λ (x : Name). eqb x.kind 178) e ∙ q) tt)

-- ---- the same, from the questions that all changes share

pub inline-and-apart : (nodesize : ℕ) (sheet : List ℕ) (n : Name) (items : List Item) (at : Cut Item) → T (are_bytes sheet)
    → UpToFive nodesize sheet n.extent items at → (count n items ≡ inline n at + apart n at) × ((inline n at ≡ 0) ⊎ (apart n at ≡ 0))
inline-and-apart nodesize sheet n items at raw d =
    let S = sheet-facts sheet items raw d.reads d.balance in
    let (b, H) = here_of n items at S.balance S.tidied d.stands in
    (count-split n items at b H S.balance S.tidied, inline-or-apart n items at b H S.balance S.tidied)
