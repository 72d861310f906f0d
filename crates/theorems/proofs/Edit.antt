-- What an edit of the items does to sums over entries, to records, and to balance. Knows nothing of bytes.
-- Assumes nothing.
use mathlib.Core.Path.{◌≡◌, refl, sym, ap, ◌∙◌, subst}
use mathlib.Core.Logic.{◌≢◌}
use Prim.Native.Nat.{ℕ, ◌+◌, ◌≤◌}
use native.Mathlib.Omega.{arith}
use mathlib.Core.Bool.{Bool, true, false, not, ◌&&◌, ◌||◌, cond}
use mathlib.Core.Option.{Option, none, some}
use mathlib.Core.List.{List, [], ◌∷◌, ◌++◌}
use lib.Dec.{T, eqb, eqb_refl, eqb→eq}
use mir.Facts.{and_yes, yes_and, T_not, not_T, yes_eqb, no_eqb}
use Rattle.fields.specs.Lists.{sum, all}
use Rattle.fields.proofs.Lists.{T-eq, imp-out, imp-in, cond_yes, cond_no, sum-append, all_map, all_two, all-mid, all_rest, all-put, none-counted}
use Rattle.format.specs.References.{Ref, Body, ordered}
use Rattle.format.specs.Items.{Item, rising, with_bytes}
use Rattle.format.specs.Apply.{is_record, record_of}
use Rattle.format.specs.Names.{Name, same_name, Entry, extent_record, is_ref_item, view_of, ref_entries, view_entries, item_entries, entries, under, count, well_formed, good, is_record_of, records, paired, stands, single, counts, of_extent, view_total, totalled, balanced}
use Rattle.format.specs.History.{items_of}
use Rattle.format.proofs.Keys.{rising-drop, rising-swap}
use Rattle.theorems.proofs.Sums.{same_name-yes, same_name-refl, names-out, names_in, empty, counts-out, counts-in, sum-mid, sum-refs}

-- ---- one entry, or none, under a name

abbrev pub only : Name → Option ℕ → List Entry
only m none = []
only m (some w) = record { name = m; weight = w } ∷ []

abbrev pub worth : Option ℕ → ℕ
worth none = 0
worth (some w) = w

pub only-name : (m n : Name) {v w : ℕ} → only m (some v) ≡ only n (some w) → m ≡ n
only-name m n e = ap name_in e
  where
    name_in : List Entry → Name
    name_in [] = m
    name_in (x ∷ l) = x.name

-- one entry under its own name
pub only-stands : (m : Name) (w : ℕ) → sum (stands m) (only m (some w)) ≡ 1
only-stands m w = omega (arith, cond_yes {A = ℕ} (same_name m m) 1 0 (same_name-refl m))

pub only-counts : (m : Name) (w : ℕ) → sum (under m) (only m (some w)) ≡ w
only-counts m w = omega (arith, cond_yes {A = ℕ} (same_name m m) w 0 (same_name-refl m))

-- ---- the items of another extent

pub items_of-append : (x : ℕ) (a b : List Item) → items_of x (a ++ b) ≡ items_of x a ++ items_of x b
items_of-append x [] b = refl
items_of-append x (i ∷ a) b = go (eqb i.key.objectid x) (items_of-append x a b)
  where
    go : (c : Bool) → items_of x (a ++ b) ≡ items_of x a ++ items_of x b
        → cond c (i ∷ items_of x (a ++ b)) (items_of x (a ++ b)) ≡ cond c (i ∷ items_of x a) (items_of x a) ++ items_of x b
    go true ih = ap (λ (l : List Item). i ∷ l) ih
    go false ih = ih

pub items_of-skip : (x : ℕ) (a : List Item) (i : Item) (b : List Item) → x ≢ i.key.objectid
    → items_of x (a ++ i ∷ b) ≡ items_of x (a ++ b)
items_of-skip x a i b h =
    items_of-append x a (i ∷ b)
    ∙ ap (λ (l : List Item). items_of x a ++ l)
    (cond_no (eqb i.key.objectid x) (i ∷ items_of x b) (items_of x b) (no_eqb (λ e. h (sym e))))
    ∙ sym (items_of-append x a b)

-- ---- totals: records of other extents keep their sums, and the edited record has its own

-- `r` is the only record of its extent in a ++ r ∷ b
pub lone : (a : List Item) (r : Item) (b : List Item) → T (is_record r) → records r.key.objectid (a ++ r ∷ b) ≡ 1
    → T (all (λ i. not (record_of r.key.objectid i)) (a ++ b))
lone a r b t e =
    let me : is_record_of r.key.objectid r ≡ 1 =
    cond_yes (record_of r.key.objectid r) 1 0 (yes_and (is_record r) _ t (eqb_refl r.key.objectid)) in
    let s : records r.key.objectid (a ++ r ∷ b) ≡ records r.key.objectid a + records r.key.objectid (r ∷ b) =
    sum-append (is_record_of r.key.objectid) a (r ∷ b) in
    let z : records r.key.objectid (a ++ b) ≡ records r.key.objectid a + records r.key.objectid b =
    sum-append (is_record_of r.key.objectid) a b in
    none-counted (record_of r.key.objectid) (a ++ b) (omega arith)

-- sums of every extent but x agree
abbrev pub Agree : ℕ → List Entry → List Entry → Type 0
Agree x l l' = (y : ℕ) → y ≢ x → sum (of_extent y) l' ≡ sum (of_extent y) l

keep-total : (x : ℕ) (l l' : List Entry) → Agree x l l' → (i : Item) → T (totalled l i) → T (not (record_of x i))
    → T (totalled l' i)
keep-total x l l' agree i t k =
    imp-in (is_record i) (eqb (view_total (view_of i)) (sum (of_extent i.key.objectid) l')) (λ r.
    let ne : i.key.objectid ≢ x =
    (λ e. T_not (record_of x i) (yes_and (is_record i) (eqb i.key.objectid x) r (yes_eqb e)) k) in
    rw (agree i.key.objectid ne)
    (imp-out (is_record i) (eqb (view_total (view_of i)) (sum (of_extent i.key.objectid) l)) t r))

pub totals-swap : (a : List Item) (r r' : Item) (b : List Item) (l l' : List Entry)
    → T (is_record r) → records r.key.objectid (a ++ r ∷ b) ≡ 1 → r'.key.objectid ≡ r.key.objectid
    → T (all (totalled l) (a ++ r ∷ b)) → Agree r.key.objectid l l'
    → view_total (view_of r') ≡ sum (of_extent r.key.objectid) l' → T (all (totalled l') (a ++ r' ∷ b))
totals-swap a r r' b l l' t alone same before agree me =
    all-put (totalled l') a r' b
    (all_two (totalled l) (λ i. not (record_of r.key.objectid i)) (totalled l') (keep-total r.key.objectid l l' agree) (a ++ b)
    (all_rest (totalled l) a r b before) (lone a r b t alone))
    (imp-in (is_record r') (eqb (view_total (view_of r')) (sum (of_extent r'.key.objectid) l')) (λ _. yes_eqb (me ∙ ap (λ (x : ℕ). sum (of_extent x) l') (sym same))))

-- ---- an edit under the name m: the old weight leaves, the new one enters

pub record Edit (m : Name) (old new : Option ℕ) (items after : List Item) : Type 0 where
  pub sums : (g : Entry → ℕ) → sum g (entries after) + sum g (only m old) ≡ sum g (entries items) + sum g (only m new)
  pub recorded : (x : ℕ) → records x after ≡ records x items
  pub others : (x : ℕ) → x ≢ m.extent → items_of x after ≡ items_of x items
  pub rise : T (rising items) → T (rising after)
  pub goods : T (all good after)
  pub pairs : T (all (paired items) after)
  pub totals : T (all (totalled (entries after)) after)

-- the parts of balance
pub record Balanced (items : List Item) : Type 0 where
  pub goods : T (all good items)
  pub pairs : T (all (paired items) items)
  pub names : (n : Name) → sum (stands n) (entries items) ≤ 1
  pub nonempty : sum empty (entries items) ≡ 0
  pub totals : T (all (totalled (entries items)) items)

pub balanced-out : (items : List Item) → T (balanced items) → Balanced items
unfolding balanced
balanced-out items t =
    let l : List Entry = entries items in
    let b₁ : Bool = all good items in
    let b₂ : Bool = b₁ && all (paired items) items in
    let b₃ : Bool = b₂ && all (single l) l in
    let b₄ : Bool = b₃ && all counts l in
    let h₄ = and_yes b₄ (all (totalled l) items) t in
    let h₃ = and_yes b₃ (all counts l) h₄.0 in
    let h₂ = and_yes b₂ (all (single l) l) h₃.0 in
    let h₁ = and_yes b₁ (all (paired items) items) h₂.0 in
    record { goods = h₁.0; pairs = h₁.1; names = names-out l h₂.1; nonempty = counts-out l h₃.1; totals = h₄.1 }

pub balanced-in : (items : List Item) → Balanced items → T (balanced items)
unfolding balanced
balanced-in items b =
    let l : List Entry = entries items in
    let b₁ : Bool = all good items in
    let b₂ : Bool = b₁ && all (paired items) items in
    let b₃ : Bool = b₂ && all (single l) l in
    let b₄ : Bool = b₃ && all counts l in
    yes_and b₄ (all (totalled l) items)
    (yes_and b₃ (all counts l)
    (yes_and b₂ (all (single l) l) (yes_and b₁ (all (paired items) items) b.goods b.pairs) (names_in l b.names))
    (counts-in l b.nonempty))
    b.totals

abbrev pub Fresh : Option ℕ → Option ℕ → ℕ → Type 0
Fresh none none k = Unit {0}
Fresh none (some w) k = k ≡ 0
Fresh (some v) none k = Unit {0}
Fresh (some v) (some w) k = Unit {0}

names-edit : (m : Name) (old new : Option ℕ) (n : Name) (k k' : ℕ) → Fresh old new (cond (same_name n m) k 0) → k ≤ 1
    → k' + sum (stands n) (only m old) ≡ k + sum (stands n) (only m new) → k' ≤ 1
names-edit m none none n k k' f h e = omega arith
names-edit m none (some w) n k k' f h e = go (same_name n m) f e
  where
    go : (c : Bool) → cond c k 0 ≡ 0 → k' + 0 ≡ k + (cond c 1 0 + 0) → k' ≤ 1
    go true f e = omega arith
    go false f e = omega arith
names-edit m (some v) none n k k' f h e = omega arith
names-edit m (some v) (some w) n k k' f h e = omega arith

-- freshness of m serves at every name
fresh_at : (m n : Name) (old new : Option ℕ) (f : Name → ℕ) → Fresh old new (f m) → Fresh old new (cond (same_name n m) (f n) 0)
fresh_at m n none none f h = tt
fresh_at m n none (some w) f h = go (same_name n m) refl
  where
    go : (c : Bool) → same_name n m ≡ c → cond c (f n) 0 ≡ 0
    go true q = ap f (same_name-yes n m (subst T (sym q) tt)) ∙ h
    go false q = refl
fresh_at m n (some v) none f h = tt
fresh_at m n (some v) (some w) f h = tt

-- an edit keeps balance, where the new weight is not 0 and the new name is fresh
pub balanced-edit : (m : Name) (old new : Option ℕ) (items after : List Item) → Edit m old new items after → Balanced items
    → sum empty (only m new) ≡ 0 → Fresh old new (sum (stands m) (entries items)) → Balanced after
balanced-edit m old new items after e b nonempty gap =
    record {
      goods = e.goods;
      pairs = all_map (paired items) (paired after) (λ i t. rw (e.recorded i.key.objectid) t) after e.pairs;
      names = λ n. names-edit m old new n (sum (stands n) (entries items)) (sum (stands n) (entries after))
          (fresh_at m n old new (λ x. sum (stands x) (entries items)) gap) (b.names n) (e.sums (stands n));
      nonempty = (let h = e.sums empty in let k = b.nonempty in omega arith);
      totals = e.totals;
    }

-- an edit moves the count of its own name, and of no other
pub only_under : (n m : Name) (w : Option ℕ) → sum (under n) (only m w) ≡ cond (same_name n m) (worth w) 0
only_under n m none = go (same_name n m)
  where
    go : (c : Bool) → ◌≡◌ {A = ℕ} 0 (cond c 0 0)
    go true = refl
    go false = refl
only_under n m (some w) = omega arith

pub count-edit : (m : Name) (old new : Option ℕ) (items after : List Item) → Edit m old new items after → (n : Name)
    → count n after + cond (same_name n m) (worth old) 0 ≡ count n items + cond (same_name n m) (worth new) 0
count-edit m old new items after e n = rw (← only_under n m old, ← only_under n m new) (e.sums (under n))

-- ---- sums of an extent over one entry

pub extent-self : (m : Name) (w : Option ℕ) → sum (of_extent m.extent) (only m w) ≡ worth w
extent-self m none = refl
extent-self m (some w) = omega (arith, cond_yes (eqb m.extent m.extent) w 0 (eqb_refl m.extent))

pub extent-other : (m : Name) (w : Option ℕ) (y : ℕ) → y ≢ m.extent → sum (of_extent y) (only m w) ≡ 0
extent-other m none y h = refl
extent-other m (some w) y h = omega (arith, cond_no (eqb y m.extent) w 0 (no_eqb h))

-- ---- an edit in a record

pub record-entries : (r : Item) (b : Body) → view_of r ≡ extent_record b → item_entries r ≡ ref_entries r.key.objectid b.refs
unfolding item_entries view_entries
record-entries r b e = ap (view_entries r.key.objectid) e

pub record-total : (r : Item) (b : Body) → view_of r ≡ extent_record b → view_total (view_of r) ≡ b.total
unfolding view_total
record-total r b e = ap view_total e

pub record-good : (r : Item) (b : Body) → view_of r ≡ extent_record b → T (ordered b.refs) → T (good r)
unfolding well_formed
record-good r b e t = rw e t

pub good-record : (r : Item) (b : Body) → view_of r ≡ extent_record b → T (good r) → T (ordered b.refs)
unfolding well_formed
good-record r b e t = rw e at t

-- what holds of a list in which one item has another body
pub records-swap : (x : ℕ) (a : List Item) (r : Item) (b : List Item) (d : List ℕ)
    → records x (a ++ with_bytes r d ∷ b) ≡ records x (a ++ r ∷ b)
unfolding is_record
records-swap x a r b d =
    sum-append (is_record_of x) a (with_bytes r d ∷ b) ∙ sym (sum-append (is_record_of x) a (r ∷ b))

pub paired-swap : (items : List Item) (r : Item) (d : List ℕ) → T (paired items r) → T (paired items (with_bytes r d))
unfolding is_record is_ref_item
paired-swap items r d t = t

pub others-swap : (x : ℕ) (a : List Item) (r : Item) (b : List Item) (d : List ℕ) → x ≢ r.key.objectid
    → items_of x (a ++ with_bytes r d ∷ b) ≡ items_of x (a ++ r ∷ b)
others-swap x a r b d h =
    items_of-skip x a (with_bytes r d) b h ∙ sym (items_of-skip x a r b h)

-- how the references of a record change
pub record Splice (m : Name) (old new : Option ℕ) (b b' : Body) : Type 0 where
  pub front : List Ref
  pub leaves : List Ref
  pub enters : List Ref
  pub back : List Ref
  pub was : b.refs ≡ front ++ (leaves ++ back)
  pub now : b'.refs ≡ front ++ (enters ++ back)
  pub leaving : ref_entries m.extent leaves ≡ only m old
  pub entering : ref_entries m.extent enters ≡ only m new

pub splice-sums : (m : Name) (old new : Option ℕ) (b b' : Body) → Splice m old new b b' → (g : Entry → ℕ)
    → sum g (ref_entries m.extent b'.refs) + sum g (only m old) ≡ sum g (ref_entries m.extent b.refs) + sum g (only m new)
splice-sums m old new b b' s g =
    let e₁ =
    ap (λ (l : List Ref). sum g (ref_entries m.extent l)) s.was
    ∙ sum-refs g m.extent s.front s.leaves s.back in
    let e₂ =
    ap (λ (l : List Ref). sum g (ref_entries m.extent l)) s.now
    ∙ sum-refs g m.extent s.front s.enters s.back in
    let e₃ = ap (sum g) s.leaving in
    let e₄ = ap (sum g) s.entering in
    omega arith

-- what holds of a list before the record's turn: the items themselves, or the items with a reference item of the extent x gone or
-- changed. Its totals are still held to the entries of the items
pub record Half (x : ℕ) (items js : List Item) : Type 0 where
  pub recorded : (y : ℕ) → records y js ≡ records y items
  pub others : (y : ℕ) → y ≢ x → items_of y js ≡ items_of y items
  pub rise : T (rising items) → T (rising js)
  pub goods : T (all good js)
  pub pairs : T (all (paired items) js)
  pub totals : T (all (totalled (entries items)) js)

pub half-same : (x : ℕ) (items : List Item) → Balanced items → Half x items items
half-same x items b =
    record { recorded = λ y. refl; others = λ y h. refl; rise = λ t. t; goods = b.goods; pairs = b.pairs; totals = b.totals }

-- then the record r of the extent has another body
module _ (m : Name) (old new : Option ℕ) (items a : List Item) (r : Item) (c : List Item) (d : List ℕ)
    (half : Half m.extent items (a ++ r ∷ c)) (is_rec : T (is_record r)) (extent : r.key.objectid ≡ m.extent)
    (good' : T (good (with_bytes r d)))
    (total : view_total (view_of (with_bytes r d)) + worth old ≡ view_total (view_of r) + worth new)
    (sums : (g : Entry → ℕ) → sum g (entries (a ++ with_bytes r d ∷ c)) + sum g (only m old) ≡ sum g (entries items) + sum g (only m new)) where
  in-lone : records r.key.objectid (a ++ r ∷ c) ≡ 1
  in-lone =
      half.recorded r.key.objectid
      ∙ eqb→eq _ 1 (imp-out (is_record r || is_ref_item r) _ (all-mid (paired items) a r c half.pairs) (rw (T-eq (is_record r) is_rec) tt))

  in-total : view_total (view_of (with_bytes r d)) ≡ sum (of_extent r.key.objectid) (entries (a ++ with_bytes r d ∷ c))
  in-total =
      let h : view_total (view_of r) ≡ sum (of_extent r.key.objectid) (entries items) =
      eqb→eq _ _ (imp-out (is_record r) _ (all-mid (totalled (entries items)) a r c half.totals) is_rec) in
      let s = sums (of_extent r.key.objectid) in
      let v₁ : sum (of_extent r.key.objectid) (only m old) ≡ worth old = rw extent (extent-self m old) in
      let v₂ : sum (of_extent r.key.objectid) (only m new) ≡ worth new = rw extent (extent-self m new) in
      omega arith

  in-agree : Agree r.key.objectid (entries items) (entries (a ++ with_bytes r d ∷ c))
  in-agree y ne =
      let ne' : y ≢ m.extent = rw extent at ne in
      let s = sums (of_extent y) in
      let v₁ = extent-other m old y ne' in
      let v₂ = extent-other m new y ne' in
      omega arith

  pub edit-record : Edit m old new items (a ++ with_bytes r d ∷ c)
  edit-record =
      record {
        sums = sums;
        recorded = λ x. records-swap x a r c d ∙ half.recorded x;
        others = λ x h. others-swap x a r c d (rw extent h) ∙ half.others x h;
        rise = λ t. rising-swap a r d c (half.rise t);
        goods = all-put good a (with_bytes r d) c (all_rest good a r c half.goods) good';
        pairs = all-put (paired items) a (with_bytes r d) c (all_rest (paired items) a r c half.pairs)
            (paired-swap items r d (all-mid (paired items) a r c half.pairs));
        totals = totals-swap a r (with_bytes r d) c (entries items) (entries (a ++ with_bytes r d ∷ c)) is_rec in-lone refl half.totals in-agree in-total;
      }

-- ---- a change inline: the record's references spliced
module _ (m : Name) (old new : Option ℕ) (a : List Item) (r : Item) (c : List Item) (d : List ℕ) (b b' : Body)
    (balance : Balanced (a ++ r ∷ c)) (is_rec : T (is_record r)) (extent : r.key.objectid ≡ m.extent)
    (was : view_of r ≡ extent_record b) (now : view_of (with_bytes r d) ≡ extent_record b')
    (splice : Splice m old new b b') (order : T (ordered b'.refs))
    (total : b'.total + worth old ≡ b.total + worth new) where
  inline-sums : (g : Entry → ℕ)
      → sum g (entries (a ++ with_bytes r d ∷ c)) + sum g (only m old) ≡ sum g (entries (a ++ r ∷ c)) + sum g (only m new)
  inline-sums g =
      let e₁ = sum-mid g a (with_bytes r d) c in
      let e₂ = sum-mid g a r c in
      let e₃ : sum g (item_entries r) ≡ sum g (ref_entries m.extent b.refs) =
      ap (sum g) (record-entries r b was) ∙ ap (λ (x : ℕ). sum g (ref_entries x b.refs)) extent in
      let e₄ : sum g (item_entries (with_bytes r d)) ≡ sum g (ref_entries m.extent b'.refs) =
      ap (sum g) (record-entries (with_bytes r d) b' now) ∙ ap (λ (x : ℕ). sum g (ref_entries x b'.refs)) extent in
      let e₅ = splice-sums m old new b b' splice g in
      omega arith

  pub edit-inline : Edit m old new (a ++ r ∷ c) (a ++ with_bytes r d ∷ c)
  edit-inline =
      edit-record m old new (a ++ r ∷ c) a r c d (half-same m.extent (a ++ r ∷ c) balance) is_rec extent
      (record-good (with_bytes r d) b' now order)
      (let k₁ = record-total r b was in let k₂ = record-total (with_bytes r d) b' now in omega arith) inline-sums

-- ---- a change of an item: the item k of the extent goes, or has another body; then the record's total moves

pub half-drop : (x : ℕ) (a : List Item) (k : Item) (c : List Item) → Balanced (a ++ k ∷ c) → T (not (is_record k))
    → k.key.objectid ≡ x → Half x (a ++ k ∷ c) (a ++ c)
half-drop x a k c b t e =
    record {
      recorded = λ y.
          (let z : is_record_of y k ≡ 0 = cond_no (record_of y k) 1 0 (not_T (record_of y k) (λ h. T_not (is_record k) (and_yes (is_record k) _ h).0 t)) in
          omega (arith, sum-append (is_record_of y) a (k ∷ c), sum-append (is_record_of y) a c));
      others = λ y h. sym (items_of-skip y a k c (rw e h));
      rise = rising-drop a k c;
      goods = all_rest good a k c b.goods;
      pairs = all_rest (paired (a ++ k ∷ c)) a k c b.pairs;
      totals = all_rest (totalled (entries (a ++ k ∷ c))) a k c b.totals;
    }

pub half-swap : (x : ℕ) (a : List Item) (k : Item) (c : List Item) (d : List ℕ) → Balanced (a ++ k ∷ c) → T (not (is_record k))
    → k.key.objectid ≡ x
    → T (good (with_bytes k d)) → Half x (a ++ k ∷ c) (a ++ with_bytes k d ∷ c)
unfolding is_record
half-swap x a k c d b t e g =
    record {
      recorded = λ y. records-swap y a k c d;
      others = λ y h. others-swap y a k c d (rw e h);
      rise = λ h. rising-swap a k d c h;
      goods = all-put good a (with_bytes k d) c (all_rest good a k c b.goods) g;
      pairs = all-put (paired (a ++ k ∷ c)) a (with_bytes k d) c (all_rest (paired (a ++ k ∷ c)) a k c b.pairs)
          (paired-swap (a ++ k ∷ c) k d (all-mid (paired (a ++ k ∷ c)) a k c b.pairs));
      totals = all-put (totalled (entries (a ++ k ∷ c))) a (with_bytes k d) c (all_rest (totalled (entries (a ++ k ∷ c))) a k c b.totals)
          (imp-in (is_record (with_bytes k d)) _ (λ h. absurd (T_not (is_record k) h t)));
    }

-- the record's references stand, its total moves
module _ (m : Name) (old new : Option ℕ) (items a : List Item) (r : Item) (c : List Item) (d : List ℕ) (b b' : Body)
    (half : Half m.extent items (a ++ r ∷ c)) (is_rec : T (is_record r)) (extent : r.key.objectid ≡ m.extent)
    (was : view_of r ≡ extent_record b) (now : view_of (with_bytes r d) ≡ extent_record b') (same : b'.refs ≡ b.refs)
    (total : b'.total + worth old ≡ b.total + worth new)
    (sums : (g : Entry → ℕ) → sum g (entries (a ++ r ∷ c)) + sum g (only m old) ≡ sum g (entries items) + sum g (only m new)) where
  item-entries : item_entries (with_bytes r d) ≡ item_entries r
  item-entries = record-entries (with_bytes r d) b' now ∙ ap (ref_entries r.key.objectid) same ∙ sym (record-entries r b was)

  item-sums : (g : Entry → ℕ)
      → sum g (entries (a ++ with_bytes r d ∷ c)) + sum g (only m old) ≡ sum g (entries items) + sum g (only m new)
  item-sums g =
      let e₁ = sum-mid g a (with_bytes r d) c in
      let e₂ = sum-mid g a r c in
      let e₃ = ap (sum g) item-entries in
      let e₄ = sums g in
      omega arith

  pub edit-item : Edit m old new items (a ++ with_bytes r d ∷ c)
  edit-item =
      edit-record m old new items a r c d half is_rec extent
      (record-good (with_bytes r d) b' now (rw same (good-record r b was (all-mid good a r c half.goods))))
      (let k₁ = record-total r b was in let k₂ = record-total (with_bytes r d) b' now in omega arith) item-sums
