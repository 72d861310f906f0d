-- What a drop does inline and to an item of its own: some of the count off, or all of it, and as much off the record's total.
-- Assumes nothing.
use mathlib.Core.Path.{◌≡◌, refl, sym, ap, ap₂, ◌∙◌, subst}
use Prim.Native.Nat.{ℕ, ◌+◌, ◌-◌, ◌≤◌, ◌<◌}
use native.Mathlib.Omega.{arith}
use mathlib.Core.Bool.{Bool, true, not, ◌&&◌, ◌||◌, cond}
use mathlib.Core.Option.{Option, none, some}
use mathlib.Core.List.{List, [], ◌∷◌, ◌++◌}
use lib.Dec.{T, eqb}
use mir.Facts.{and_yes, yes_and, T_not, not_T}
use Rattle.fields.specs.Lists.{sum, all, Cut, first_cut}
use Rattle.fields.specs.Numbers.{are_bytes}
use Rattle.fields.proofs.Lists.{cond_yes, cond_no, some_inj, all_map, all-mid, all_rest, all-put, Found, cut-some}
use Rattle.format.specs.declared.Key.{Key}
use Rattle.format.specs.Questions.{Answer, remove, accepted, needed}
use Rattle.format.specs.References.{Ref, Body, body_with, body_bytes}
use Rattle.format.specs.Bodies.{named, weighed}
use Rattle.format.specs.Items.{Item, with_bytes, put_back, without}
use Rattle.format.specs.Sheets.{has_key}
use Rattle.format.specs.Apply.{is_record, record_of, replaced}
use Rattle.format.specs.Names.{Name, Entry, extent_record, view_of, ref_entries, item_entries, entries, under, count, good, stands, of_extent}
use Rattle.format.specs.Ledger.{dropped_at}
use Rattle.format.proofs.Answers.{bind_ok, needed-ok, accepted-inj}
use Rattle.format.proofs.Refs.{whole, whole_out, whole-weighed}
use Rattle.format.proofs.Bodies.{Sound, sound-with, are_bytes-body_bytes}
use Rattle.format.proofs.Keys.{same_key-yes, same_key-refl}
use Rattle.theorems.proofs.Sums.{empty, sum-mid, sum-two, sum-refs}
use Rattle.theorems.proofs.Naming.{Naming, not-172, weighs-one, naming-no-record}
use Rattle.theorems.proofs.Order.{named-yes, ordered-weighed, ordered-drop}
use Rattle.theorems.proofs.Edit.{only, worth, only-stands, only-counts, Balanced, Fresh, Half, half-drop, half-swap, edit-item, extent-self, record-entries}
use Rattle.theorems.proofs.Facts.{named-entries, unstood, positive, not-empty, view-written}
use Rattle.theorems.proofs.Steps.{tidy, tidy-with, tidy-bytes, Step, Here, ordered_at, inline-step}
use Rattle.theorems.proofs.Bounds.{total-is}

-- ---- inline: the reference at a cut has the name

-- with some of its count off it is whole
pub less-whole : (x : Cut Ref) → Naming x.hit.kind → T (all whole (x.front ++ x.hit ∷ x.back)) → (n : ℕ) → 1 ≤ n
    → n < x.hit.weight
    → T (all whole (x.front ++ weighed x.hit (x.hit.weight - n) ∷ x.back))
less-whole x naming ws n one≤ less =
    let t : T (whole x.hit) = all-mid whole x.front x.hit x.back ws in
    let w = whole_out x.hit t in
    all-put whole x.front (weighed x.hit (x.hit.weight - n)) x.back (all_rest whole x.front x.hit x.back ws)
    (whole-weighed x.hit (x.hit.weight - n) t (λ u. (let z = w.weighs u in omega arith))
    (λ u. (let z = w.weight_fixed u in let y = weighs-one x.hit.kind naming 0 u in absurd (omega arith))))

module _ (m : Name) (naming : Naming m.kind) (items : List Item) (c : Cut Item) (b : Body) (H : Here m items c b)
    (balance : Balanced items) (tidies : T (all tidy items))
    (x : Cut Ref) (e : b.refs ≡ x.front ++ x.hit ∷ x.back) (t : T (named m.kind m.fields x.hit)) where
  entries_at : ref_entries m.extent (x.hit ∷ []) ≡ only m (some x.hit.weight)
  entries_at =
      let h = named-yes m.kind m.fields x.hit t in
      named-entries m x.hit (not-172 m.kind naming) h.0 h.1

  -- what it brings to a sum
  sums_at : (g : Entry → ℕ)
      → sum g (entries items)
      ≡ sum g (entries c.front) + (sum g (ref_entries m.extent x.front) + sum g (only m (some x.hit.weight)) + sum g (ref_entries m.extent x.back))
      + sum g (entries c.back)
  sums_at g =
      ap (λ (l : List Item). sum g (entries l)) H.found.same ∙ sum-mid g c.front c.hit c.back
      ∙ ap (λ (n : ℕ). sum g (entries c.front) + n + sum g (entries c.back))
      (ap (sum g) (record-entries c.hit b H.view ∙ ap₂ ref_entries H.extent e)
      ∙ sum-refs g m.extent x.front (x.hit ∷ []) x.back
      ∙ ap (λ (l : List Entry). sum g (ref_entries m.extent x.front) + sum g l + sum g (ref_entries m.extent x.back)) entries_at)

  -- it counts something
  pub weight-at : 1 ≤ x.hit.weight
  weight-at =
      let e₁ = sums_at empty in
      let e₂ = balance.nonempty in
      positive m x.hit.weight (omega arith)

  -- the record's total covers it
  within-at : x.hit.weight ≤ b.total
  within-at =
      let e₁ = total-is m items c b H balance tidies in
      let e₂ = sums_at (of_extent m.extent) in
      let e₃ = extent-self m (some x.hit.weight) in
      omega arith

  -- some of its count goes
  pub inline-less : (n : ℕ) → 1 ≤ n → n < x.hit.weight
      → Step m 0 n items (put_back c (body_bytes (body_with b (b.total - n) (x.front ++ weighed x.hit (x.hit.weight - n) ∷ x.back))))
  unfolding ref_entries
  inline-less n one≤ less =
      let within = within-at in
      let w : ℕ = x.hit.weight in
      let S = H.sound in
      let fits = S.fits in
      let (k, f) = named-yes m.kind m.fields x.hit t in
      let x' : Ref = weighed x.hit (w - n) in
      let lt : b.total - n < 18446744073709551616 = omega arith in
      let v : 1 ≤ w - n = omega arith in
      inline-step m items c b H balance tidies (some w) (some (w - n)) (body_with b (b.total - n) (x.front ++ x' ∷ x.back))
      (record {
        front = x.front;
        leaves = x.hit ∷ [];
        enters = x' ∷ [];
        back = x.back;
        was = e;
        now = refl;
        leaving = entries_at;
        entering = named-entries m x' (not-172 m.kind naming) k f;
      })
      (ordered-weighed x.front x.hit (w - n) x.back (rw e at (ordered_at m items c b H balance tidies))) (omega arith)
      (sound-with c.hit.key.kind b (b.total - n) (x.front ++ x' ∷ x.back) S lt
      (less-whole x (rw k naming) (rw e at S.wholes) n one≤ less))
      n 0 (omega arith) (not-empty m (w - n) v) tt

  -- all of it goes
  pub inline-gone : (n : ℕ) → x.hit.weight ≡ n
      → Step m 0 n items (put_back c (body_bytes (body_with b (b.total - n) (x.front ++ x.back))))
  unfolding ref_entries
  inline-gone n same =
      let within = within-at in
      let w : ℕ = x.hit.weight in
      let S = H.sound in
      let fits = S.fits in
      let ws : T (all whole (x.front ++ x.hit ∷ x.back)) = rw e at S.wholes in
      let lt : b.total - n < 18446744073709551616 = omega arith in
      inline-step m items c b H balance tidies (some w) none (body_with b (b.total - n) (x.front ++ x.back))
      (record { front = x.front; leaves = x.hit ∷ []; enters = []; back = x.back; was = e; now = refl; leaving = entries_at; entering = refl })
      (ordered-drop x.front x.hit x.back (rw e at (ordered_at m items c b H balance tidies))) (omega arith)
      (sound-with c.hit.key.kind b (b.total - n) (x.front ++ x.back) S lt (all_rest whole x.front x.hit x.back ws))
      n 0 (omega arith) refl tt

-- ---- the first of a list, past what does not count

abbrev pub first : {A : Type 0} → (A → Bool) → List A → Option A
first p [] = none
first p (x ∷ l) = cond (p x) (some x) (first p l)

pub first-at : {A : Type 0} (p : A → Bool) (a : List A) (x : A) (z : List A) → T (all (λ y. not (p y)) a) → T (p x)
    → first p (a ++ x ∷ z) ≡ some x
first-at p [] x z t h = cond_yes (p x) (some x) (first p z) h
first-at p (y ∷ a) x z t h =
    let k = and_yes (not (p y)) _ t in
    cond_no (p y) (some y) (first p (a ++ x ∷ z)) k.0 ∙ first-at p a x z k.1 h

pub first_found : {A : Type 0} (p : A → Bool) (l : List A) (c : Cut A) → Found p l c → first p l ≡ some c.hit
first_found p l c f = ap (first p) f.same ∙ first-at p c.front c.hit c.back f.miss f.hit

pub first-skip : {A : Type 0} (p : A → Bool) (a o z : List A) → T (all (λ x. not (p x)) o)
    → first p (a ++ (o ++ z)) ≡ first p (a ++ z)
first-skip p [] [] z t = refl
first-skip p [] (x ∷ o) z t =
    let h = and_yes (not (p x)) _ t in
    cond_no (p x) (some x) (first p (o ++ z)) h.0 ∙ first-skip p [] o z h.1
first-skip p (y ∷ a) o z t = ap (cond (p y) (some y)) (first-skip p a o z t)

-- an item with a record's key is a record of that extent
pub key-record : (x : ℕ) (r i : Item) → T (record_of x r) → T (has_key r.key i) → T (record_of x i)
unfolding is_record
key-record x r i t h =
    subst (λ (k : Key). T ((eqb k.kind 168 || eqb k.kind 169) && eqb k.objectid x))
    (sym (same_key-yes i.key r.key h)) t

-- so no item before the first one has its key
pub before-record : (x : ℕ) (r : Item) (a : List Item) → T (record_of x r) → T (all (λ i. not (record_of x i)) a)
    → T (all (λ i. not (has_key r.key i)) a)
before-record x r a t u =
    all_map (λ i. not (record_of x i)) (λ i. not (has_key r.key i))
    (λ i v. not_T (has_key r.key i) (λ k. T_not (record_of x i) (key-record x r i t k) v)) a u

-- ---- as an item

-- the item at a cut stands for the name and counts w
pub record Own (m : Name) (items : List Item) (k : Cut Item) (w : ℕ) : Type 0 where
  pub same : items ≡ k.front ++ k.hit ∷ k.back
  pub is_good : T (good k.hit)
  pub kind : k.hit.key.kind ≡ m.kind
  pub extent : k.hit.key.objectid ≡ m.extent
  pub entry : item_entries k.hit ≡ only m (some w)
  pub sums : (g : Entry → ℕ)
      → sum g (entries items) ≡ sum g (entries k.front) + sum g (only m (some w)) + sum g (entries k.back)
  pub counts : count m items ≡ w
  pub positive : 1 ≤ w

pub own_of : (m : Name) (items : List Item) (k : Cut Item) (w : ℕ) → Balanced items → items ≡ k.front ++ k.hit ∷ k.back
    → k.hit.key.kind ≡ m.kind → k.hit.key.objectid ≡ m.extent → item_entries k.hit ≡ only m (some w) → Own m items k w
own_of m items k w bal same kind extent entry =
    let parts : (g : Entry → ℕ) → sum g (entries items) ≡ sum g (entries k.front) + sum g (only m (some w)) + sum g (entries
    k.back) =
    (λ g. ap (λ (l : List Item). sum g (entries l)) same ∙ sum-mid g k.front k.hit k.back
    ∙ ap (λ (l : List Entry). sum g (entries k.front) + sum g l + sum g (entries k.back)) entry) in
    let n₁ = bal.names m in
    let n₂ = parts (stands m) in
    let n₃ = only-stands m w in
    let u₁ = unstood m (entries k.front) (omega arith) in
    let u₂ = unstood m (entries k.back) (omega arith) in
    let p₁ = parts (under m) in
    let p₂ = only-counts m w in
    let e₁ = parts empty in
    let e₂ = bal.nonempty in
    record {
      same = same;
      is_good = all-mid good k.front k.hit k.back (rw same at bal.goods);
      kind = kind;
      extent = extent;
      entry = entry;
      sums = parts;
      counts = omega arith;
      positive = positive m w (omega arith);
    }

pub own-bytes : (m : Name) (items : List Item) (k : Cut Item) (w : ℕ) → Own m items k w → T (all tidy items)
    → T (are_bytes k.hit.bytes)
own-bytes m items k w O t = tidy-bytes k.hit (all-mid tidy k.front k.hit k.back (rw O.same at t))

-- what is left of an item with so much off its weight: nothing, or other data with the rest as its weight
pub data Left (m : Name) (i : Item) (w n : ℕ) (left : Answer (List ℕ)) : Type 0 where
  goes : w ≡ n → left ≡ remove → Left m i w n left
  stays : n < w → (d : List ℕ) → left ≡ accepted d → T (are_bytes d) → T (good (with_bytes i d))
      → item_entries (with_bytes i d) ≡ only m (some (w - n)) → Left m i w n left

module _ (m : Name) (naming : Naming m.kind) (items : List Item) (c : Cut Item) (b : Body) (H : Here m items c b)
    (balance : Balanced items) (tidies : T (all tidy items)) (k : Cut Item) (w : ℕ) (O : Own m items k w) where
  balanced-k : Balanced (k.front ++ k.hit ∷ k.back)
  balanced-k = rw O.same at balance

  tidy-k : T (all tidy (k.front ++ k.hit ∷ k.back))
  tidy-k = rw O.same at tidies

  no_record : T (not (is_record k.hit))
  no_record = naming-no-record k.hit (subst Naming (sym O.kind) naming)

  -- the record found by its key afterwards is the one that was read
  same-record : (o : List Item) → T (all (λ i. not (is_record i)) o) → (c' : Cut Item)
      → Found (has_key c.hit.key) (k.front ++ (o ++ k.back)) c' → c.hit ≡ c'.hit
  same-record o t c' f =
      let p : Item → Bool = has_key c.hit.key in
      let r : T (record_of m.extent c.hit) = H.found.hit in
      let front = before-record m.extent c.hit c.front r H.found.miss in
      let no_key : (i : Item) → T (not (is_record i)) → T (not (p i)) =
      (λ i u. not_T (p i) (λ v. T_not (is_record i) (and_yes (is_record i) _ (key-record m.extent c.hit i r v)).0 u)) in
      some_inj (sym (first-at p c.front c.hit c.back front (same_key-refl c.hit.key)) ∙ ap (first p) (sym H.found.same ∙ O.same)
      ∙ first-skip p k.front (k.hit ∷ []) k.back
      (yes_and (not (p k.hit)) true (no_key k.hit no_record) tt)
      ∙ sym (first-skip p k.front o k.back (all_map (λ i. not (is_record i)) (λ i. not (p i)) no_key o t))
      ∙ first_found p (k.front ++ (o ++ k.back)) c' f)

  -- the record's total covers it
  within-k : w ≤ b.total
  within-k =
      let e₁ = total-is m items c b H balance tidies in
      let e₂ = O.sums (of_extent m.extent) in
      let e₃ = extent-self m (some w) in
      omega arith

  finish : (n : ℕ) (o : List Item) (new : Option ℕ) → T (all (λ i. not (is_record i)) o)
      → Half m.extent items (k.front ++ (o ++ k.back)) → T (all tidy (k.front ++ (o ++ k.back)))
      → ((g : Entry → ℕ) → sum g (entries (k.front ++ (o ++ k.back))) + sum g (only m (some w)) ≡ sum g (entries items) + sum g (only m new))
      → worth new + n ≡ w → sum empty (only m new) ≡ 0 → Fresh (some w) new (sum (stands m) (entries items))
      → (after : List Item)
      → replaced c.hit.key (body_bytes (body_with b (b.total - n) b.refs)) (k.front ++ (o ++ k.back)) ≡ accepted after
      → Step m 0 n items after
  unfolding replaced
  finish n o new nr half tj sums moves nonempty free after e =
      let within = within-k in
      let js : List Item = k.front ++ (o ++ k.back) in
      let h = bind_ok (needed 5 (first_cut (has_key c.hit.key) js)) _ e in
      let c' : Cut Item = h.0 in
      let f = cut-some (has_key c.hit.key) js (needed-ok 5 (first_cut (has_key c.hit.key) js) h.1) in
      let r : c.hit ≡ c'.hit = same-record o nr c' f in
      let S = H.sound in
      let b' : Body = body_with b (b.total - n) b.refs in
      let fits = S.fits in
      let lt : b.total - n < 18446744073709551616 = omega arith in
      let S' : Sound c'.hit.key.kind b' =
      subst (λ (z : Item). Sound z.key.kind b') r (sound-with c.hit.key.kind b (b.total - n) b.refs S lt S.wholes) in
      let is_rec : T (is_record c'.hit) = subst (λ (z : Item). T (is_record z)) r H.is_rec in
      let tj' : T (all tidy (c'.front ++ c'.hit ∷ c'.back)) = rw f.same at tj in
      subst (Step m 0 n items) (accepted-inj h.2)
      (record {
        old = some w;
        new = new;
        edit = edit-item m (some w) new items c'.front c'.hit c'.back (body_bytes b') b b'
            (subst (Half m.extent items) f.same half) is_rec
            (subst (λ (z : Item). z.key.objectid ≡ m.extent) r H.extent)
            (subst (λ (z : Item). view_of z ≡ extent_record b) r H.view)
            (view-written c'.hit b' is_rec S') refl (omega arith)
            (λ g. subst (λ (z : List Item). sum g (entries z) + sum g (only m (some w)) ≡ sum g (entries items) + sum g (only m new)) f.same (sums g));
        moves = omega arith;
        nonempty = nonempty;
        free = free;
        tidied = all-put tidy c'.front (with_bytes c'.hit (body_bytes b')) c'.back (all_rest tidy c'.front c'.hit c'.back tj')
            (tidy-with c'.hit (body_bytes b') (all-mid tidy c'.front c'.hit c'.back tj') (are_bytes-body_bytes c'.hit.key.kind b' S'));
      })

  -- the item goes
  item-gone : (n : ℕ) → w ≡ n → (after : List Item)
      → replaced c.hit.key (body_bytes (body_with b (b.total - n) b.refs)) (without k) ≡ accepted after
      → Step m 0 n items after
  item-gone n same after e =
      finish n [] none tt
      (rw O.same (half-drop m.extent k.front k.hit k.back balanced-k no_record O.extent))
      (all_rest tidy k.front k.hit k.back tidy-k)
      (λ g.
      let e₁ = sum-two g k.front k.back in
      let e₂ = O.sums g in
      omega arith)
      (omega arith) refl tt after e

  -- the item has other data, and the name a lower weight
  item-less : (n : ℕ) → n < w → (d : List ℕ) → T (are_bytes d) → T (good (with_bytes k.hit d))
      → item_entries (with_bytes k.hit d) ≡ only m (some (w - n)) → (after : List Item)
      → replaced c.hit.key (body_bytes (body_with b (b.total - n) b.refs)) (put_back k d) ≡ accepted after
      → Step m 0 n items after
  unfolding is_record
  item-less n less d bytes gd ev after e =
      let v : 1 ≤ w - n = omega arith in
      finish n (with_bytes k.hit d ∷ []) (some (w - n))
      (yes_and (not (is_record k.hit)) true no_record tt)
      (rw O.same (half-swap m.extent k.front k.hit k.back d balanced-k no_record O.extent gd))
      (all-put tidy k.front (with_bytes k.hit d) k.back (all_rest tidy k.front k.hit k.back tidy-k)
      (tidy-with k.hit d (all-mid tidy k.front k.hit k.back tidy-k) bytes))
      (λ g.
      let e₁ = sum-mid g k.front (with_bytes k.hit d) k.back in
      let e₂ = ap (sum g) ev in
      let e₃ = O.sums g in
      omega arith)
      (omega arith) (not-empty m (w - n) v) tt after e

  pub item-left : (n : ℕ) (left : Answer (List ℕ)) → Left m k.hit w n left → (others after : List Item)
      → dropped_at k left ≡ accepted others
      → replaced c.hit.key (body_bytes (body_with b (b.total - n) b.refs)) others ≡ accepted after
      → Step m 0 n items after
  unfolding dropped_at
  item-left n left (goes same el) others after eo e =
      item-gone n same after
      (ap (replaced c.hit.key (body_bytes (body_with b (b.total - n) b.refs)))
      (accepted-inj (ap (dropped_at k) (sym el) ∙ eo)) ∙ e)
  item-left n left (stays less d el bytes gd ev) others after eo e =
      item-less n less d bytes gd ev after
      (ap (replaced c.hit.key (body_bytes (body_with b (b.total - n) b.refs)))
      (accepted-inj (ap (dropped_at k) (sym el) ∙ eo)) ∙ e)
