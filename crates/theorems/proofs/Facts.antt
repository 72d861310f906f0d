-- What an item says of its entries: a record its references under its own extent, a reference item its one name; and where a
-- name stands nowhere. Assumes nothing.
use mathlib.Core.Path.{◌≡◌, refl, sym, ap, ap₂, ◌∙◌, subst}
use mathlib.Core.Logic.{◌≢◌}
use Prim.Native.Nat.{ℕ, ◌+◌, ◌≤◌, ◌<◌}
use native.Mathlib.Omega.{arith}
use mathlib.Core.Bool.{Bool, true, false, not, ◌&&◌, ◌||◌, cond}
use mathlib.Core.Option.{some}
use mathlib.Core.List.{List, [], ◌∷◌, ◌++◌}
use lib.ListN.{length}
use lib.Dec.{T, leb, eqb, eqb_refl, eqb→eq, leb→le, le→leb}
use mir.Facts.{and_yes, yes_and, T_not, yes_eqb}
use Rattle.fields.specs.Lists.{sum, all}
use Rattle.fields.specs.Numbers.{le, le_bytes, words, are_bytes}
use Rattle.fields.specs.Parts.{part}
use Rattle.fields.proofs.Lists.{T-eq, cond_yes, cond_no, sum-append, all_both}
use Rattle.fields.proofs.Parts.{length_part}
use Rattle.fields.proofs.Numbers.{are_bytes-part, le-bound, le-le_bytes}
use Rattle.format.specs.Questions.{Answer, refused, absent, remove, accepted}
use Rattle.format.specs.References.{known, payload_length, count_position, counted, field_count, row_in, weight_of, Ref, make_ref, ref_at, Body, read_body, body_bytes, rank}
use Rattle.format.specs.Bodies.{named, one, keyed_count}
use Rattle.format.specs.Items.{Item, with_bytes}
use Rattle.format.specs.Apply.{is_record, record_of}
use Rattle.format.specs.Names.{Name, same_name, Entry, View, extent_record, reference, unrelated, malformed, is_ref_item, view_record, in_form, view_ref_item, view_of, ref_entry, ref_entries, view_entries, item_entries, entries, under, well_formed, good, stands}
use Rattle.format.specs.Ledger.{not_its_own, shared_count}
use Rattle.format.proofs.Bodies.{Sound, read-body_bytes}
use Rattle.theorems.proofs.Sums.{same_name-yes, empty}
use Rattle.theorems.proofs.Naming.{Naming, is176, is178, is182, is184}
use Rattle.theorems.proofs.Order.{yes-named}
use Rattle.theorems.proofs.Edit.{only}

-- ---- what a record says

pub view-record : (r : Item) (b : Body) → T (is_record r) → read_body r.key.kind r.bytes ≡ accepted b
    → view_of r ≡ extent_record b
unfolding view_of view_record
view-record r b t e =
    ap (λ (c : Bool). cond c (view_record (read_body r.key.kind r.bytes)) (cond (is_ref_item r) (view_ref_item r) unrelated))
    (T-eq (is_record r) t)
    ∙ ap view_record e

pub view-written : (r : Item) (b : Body) → T (is_record r) → Sound r.key.kind b
    → view_of (with_bytes r (body_bytes b)) ≡ extent_record b
unfolding is_record
view-written r b t s = view-record (with_bytes r (body_bytes b)) b t (read-body_bytes r.key.kind b s)

-- a record in good form reads
pub good-reads : (r : Item) → T (is_record r) → T (good r) → (b : Body) × (read_body r.key.kind r.bytes ≡ accepted b)
unfolding view_of view_record well_formed
good-reads r t g = go (is_record r) t (read_body r.key.kind r.bytes) refl g
  where
    go : (c : Bool) → T c → (o : Answer Body) → read_body r.key.kind r.bytes ≡ o
        → T (well_formed (cond c (view_record o) (cond (is_ref_item r) (view_ref_item r) unrelated)))
        → (b : Body) × (read_body r.key.kind r.bytes ≡ accepted b)
    go true t (refused n) q g = absurd g
    go true t absent q g = absurd g
    go true t remove q g = absurd g
    go true t (accepted b) q g = (b, q)
    go false t o q g = absurd t

-- ---- an item's entries name its own extent

abbrev pub here : ℕ → Entry → Bool
here x e = eqb e.name.extent x

ref-here : (x : ℕ) (r : Ref) → T (all (here x) (ref_entry x r))
unfolding ref_entry
ref-here x r = go (eqb r.kind 172)
  where
    go : (c : Bool)
        → T (all (here x) (cond c [] (record { name = record { extent = x; kind = r.kind; fields = r.fields }; weight = r.weight } ∷ [])))
    go true = tt
    go false = yes_and (eqb x x) true (eqb_refl x) tt

refs-here : (x : ℕ) (rs : List Ref) → T (all (here x) (ref_entries x rs))
unfolding ref_entries
refs-here x [] = tt
refs-here x (r ∷ rs) = all_both (here x) (ref_entry x r) (ref_entries x rs) (ref-here x r) (refs-here x rs)

view-here : (x : ℕ) (v : View) → T (all (here x) (view_entries x v))
unfolding view_entries
view-here x (extent_record b) = refs-here x b.refs
view-here x (reference r) = ref-here x r
view-here x unrelated = tt
view-here x malformed = tt

pub entries-here : (i : Item) → T (all (here i.key.objectid) (item_entries i))
unfolding item_entries
entries-here i = view-here i.key.objectid (view_of i)

-- another extent's entries have other names
pub none_here : (m : Name) (x : ℕ) (l : List Entry) → T (all (here x) l) → x ≢ m.extent → sum (stands m) l ≡ 0
none_here m x [] t h = refl
none_here m x (e ∷ l) t h =
    let k = and_yes (here x e) _ t in
    go (same_name m e.name) refl (none_here m x l k.1 h)
  where
    go : (c : Bool) → same_name m e.name ≡ c → sum (stands m) l ≡ 0 → cond c 1 0 + sum (stands m) l ≡ 0
    go true q ih =
        absurd (h (sym (eqb→eq e.name.extent x (and_yes (here x e) _ t).0)
        ∙ sym (ap (λ (y : Name). y.extent) (same_name-yes m e.name (subst T (sym q) tt)))))
    go false q ih = omega arith

-- the items beside the record, without an item of the name
pub rest-none : (m : Name) (l : List Item) → T (all (λ i. not (record_of m.extent i)) l) → T (all (not_its_own m) l)
    → sum (stands m) (entries l) ≡ 0
unfolding entries
rest-none m [] t u = refl
rest-none m (i ∷ l) t u =
    let h = and_yes (not (record_of m.extent i)) _ t in
    let k = and_yes (not_its_own m i) _ u in
    let ih = rest-none m l h.1 k.1 in
    sum-append (stands m) (item_entries i) (entries l) ∙ ap₂ ◌+◌ (go (is_record i) h.0 k.0) ih
  where
    go : (c : Bool) → T (not (c && eqb i.key.objectid m.extent)) → T (c || eqb (sum (stands m) (item_entries i)) 0)
        → sum (stands m) (item_entries i) ≡ 0
    go true a b =
        none_here m i.key.objectid (item_entries i) (entries-here i)
        (λ e. T_not (eqb i.key.objectid m.extent) (yes_eqb e) a)
    go false a b = eqb→eq _ 0 b

-- inline references of other names
pub refs-none : (m : Name) (rs : List Ref) → T (all (λ r. not (named m.kind m.fields r)) rs)
    → sum (stands m) (ref_entries m.extent rs) ≡ 0
unfolding ref_entries ref_entry
refs-none m [] t = refl
refs-none m (r ∷ rs) t =
    let h = and_yes (not (named m.kind m.fields r)) _ t in
    let ih = refs-none m rs h.1 in
    sum-append (stands m) (ref_entry m.extent r) (ref_entries m.extent rs)
    ∙ ap₂ ◌+◌ (go (eqb r.kind 172) (same_name m (record { extent = m.extent; kind = r.kind; fields = r.fields })) refl h.0) ih
  where
    go : (c d : Bool) → same_name m (record { extent = m.extent; kind = r.kind; fields = r.fields }) ≡ d
        → T (not (named m.kind m.fields r))
        → sum (stands m) (cond c [] (record { name = record { extent = m.extent; kind = r.kind; fields = r.fields }; weight = r.weight } ∷ [])) ≡ 0
    go true d q t = refl
    go false true q t =
        let e : m ≡ record { extent = m.extent; kind = r.kind; fields = r.fields } = same_name-yes m _ (subst T (sym q) tt) in
        absurd (T_not (named m.kind m.fields r)
        (yes-named m.kind m.fields r (sym (ap (λ (x : Name). x.kind) e)) (sym (ap (λ (x : Name). x.fields) e))) t)
    go false false q t = rw q refl

-- ---- the entry of a reference that has the name

pub named-entry : (m : Name) (r : Ref) → eqb m.kind 172 ≡ false → r.kind ≡ m.kind → r.fields ≡ m.fields
    → ref_entry m.extent r ≡ only m (some r.weight)
unfolding ref_entry
named-entry m r q k f =
    let k' : eqb r.kind 172 ≡ false = ap (λ (n : ℕ). eqb n 172) k ∙ q in
    ap (λ (c : Bool). cond c [] (record { name = record { extent = m.extent; kind = r.kind; fields = r.fields }; weight = r.weight } ∷ [])) k'
    ∙ (λ i. record { name = record { extent = m.extent; kind = k i; fields = f i }; weight = r.weight } ∷ [])

pub named-entries : (m : Name) (r : Ref) → eqb m.kind 172 ≡ false → r.kind ≡ m.kind → r.fields ≡ m.fields
    → ref_entries m.extent (r ∷ []) ≡ only m (some r.weight)
unfolding ref_entries
named-entries m r q k f = ap (λ (l : List Entry). l ++ []) (named-entry m r q k f)

-- ---- a reference as an item

pub view-item : (i : Item) → Naming i.key.kind → view_of i ≡ view_ref_item i
unfolding view_of is_record is_ref_item known row_in
view-item i (is176 e) = rw e refl
view-item i (is178 e) = rw e refl
view-item i (is182 e) = rw e refl
view-item i (is184 e) = rw e refl

in-form : (v : View) (c : Bool) (r : Ref) → v ≡ in_form c r → T (well_formed v) → v ≡ reference r
unfolding in_form well_formed
in-form v true r e t = e
in-form v false r e t = absurd (subst (λ (y : View). T (well_formed y)) e t)

-- the data that an item in its form has
pub form-out : (v : View) (c : Bool) (r : Ref) → v ≡ in_form c r → T (well_formed v) → T c
unfolding in_form well_formed
form-out v true r e t = tt
form-out v false r e t = absurd (subst (λ (y : View). T (well_formed y)) e t)

-- the entry of an item, from the reference that it is
form-entry : (i : Item) (c : Bool) (r : Ref) → Naming i.key.kind → view_ref_item i ≡ in_form c r → T (good i)
    → eqb r.kind 172 ≡ false
    → item_entries i ≡ only (record { extent = i.key.objectid; kind = r.kind; fields = r.fields }) (some r.weight)
unfolding item_entries view_entries
form-entry i c r k e t q =
    ap (view_entries i.key.objectid) (in-form (view_of i) c r (view-item i k ∙ e) t)
    ∙ named-entry (record { extent = i.key.objectid; kind = r.kind; fields = r.fields }) r q refl refl

-- of 176, 182 and 184: the key's offset is the field
pub plain_entry : (i : Item) → Naming i.key.kind → eqb i.key.kind 178 ≡ false → T (good i)
    → item_entries i ≡ only (record { extent = i.key.objectid; kind = i.key.kind; fields = one i.key.offset }) (some (shared_count i))
unfolding view_ref_item shared_count
plain_entry i k q t = go k
  where
    n₁ : T (not (eqb i.key.kind 178))
    n₁ = subst (λ (c : Bool). T (not c)) (sym q) tt

    rest : View
    rest =
        cond (eqb i.key.kind 184) (in_form (eqb (length i.bytes) 4) (make_ref 184 (one i.key.offset) (le i.bytes)))
        (in_form (eqb (length i.bytes) 0) (make_ref i.key.kind (one i.key.offset) 1))

    fixed : eqb i.key.kind 184 ≡ false → eqb i.key.kind 172 ≡ false
        → item_entries i ≡ only (record { extent = i.key.objectid; kind = i.key.kind; fields = one i.key.offset }) (some (cond (eqb i.key.kind 184) (le i.bytes) 1))
    fixed p r =
        let n₂ : T (not (eqb i.key.kind 184)) = subst (λ (c : Bool). T (not c)) (sym p) tt in
        form-entry i (eqb (length i.bytes) 0) (make_ref i.key.kind (one i.key.offset) 1) k
        (cond_no (eqb i.key.kind 178) _ _ n₁ ∙ cond_no (eqb i.key.kind 184) _ _ n₂) t r
        ∙ ap (λ (w : ℕ). only (record { extent = i.key.objectid; kind = i.key.kind; fields = one i.key.offset }) (some w))
        (sym (cond_no (eqb i.key.kind 184) (le i.bytes) 1 n₂))

    go : Naming i.key.kind
        → item_entries i ≡ only (record { extent = i.key.objectid; kind = i.key.kind; fields = one i.key.offset }) (some (cond (eqb i.key.kind 184) (le i.bytes) 1))
    go (is176 e) = fixed (rw e refl) (rw e refl)
    go (is178 e) = absurd (T_not (eqb i.key.kind 178) (yes_eqb e) n₁)
    go (is182 e) = fixed (rw e refl) (rw e refl)
    go (is184 e) =
        let n₂ : T (eqb i.key.kind 184) = yes_eqb e in
        form-entry i (eqb (length i.bytes) 4) (make_ref 184 (one i.key.offset) (le i.bytes)) k
        (cond_no (eqb i.key.kind 178) _ _ n₁ ∙ cond_yes (eqb i.key.kind 184) _ _ n₂) t refl
        ∙ ap₂ (λ (z w : ℕ). only (record { extent = i.key.objectid; kind = z; fields = one i.key.offset }) (some w))
        (sym e)
        (sym (cond_yes (eqb i.key.kind 184) (le i.bytes) 1 n₂))

-- of 178: three words and a count
pub ref_at-178 : (bytes : List ℕ) → ref_at 178 bytes ≡ make_ref 178 (words 3 bytes) (keyed_count bytes)
unfolding ref_at keyed_count field_count payload_length counted count_position row_in weight_of
ref_at-178 bytes = refl

pub data-entry : (i : Item) → i.key.kind ≡ 178 → T (good i)
    → item_entries i ≡ only (record { extent = i.key.objectid; kind = 178; fields = words 3 i.bytes }) (some (keyed_count i.bytes))
unfolding view_ref_item
data-entry i e t =
    let n₁ : T (eqb i.key.kind 178) = yes_eqb e in
    let d : List ℕ = i.bytes in
    let f : Bool = eqb (length d) 28 && eqb i.key.offset (rank (ref_at 178 d)) in
    form-entry i f (make_ref 178 (words 3 d) (keyed_count d)) (is178 e)
    (cond_yes (eqb i.key.kind 178) _ _ n₁ ∙ ap (in_form f) (ref_at-178 d)) t refl

-- and its form: 28 bytes, at the hash of its words
pub data-good : (i : Item) → i.key.kind ≡ 178 → length i.bytes ≡ 28
    → i.key.offset ≡ rank (make_ref 178 (words 3 i.bytes) (keyed_count i.bytes)) → T (good i)
unfolding view_ref_item in_form well_formed
data-good i e l o =
    let d : List ℕ = i.bytes in
    let f : Bool = eqb (length d) 28 && eqb i.key.offset (rank (ref_at 178 d)) in
    let o' : i.key.offset ≡ rank (ref_at 178 d) = o ∙ ap rank (sym (ref_at-178 d)) in
    let v : view_of i ≡ reference (ref_at 178 d) =
    view-item i (is178 e) ∙ cond_yes (eqb i.key.kind 178) _ _ (yes_eqb e)
    ∙ cond_yes f _ _ (yes_and (eqb (length d) 28) _ (yes_eqb l) (yes_eqb o')) in
    subst (λ (y : View). T (well_formed y)) (sym v) tt

-- the data of the others: a count for 184, else none
pub plain_form : (i : Item) → Naming i.key.kind → eqb i.key.kind 178 ≡ false → T (good i)
    → length i.bytes ≡ cond (eqb i.key.kind 184) 4 0
unfolding view_ref_item
plain_form i k q t = go (eqb i.key.kind 184) refl
  where
    n₁ : T (not (eqb i.key.kind 178))
    n₁ = subst (λ (c : Bool). T (not c)) (sym q) tt

    go : (c : Bool) → eqb i.key.kind 184 ≡ c → length i.bytes ≡ cond c 4 0
    go true p =
        eqb→eq _ _ (form-out (view_of i) (eqb (length i.bytes) 4) (make_ref 184 (one i.key.offset) (le i.bytes))
        (view-item i k ∙ cond_no (eqb i.key.kind 178) _ _ n₁ ∙ cond_yes (eqb i.key.kind 184) _ _ (subst T (sym p) tt)) t)
    go false p =
        eqb→eq _ _ (form-out (view_of i) (eqb (length i.bytes) 0) (make_ref i.key.kind (one i.key.offset) 1)
        (view-item i k ∙ cond_no (eqb i.key.kind 178) _ _ n₁ ∙ cond_no (eqb i.key.kind 184) _ _
        (subst (λ (c : Bool). T (not c)) (sym p) tt)) t)

pub shared-good : (i : Item) → i.key.kind ≡ 184 → length i.bytes ≡ 4 → T (good i)
unfolding view_ref_item in_form well_formed
shared-good i e l =
    let v : view_of i ≡ reference (make_ref 184 (one i.key.offset) (le i.bytes)) =
    view-item i (is184 e) ∙ cond_no (eqb i.key.kind 178) _ _ (rw e tt)
    ∙ cond_yes (eqb i.key.kind 184) _ _ (yes_eqb e) ∙ cond_yes (eqb (length i.bytes) 4) _ _ (yes_eqb l) in
    subst (λ (y : View). T (well_formed y)) (sym v) tt

-- a count of four bytes
pub count_fits : (d : List ℕ) → length d ≡ 28 → T (are_bytes d) → keyed_count d < 4294967296
unfolding keyed_count
count_fits d e t =
    let l : length (part 24 4 d) ≡ 4 = length_part 4 24 d (omega arith) in
    rw l at (le-bound (part 24 4 d) (are_bytes-part 24 4 d t))

-- that of a shared reference, and it written anew where there is more than one
pub shared-fits : (i : Item) → Naming i.key.kind → eqb i.key.kind 178 ≡ false → T (good i) → T (are_bytes i.bytes)
    → shared_count i < 4294967296
unfolding shared_count
shared-fits i k q g t = go (eqb i.key.kind 184) (plain_form i k q g)
  where
    go : (c : Bool) → length i.bytes ≡ cond c 4 0 → cond c (le i.bytes) 1 < 4294967296
    go true e = rw e at (le-bound i.bytes t)
    go false e = omega arith

pub shared-set : (i : Item) (v : ℕ) → 1 < shared_count i → v < 4294967296 → shared_count (with_bytes i (le_bytes 4 v)) ≡ v
unfolding shared_count
shared-set i v h k = go (eqb i.key.kind 184) h
  where
    go : (c : Bool) → 1 < cond c (le i.bytes) 1 → cond c (le (le_bytes 4 v)) 1 ≡ v
    go true h = le-le_bytes 4 v k
    go false h = absurd (omega arith)

-- ---- a name that does not stand counts nothing

pub unstood : (n : Name) (l : List Entry) → sum (stands n) l ≡ 0 → sum (under n) l ≡ 0
unstood n [] e = refl
unstood n (x ∷ l) e = go (same_name n x.name) (unstood n l) e
  where
    go : (c : Bool) → (sum (stands n) l ≡ 0 → sum (under n) l ≡ 0) → cond c 1 0 + sum (stands n) l ≡ 0
        → cond c x.weight 0 + sum (under n) l ≡ 0
    go true ih h = absurd (omega arith)
    go false ih h = let k = ih (omega arith) in omega arith

-- a weight that is not counted as empty is positive
pub positive : (m : Name) (w : ℕ) → sum empty (only m (some w)) ≡ 0 → 1 ≤ w
positive m w e = go (leb 1 w) refl e
  where
    go : (c : Bool) → leb 1 w ≡ c → cond c 0 1 + 0 ≡ 0 → 1 ≤ w
    go true q h = leb→le 1 w (subst T (sym q) tt)
    go false q h = absurd (omega arith)

pub not-empty : (m : Name) (w : ℕ) → 1 ≤ w → sum empty (only m (some w)) ≡ 0
not-empty m w h = ap (λ (n : ℕ). n + 0) (cond_yes (leb 1 w) 0 1 (le→leb 1 w h))
