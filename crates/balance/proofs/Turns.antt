-- One more item of a sheet, as code takes it, and the pass. Assumes nothing.
use mathlib.Core.Path.{◌≡◌, refl, sym, ap, ap₂, ◌∙◌, subst}
use Prim.Native.Nat.{ℕ, ◌+◌, ◌≤◌}
use native.Mathlib.Omega.{arith}
use mathlib.Core.Bool.{Bool, true, false}
use mathlib.Core.Option.{Option as Tallied}
use Rattle.std.specs.Prelude.{Option, Some, None}
use mathlib.Core.List.{List, [], ◌∷◌}
use lib.Dec.{T, eqb}
use lib.ListN.{length}
use borrow.Author.Tests.{eq-eqb, ne_eqb}
use Rattle.fields.specs.Numbers.{are_bytes}
use Rattle.format.specs.declared.Key.{Key}
use Rattle.format.specs.Items.{Item}
use Rattle.format.specs.Apply.{is_record}
use Rattle.format.specs.Names.{is_ref_item, view_of, balanced}
use Rattle.format.proofs.Items.{sheet-sane}
use Rattle.item_list.specs.Steps.{item_at, list_items, IsList}
use Rattle.item_list.proofs.Steps.{WholeAt, data_is}
use Rattle.balance.specs.Tally.{GroupTally, fresh, closed, taken, here, entered, entry_of, onward, pass}
use Rattle.balance.proofs.Passing.{pass-balanced}
use Rattle.balance.specs.declared.group.Group.{Group}
use Rattle.balance.specs.Groups.{item_of, marked_total, tally_of, empty, kept_after, GroupKept, Taking, Turning}

-- a test of the key alone, of the item
module _ (s : List ℕ) (at next : ℕ) (key : Key) (b : Bool) where
  pub record-yes : b ≡ is_record (record { key = key; bytes = [] }) → b ≡ true → T (is_record (item_of s at next key))
  unfolding is_record
  record-yes e y = subst T (sym y ∙ e) tt

  pub ref-yes : b ≡ is_ref_item (record { key = key; bytes = [] }) → b ≡ true → T (is_ref_item (item_of s at next key))
  unfolding is_ref_item
  ref-yes e y = subst T (sym y ∙ e) tt

pub take-other : (s : List ℕ) (g : Group) (at next : ℕ) (key : Key) → at + 21 ≤ next → GroupKept s g at
    → (a b : Bool) → a ≡ is_record (record { key = key; bytes = [] }) → a ≡ false → b ≡ is_ref_item (record { key = key; bytes = [] }) → b ≡ false
    → Taking s g (item_of s at next key) next (Some g)
unfolding Taking taken view_of is_record is_ref_item
take-other s g at next key o k a b p x q y =
    (rw (sym p ∙ x, sym q ∙ y) refl, record { body = k.body; light = omega (arith, k.light) })

-- ---- by the extent

pub empty-kept : (s : List ℕ) (g : Group) (x at : ℕ) → g ≡ empty x → GroupKept s g at
empty-kept s g x at e =
    subst (λ (h : Group). GroupKept s h at) (sym e)
    (record { body = λ m q. let z : ◌≡◌ {A = ℕ} 0 1 = cc in absurd (omega arith); light = omega arith })

-- the pass over an item, from what was taken
module _ (t : GroupTally) (i : Item) (rest : List Item) where
  pass-here : here t i ≡ true → pass (i ∷ rest) t ≡ onward (pass rest) (taken t (view_of i))
  unfolding pass entered entry_of
  pass-here h = rw h refl

  pass-new : here t i ≡ false → closed t ≡ true → pass (i ∷ rest) t ≡ onward (pass rest) (taken (fresh i.key.objectid) (view_of i))
  unfolding pass entered entry_of
  pass-new h c = rw (h, c) refl

  pass-open : here t i ≡ false → closed t ≡ false → pass (i ∷ rest) t ≡ false
  unfolding pass entered
  pass-open h c = rw (h, c) refl

module _ (s : List ℕ) (g : Group) (at next : ℕ) (key : Key) (kis : key ≡ (item_at s at).key) (whole : item_at s at ≡ item_of s at next (item_at s at).key) where
  is-item : item_of s at next key ≡ item_at s at
  is-item = ap (item_of s at next) kis ∙ sym whole

  here-yes : key.objectid ≡ g.extent → here (tally_of s g) (item_at s at) ≡ true
  unfolding here tally_of
  here-yes e = eq-eqb _ _ (ap (λ (k : Key). k.objectid) (sym kis) ∙ e)

  here-no : (key.objectid ≡ g.extent → ⊥) → here (tally_of s g) (item_at s at) ≡ false
  unfolding here tally_of
  here-no n = ne_eqb _ _ (λ e. n (ap (λ (k : Key). k.objectid) kis ∙ e))

  -- the extent to which the item goes: its items so far, and the pass over this one
  pub record Enters (h : Group) : Type 0 where
    pub kept : GroupKept s h at
    pub goes : (rest : List Item) → pass (item_at s at ∷ rest) (tally_of s g) ≡ onward (pass rest) (taken (tally_of s h) (view_of (item_of s at next key)))

  pub enter-here : GroupKept s g at → key.objectid ≡ g.extent → Enters g
  enter-here k e = record {
    kept = k;
    goes = λ rest.
        pass-here (tally_of s g) (item_at s at) rest (here-yes e) ∙ ap (λ (i : Item). onward (pass rest) (taken (tally_of s g) (view_of i))) (sym is-item);
  }

  fresh-is : (f : Group) → f ≡ empty key.objectid → tally_of s f ≡ fresh (item_at s at).key.objectid
  unfolding tally_of
  fresh-is f e = ap (tally_of s) e ∙ ap (λ (k : Key). fresh k.objectid) kis

  closed-is : closed (tally_of s g) ≡ eqb (marked_total g.marked) g.weight
  unfolding closed tally_of
  closed-is = refl

  pub enter-new : (f : Group) → f ≡ empty key.objectid → (key.objectid ≡ g.extent → ⊥) → eqb (marked_total g.marked) g.weight ≡ true → Enters f
  enter-new f e n c = record {
    kept = empty-kept s f key.objectid at e;
    goes = λ rest.
        pass-new (tally_of s g) (item_at s at) rest (here-no n) (closed-is ∙ c)
        ∙ ap₂ (λ (t : GroupTally) (i : Item). onward (pass rest) (taken t (view_of i))) (sym (fresh-is f e)) (sym is-item);
  }

  pub turned : (h : Group) (o : Option (Unit {0})) (r : Group) → Enters h → Taking s h (item_of s at next key) next (kept_after o r) → Turning s g (item_at s at) next (kept_after o r)
  unfolding Taking Turning
  turned h None r w t = λ rest. w.goes rest ∙ ap (λ (o : Tallied GroupTally). onward (pass rest) o) t
  turned h (Some done) r w t = (λ rest. w.goes rest ∙ ap (λ (o : Tallied GroupTally). onward (pass rest) o) t.0, t.1)

  pub turn-open : (key.objectid ≡ g.extent → ⊥) → eqb (marked_total g.marked) g.weight ≡ false → Turning s g (item_at s at) next None
  unfolding Turning
  turn-open n c = λ rest. pass-open (tally_of s g) (item_at s at) rest (here-no n) (closed-is ∙ c)

-- ---- the whole sheet

pub item-whole : (s : List ℕ) (at next : ℕ) → WholeAt s at next → item_at s at ≡ item_of s at next (item_at s at).key
item-whole s at next w = let e = data_is s at next w in λ i. record { key = (item_at s at).key; bytes = e i }

pub sheet-short : (s : List ℕ) → T (are_bytes s) → IsList s → length s ≤ 262144
sheet-short s t l = (sheet-sane s (list_items s) t l.reads).3

pub pass_all : (s : List ℕ) (g : Group) → T (are_bytes s) → IsList s → g ≡ empty 0 → pass (list_items s) (tally_of s g) ≡ balanced (list_items s)
unfolding tally_of
pass_all s g t l e =
    let k = sheet-sane s (list_items s) t l.reads in
    ap (λ (h : Group). pass (list_items s) (tally_of s h)) e ∙ pass-balanced (list_items s) k.2 k.0

pub pass-end : (s : List ℕ) (g : Group) (items : List Item) → items ≡ [] → pass items (tally_of s g) ≡ eqb (marked_total g.marked) g.weight
unfolding pass closed tally_of
pass-end s g items e = ap (λ (l : List Item). pass l (tally_of s g)) e

pub pass_on : (s : List ℕ) (g h : Group) (items : List Item) (i : Item) (rest : List Item) → items ≡ i ∷ rest
    → ((l : List Item) → pass (i ∷ l) (tally_of s g) ≡ pass l (tally_of s h)) → pass rest (tally_of s h) ≡ pass items (tally_of s g)
pass_on s g h items i rest e f = sym (ap (λ (l : List Item). pass l (tally_of s g)) e ∙ f rest)

pub pass-off : (s : List ℕ) (g : Group) (items : List Item) (i : Item) (rest : List Item) → items ≡ i ∷ rest
    → ((l : List Item) → pass (i ∷ l) (tally_of s g) ≡ false) → false ≡ pass items (tally_of s g)
pass-off s g items i rest e f = sym (ap (λ (l : List Item). pass l (tally_of s g)) e ∙ f rest)

-- what the pass says of an item that may stand there, or may not
module _ (s : List ℕ) (g h : Group) (i : Item) (next : ℕ) (o : Option (Unit {0})) (t : Turning s g i next (kept_after o h)) where
  pub turned-on : (done : Unit {0}) → o ≡ Some done → ((rest : List Item) → pass (i ∷ rest) (tally_of s g) ≡ pass rest (tally_of s h)) × GroupKept s h next
  unfolding Turning
  turned-on done e = subst (λ (p : Option (Unit {0})). Turning s g i next (kept_after p h)) e t

  pub turned-off : o ≡ None → (rest : List Item) → pass (i ∷ rest) (tally_of s g) ≡ false
  unfolding Turning
  turned-off e = subst (λ (p : Option (Unit {0})). Turning s g i next (kept_after p h)) e t
