-- Walking over the items of an item list: what is left from a position on, and what a step says of it. Assumes nothing.
use mathlib.Core.Path.{◌≡◌, sym, ap, ◌∙◌, subst}
use mathlib.Core.Bool.{true, false}
use mathlib.Core.List.{List, [], ◌∷◌}
use mathlib.Core.Logic.{◌⊎◌, inl, inr}
use Prim.Native.Nat.{ℕ, zero, suc, ◌+◌, ◌≤◌, ◌<◌}
use native.Mathlib.Omega.{arith}
use lib.ListN.{length, drop}
use Rattle.fields.proofs.Lists.{lt-or}
use Rattle.format.specs.declared.Key.{Key}
use Rattle.format.specs.Questions.{accepted}
use Rattle.format.specs.Items.{Item, key_below, read_items}
use Rattle.format.proofs.Answers.{refused-not, accepted-inj, bind_ok}
use Rattle.format.proofs.Items.{sheet-out}
use Rattle.item_list.specs.declared.Sought.TheVariants.{Present, Absent}
use Rattle.item_list.specs.Steps.{item_at, item_size_at, list_items, IsList}
use Rattle.item_list.specs.Seeks.{item_size_of, seek_in}
use Rattle.item_list.proofs.Steps.{WholeAt, whole-at, data-long, items-end, items-broken, items-over, items-item}

-- from a position on, the bytes are these items
pub record Rest (s : List ℕ) (at : ℕ) (items : List Item) : Type 0 where
  pub most : ℕ
  pub reads : read_items most (drop at s) ≡ accepted items

pub rest_all : (s : List ℕ) → IsList s → Rest s 1 (list_items s)
rest_all s l =
    let h = sheet-out s (list_items s) l.reads in
    record { most = 4096; reads = ap (λ (x : List ℕ). read_items 4096 (drop 1 x)) h.1 ∙ h.2 }

pub rest_end : (s : List ℕ) (at : ℕ) (items : List Item) → Rest s at items → length s ≤ at → items ≡ []
rest_end s at items r h = accepted-inj (sym r.reads ∙ items-end r.most s at h)

-- an item at the position: it is the first, and the others follow at its end
pub record More (s : List ℕ) (at next : ℕ) (items : List Item) : Type 0 where
  pub others : List Item
  pub is : items ≡ item_at s at ∷ others
  pub rest : Rest s next others
  pub whole : WholeAt s at next

pub rest-item : (s : List ℕ) (at : ℕ) (items : List Item) → Rest s at items → at < length s → More s at (at + item_size_at s at) items
rest-item s at items r h = go r.most r.reads
  where
    some : item_size_at s at ≡ 0 → ⊥
    some e = refused-not (sym (items-broken r.most s at h e) ∙ r.reads)

    go : (n : ℕ) → read_items n (drop at s) ≡ accepted items → More s at (at + item_size_at s at) items
    go zero e = refused-not (sym (items-over s at h) ∙ e)
    go (suc n) e =
        let t = bind_ok (read_items n (drop (at + item_size_at s at) s)) (λ others. accepted (item_at s at ∷ others)) (sym (items-item n s at h some) ∙ e) in
        record { others = t.0; is = sym (accepted-inj t.2); rest = record { most = n; reads = t.1 }; whole = whole-at s at some (omega arith) }

-- where an item ends
pub ends : (s : List ℕ) (at next : ℕ) → WholeAt s at next → at + item_size_of (item_at s at) ≡ next
unfolding item_size_of
ends s at next w = data-long s at next w

some_left : (s : List ℕ) (at : ℕ) (i : Item) (items : List Item) → Rest s at (i ∷ items) → at < length s
some_left s at i items r = go (lt-or at (length s))
  where
    go : (at < length s) ⊎ (length s ≤ at) → at < length s
    go (inl h) = h
    go (inr h) = let z : ◌≡◌ {A = ℕ} 1 0 = let e = ap length (rest_end s at (i ∷ items) r h) in omega (arith, e) in absurd (omega arith)

-- an item that was read stands at the position
pub rest-cons : (s : List ℕ) (at : ℕ) (i : Item) (items : List Item) → Rest s at (i ∷ items)
    → (i ≡ item_at s at) × WholeAt s at (at + item_size_of i) × Rest s (at + item_size_of i) items
rest-cons s at i items r =
    let m = rest-item s at (i ∷ items) r (some_left s at i items r) in
    let same : i ∷ items ≡ item_at s at ∷ m.others = m.is in
    let first : i ≡ item_at s at = cc in
    let others : items ≡ m.others = cc in
    let to : at + item_size_at s at ≡ at + item_size_of i = sym (ends s at (at + item_size_at s at) m.whole) ∙ ap (λ (j : Item). at + item_size_of j) (sym first) in
    (first, subst (λ (k : ℕ). WholeAt s at k) to m.whole, subst (λ (k : ℕ). Rest s k items) to (subst (λ (l : List Item). Rest s (at + item_size_at s at) l) (sym others) m.rest))

-- the state of a walk: what is left, and what holds of it
pub record Walked (s : List ℕ) (at : ℕ) (P : List Item → Type 0) : Type 0 where
  pub items : List Item
  pub rest : Rest s at items
  pub so : P items

-- ---- by key

pub seek-end : (key : Key) (at : ℕ) (items : List Item) → items ≡ [] → seek_in key at items ≡ Absent at
unfolding seek_in
seek-end key at items e = rw e

module _ (s : List ℕ) (at next : ℕ) (items : List Item) (r : More s at next items) (key : Key) where
  pub seek-later : key_below (item_at s at).key key ≡ true → seek_in key at items ≡ seek_in key next r.others
  unfolding seek_in
  seek-later b = rw (r.is, b, ends s at next r.whole)

  pub seek-past : key_below (item_at s at).key key ≡ false → key_below key (item_at s at).key ≡ true → seek_in key at items ≡ Absent at
  unfolding seek_in
  seek-past b a = rw (r.is, b, a)

  pub seek-here : key_below (item_at s at).key key ≡ false → key_below key (item_at s at).key ≡ false → seek_in key at items ≡ Present at next
  unfolding seek_in
  seek-here b a = rw (r.is, b, a, ends s at next r.whole)
