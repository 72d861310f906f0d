-- What the size of the item at a position says of the items from there on. Assumes nothing.
use mathlib.Core.Path.{◌≡◌, refl, sym, ap, ◌∙◌, subst}
use mathlib.Core.Bool.{Bool, true, false, ◌&&◌, cond}
use mathlib.Core.List.{List, [], ◌∷◌}
use Prim.Native.Nat.{ℕ, zero, suc, ◌+◌, ◌-◌, ◌≤◌, ◌<◌}
use native.Mathlib.Omega.{arith}
use lib.Dec.{T, leb}
use lib.ListN.{length, drop, get_or, length-drop, drop_of_length-le}
use lib.Seq.{drop-drop, get_or-drop, length-take-le}
use borrow.Author.Tests.{le-leb, lt-leb}
use Rattle.fields.proofs.Lists.{and-false}
use Rattle.fields.specs.Numbers.{be}
use Rattle.fields.specs.Parts.{part}
use Rattle.fields.proofs.Parts.{part-drop}
use Rattle.format.specs.Questions.{refused, accepted, ask, bind}
use Rattle.format.specs.Items.{key_of, item_length, whole_item, first_item, read_items}
use Rattle.format.proofs.Items.{read_items-nil, read_items-full, read_items-more, whole_item-out}
use Rattle.item_list.specs.Steps.{item_at, item_size_at}

-- ---- whether an item is whole

module _ (l : List ℕ) where
  not_low : item_length l < 17 → whole_item l ≡ false
  unfolding whole_item
  not_low h = rw (lt-leb 17 (item_length l) h)

  not-high : 65552 < item_length l → whole_item l ≡ false
  unfolding whole_item
  not-high h = rw (lt-leb (item_length l) 65552 h, and-false (leb 17 (item_length l)))

  not-long : length l < 4 + item_length l → whole_item l ≡ false
  unfolding whole_item
  not-long h = rw (lt-leb (4 + item_length l) (length l) h) (and-false (leb 17 (item_length l) && leb (item_length l) 65552))

  is_whole : 17 ≤ item_length l → item_length l ≤ 65552 → 4 + item_length l ≤ length l → whole_item l ≡ true
  unfolding whole_item
  is_whole a b c = rw (le-leb 17 (item_length l) a, le-leb (item_length l) 65552 b, le-leb (4 + item_length l) (length l) c)

-- ---- from the tests that the code makes to its size

pub length_at : (s : List ℕ) (at : ℕ) → be (part at 4 s) ≡ item_length (drop at s)
unfolding item_length
length_at s at = refl

module _ (s : List ℕ) (at : ℕ) where
  no_item : whole_item (drop at s) ≡ false → 0 ≡ item_size_at s at
  unfolding item_size_at
  no_item w = rw w

  pub size-short : length s - at < 4 → 0 ≡ item_size_at s at
  size-short k = no_item (not-long (drop at s) (simp length-drop (omega arith)))

  pub size_low : item_length (drop at s) < 17 → 0 ≡ item_size_at s at
  size_low k = no_item (not_low (drop at s) k)

  pub size-high : 65552 < item_length (drop at s) → 0 ≡ item_size_at s at
  size-high k = no_item (not-high (drop at s) k)

  pub size-long : length s - at < 4 + item_length (drop at s) → 0 ≡ item_size_at s at
  size-long k = no_item (not-long (drop at s) (simp length-drop (omega arith)))

  pub size-whole : 17 ≤ item_length (drop at s) → item_length (drop at s) ≤ 65552 → 4 + item_length (drop at s) ≤ length s - at
      → 4 + item_length (drop at s) ≡ item_size_at s at
  unfolding item_size_at
  size-whole a b c = rw (is_whole (drop at s) a b (simp length-drop (omega arith)))

-- ---- from its size to what stands there

pub record WholeAt (s : List ℕ) (at next : ℕ) : Type 0 where
  pub before : at < length s
  pub size : next ≡ at + 4 + item_length (drop at s)
  pub low : 17 ≤ item_length (drop at s)
  pub high : item_length (drop at s) ≤ 65552
  pub within : next ≤ length s

size-tests : (w : Bool) (n : ℕ) → (cond w n 0 ≡ 0 → ⊥) → (w ≡ true) × (cond w n 0 ≡ n)
size-tests true n h = (refl, refl)
size-tests false n h = absurd (h refl)

none-tests : (w : Bool) (n : ℕ) → 0 < n → cond w n 0 ≡ 0 → w ≡ false
none-tests true n h e = absurd (omega arith)
none-tests false n h e = refl

module _ (s : List ℕ) (at : ℕ) (h : item_size_at s at ≡ 0 → ⊥) where
  is-item : (whole_item (drop at s) ≡ true) × (item_size_at s at ≡ 4 + item_length (drop at s))
  unfolding item_size_at
  is-item = size-tests (whole_item (drop at s)) (4 + item_length (drop at s)) h

  pub whole-at : at ≤ length s → WholeAt s at (at + item_size_at s at)
  whole-at inside =
      let t = is-item in
      let w = whole_item-out (drop at s) (subst T (sym t.0) tt) in
      let low = w.0 in
      let high = w.1 in
      let is = t.1 in
      let room : 4 + item_length (drop at s) ≤ length s - at = subst (λ (k : ℕ). 4 + item_length (drop at s) ≤ k) (length-drop at s) w.2 in
      record { before = omega arith; size = omega arith; low = low; high = high; within = omega arith }

-- the size as code has it
pub whole-size : (s : List ℕ) (at size : ℕ) → size ≡ item_size_at s at → (size ≡ 0 → ⊥) → at ≤ length s → WholeAt s at (at + size)
whole-size s at size e some h = subst (λ (k : ℕ). WholeAt s at (at + k)) (sym e) (whole-at s at (λ z. some (e ∙ z)) h)

-- a position behind an item of that length, or the first one and the least that an item takes
pub record PastItem (s : List ℕ) (at long : ℕ) : Type 0 where
  pub inside : at ≤ length s
  pub low : 21 ≤ long
  pub high : long ≤ 65556

pub past_first : (s : List ℕ) → 1 ≤ length s → PastItem s 1 21
past_first s h = record { inside = h; low = omega arith; high = omega arith }

pub past_next : {s : List ℕ} {at size : ℕ} → WholeAt s at (at + size) → PastItem s (at + size) size
past_next w = record { inside = w.within; low = omega (arith, w.size, w.low); high = omega (arith, w.size, w.high) }

-- ---- from its size to the items

some_left : (s : List ℕ) (at : ℕ) → at < length s → 0 < length (drop at s)
some_left s at h = simp length-drop (omega arith)

pub items-end : (n : ℕ) (s : List ℕ) (at : ℕ) → length s ≤ at → read_items n (drop at s) ≡ accepted []
items-end n s at h = ap (read_items n) (drop_of_length-le s h) ∙ read_items-nil n

pub items-over : (s : List ℕ) (at : ℕ) → at < length s → read_items zero (drop at s) ≡ refused 1
items-over s at h = read_items-full (drop at s) (some_left s at h)

pub items-broken : (n : ℕ) (s : List ℕ) (at : ℕ) → at < length s → item_size_at s at ≡ 0 → read_items n (drop at s) ≡ refused 1
unfolding item_size_at ask
items-broken zero s at h e = items-over s at h
items-broken (suc n) s at h e =
    read_items-more n (drop at s) (some_left s at h)
    ∙ ap (λ (b : Bool). ask b 1 (bind (read_items n (drop (4 + item_length (drop at s)) (drop at s))) (λ items. accepted (first_item (drop at s) ∷ items)))) (none-tests (whole_item (drop at s)) (4 + item_length (drop at s)) (omega arith) e)

pub items-item : (n : ℕ) (s : List ℕ) (at : ℕ) → at < length s → (item_size_at s at ≡ 0 → ⊥)
    → read_items (suc n) (drop at s) ≡ bind (read_items n (drop (at + item_size_at s at) s)) (λ items. accepted (item_at s at ∷ items))
unfolding ask item_at
items-item n s at h e =
    let t = is-item s at e in
    let k : at + (4 + item_length (drop at s)) ≡ at + item_size_at s at = ap (λ (i : ℕ). at + i) (sym t.1) in
    let d : drop (4 + item_length (drop at s)) (drop at s) ≡ drop (at + item_size_at s at) s =
    drop-drop (4 + item_length (drop at s)) at s ∙ ap (λ (i : ℕ). drop i s) k in
    read_items-more n (drop at s) (some_left s at h)
    ∙ ap (λ (b : Bool). ask b 1 (bind (read_items n (drop (4 + item_length (drop at s)) (drop at s))) (λ items. accepted (first_item (drop at s) ∷ items)))) t.0
    ∙ ap (λ (l : List ℕ). bind (read_items n l) (λ items. accepted (first_item (drop at s) ∷ items))) d

-- ---- the item at a position

pub key-is : (s : List ℕ) (at : ℕ) → (item_at s at).key ≡ key_of (be (part (at + 4) 8 s)) (get_or s (at + 12) 0) (be (part (at + 13) 8 s))
unfolding item_at first_item
key-is s at = rw (part-drop at 4 8 s, get_or-drop at s 12 0, part-drop at 13 8 s)

pub data_is : (s : List ℕ) (at next : ℕ) → WholeAt s at next → (item_at s at).bytes ≡ part (at + 21) (next - (at + 21)) s
unfolding item_at first_item
data_is s at next w =
    let e : item_length (drop at s) - 17 ≡ next - (at + 21) = omega arith in
    rw e (part-drop at 21 (next - (at + 21)) s)

-- its data is as long as its length says
pub data-long : (s : List ℕ) (at next : ℕ) → WholeAt s at next → at + (21 + length (item_at s at).bytes) ≡ next
data-long s at next w =
    let room : next - (at + 21) ≤ length (drop (at + 21) s) = simp length-drop (omega arith) in
    let l : length (item_at s at).bytes ≡ next - (at + 21) =
    ap length (data_is s at next w) ∙ length-take-le (next - (at + 21)) (drop (at + 21) s) room in
    omega arith
