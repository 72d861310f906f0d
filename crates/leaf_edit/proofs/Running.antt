-- Running sizes: one pass finds the cut that trying every cut finds. Assumes nothing.
use mathlib.Core.Path.{◌≡◌, refl, sym, ap, ◌∙◌, subst}
use mathlib.Core.Bool.{Bool, true, false, ◌&&◌, cond}
use mathlib.Core.Option.{Option as Maybe, none, some}
use mathlib.Core.List.{List, [], ◌∷◌, ◌++◌, append_assoc, append-nil}
use Prim.Native.Nat.{ℕ, zero, suc, ◌+◌, ◌-◌, ◌*◌, ◌≤◌, ◌<◌}
use native.Mathlib.Omega.{arith}
use lib.Dec.{leb, ltb}
use lib.ListN.{length, take, drop, length-append}
use lib.Seq.{take_at, drop_at}
use borrow.Author.Tests.{le-leb, lt-leb}
use Rattle.std.specs.Prelude.{Option, Some, None}
use Rattle.fields.specs.Lists.{all}
use Rattle.format.specs.Items.{Item}
use Rattle.format.specs.Sheets.{item_space, space_of, cut_fits, gap_of, closer, best_cut}
use Rattle.item_list.specs.Steps.{item_at, item_size_at, list_items}
use Rattle.item_list.proofs.Steps.{WholeAt, data-long}
use Rattle.item_list.proofs.Walks.{Rest, More, rest-item}
use Rattle.item_list.proofs.Spaces.{space-append, space-cons}
use Rattle.leaf_edit.specs.declared.two_way.Cut.{Cut}
use Rattle.leaf_edit.specs.Division.{Sized, fits_alone, cut_of, cutting_of, closest, improved}

-- the space of the item at a position
pub space-at : (s : List ℕ) (at size : ℕ) → WholeAt s at (at + size) → item_space (item_at s at) ≡ size + 4
unfolding item_space
space-at s at size w = omega (arith, data-long s at (at + size) w)

-- the item at hand in a pass, by the size that the code has read
pub item-here : {s : List ℕ} {at size : ℕ} {items : List Item} → size ≡ item_size_at s at → Rest s at items → at < length s → More s at (at + size) items
item-here {s = s} {at = at} {items = items} e r h = subst (λ (k : ℕ). More s at (at + k) items) (sym e) (rest-item s at items r h)

space-none : space_of [] ≡ 101
unfolding space_of
space-none = refl

-- ---- question 18

pub each-end : (n : ℕ) (items : List Item) → items ≡ [] → all (fits_alone n) items ≡ true
each-end n items e = rw e

module _ (s : List ℕ) (at size : ℕ) (items : List Item) (r : More s at (at + size) items) (n : ℕ) where
  each-cons : all (fits_alone n) items ≡ (leb (101 + (size + 4)) n && all (fits_alone n) r.others)
  each-cons = ap (all (fits_alone n)) r.is ∙ ap (λ (k : ℕ). leb (101 + k) n && all (fits_alone n) r.others) (space-at s at size r.whole)

  pub each_over : n < 101 + (size + 4) → all (fits_alone n) items ≡ false
  each_over h = each-cons ∙ rw (lt-leb (101 + (size + 4)) n h)

  pub each_more : 101 + (size + 4) ≤ n → all (fits_alone n) items ≡ all (fits_alone n) r.others
  each_more h = each-cons ∙ rw (le-leb (101 + (size + 4)) n h)

-- ---- the better cut

-- none stands before the first item
pub keep-first : (n left right : ℕ) (best : Option Cut) → best ≡ improved n left right 0 best
unfolding improved
keep-first n left right best = refl

step_of : (items : List Item) (at : ℕ) (b : Bool) (o : Maybe ℕ)
    → cond b (closest at (gap_of items at) (cutting_of items o)) (cutting_of items o) ≡ cutting_of items (cond b (closer items o at) o)
unfolding closest cutting_of closer
step_of items at false o = refl
step_of items at true none = refl
step_of items at true (some other) = go (ltb (gap_of items at) (gap_of items other))
  where
    go : (b : Bool) → cond b (Some (cut_of at (gap_of items at))) (Some (cut_of other (gap_of items other))) ≡ cutting_of items (cond b (some at) (some other))
    go true = refl
    go false = refl

improved-is : (n : ℕ) (items : List Item) (j : ℕ)
    → improved n (space_of (take (suc j) items)) (space_of (drop (suc j) items)) (suc j) (cutting_of items (best_cut n items j))
    ≡ cutting_of items (best_cut n items (suc j))
unfolding improved best_cut cut_fits gap_of
improved-is n items j = rw (le-leb 1 (suc j) (omega arith)) (step_of items (suc j) (cut_fits n items (suc j)) (best_cut n items j))

pub best-next : (n : ℕ) (items : List Item) (i left right : ℕ) → left ≡ space_of (take i items) → right ≡ space_of (drop i items)
    → improved n left right i (cutting_of items (best_cut n items (i - 1))) ≡ cutting_of items (best_cut n items i)
unfolding best_cut
best-next n items zero left right l r = sym (keep-first n left right (cutting_of items none))
best-next n items (suc j) left right l r =
    let e : suc j - 1 ≡ j = omega arith in
    (λ k. improved n (l k) (r k) (suc j) (cutting_of items (best_cut n items (e k)))) ∙ improved-is n items j

-- ---- the state of the pass

-- `i` items were passed, which take `left`; the others take `right`
pub record Passed (n : ℕ) (items : List Item) (i left right : ℕ) (best : Option Cut) (rest : List Item) : Type 0 where
  pub front : List Item
  pub same : items ≡ front ++ rest
  pub count : length front ≡ i
  pub left_is : left ≡ space_of front
  pub right_is : right ≡ space_of rest
  pub best-is : best ≡ cutting_of items (best_cut n items (i - 1))

pub passed_none : (n : ℕ) (s : List ℕ) (count : ℕ) → Sized s count → Passed n (list_items s) 0 101 (100 + length s + 4 * count) None (list_items s)
unfolding space_of best_cut cutting_of
passed_none n s count z =
    record { front = []; same = refl; count = refl; left_is = refl; right_is = sym z.space-is; best-is = refl }

pub passed-all : (n : ℕ) (items : List Item) (i left right : ℕ) (best : Option Cut) (rest : List Item) → Passed n items i left right best rest → rest ≡ []
    → best ≡ cutting_of items (best_cut n items (length items - 1))
passed-all n items i left right best rest p e =
    let all_of : length items ≡ i = ap length (p.same ∙ ap (λ (l : List Item). p.front ++ l) e ∙ append-nil p.front) ∙ p.count in
    p.best-is ∙ ap (λ (k : ℕ). cutting_of items (best_cut n items (k - 1))) (sym all_of)

module _ (n : ℕ) (items : List Item) (i left right : ℕ) (best : Option Cut) (s : List ℕ) (at size : ℕ) (rest : List Item)
    (p : Passed n items i left right best rest) (m : More s at (at + size) rest) where
  pub space-here : right ≡ (size + 4) + space_of m.others
  space-here =
      p.right_is ∙ ap space_of m.is ∙ space-cons (item_at s at) m.others
      ∙ ap (λ (k : ℕ). k + space_of m.others) (space-at s at size m.whole)

  pub passed-bound : left + right ≡ space_of items + 101
  passed-bound =
      let e = space-append p.front rest in
      let f = ap (λ (l : List Item). space_of l + 101) p.same in
      let l = p.left_is in
      let r = p.right_is in
      omega (arith, e, f, l, r)

  pub passed-next : (better : Option Cut) → better ≡ improved n left right i best
      → Passed n items (i + 1) (left + (size + 4)) (right - (size + 4)) better m.others
  passed-next better e =
      let x : Item = item_at s at in
      let same : items ≡ p.front ++ rest = p.same in
      let before : take i items ≡ p.front = ap (take i) same ∙ take_at p.front rest i p.count in
      let after : drop i items ≡ rest = ap (drop i) same ∙ drop_at p.front rest i p.count in
      let w = space-at s at size m.whole in
      let a = space-append p.front (x ∷ []) in
      let b = space-cons x [] in
      let z = space-none in
      let l = p.left_is in
      let here = space-here in
      let back : i + 1 - 1 ≡ i = omega arith in
      record {
        front = p.front ++ x ∷ [];
        same = same ∙ ap (λ (y : List Item). p.front ++ y) m.is ∙ sym (append_assoc p.front (x ∷ []) m.others);
        count = length-append p.front (x ∷ []) ∙ ap (λ (k : ℕ). k + 1) p.count;
        left_is = omega (arith, l, a, b, z, w);
        right_is = omega (arith, here);
        best-is =
            e ∙ ap (improved n left right i) p.best-is
            ∙ best-next n items i left right (l ∙ ap space_of (sym before)) (p.right_is ∙ ap space_of (sym after))
            ∙ ap (λ (k : ℕ). cutting_of items (best_cut n items k)) (sym back);
      }
