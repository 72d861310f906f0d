-- split_to_fit: its cuts, and question 20, which can't be answered with no once 18 was answered with yes. Assumes nothing.
use mathlib.Core.Path.{◌≡◌, refl, sym, ap, ◌∙◌, subst}
use mathlib.Core.Bool.{Bool, true, false, cond}
use mathlib.Core.Option.{Option, none, some}
use mathlib.Core.List.{List, [], ◌∷◌}
use Prim.Native.Nat.{ℕ, zero, suc, ◌+◌, ◌-◌, ◌≤◌, ◌<◌}
use native.Mathlib.Omega.{arith}
use lib.Dec.{T, leb, ltb, lt→ltb}
use lib.ListN.{length}
use mir.Facts.{and_yes, yes_and}
use borrow.Author.Tests.{le-leb, lt-leb}
use Rattle.std.specs.Prelude.{Ok}
use Rattle.fields.specs.Lists.{all}
use Rattle.fields.proofs.Lists.{T-eq, some_inj, no-some}
use Rattle.format.specs.Questions.{Answer, refused, accepted, ask, bind}
use Rattle.format.specs.Items.{Item, read_sheet, on_sheet, nodesize_fits}
use Rattle.format.specs.Sheets.{item_space, cut_fits, gap_of, closer, best_cut, filled, cuts_of, cuts, leaves_hold, split_to_fit}
use Rattle.format.proofs.Items.{nodesize-out}
use Rattle.item_list.specs.Steps.{list_items}
use Rattle.item_list.proofs.Reading.{Counted}
use Rattle.item_list.proofs.Spaces.{space-sheet}
use Rattle.leaf_edit.specs.declared.division.Division.{Division}
use Rattle.leaf_edit.specs.declared.division.Division.TheVariants.{TwoWay, Leaves}
use Rattle.leaf_edit.specs.Division.{Sized, fits_alone, Divided}

-- ---- the best cut

-- a cut stands before an item and behind one
in-range : (items : List Item) (m at : ℕ) (b : Bool) (o : Option ℕ) → (o ≡ some at → (1 ≤ at) × (at ≤ m))
    → cond b (closer items o (suc m)) o ≡ some at → (1 ≤ at) × (at ≤ suc m)
unfolding closer
in-range items m at false o ih e = let r = ih e in let p = r.0 in let q = r.1 in (p, omega arith)
in-range items m at true none ih e = let z : suc m ≡ at = some_inj e in (omega arith, omega arith)
in-range items m at true (some k) ih e = go (ltb (gap_of items (suc m)) (gap_of items k)) e
  where
    go : (b : Bool) → cond b (some (suc m)) (some k) ≡ some at → (1 ≤ at) × (at ≤ suc m)
    go true f = let z : suc m ≡ at = some_inj f in (omega arith, omega arith)
    go false f = let r = ih f in let p = r.0 in let q = r.1 in (p, omega arith)

best-range : (n : ℕ) (items : List Item) (m at : ℕ) → best_cut n items m ≡ some at → (1 ≤ at) × (at ≤ m)
unfolding best_cut
best-range n items zero at e = no-some e
best-range n items (suc m) at e = in-range items m at (cut_fits n items (suc m)) (best_cut n items m) (best-range n items m at) e

module _ (n : ℕ) (items : List Item) where
  cuts-one : (at : ℕ) → best_cut n items (length items - 1) ≡ some at → cuts n items ≡ at ∷ []
  unfolding cuts cuts_of
  cuts-one at e = rw e

  cuts-filled : best_cut n items (length items - 1) ≡ none → cuts n items ≡ filled n 0 101 items
  unfolding cuts cuts_of
  cuts-filled e = rw e

  pub cut_inside : (at : ℕ) → best_cut n items (length items - 1) ≡ some at → (1 ≤ at) × (at < length items)
  cut_inside at e =
      let r = best-range n items (length items - 1) at e in
      let p = r.0 in
      let q = r.1 in
      (p, omega arith)

-- ---- question 20

fill_holds : (n start at used : ℕ) (items : List Item) → start < at → T (leaves_hold start (filled n at used items) (at + length items))
unfolding filled leaves_hold
fill_holds n start at used [] h = lt→ltb start (at + 0) (omega arith)
fill_holds n start at used (i ∷ items) h =
    go (leb (used + item_space i) n) (fill_holds n start (at + 1) (used + item_space i) items (omega arith)) (fill_holds n at (at + 1) (101 + item_space i) items (omega arith))
  where
    same : at + 1 + length items ≡ at + suc (length items)
    same = omega arith

    go : (b : Bool) → T (leaves_hold start (filled n (at + 1) (used + item_space i) items) (at + 1 + length items))
        → T (leaves_hold at (filled n (at + 1) (101 + item_space i) items) (at + 1 + length items))
        → T (leaves_hold start (cond b (filled n (at + 1) (used + item_space i) items) (at ∷ filled n (at + 1) (101 + item_space i) items)) (at + suc (length items)))
    go true t u = subst (λ (k : ℕ). T (leaves_hold start (filled n (at + 1) (used + item_space i) items) k)) same t
    go false t u =
        yes_and (ltb start at) _ (lt→ltb start at h) (subst (λ (k : ℕ). T (leaves_hold at (filled n (at + 1) (101 + item_space i) items) k)) same u)

filled-holds : (n : ℕ) (items : List Item) → 1 ≤ length items → T (all (fits_alone n) items) → T (leaves_hold 0 (filled n 0 101 items) (length items))
unfolding filled
filled-holds n [] h t = absurd (omega arith)
filled-holds n (i ∷ items) h t =
    let first = (and_yes (fits_alone n i) _ t).0 in
    let e : 1 + length items ≡ suc (length items) = omega arith in
    rw (T-eq (leb (101 + item_space i) n) first)
    (subst (λ (k : ℕ). T (leaves_hold 0 (filled n 1 (101 + item_space i) items) k)) e (fill_holds n 0 1 (101 + item_space i) items (omega arith)))

pub leaves-hold : (n : ℕ) (items : List Item) → 2 ≤ length items → T (all (fits_alone n) items) → T (leaves_hold 0 (cuts n items) (length items))
unfolding cuts cuts_of leaves_hold
leaves-hold n items h t = go (best_cut n items (length items - 1)) refl
  where
    go : (o : Option ℕ) → best_cut n items (length items - 1) ≡ o → T (leaves_hold 0 (cuts_of o (filled n 0 101 items)) (length items))
    go none e = filled-holds n items (omega arith) t
    go (some at) e = let r = cut_inside n items at e in yes_and (ltb 0 at) _ (lt→ltb 0 at r.0) (lt→ltb at (length items) r.1)

-- ---- split_to_fit

-- questions 3 and 18 to 20
abbrev asked : ℕ → List Item → Answer (List ℕ)
asked n items =
    ask (nodesize_fits n) 3
    (ask (all (fits_alone n) items) 18
    (ask (leb 2 (length items)) 19 (ask (leaves_hold 0 (cuts n items) (length items)) 20 (accepted (cuts n items)))))

all_yes : (n : ℕ) (items : List Item) → nodesize_fits n ≡ true → all (fits_alone n) items ≡ true → 2 ≤ length items → asked n items ≡ accepted (cuts n items)
unfolding ask
all_yes n items h e l =
    let holds = T-eq (leaves_hold 0 (cuts n items) (length items)) (leaves-hold n items l (subst T (sym e) tt)) in
    rw (h, e, le-leb 2 (length items) l, holds)

pub to-fit-refused : (n : ℕ) (s : List ℕ) (k : ℕ) → read_sheet s ≡ refused k → split_to_fit n s ≡ refused k
unfolding split_to_fit on_sheet bind
to-fit-refused n s k e = rw e

pub to-fit-node : (n : ℕ) (s : List ℕ) → read_sheet s ≡ accepted (list_items s) → nodesize_fits n ≡ false → split_to_fit n s ≡ refused 3
unfolding split_to_fit on_sheet bind ask
to-fit-node n s e h = rw (e, h)

module _ (n : ℕ) (s : List ℕ) (m : ℕ) (c : Sized s m) (h : nodesize_fits n ≡ true) where
  pub to-fit-large : all (fits_alone n) (list_items s) ≡ false → split_to_fit n s ≡ refused 18
  unfolding split_to_fit on_sheet bind ask
  to-fit-large e = rw (c.listed.reads, h, e)

  module _ (e : all (fits_alone n) (list_items s) ≡ true) where
    pub to-fit-few : m < 2 → split_to_fit n s ≡ refused 19
    unfolding split_to_fit on_sheet bind ask
    to-fit-few l = rw (c.listed.reads, h, e, c.count-is, lt-leb 2 m l)

    done : 2 ≤ length (list_items s) → split_to_fit n s ≡ accepted (cuts n (list_items s))
    unfolding split_to_fit on_sheet bind
    done l = ap (λ (x : Answer (List Item)). bind x (asked n)) c.listed.reads ∙ all_yes n (list_items s) h e l

    pub to-fit-cut : (at : ℕ) → best_cut n (list_items s) (length (list_items s) - 1) ≡ some at → split_to_fit n s ≡ accepted (at ∷ [])
    to-fit-cut at f =
        let r = cut_inside n (list_items s) at f in
        let p = r.0 in
        let q = r.1 in
        done (omega arith) ∙ ap accepted (cuts-one n (list_items s) at f)

    pub to-fit-filled : 2 ≤ m → best_cut n (list_items s) (length (list_items s) - 1) ≡ none → split_to_fit n s ≡ accepted (filled n 0 101 (list_items s))
    to-fit-filled l f = let k = c.count-is in done (omega arith) ∙ ap accepted (cuts-filled n (list_items s) f)

  -- what the measuring pass answers, where it does not refuse
  module _ (d : Division) (w : Divided n (list_items s) (Ok d)) where
    pub two_are : (at : ℕ) → d ≡ TwoWay at → (split_to_fit n s ≡ accepted (at ∷ [])) × (at < length (list_items s))
    two_are at e =
        let k = subst (λ (x : Division). Divided n (list_items s) (Ok x)) e w in
        (to-fit-cut k.0 at k.1, (cut_inside n (list_items s) at k.1).1)

    pub more_are : (leaves : ℕ) → d ≡ Leaves leaves
        → (all (fits_alone n) (list_items s) ≡ true) × (leaves ≡ length (filled n 0 101 (list_items s)))
        × (2 ≤ m → split_to_fit n s ≡ accepted (filled n 0 101 (list_items s)))
    more_are leaves e =
        let k = subst (λ (x : Division). Divided n (list_items s) (Ok x)) e w in
        (k.0, k.2, λ l. to-fit-filled k.0 l k.1)

pub node-small : (n : ℕ) → nodesize_fits n ≡ true → n ≤ 65536
node-small n e = (nodesize-out n (subst T (sym e) tt)).1

pub sized : (s : List ℕ) (n : ℕ) → Counted s n → Sized s n
sized s n c =
    record {
      listed = record { reads = c.reads };
      count-is = c.count;
      few = c.few;
      small = c.small;
      space-is = space-sheet s n c;
    }
