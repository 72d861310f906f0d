-- Leaves filled from the left, counted and written. Assumes nothing.
use mathlib.Core.Path.{◌≡◌, refl, sym, ap, ◌∙◌}
use mathlib.Core.Bool.{cond}
use mathlib.Core.List.{List, [], ◌∷◌, ◌++◌, append_assoc, append-nil}
use Prim.Native.Nat.{ℕ, ◌+◌, ◌≤◌, ◌<◌}
use native.Mathlib.Omega.{arith}
use native.Mathlib.Nat.{zero-add}
use lib.Dec.{leb}
use lib.ListN.{length, set, length-append, length-set}
use borrow.Author.Tests.{le-leb, lt-leb}
use Rattle.fields.specs.Parts.{written}
use Rattle.fields.proofs.Parts.{stores_one, written_next}
use Rattle.format.specs.Items.{Item}
use Rattle.format.specs.Sheets.{filled}
use Rattle.item_list.proofs.Walks.{More}
use Rattle.leaf_edit.proofs.Running.{space-at}

-- ---- the definition by steps

fill_end : (n i used : ℕ) (items : List Item) → items ≡ [] → filled n i used items ≡ []
unfolding filled
fill_end n i used items e = rw e

module _ (s : List ℕ) (at size : ℕ) (items : List Item) (r : More s at (at + size) items) (n i used : ℕ) where
  fill-cons : filled n i used items
      ≡ cond (leb (used + (size + 4)) n) (filled n (i + 1) (used + (size + 4)) r.others)
      (i ∷ filled n (i + 1) (101 + (size + 4)) r.others)
  unfolding filled
  fill-cons = rw (r.is, space-at s at size r.whole)

  fill-over : n < used + (size + 4) → filled n i used items ≡ i ∷ filled n (i + 1) (101 + (size + 4)) r.others
  fill-over h = fill-cons ∙ rw (lt-leb (used + (size + 4)) n h)

  fill-within : used + (size + 4) ≤ n → filled n i used items ≡ filled n (i + 1) (used + (size + 4)) r.others
  fill-within h = fill-cons ∙ rw (le-leb (used + (size + 4)) n h)

-- ---- counted

-- `i` items were passed; the last leaf takes `used`, and so many leaves follow the first
pub record Counting (n : ℕ) (items : List Item) (i used leaves : ℕ) (rest : List Item) : Type 0 where
  pub total : leaves + length (filled n i used rest) ≡ length (filled n 0 101 items)
  pub small : used ≤ 65536
  pub few : leaves ≤ i

pub counting-none : (n : ℕ) (items : List Item) → Counting n items 0 101 0 items
counting-none n items = record { total = zero-add (length (filled n 0 101 items)); small = omega arith; few = omega arith }

pub counting-all : (n : ℕ) (items : List Item) (i used leaves : ℕ) (rest : List Item) → Counting n items i used leaves rest → rest ≡ []
    → leaves ≡ length (filled n 0 101 items)
counting-all n items i used leaves rest k e =
    let t = k.total in
    let z = ap length (fill_end n i used rest e) in
    omega (arith, t, z)

module _ (n : ℕ) (items : List Item) (i used leaves : ℕ) (s : List ℕ) (at size : ℕ) (rest : List Item)
    (k : Counting n items i used leaves rest) (m : More s at (at + size) rest) (l : n ≤ 65536) where
  pub counting-stays : used + (size + 4) ≤ n → Counting n items (i + 1) (used + (size + 4)) leaves m.others
  counting-stays h =
      let t = k.total in
      let e = ap length (fill-within s at size rest m n i used h) in
      let f = k.few in
      record { total = omega (arith, t, e); small = omega arith; few = omega (arith, f) }

  pub counting-starts : 101 + (size + 4) ≤ n → n < used + (size + 4)
      → Counting n items (i + 1) (101 + (size + 4)) (leaves + 1) m.others
  counting-starts a h =
      let t = k.total in
      let e = ap length (fill-over s at size rest m n i used h) in
      let f = k.few in
      record { total = omega (arith, t, e); small = omega arith; few = omega (arith, f) }

-- ---- written

pub record Writing (n : ℕ) (items : List Item) (old cuts : List ℕ) (used leaves i : ℕ) (rest : List Item) : Type 0 where
  pub before : List ℕ
  pub cuts_are : cuts ≡ written 0 before old
  pub count : length before ≡ leaves
  pub total : before ++ filled n i used rest ≡ filled n 0 101 items
  pub small : used ≤ 300000
  pub passed : i + length rest ≡ length items
  pub few : leaves ≤ i
  pub long : length cuts ≡ length old

pub writing-none : (n : ℕ) (items : List Item) (old : List ℕ) → Writing n items old old 101 0 0 items
writing-none n items old =
    record {
      before = [];
      cuts_are = refl;
      count = refl;
      total = refl;
      small = omega arith;
      passed = zero-add (length items);
      few = omega arith;
      long = refl;
    }

pub writing-all : (n : ℕ) (items : List Item) (old cuts : List ℕ) (used leaves i : ℕ) (rest : List Item)
    → Writing n items old cuts used leaves i rest → rest ≡ [] → cuts ≡ written 0 (filled n 0 101 items) old
writing-all n items old cuts used leaves i rest k e =
    let h : k.before ≡ filled n 0 101 items =
    sym (append-nil k.before) ∙ ap (λ (l : List ℕ). k.before ++ l) (sym (fill_end n i used rest e)) ∙ k.total in
    k.cuts_are ∙ ap (λ (l : List ℕ). written 0 l old) h

module _ (n : ℕ) (items : List Item) (old cuts : List ℕ) (used leaves i : ℕ) (s : List ℕ) (at size : ℕ) (rest : List Item)
    (k : Writing n items old cuts used leaves i rest) (m : More s at (at + size) rest) where
  passed-one : i + 1 + length m.others ≡ length items
  passed-one = let e = ap length m.is in let p = k.passed in omega (arith, e, p)

  pub writing-stays : n ≤ 65536 → used + (size + 4) ≤ n → Writing n items old cuts (used + (size + 4)) leaves (i + 1) m.others
  writing-stays l h =
      let f = k.few in
      record {
        before = k.before;
        cuts_are = k.cuts_are;
        count = k.count;
        total = ap (λ (t : List ℕ). k.before ++ t) (sym (fill-within s at size rest m n i used h)) ∙ k.total;
        small = omega arith;
        passed = passed-one;
        few = omega (arith, f);
        long = k.long;
      }

  module _ (h : n < used + (size + 4)) (room : length (filled n 0 101 items) ≤ length old) where
    over : filled n i used rest ≡ i ∷ filled n (i + 1) (101 + (size + 4)) m.others
    over = fill-over s at size rest m n i used h

    -- there is a place for one number more
    pub room-left : leaves < length cuts
    room-left =
        let e = ap length over in
        let a = sym (length-append k.before (filled n i used rest)) ∙ ap length k.total in
        let c = k.count in
        let g = k.long in
        omega (arith, e, a, room, c, g)

    pub writing-starts : (index : ℕ) → index ≡ i → length s ≤ 262144
        → Writing n items old (set cuts leaves index) (101 + (size + 4)) (leaves + 1) (i + 1) m.others
    writing-starts index is l =
        let f = k.few in
        let w = m.whole in
        let c = k.count in
        let g = k.long in
        let p = room-left in
        let q : leaves + 1 ≤ length cuts = omega arith in
        let r : leaves + 1 ≤ length old = omega arith in
        record {
          before = k.before ++ i ∷ [];
          cuts_are =
              ap (set cuts leaves) is ∙ stores_one cuts leaves i q
              ∙ ap (written leaves (i ∷ [])) k.cuts_are
              ∙ written_next k.before (i ∷ []) old leaves c r;
          count = length-append k.before (i ∷ []) ∙ ap (λ (t : ℕ). t + 1) c;
          total = append_assoc k.before (i ∷ []) (filled n (i + 1) (101 + (size + 4)) m.others)
              ∙ ap (λ (t : List ℕ). k.before ++ t) (sym over) ∙ k.total;
          small = omega (arith, w, l);
          passed = passed-one;
          few = omega (arith, f);
          long = length-set cuts leaves index ∙ g;
        }
