-- The one pass, on plain values. Assumes nothing.
use mathlib.Core.Path.{◌≡◌, refl, sym, ap, ◌∙◌, subst}
use mathlib.Core.Bool.{Bool, true, false, ◌&&◌, cond}
use mathlib.Core.List.{List, [], ◌∷◌}
use mathlib.Core.Logic.{◌⊎◌, inl, inr}
use Prim.Native.Nat.{ℕ, zero, suc, ◌+◌, ◌-◌, ◌≤◌, ◌<◌}
use native.Mathlib.Numerals.{add-one}
use native.Mathlib.Omega.{arith}
use lib.Dec.{T, leb}
use lib.ListN.{length, drop}
use borrow.Author.Tests.{le-leb, lt-leb}
use Rattle.std.specs.Prelude.{Option, Some, None, Result, Ok, Err}
use Rattle.fields.proofs.Lists.{T-eq, and-true, lt-or}
use Rattle.fields.specs.Lists.{all}
use Rattle.fields.specs.Numbers.{are_bytes}
use Rattle.format.specs.declared.Key.{Key}
use Rattle.format.specs.declared.Refusal.{Refusal}
use Rattle.format.specs.Questions.{Answer, refused, absent, remove, accepted, ask, bind, denied}
use Rattle.format.specs.Apply.{is_record}
use Rattle.format.specs.Items.{Item, key_below, above, rising, read_items, read_sheet, sheet_bytes}
use Rattle.format.proofs.Answers.{ask-ok}
use Rattle.format.proofs.Items.{read_items-decides, read_items-count, ReadsSheet, sheet, broken, unsorted, read_sheet-decides, sane, sheet-sane, sheet_bytes-read}
use Rattle.item_list.specs.declared.ItemPlace.{ItemPlace}
use Rattle.item_list.specs.declared.ItemQuery.{ItemQuery}
use Rattle.item_list.specs.declared.ItemQuery.TheVariants.{Index, Record, AtOrPast}
use Rattle.item_list.specs.declared.Listing.{Listing}
use Rattle.item_list.specs.Steps.{item_at, item_size_at, opens_list, following, checked_of, items_in, list_items, IsList}
use Rattle.item_list.specs.Seeks.{item_size_of, place_at, position_in, passing, listed_at, listing_of, rising_behind, verdict_of, checked_behind, listed_with}
use Rattle.item_list.proofs.Steps.{whole-size, items-end, items-broken, items-over, items-item}
use Rattle.item_list.proofs.Walks.{ends}

-- ---- the pass

pub behind-nil : (n : ℕ) (key : Key) → rising_behind n key [] ≡ true
behind-nil zero key = refl
behind-nil (suc n) key = refl

above-key : (i : Item) (items : List Item) → above i items ≡ above (record { key = i.key; bytes = [] }) items
above-key i [] = refl
above-key i (j ∷ items) = refl

pub behind-cons : (n : ℕ) (key : Key) (i : Item) (items : List Item)
    → rising_behind n key (i ∷ items) ≡ (following n key i.key && rising_behind (suc n) i.key items)
unfolding following
behind-cons zero key i items = ap (λ (b : Bool). b && rising items) (above-key i items)
behind-cons (suc n) key i items = ap (λ (b : Bool). key_below key i.key && (b && rising items)) (above-key i items)

pub and_assoc : (a b c : Bool) → (a && (b && c)) ≡ ((a && b) && c)
and_assoc true b c = refl
and_assoc false b c = refl

-- ---- the items from a position on, behind n others

module _ (n : ℕ) (o : Bool) (key : Key) where
  checked-many : (items : List Item) → 4096 < n → checked_behind n o key (accepted items) ≡ denied 1
  unfolding checked_behind verdict_of
  checked-many items h = rw (lt-leb (n + length items) 4096 (omega arith))

  checked-cons : (i : Item) (r : Answer (List Item))
      → checked_behind n o key (bind r (λ items. accepted (i ∷ items))) ≡ checked_behind (n + 1) (o && following n key i.key) i.key r
  unfolding checked_behind bind
  checked-cons i (refused refusal) = refl
  checked-cons i absent = refl
  checked-cons i remove = refl
  checked-cons i (accepted items) =
      let e : n + suc (length items) ≡ suc n + length items = omega arith in
      rw (add-one n, behind-cons n key i items, and_assoc o (following n key i.key) (rising_behind (suc n) i.key items), e)

  module _ (s : List ℕ) (at : ℕ) where
    -- what questions 1 and 2 are answered with, from there on
    abbrev pub behind : Result ℕ Refusal
    behind = checked_behind n o key (read_items (4096 - n) (drop at s))

    pub checked-end : length s ≤ at → behind ≡ verdict_of n o
    unfolding checked_behind
    checked-end h =
        let z : n + 0 ≡ n = omega arith in
        rw (items-end (4096 - n) s at h, behind-nil n key, and-true o, z)

    pub checked-broken : at < length s → item_size_at s at ≡ 0 → behind ≡ denied 1
    unfolding checked_behind
    checked-broken h e = rw (items-broken (4096 - n) s at h e)

    -- one item more than 4,096
    checked-over : 4096 ≤ n → at < length s → behind ≡ denied 1
    unfolding checked_behind
    checked-over h l =
        let z : 4096 - n ≡ 0 = omega arith in
        rw (z, items-over s at l)

    checked-past : 4096 < n → behind ≡ denied 1
    unfolding checked_behind
    checked-past h = go (read_items-decides (4096 - n) (drop at s))
      where
        go : ((items : List Item) × (read_items (4096 - n) (drop at s) ≡ accepted items)) ⊎ (read_items (4096 - n) (drop at s) ≡ refused 1) → behind ≡ denied 1
        go (inl x) = ap (checked_behind n o key) x.1 ∙ checked-many x.0 h
        go (inr e) = ap (checked_behind n o key) e

-- the same with the first item that passes a test
abbrev pub searched : (ℕ → Item → Bool) → ℕ → Bool → Key → List ℕ → ℕ → Result Listing Refusal
searched test n o key s at = listed_with (behind n o key s at) (position_in test n at (items_in (read_items (4096 - n) (drop at s))))

both-refused : (x y : Result ℕ Refusal) (a b : Option ItemPlace) → x ≡ denied 1 → y ≡ denied 1 → listed_with x a ≡ listed_with y b
unfolding listed_with
both-refused x y a b f g = rw (f, g)

module _ (s : List ℕ) (at n : ℕ) (o : Bool) (key : Key) where
  pub search-end : (test : ℕ → Item → Bool) → length s ≤ at → searched test n o key s at ≡ listed_with (verdict_of n o) None
  unfolding items_in position_in
  search-end test h =
      ap (λ (x : Result ℕ Refusal). listed_with x (position_in test n at (items_in (read_items (4096 - n) (drop at s))))) (checked-end n o key s at h)
      ∙ ap (λ (r : Answer (List Item)). listed_with (verdict_of n o) (position_in test n at (items_in r))) (items-end (4096 - n) s at h)

  pub search-broken : (test : ℕ → Item → Bool) → at < length s → item_size_at s at ≡ 0 → searched test n o key s at ≡ denied 1
  unfolding listed_with
  search-broken test h e = rw (checked-broken n o key s at h e)

  -- the item at hand: its size, its key, and whether keys still rise
  module _ (size : ℕ) (here : Key) (o₁ : Bool) (h : at < length s) (e : size ≡ item_size_at s at) (some : size ≡ 0 → ⊥) (k : here ≡ (item_at s at).key)
      (p : o₁ ≡ (o && following n key here)) where
    reads : (m : ℕ) → read_items (suc m) (drop at s) ≡ bind (read_items m (drop (at + size) s)) (λ items. accepted (item_at s at ∷ items))
    reads m =
        items-item m s at h (λ z. some (e ∙ z))
        ∙ ap (λ (j : ℕ). bind (read_items m (drop (at + j) s)) (λ items. accepted (item_at s at ∷ items))) (sym e)

    pub checked-step : behind n o key s at ≡ behind (n + 1) o₁ here s (at + size)
    checked-step = go (lt-or n 4096)
      where
        go : (n < 4096) ⊎ (4096 ≤ n) → behind n o key s at ≡ behind (n + 1) o₁ here s (at + size)
        go (inl l) =
            let z : 4096 - n ≡ suc (4096 - (n + 1)) = omega arith in
            ap (checked_behind n o key) (ap (λ (m : ℕ). read_items m (drop at s)) z ∙ reads (4096 - (n + 1)))
            ∙ rw (p, k) (checked-cons n o key (item_at s at) (read_items (4096 - (n + 1)) (drop (at + size) s)))
        go (inr l) = checked-over n o key s at l h ∙ sym (checked-past (n + 1) o₁ here s (at + size) (omega arith))

    ended : at + item_size_of (item_at s at) ≡ at + size
    ended = ends s at (at + size) (whole-size s at size e some (omega arith))

    position-step : (test : ℕ → Item → Bool) (r : Answer (List Item))
        → listed_with (checked_behind n o key (bind r (λ items. accepted (item_at s at ∷ items)))) (position_in test n at (items_in (bind r (λ items. accepted (item_at s at ∷ items)))))
        ≡ listed_with (checked_behind n o key (bind r (λ items. accepted (item_at s at ∷ items)))) (cond (test n (item_at s at)) (Some (place_at n at (at + size))) (position_in test (n + 1) (at + size) (items_in r)))
    unfolding bind items_in position_in listed_with checked_behind
    position-step test (refused refusal) = refl
    position-step test absent = refl
    position-step test remove = refl
    position-step test (accepted items) = rw ended

    -- and whether it is wanted
    pub search-step : (test : ℕ → Item → Bool) (b : Bool) → test n (item_at s at) ≡ b
        → searched test n o key s at
        ≡ listed_with (behind (n + 1) o₁ here s (at + size)) (cond b (Some (place_at n at (at + size))) (position_in test (n + 1) (at + size) (items_in (read_items (4096 - (n + 1)) (drop (at + size) s)))))
    search-step test b wanted = go (lt-or n 4096)
      where
        to : Bool → Option ItemPlace
        to x = cond x (Some (place_at n at (at + size))) (position_in test (n + 1) (at + size) (items_in (read_items (4096 - (n + 1)) (drop (at + size) s))))

        go : (n < 4096) ⊎ (4096 ≤ n) → searched test n o key s at ≡ listed_with (behind (n + 1) o₁ here s (at + size)) (to b)
        go (inl l) =
            let z : 4096 - n ≡ suc (4096 - (n + 1)) = omega arith in
            let f : read_items (4096 - n) (drop at s) ≡ bind (read_items (4096 - (n + 1)) (drop (at + size) s)) (λ items. accepted (item_at s at ∷ items)) = ap (λ (m : ℕ). read_items m (drop at s)) z ∙ reads (4096 - (n + 1)) in
            ap (λ (r : Answer (List Item)). listed_with (checked_behind n o key r) (position_in test n at (items_in r))) f
            ∙ position-step test (read_items (4096 - (n + 1)) (drop (at + size) s))
            ∙ ap (λ (x : Result ℕ Refusal). listed_with x (to (test n (item_at s at)))) (ap (checked_behind n o key) (sym f) ∙ checked-step)
            ∙ ap (λ (x : Bool). listed_with (behind (n + 1) o₁ here s (at + size)) (to x)) wanted
        go (inr l) =
            both-refused (behind n o key s at) (behind (n + 1) o₁ here s (at + size)) _ (to b)
            (checked-over n o key s at l h) (checked-past (n + 1) o₁ here s (at + size) (omega arith))

-- ---- from the first item on

module _ (s : List ℕ) (key : Key) where
  abbrev whole : Answer (List Item)
  whole = bind (read_items 4096 (drop 1 s)) (λ items. ask (rising items) 2 (accepted items))

  verdict-first : (items : List Item) → length items ≤ 4096 → checked_of (ask (rising items) 2 (accepted items)) ≡ checked_behind 0 true key (accepted items)
  unfolding checked_of ask checked_behind verdict_of
  verdict-first items h = go (rising items)
    where
      go : (b : Bool) → checked_of (ask b 2 (accepted items)) ≡ cond (leb (0 + length items) 4096) (cond b (Ok (0 + length items)) (denied 2)) (denied 1)
      go true = rw (le-leb (0 + length items) 4096 (omega arith)) (ap Ok (omega arith))
      go false = rw (le-leb (0 + length items) 4096 (omega arith))

  pub check-first : checked_of whole ≡ behind 0 true key s 1
  unfolding bind checked_of checked_behind
  check-first = go (read_items-decides 4096 (drop 1 s))
    where
      go : ((items : List Item) × (read_items 4096 (drop 1 s) ≡ accepted items)) ⊎ (read_items 4096 (drop 1 s) ≡ refused 1) → checked_of whole ≡ behind 0 true key s 1
      go (inl x) =
          let items = x.0 in
          rw x.1 (verdict-first items (read_items-count 4096 (drop 1 s) items x.1))
      go (inr e) = rw e

  at_first : (test : ℕ → Item → Bool) (items : List Item) (b : Bool) → listing_of test (ask b 2 (accepted items)) ≡ listed_with (checked_of (ask b 2 (accepted items))) (position_in test 0 1 items)
  unfolding listing_of ask checked_of listed_with
  at_first test items true = refl
  at_first test items false = refl

  pub search-first : (test : ℕ → Item → Bool) → listing_of test whole ≡ searched test 0 true key s 1
  unfolding bind listing_of checked_behind listed_with items_in
  search-first test = go (read_items-decides 4096 (drop 1 s))
    where
      go : ((items : List Item) × (read_items 4096 (drop 1 s) ≡ accepted items)) ⊎ (read_items 4096 (drop 1 s) ≡ refused 1) → listing_of test whole ≡ searched test 0 true key s 1
      go (inl x) =
          let items = x.0 in
          rw x.1
          (at_first test items (rising items)
          ∙ ap (λ (y : Result ℕ Refusal). listed_with y (position_in test 0 1 items)) (verdict-first items (read_items-count 4096 (drop 1 s) items x.1)))
      go (inr e) = rw e

-- what is wanted is told by the key alone
by_key : (query : ItemQuery) (n : ℕ) (i : Item) → passing query n (record { key = i.key; bytes = [] }) ≡ passing query n i
unfolding passing is_record
by_key (Index index) n i = refl
by_key (Record extent) n i = refl
by_key (AtOrPast key) n i = refl

pub passes-by-key : (query : ItemQuery) (n : ℕ) (here : Key) (i : Item) → here ≡ i.key → passing query n (record { key = here; bytes = [] }) ≡ passing query n i
passes-by-key query n here i k = ap (λ (x : Key). passing query n (record { key = x; bytes = [] })) k ∙ by_key query n i

-- ---- question 1 before the items

pub opens-some : (s : List ℕ) → opens_list s ≡ true → 1 ≤ length s
unfolding opens_list
opens-some [] e = absurd (subst T (sym e) tt)
opens-some (v ∷ s) e = omega arith

sheet-opens : (s : List ℕ) → read_sheet s ≡ ask (opens_list s) 1 (bind (read_items 4096 (drop 1 s)) (λ items. ask (rising items) 2 (accepted items)))
unfolding read_sheet opens_list ask
sheet-opens [] = refl
sheet-opens (v ∷ s) = refl

pub list-some : (s : List ℕ) → IsList s → 1 ≤ length s
list-some s l = opens-some s (T-eq _ (ask-ok (opens_list s) 1 _ (sym (sheet-opens s) ∙ l.reads)).0)

module _ (s : List ℕ) where
  pub sheet-shut : opens_list s ≡ false → read_sheet s ≡ refused 1
  unfolding ask
  sheet-shut h = sheet-opens s ∙ rw h

  pub sheet-read : opens_list s ≡ true → read_sheet s ≡ bind (read_items 4096 (drop 1 s)) (λ items. ask (rising items) 2 (accepted items))
  unfolding ask
  sheet-read h = sheet-opens s ∙ rw h

-- ---- from the answer of `find` back

module _ (test : ℕ → Item → Bool) where
  -- a refusal is that of `check`
  pub refused-is : (r : Answer (List Item)) (e : Refusal) → listing_of test r ≡ Err e → checked_of r ≡ Err e
  unfolding listing_of checked_of
  refused-is (refused n) e h = let p : record { number = n } ≡ e = cc in ap Err p
  refused-is absent e h = let p : record { number = 100 } ≡ e = cc in ap Err p
  refused-is remove e h = let p : record { number = 101 } ≡ e = cc in ap Err p
  refused-is (accepted items) e h = let z : ◌≡◌ {A = ℕ} 0 1 = cc in absurd (omega arith)

  -- so is the count, and the place is the one in the items
  pub found-is : (r : Answer (List Item)) (listing : Listing) → listing_of test r ≡ Ok listing
      → (checked_of r ≡ Ok listing.count) × (position_in test 0 1 (items_in r) ≡ listing.place)
  unfolding listing_of checked_of items_in
  found-is (refused n) listing h = let z : ◌≡◌ {A = ℕ} 0 1 = cc in absurd (omega arith)
  found-is absent listing h = let z : ◌≡◌ {A = ℕ} 0 1 = cc in absurd (omega arith)
  found-is remove listing h = let z : ◌≡◌ {A = ℕ} 0 1 = cc in absurd (omega arith)
  found-is (accepted items) listing h =
      let p : listed_at (length items) (position_in test 0 1 items) ≡ listing = cc in
      (ap (λ (l : Listing). Ok l.count) p, ap (λ (l : Listing). l.place) p)

-- ---- from the answer of `check` back

pub sheet-refused : (s : List ℕ) (e : Refusal) → checked_of (read_sheet s) ≡ Err e → read_sheet s ≡ refused e.number
unfolding checked_of
sheet-refused s e h = go (read_sheet-decides s)
  where
    by : (n : ℕ) → read_sheet s ≡ refused n → read_sheet s ≡ refused e.number
    by n b =
        let f : ◌≡◌ {A = Result ℕ Refusal} (denied n) (Err e) = sym (ap checked_of b) ∙ h in
        let p : record { number = n } ≡ e = cc in
        b ∙ ap (λ (r : Refusal). refused r.number) p

    go : ReadsSheet (read_sheet s) → read_sheet s ≡ refused e.number
    go (sheet items b) = let z : ◌≡◌ {A = ℕ} 0 1 = let f : ◌≡◌ {A = Result ℕ Refusal} (Ok (length items)) (Err e) = sym (ap checked_of b) ∙ h in cc in absurd (omega arith)
    go (broken b) = by 1 b
    go (unsorted b) = by 2 b

-- what an accepted item list of so many items is
pub record Counted (s : List ℕ) (n : ℕ) : Type 0 where
  pub reads : read_sheet s ≡ accepted (list_items s)
  pub count : length (list_items s) ≡ n
  pub few : n ≤ 4096
  pub small : length s ≤ 262144
  pub rises : T (rising (list_items s))
  pub sane-all : T (all sane (list_items s))
  pub bytes-are : sheet_bytes (list_items s) ≡ s

checked-count : (r : Answer (List Item)) (n : ℕ) → checked_of r ≡ Ok n → (r ≡ accepted (items_in r)) × (length (items_in r) ≡ n)
unfolding checked_of items_in
checked-count (refused j) n e = let z : ◌≡◌ {A = ℕ} 0 1 = cc in absurd (omega arith)
checked-count absent n e = let z : ◌≡◌ {A = ℕ} 0 1 = cc in absurd (omega arith)
checked-count remove n e = let z : ◌≡◌ {A = ℕ} 0 1 = cc in absurd (omega arith)
checked-count (accepted items) n e = (refl, cc)

pub counted : (s : List ℕ) (n : ℕ) → T (are_bytes s) → checked_of (read_sheet s) ≡ Ok n → Counted s n
counted s n t e =
    let h = checked-count (read_sheet s) n e in
    let k = sheet-sane s (list_items s) t h.0 in
    record {
      reads = h.0;
      count = h.1;
      few = subst (λ (m : ℕ). m ≤ 4096) h.1 k.1;
      small = k.3;
      rises = k.2;
      sane-all = k.0;
      bytes-are = sheet_bytes-read s (list_items s) t h.0;
    }

-- what `find` has shown of a list, where it found the wanted item and where it did not
pub record Located (test : ℕ → Item → Bool) (s : List ℕ) (count : ℕ) (place : ItemPlace) : Type 0 where
  pub list : Counted s count
  pub position : position_in test 0 1 (list_items s) ≡ Some place

pub record Lacking (test : ℕ → Item → Bool) (s : List ℕ) (count : ℕ) : Type 0 where
  pub list : Counted s count
  pub position : position_in test 0 1 (list_items s) ≡ None

module _ (test : ℕ → Item → Bool) (s : List ℕ) where
  module _ (listing : Listing) (t : T (are_bytes s)) (h : listing_of test (read_sheet s) ≡ Ok listing) where
    pub located : (place : ItemPlace) → listing.place ≡ Some place → Located test s listing.count place
    located place p =
        let f = found-is test (read_sheet s) listing h in
        record { list = counted s listing.count t f.0; position = f.1 ∙ p }

    pub lacking : listing.place ≡ None → Lacking test s listing.count
    lacking p =
        let f = found-is test (read_sheet s) listing h in
        record { list = counted s listing.count t f.0; position = f.1 ∙ p }

  pub listing-refused : (e : Refusal) → listing_of test (read_sheet s) ≡ Err e → read_sheet s ≡ refused e.number
  listing-refused e h = sheet-refused s e (refused-is test (read_sheet s) e h)
