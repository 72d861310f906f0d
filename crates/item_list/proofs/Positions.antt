-- Where an item that was sought stands: the list taken apart at it, and its position in the bytes. Assumes nothing.
use mathlib.Core.Path.{◌≡◌, refl, sym, ap, ◌∙◌, subst}
use mathlib.Core.Logic.{◌⊎◌, inl, inr}
use mathlib.Core.Bool.{Bool, true, false, not, cond}
use mathlib.Core.Option.{Option, none, some, map}
use mathlib.Core.List.{List, [], ◌∷◌, ◌++◌}
use Prim.Native.Nat.{ℕ, zero, suc, ◌+◌, ◌≤◌}
use native.Mathlib.Omega.{arith}
use lib.Dec.{T, eqb}
use lib.ListN.{length, take, get_elem?, length-append}
use mir.Facts.{yes_and, and_yes}
use borrow.Author.Tests.{eqb-true, eqb-false}
use Rattle.std.specs.Prelude.{Some, None}
use Rattle.fields.specs.Lists.{all, Cut, later, first_cut}
use Rattle.fields.proofs.Lists.{T-eq, cond_no, all_map}
use Rattle.format.specs.declared.Key.{Key}
use Rattle.format.specs.Items.{Item, same_key, key_below, above, rising, item_bytes, items_bytes, sheet_bytes}
use Rattle.format.specs.Sheets.{has_key, put_before}
use Rattle.format.specs.Apply.{record_of}
use Rattle.format.proofs.Items.{length-item_bytes, length-sheet_bytes, items_bytes-append}
use Rattle.format.proofs.Keys.{beyond, below-trans, below_irrefl, below_or, below-not-same, above-not-same, rising-after}
use Rattle.item_list.specs.declared.ItemPlace.{ItemPlace}
use Rattle.item_list.specs.declared.ItemQuery.TheVariants.{AtOrPast}
use Rattle.item_list.specs.declared.Sought.TheVariants.{Present, Absent}
use Rattle.item_list.specs.Steps.{item_at, list_items}
use Rattle.item_list.specs.Seeks.{item_size_of, place_at, position_in, indexed, recorded, at_or_past, passing, seek_in}
use Rattle.item_list.proofs.Steps.{WholeAt}
use Rattle.item_list.proofs.Walks.{Rest, rest_all, rest-cons}
use Rattle.item_list.proofs.Reading.{Located, Lacking}

-- an item of a list whose first stands at `at`: where it starts and ends
pub record Stands (at : ℕ) (front : List Item) (hit : Item) (start end : ℕ) : Type 0 where
  pub starts : start ≡ at + length (items_bytes front)
  pub ends : end ≡ start + (21 + length hit.bytes)

-- behind one more item
stands-later : (at : ℕ) (i : Item) (front : List Item) (hit : Item) (start end : ℕ) → Stands (at + item_size_of i) front hit start end → Stands at (i ∷ front) hit start end
unfolding item_size_of items_bytes
stands-later at i front hit start end h =
    record {
      starts = omega (arith, h.starts, length-append (item_bytes i) (items_bytes front), length-item_bytes i);
      ends = h.ends;
    }

-- the first
stands-first : (at : ℕ) (i : Item) (start end : ℕ) → at ≡ start → at + item_size_of i ≡ end → Stands at [] i start end
unfolding item_size_of items_bytes
stands-first at i start end p q = record { starts = omega arith; ends = omega arith }

-- ---- the first item that passes a test

placed : {index start end : ℕ} {place : ItemPlace} → Some (place_at index start end) ≡ Some place → (index ≡ place.index) × (start ≡ place.start) × (end ≡ place.end)
placed {index} {start} {end} {place} e =
    let p : place_at index start end ≡ place = cc in
    (ap (λ (q : ItemPlace). q.index) p, ap (λ (q : ItemPlace). q.start) p, ap (λ (q : ItemPlace). q.end) p)

pub record Positioned (p : Item → Bool) (items : List Item) (n at : ℕ) (place : ItemPlace) : Type 0 where
  pub at_cut : Cut Item
  pub is : first_cut p items ≡ some at_cut
  pub index_is : place.index ≡ n + length at_cut.front
  pub stands : Stands at at_cut.front at_cut.hit place.start place.end

pub positioned : (p : Item → Bool) (n at : ℕ) (items : List Item) (place : ItemPlace) → position_in (λ m. p) n at items ≡ Some place
    → Positioned p items n at place
unfolding position_in
positioned p n at [] place e = let z : ◌≡◌ {A = ℕ} 0 1 = cc in absurd (omega arith)
positioned p n at (i ∷ items) place e = go (p i) refl e (positioned p (n + 1) (at + item_size_of i) items place)
  where
    go : (b : Bool) → p i ≡ b → cond b (Some (place_at n at (at + item_size_of i))) (position_in (λ m. p) (n + 1) (at + item_size_of i) items) ≡ Some place
        → (position_in (λ m. p) (n + 1) (at + item_size_of i) items ≡ Some place → Positioned p items (n + 1) (at + item_size_of i) place)
        → Positioned p (i ∷ items) n at place
    go true h f ih =
        let q = placed f in
        record { at_cut = record { front = []; hit = i; back = items }; is = rw h; index_is = omega (arith, q.0); stands = stands-first at i place.start place.end q.1 q.2 }
    go false h f ih =
        let t = ih f in
        let c = t.at_cut in
        record {
          at_cut = later i c;
          is = rw (h, t.is);
          index_is = omega (arith, t.index_is);
          stands = stands-later at i c.front c.hit place.start place.end t.stands;
        }

pub missing : (p : Item → Bool) (n at : ℕ) (items : List Item) → position_in (λ m. p) n at items ≡ None → first_cut p items ≡ none
unfolding position_in
missing p n at [] e = refl
missing p n at (i ∷ items) e = go (p i) refl e (missing p (n + 1) (at + item_size_of i) items)
  where
    go : (b : Bool) → p i ≡ b → cond b (Some (place_at n at (at + item_size_of i))) (position_in (λ m. p) (n + 1) (at + item_size_of i) items) ≡ None
        → (position_in (λ m. p) (n + 1) (at + item_size_of i) items ≡ None → first_cut p items ≡ none) → first_cut p (i ∷ items) ≡ none
    go true h f ih = let z : ◌≡◌ {A = ℕ} 0 1 = cc in absurd (omega arith)
    go false h f ih = rw (h, ih f)

-- of an extent's record
pub record-missing : (extent : ℕ) (items : List Item) → position_in (recorded extent) 0 1 items ≡ None → first_cut (record_of extent) items ≡ none
record-missing extent items e = missing (record_of extent) 0 1 items e

-- ---- the item of a number

pub record Numbered (items : List Item) (k at start end : ℕ) : Type 0 where
  pub front : List Item
  pub hit : Item
  pub back : List Item
  pub same : items ≡ front ++ hit ∷ back
  pub is : get_elem? items k ≡ some hit
  pub before : take k items ≡ front
  pub stands : Stands at front hit start end

pub indexed-at : (query n k at : ℕ) (items : List Item) (place : ItemPlace) → query ≡ n + k → position_in (indexed query) n at items ≡ Some place
    → Numbered items k at place.start place.end
unfolding position_in
indexed-at query n k at [] place w e = let z : ◌≡◌ {A = ℕ} 0 1 = cc in absurd (omega arith)
indexed-at query n k at (i ∷ items) place w e =
    go (eqb n query) refl e k w (λ j v. indexed-at query (n + 1) j (at + item_size_of i) items place v)
  where
    go : (b : Bool) → eqb n query ≡ b → cond b (Some (place_at n at (at + item_size_of i))) (position_in (indexed query) (n + 1) (at + item_size_of i) items) ≡ Some place
        → (k : ℕ) → query ≡ n + k
        → ((j : ℕ) → query ≡ n + 1 + j → position_in (indexed query) (n + 1) (at + item_size_of i) items ≡ Some place → Numbered items j (at + item_size_of i) place.start place.end)
        → Numbered (i ∷ items) k at place.start place.end
    go true h f zero v ih =
        let q = placed f in
        record { front = []; hit = i; back = items; same = refl; is = refl; before = refl; stands = stands-first at i place.start place.end q.1 q.2 }
    go true h f (suc k) v ih = let z = eqb-true n query h in absurd (omega arith)
    go false h f zero v ih = absurd (eqb-false n query h (omega arith))
    go false h f (suc k) v ih =
        let t = ih k (omega arith) f in
        record {
          front = i ∷ t.front;
          hit = t.hit;
          back = t.back;
          same = ap (λ (l : List Item). i ∷ l) t.same;
          is = t.is;
          before = ap (λ (l : List Item). i ∷ l) t.before;
          stands = stands-later at i t.front t.hit place.start place.end t.stands;
        }

pub indexed-missing : (query n k at : ℕ) (items : List Item) → query ≡ n + k → position_in (indexed query) n at items ≡ None → get_elem? items k ≡ none
unfolding position_in
indexed-missing query n k at [] w e = refl
indexed-missing query n k at (i ∷ items) w e =
    go (eqb n query) refl e k w (λ j v. indexed-missing query (n + 1) j (at + item_size_of i) items v)
  where
    go : (b : Bool) → eqb n query ≡ b → cond b (Some (place_at n at (at + item_size_of i))) (position_in (indexed query) (n + 1) (at + item_size_of i) items) ≡ None
        → (k : ℕ) → query ≡ n + k
        → ((j : ℕ) → query ≡ n + 1 + j → position_in (indexed query) (n + 1) (at + item_size_of i) items ≡ None → get_elem? items j ≡ none)
        → get_elem? (i ∷ items) k ≡ none
    go true h f k v ih = let z : ◌≡◌ {A = ℕ} 0 1 = cc in absurd (omega arith)
    go false h f zero v ih = absurd (eqb-false n query h (omega arith))
    go false h f (suc k) v ih = ih k (omega arith) f

-- ---- a key that is there

not-true : (b : Bool) → T (not b) → b ≡ false
not-true true t = absurd t
not-true false t = refl

is_true : (b : Bool) → b ≡ true → T b
is_true b e = subst T (sym e) tt

same-key : (a b : Key) → key_below a b ≡ false → key_below b a ≡ false → same_key a b ≡ true
same-key a b h k = go (below_or a b)
  where
    go : T (key_below a b) ⊎ (T (same_key a b) ⊎ T (key_below b a)) → same_key a b ≡ true
    go (inl t) = absurd (subst T h t)
    go (inr (inl t)) = T-eq (same_key a b) t
    go (inr (inr t)) = absurd (subst T k t)

pub record Sits (key : Key) (items : List Item) (at start end : ℕ) : Type 0 where
  pub at_cut : Cut Item
  pub is : first_cut (has_key key) items ≡ some at_cut
  pub stands : Stands at at_cut.front at_cut.hit start end

pub sits : (key : Key) (at : ℕ) (items : List Item) (start end : ℕ) → seek_in key at items ≡ Present start end → Sits key items at start end
unfolding seek_in
sits key at [] start end e = let z : ◌≡◌ {A = ℕ} 0 1 = cc in absurd (omega arith)
sits key at (i ∷ items) start end e = go (key_below i.key key) (key_below key i.key) refl refl e (sits key (at + item_size_of i) items start end)
  where
    go : (b c : Bool) → key_below i.key key ≡ b → key_below key i.key ≡ c
        → cond b (seek_in key (at + item_size_of i) items) (cond c (Absent at) (Present at (at + item_size_of i))) ≡ Present start end
        → (seek_in key (at + item_size_of i) items ≡ Present start end → Sits key items (at + item_size_of i) start end)
        → Sits key (i ∷ items) at start end
    go true c h k f ih =
        let t = ih f in
        let d = t.at_cut in
        let n : same_key i.key key ≡ false = not-true (same_key i.key key) (below-not-same i.key key (is_true (key_below i.key key) h)) in
        record { at_cut = later i d; is = rw (n, t.is); stands = stands-later at i d.front d.hit start end t.stands }
    go false true h k f ih = let z : ◌≡◌ {A = ℕ} 0 1 = cc in absurd (omega arith)
    go false false h k f ih =
        let e₂ : at ≡ start = cc in
        let e₃ : at + item_size_of i ≡ end = cc in
        record { at_cut = record { front = []; hit = i; back = items }; is = rw (same-key i.key key h k); stands = stands-first at i start end e₂ e₃ }

-- ---- a key that is not there

pub record Gap (key : Key) (items : List Item) (at start : ℕ) : Type 0 where
  pub front : List Item
  pub back : List Item
  pub free : T (all (λ i. not (has_key key i)) items)
  pub same : items ≡ front ++ back
  pub put : (new : Item) → put_before new items (first_cut (beyond key) items) ≡ front ++ new ∷ back
  pub starts : start ≡ at + length (items_bytes front)

put-later : (new i : Item) (items : List Item) (o : Option (Cut Item)) → put_before new (i ∷ items) (map (later i) o) ≡ i ∷ put_before new items o
unfolding put_before
put-later new i items none = refl
put-later new i items (some c) = refl

gap-end : (key : Key) (at start : ℕ) → at ≡ start → Gap key [] at start
unfolding put_before items_bytes
gap-end key at start e = record { front = []; back = []; free = tt; same = refl; put = λ new. refl; starts = omega arith }

gap-first : (key : Key) (at start : ℕ) (i : Item) (items : List Item) → T (rising (i ∷ items)) → key_below key i.key ≡ true → at ≡ start
    → Gap key (i ∷ items) at start
unfolding put_before items_bytes
gap-first key at start i items r k e =
    let t : T (key_below key i.key) = is_true (key_below key i.key) k in
    record {
      front = [];
      back = i ∷ items;
      free = yes_and (not (same_key i.key key)) _ (above-not-same i.key key t)
          (all_map (beyond i.key) (λ j. not (has_key key j)) (λ j h. above-not-same j.key key (below-trans key i.key j.key t h)) items
          (rising-after i items r));
      same = refl;
      put = λ new. rw k;
      starts = omega arith;
    }

further : (at : ℕ) (i : Item) (front : List Item) (start : ℕ) → start ≡ at + item_size_of i + length (items_bytes front) → start ≡ at + length (items_bytes (i ∷ front))
unfolding item_size_of items_bytes
further at i front start e = omega (arith, e, length-append (item_bytes i) (items_bytes front), length-item_bytes i)

pub gap : (key : Key) (at : ℕ) (items : List Item) (start : ℕ) → T (rising items) → seek_in key at items ≡ Absent start → Gap key items at start
unfolding seek_in
gap key at [] start r e = gap-end key at start cc
gap key at (i ∷ items) start r e =
    go (key_below i.key key) (key_below key i.key) refl refl e
    (gap key (at + item_size_of i) items start (and_yes (above i items) _ r).1)
  where
    go : (b c : Bool) → key_below i.key key ≡ b → key_below key i.key ≡ c
        → cond b (seek_in key (at + item_size_of i) items) (cond c (Absent at) (Present at (at + item_size_of i))) ≡ Absent start
        → (seek_in key (at + item_size_of i) items ≡ Absent start → Gap key items (at + item_size_of i) start)
        → Gap key (i ∷ items) at start
    go true true h k f ih =
        absurd (below_irrefl key (below-trans key i.key key (is_true (key_below key i.key) k) (is_true (key_below i.key key) h)))
    go true false h k f ih =
        let t = ih f in
        record {
          front = i ∷ t.front;
          back = t.back;
          free = yes_and (not (same_key i.key key)) _ (below-not-same i.key key (is_true (key_below i.key key) h)) t.free;
          same = ap (λ (l : List Item). i ∷ l) t.same;
          put = λ new. rw k (put-later new i items (first_cut (beyond key) items) ∙ ap (λ (l : List Item). i ∷ l) (t.put new));
          starts = further at i t.front start t.starts;
        }
    go false true h k f ih = gap-first key at start i items r k cc
    go false false h k f ih = let z : ◌≡◌ {A = ℕ} 0 1 = cc in absurd (omega arith)

-- ---- by the first item at or past the key

record Reached (s : List ℕ) (key : Key) (items : List Item) (at start end : ℕ) : Type 0 where
  pub sought : seek_in key at items ≡ cond (key_below key (item_at s start).key) (Absent start) (Present start end)
  pub whole : WholeAt s start end

reached : (s : List ℕ) (key : Key) (n at : ℕ) (items : List Item) (place : ItemPlace) → Rest s at items
    → position_in (at_or_past key) n at items ≡ Some place → Reached s key items at place.start place.end
unfolding position_in seek_in
reached s key n at [] place r e = let z : ◌≡◌ {A = ℕ} 0 1 = cc in absurd (omega arith)
reached s key n at (i ∷ items) place r e =
    let t = rest-cons s at i items r in
    go (key_below i.key key) refl e t.0 t.1 (reached s key (n + 1) (at + item_size_of i) items place t.2)
  where
    go : (b : Bool) → key_below i.key key ≡ b
        → cond (not b) (Some (place_at n at (at + item_size_of i))) (position_in (at_or_past key) (n + 1) (at + item_size_of i) items) ≡ Some place
        → i ≡ item_at s at → WholeAt s at (at + item_size_of i)
        → (position_in (at_or_past key) (n + 1) (at + item_size_of i) items ≡ Some place → Reached s key items (at + item_size_of i) place.start place.end)
        → Reached s key (i ∷ items) at place.start place.end
    go true h f same w ih = let t = ih f in record { sought = rw h t.sought; whole = t.whole }
    go false h f same w ih =
        let x = placed f in
        let p : at ≡ place.start = x.1 in
        let q : at + item_size_of i ≡ place.end = x.2 in
        record {
          sought = rw (h, q) (λ j. cond (key_below key ((same ∙ ap (item_at s) p) j).key) (Absent (p j)) (Present (p j) place.end));
          whole = subst (λ (k : ℕ). WholeAt s k place.end) p (subst (λ (k : ℕ). WholeAt s at k) q w);
        }

past_all : (key : Key) (n at : ℕ) (items : List Item) → position_in (at_or_past key) n at items ≡ None
    → seek_in key at items ≡ Absent (at + length (items_bytes items))
unfolding position_in seek_in items_bytes
past_all key n at [] e = ap Absent (omega arith)
past_all key n at (i ∷ items) e = go (key_below i.key key) refl e (past_all key (n + 1) (at + item_size_of i) items)
  where
    go : (b : Bool) → key_below i.key key ≡ b
        → cond (not b) (Some (place_at n at (at + item_size_of i))) (position_in (at_or_past key) (n + 1) (at + item_size_of i) items) ≡ None
        → (position_in (at_or_past key) (n + 1) (at + item_size_of i) items ≡ None → seek_in key (at + item_size_of i) items ≡ Absent (at + item_size_of i + length (items_bytes items)))
        → seek_in key at (i ∷ items) ≡ Absent (at + length (items_bytes (i ∷ items)))
    go true h f ih = rw h (ih f ∙ ap Absent (further at i items _ refl))
    go false h f ih = let z : ◌≡◌ {A = ℕ} 0 1 = cc in absurd (omega arith)

-- as `find` answers it
pub key-missing : (s : List ℕ) (key : Key) (n : ℕ) → Lacking (passing (AtOrPast key)) s n → seek_in key 1 (list_items s) ≡ Absent (length s)
unfolding passing
key-missing s key n l =
    past_all key 0 1 (list_items s) l.position ∙ ap Absent (sym (length-sheet_bytes (list_items s)) ∙ ap length l.list.bytes-are)

module _ (s : List ℕ) (key : Key) (n : ℕ) (place : ItemPlace) (l : Located (passing (AtOrPast key)) s n place) where
  key-reached : Reached s key (list_items s) 1 place.start place.end
  unfolding passing
  key-reached = reached s key 0 1 (list_items s) place (rest_all s (record { reads = l.list.reads })) l.position

  pub key-room : place.start + 21 ≤ length s
  key-room = let w = key-reached.whole in omega arith

  pub key-past : key_below key (item_at s place.start).key ≡ true → seek_in key 1 (list_items s) ≡ Absent place.start
  key-past h = key-reached.sought ∙ ap (λ (b : Bool). cond b (Absent place.start) (Present place.start place.end)) h

  pub key_here : key_below key (item_at s place.start).key ≡ false → seek_in key 1 (list_items s) ≡ Present place.start place.end
  key_here h = key-reached.sought ∙ ap (λ (b : Bool). cond b (Absent place.start) (Present place.start place.end)) h

-- so no cut finds it

cut-nowhere : {A : Type 0} (p : A → Bool) (l : List A) → T (all (λ x. not (p x)) l) → first_cut p l ≡ none
cut-nowhere p [] t = refl
cut-nowhere p (x ∷ l) t =
    let h = and_yes (not (p x)) _ t in
    cond_no (p x) _ _ h.0 ∙ ap (map (later x)) (cut-nowhere p l h.1)

pub no_cut : (key : Key) (at : ℕ) (items : List Item) (start : ℕ) → T (rising items) → seek_in key at items ≡ Absent start → first_cut (has_key key) items ≡ none
no_cut key at items start r e = cut-nowhere (has_key key) items (gap key at items start r e).free

-- ---- positions in the bytes

pub record Inside (s : List ℕ) (front : List Item) (hit : Item) (start end : ℕ) : Type 0 where
  pub starts : length (sheet_bytes front) ≡ start
  pub ends : length (sheet_bytes front) + (21 + length hit.bytes) ≡ end
  pub ordered : start + 21 ≤ end
  pub within : end ≤ length s

bytes-from : (hit : Item) (back : List Item) → length (items_bytes (hit ∷ back)) ≡ 21 + length hit.bytes + length (items_bytes back)
unfolding items_bytes
bytes-from hit back = length-append (item_bytes hit) (items_bytes back) ∙ omega (arith, length-item_bytes hit)

pub inside : (s : List ℕ) (items front : List Item) (hit : Item) (back : List Item) (start end : ℕ) → sheet_bytes items ≡ s
    → items ≡ front ++ hit ∷ back → Stands 1 front hit start end → Inside s front hit start end
inside s items front hit back start end b e h =
    let p = h.starts in
    let q = h.ends in
    let l₁ = length-sheet_bytes front in
    let l₂ : length s ≡ 1 + length (items_bytes (front ++ hit ∷ back)) =
    ap length (sym b) ∙ ap (λ (l : List Item). length (sheet_bytes l)) e ∙ length-sheet_bytes (front ++ hit ∷ back) in
    let l₃ = ap length (items_bytes-append front (hit ∷ back)) ∙ length-append (items_bytes front) (items_bytes (hit ∷ back)) in
    let l₄ = bytes-from hit back in
    record {
      starts = omega (arith, p, l₁);
      ends = omega (arith, p, q, l₁);
      ordered = omega (arith, q);
      within = omega (arith, p, q, l₂, l₃, l₄);
    }

pub inside-gap : (s : List ℕ) (items front back : List Item) (start : ℕ) → sheet_bytes items ≡ s → items ≡ front ++ back
    → start ≡ 1 + length (items_bytes front) → (length (sheet_bytes front) ≡ start) × (start ≤ length s)
inside-gap s items front back start b e p =
    let l₁ = length-sheet_bytes front in
    let l₂ : length s ≡ 1 + length (items_bytes (front ++ back)) =
    ap length (sym b) ∙ ap (λ (l : List Item). length (sheet_bytes l)) e ∙ length-sheet_bytes (front ++ back) in
    let l₃ = ap length (items_bytes-append front back) ∙ length-append (items_bytes front) (items_bytes back) in
    (omega (arith, p, l₁), omega (arith, p, l₂, l₃))
