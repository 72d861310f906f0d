-- An item put into an item list, from the answers of the pass and of the search. Assumes nothing.
use mathlib.Core.Path.{◌≡◌, refl, sym, ap, ◌∙◌, subst}
use mathlib.Core.Bool.{Bool, true, false, not, ◌&&◌, cond}
use mathlib.Core.List.{List, ◌∷◌, ◌++◌}
use Prim.Native.Nat.{ℕ, ◌+◌, ◌*◌, ◌≤◌, ◌<◌}
use native.Mathlib.Omega.{arith}
use lib.Dec.{T, leb, leb→le, T_not, not_T}
use lib.ListN.{length, length-append}
use mir.Facts.{and_yes}
use borrow.Author.Tests.{le-leb, lt-leb}
use Rattle.std.specs.Prelude.{Option, Some, None, Result, Ok, Err}
use Rattle.fields.specs.Lists.{all}
use Rattle.fields.specs.Numbers.{are_bytes}
use Rattle.fields.proofs.Numbers.{are_bytes-in}
use Rattle.fields.specs.Parts.{spliced}
use Rattle.fields.proofs.Lists.{all-mid, all-put, Found, cut-some}
use Rattle.fields.proofs.Parts.{length-spliced}
use Rattle.format.specs.declared.Key.{Key}
use Rattle.format.specs.declared.Refusal.{Refusal}
use Rattle.format.specs.Questions.{Answer, refused, absent, remove, accepted, ask, bind, denied}
use Rattle.format.specs.Items.{Item, read_sheet, item_bytes, sheet_bytes, on_sheet, nodesize_fits, data_fits}
use Rattle.format.specs.Sheets.{has_key, inserted, insert, insert_unbounded, space_of}
use Rattle.format.proofs.Answers.{ask-yes, ask-no}
use Rattle.format.proofs.Items.{ReadsSheet, sheet, broken, unsorted, read_sheet-decides, length-item_bytes, sane-fit}
use Rattle.format.proofs.Splices.{sheet-put}
use Rattle.item_list.specs.declared.Sought.{Sought}
use Rattle.item_list.specs.declared.Sought.TheVariants.{Present, Absent}
use Rattle.item_list.specs.Steps.{list_items, items_in, checked_of}
use Rattle.item_list.specs.Seeks.{seek_in}
use Rattle.item_list.proofs.Reading.{Counted, counted}
use Rattle.item_list.proofs.Positions.{Sits, sits, Gap, gap, inside-gap}
use Rattle.item_list.proofs.Spaces.{space-is}
use Rattle.leaf_edit.specs.declared.InsertAt.{InsertAt}
use Rattle.leaf_edit.proofs.Checks.{Bytes}
use Rattle.leaf_edit.specs.Insertions.{insert_at, insert_at_of, sizes_fit, put_new}

-- ---- a key that stands

taken : (new : Item) (items : List Item) (start end : ℕ) → seek_in new.key 1 items ≡ Present start end → inserted new items ≡ refused 9
unfolding inserted
taken new items start end e =
    let t : Sits new.key items 1 start end = sits new.key 1 items start end e in
    let d = t.at_cut in
    let f : Found (has_key new.key) items d = cut-some (has_key new.key) items t.is in
    let p : Item → Bool = λ i. not (has_key new.key i) in
    ask-no (all p items) 9 _
    (not_T (all p items) (λ a.
    T_not (has_key new.key d.hit) (all-mid p d.front d.hit d.back (subst (λ (l : List Item). T (all p l)) f.same a)) f.hit))

-- a refusal by its number
number-is : (k : ℕ) (e : Refusal) → ◌≡◌ {A = Result InsertAt Refusal} (denied k) (Err e) → ◌≡◌ {A = Answer (List Item)} (refused k) (refused e.number)
number-is k e f = let p : record { number = k } ≡ e = cc in ap (λ (r : Refusal). refused r.number) p

at-taken : (new : Item) (e : Refusal) (items : List Item) (t : Sought) → seek_in new.key 1 items ≡ t → insert_at (length items) t ≡ Err e
    → inserted new items ≡ refused e.number
unfolding insert_at
at-taken new e items (Present start end) f g = taken new items start end f ∙ number-is 9 e g
at-taken new e items (Absent p) f g = let z : ◌≡◌ {A = ℕ} 0 1 = cc in absurd (omega arith)

-- ---- refusals before the position

target-refused : (s : List ℕ) (new : Item) (three : Bool) (e : Refusal) → insert_at_of new.key three (read_sheet s) ≡ Err e
    → on_sheet s three (inserted new) ≡ refused e.number
unfolding insert_at_of on_sheet bind ask
target-refused s new three e h = go (read_sheet-decides s)
  where
    next : Bool → Answer (List Item) → Answer (List Item)
    next b r = bind r (λ items. ask b 3 (inserted new items))

    target-of : (r : Answer (List Item)) → read_sheet s ≡ r → insert_at_of new.key three r ≡ Err e
    target-of r f = sym (ap (insert_at_of new.key three) f) ∙ h

    by : (items : List Item) (b : Bool) → cond b (insert_at (length items) (seek_in new.key 1 items)) (denied 3) ≡ Err e
        → ask b 3 (inserted new items) ≡ refused e.number
    by items true f = at-taken new e items (seek_in new.key 1 items) refl f
    by items false f = number-is 3 e f

    go : ReadsSheet (read_sheet s) → bind (read_sheet s) (λ items. ask three 3 (inserted new items)) ≡ refused e.number
    go (sheet items f) = ap (next three) f ∙ by items three (target-of (accepted items) f)
    go (broken f) = ap (next three) f ∙ number-is 1 e (target-of (refused 1) f)
    go (unsorted f) = ap (next three) f ∙ number-is 2 e (target-of (refused 2) f)

-- ---- a position that is free

pub record Insertable (s : List ℕ) (new : Item) (three : Bool) (at n : ℕ) : Type 0 where
  pub items : List Item
  pub three-is : three ≡ true
  pub result : on_sheet s three (inserted new) ≡ accepted items
  pub bytes-are : sheet_bytes items ≡ spliced at at (item_bytes new) s
  pub count : length items ≡ n + 1
  pub few : n ≤ 4096
  pub small : length s ≤ 262144
  pub within : at ≤ length s
  pub fit : T (data_fits new.bytes) → T (all (λ i. data_fits i.bytes) items)
  pub space : space_of items ≡ 125 + length s + 4 * n + length new.bytes

module _ (s : List ℕ) (new : Item) where
  insertable : (n : ℕ) → Counted s n → (at : ℕ) → seek_in new.key 1 (list_items s) ≡ Absent at → Insertable s new true at n
  unfolding on_sheet bind ask inserted
  insertable n c at e =
      let g : Gap new.key (list_items s) 1 at = gap new.key 1 (list_items s) at c.rises e in
      let i = inside-gap s (list_items s) g.front g.back at c.bytes-are g.same g.starts in
      let p : Item → Bool = λ j. data_fits j.bytes in
      let l₁ = sym c.count ∙ ap length g.same ∙ length-append g.front g.back in
      let l₂ = length-append g.front (new ∷ g.back) in
      let count : length (g.front ++ new ∷ g.back) ≡ n + 1 = l₂ ∙ omega (arith, l₁) in
      let bytes-are : sheet_bytes (g.front ++ new ∷ g.back) ≡ spliced at at (item_bytes new) s =
      sheet-put (list_items s) g.front new g.back g.same ∙ (λ j. spliced (i.0 j) (i.0 j) (item_bytes new) (c.bytes-are j)) in
      let long = ap length bytes-are ∙ length-spliced at at (item_bytes new) s i.1 in
      let l₃ = length-item_bytes new in
      let w = i.1 in
      record {
        items = g.front ++ new ∷ g.back;
        three-is = refl;
        result = ap (λ (x : Answer (List Item)). bind x (λ items. ask true 3 (inserted new items))) c.reads
            ∙ ask-yes (all (λ j. not (has_key new.key j)) (list_items s)) 9 _ g.free ∙ ap accepted (g.put new);
        bytes-are = bytes-are;
        count = count;
        few = c.few;
        small = c.small;
        within = i.1;
        fit = λ t. all-put p g.front new g.back (subst (λ (l : List Item). T (all p l)) g.same (sane-fit (list_items s) c.sane-all)) t;
        space = space-is (g.front ++ new ∷ g.back) ∙ omega (arith, long, l₃, count, w);
      }

  at-free : T (are_bytes s) → (target : InsertAt) (items : List Item) → read_sheet s ≡ accepted items → (q : Sought) → seek_in new.key 1 items ≡ q
      → insert_at (length items) q ≡ Ok target → Insertable s new true target.at target.count
  unfolding insert_at checked_of items_in
  at-free t target items h (Present start end) f g = let z : ◌≡◌ {A = ℕ} 0 1 = cc in absurd (omega arith)
  at-free t target items h (Absent p) f g =
      let same : ◌≡◌ {A = InsertAt} (record { at = p; count = length items }) target = cc in
      let c : Counted s target.count = counted s target.count t (ap checked_of h ∙ ap (λ (x : InsertAt). Ok x.count) same) in
      insertable target.count c target.at
      (ap (λ (x : Answer (List Item)). seek_in new.key 1 (items_in x)) h ∙ f ∙ ap (λ (x : InsertAt). Absent x.at) same)

  pub target_free : T (are_bytes s) → (three : Bool) (target : InsertAt) → insert_at_of new.key three (read_sheet s) ≡ Ok target
      → Insertable s new three target.at target.count
  unfolding insert_at_of
  target_free t three target e = go (read_sheet s) refl three e
    where
      go : (r : Answer (List Item)) → read_sheet s ≡ r → (three : Bool) → insert_at_of new.key three r ≡ Ok target
          → Insertable s new three target.at target.count
      go (refused k) h b f = let z : ◌≡◌ {A = ℕ} 0 1 = cc in absurd (omega arith)
      go absent h b f = let z : ◌≡◌ {A = ℕ} 0 1 = cc in absurd (omega arith)
      go remove h b f = let z : ◌≡◌ {A = ℕ} 0 1 = cc in absurd (omega arith)
      go (accepted items) h false f = let z : ◌≡◌ {A = ℕ} 0 1 = cc in absurd (omega arith)
      go (accepted items) h true f = at-free t target items h (seek_in new.key 1 items) refl f

-- ---- insert: question 18 after the position

over : (f g : List Item → Answer (List Item)) (r : Answer (List Item)) (b : Bool)
    → bind r (λ items. ask b 3 (bind (f items) g)) ≡ bind (bind r (λ items. ask b 3 (f items))) g
unfolding bind ask
over f g (refused k) b = refl
over f g absent b = refl
over f g remove b = refl
over f g (accepted items) true = refl
over f g (accepted items) false = refl

after-target : (s : List ℕ) (three : Bool) (f : List Item → Answer (List Item)) (g : List Item → Answer (List Item))
    → on_sheet s three (λ items. bind (f items) g) ≡ bind (on_sheet s three f) g
unfolding on_sheet
after-target s three f g = over f g (read_sheet s) three

module _ (nodesize : ℕ) (s : List ℕ) (new : Item) where
  abbrev three : Bool
  three = nodesize_fits nodesize && data_fits new.bytes

  insert-is : insert nodesize s new ≡ bind (on_sheet s three (inserted new)) (λ result. ask (leb (space_of result) nodesize) 18 (accepted result))
  unfolding insert
  insert-is = after-target s three (inserted new) (λ result. ask (leb (space_of result) nodesize) 18 (accepted result))

  insert-refused : (e : Refusal) → insert_at_of new.key three (read_sheet s) ≡ Err e → insert nodesize s new ≡ refused e.number
  unfolding bind
  insert-refused e h =
      insert-is ∙ ap (λ (x : Answer (List Item)). bind x (λ result. ask (leb (space_of result) nodesize) 18 (accepted result))) (target-refused s new three e h)

  module _ (at n : ℕ) (i : Insertable s new three at n) where
    insert-then : insert nodesize s new ≡ ask (leb (125 + length s + 4 * n + length new.bytes) nodesize) 18 (accepted i.items)
    unfolding bind
    insert-then =
        insert-is ∙ ap (λ (x : Answer (List Item)). bind x (λ result. ask (leb (space_of result) nodesize) 18 (accepted result))) i.result
        ∙ ap (λ (m : ℕ). ask (leb m nodesize) 18 (accepted i.items)) i.space

    insert-large : nodesize < 125 + length s + 4 * n + length new.bytes → insert nodesize s new ≡ refused 18
    unfolding ask
    insert-large h = insert-then ∙ rw (lt-leb (125 + length s + 4 * n + length new.bytes) nodesize h)

    insert-done : 125 + length s + 4 * n + length new.bytes ≤ nodesize → insert nodesize s new ≡ accepted i.items
    unfolding ask
    insert-done h = insert-then ∙ rw (le-leb (125 + length s + 4 * n + length new.bytes) nodesize h)

    fits-new : T (data_fits new.bytes)
    fits-new = (and_yes (nodesize_fits nodesize) _ (subst T (sym i.three-is) tt)).1

-- ---- both inserts: question 18 is asked where there is a nodesize

module _ (s : List ℕ) (new : Item) where
  -- question 3 of the new item
  abbrev pub fit : Option ℕ → Bool
  fit o = sizes_fit o (length new.bytes)

  pub put_refused : (o : Option ℕ) (e : Refusal) → insert_at_of new.key (fit o) (read_sheet s) ≡ Err e → put_new o s new ≡ refused e.number
  unfolding insert_unbounded data_fits
  put_refused (Some nodesize) e h = insert-refused nodesize s new e h
  put_refused None e h = target-refused s new (data_fits new.bytes) e h

  -- the same from what the code has asked: `three` is the answer of question 3, and `r` that of the position
  module _ (o : Option ℕ) {three : Bool} {r : Result InsertAt Refusal} (asks : three ≡ fit o) (told : r ≡ insert_at_of new.key three (read_sheet s)) where
    told-by : r ≡ insert_at_of new.key (fit o) (read_sheet s)
    told-by = told ∙ ap (λ (b : Bool). insert_at_of new.key b (read_sheet s)) asks

    pub put-broken : {e : Refusal} → r ≡ Err e → put_new o s new ≡ refused e.number
    put-broken w = put_refused o _ (sym told-by ∙ w)

    pub placed : {target : InsertAt} → Bytes s → r ≡ Ok target → Insertable s new (fit o) target.at target.count
    placed f w = target_free s new (are_bytes-in s (λ i. (f i).fits)) (fit o) _ (sym told-by ∙ w)

  module _ (at n : ℕ) where
    pub put-fits : (o : Option ℕ) → Insertable s new (fit o) at n → T (data_fits new.bytes)
    unfolding data_fits
    put-fits (Some nodesize) i = fits-new nodesize s new at n i
    put-fits None i = subst T (sym i.three-is) tt

    pub put-short : (o : Option ℕ) → Insertable s new (fit o) at n → length new.bytes ≤ 65535
    unfolding data_fits
    put-short o i = leb→le _ _ (put-fits o i)

    pub put-large : (o : Option ℕ) (nodesize : ℕ) → Insertable s new (fit o) at n → o ≡ Some nodesize
        → nodesize < 125 + length s + 4 * n + length new.bytes
        → put_new o s new ≡ refused 18
    unfolding data_fits
    put-large (Some m) nodesize i e h = let same : m ≡ nodesize = cc in insert-large m s new at n i (omega (arith, same))
    put-large None nodesize i e h = let z : ◌≡◌ {A = ℕ} 0 1 = cc in absurd (omega arith)

    pub put-within : (o : Option ℕ) (nodesize : ℕ) (i : Insertable s new (fit o) at n) → o ≡ Some nodesize
        → 125 + length s + 4 * n + length new.bytes ≤ nodesize
        → put_new o s new ≡ accepted i.items
    unfolding data_fits
    put-within (Some m) nodesize i e h = let same : m ≡ nodesize = cc in insert-done m s new at n i (omega (arith, same))
    put-within None nodesize i e h = let z : ◌≡◌ {A = ℕ} 0 1 = cc in absurd (omega arith)

    pub put-unbounded : (o : Option ℕ) (i : Insertable s new (fit o) at n) → o ≡ None → put_new o s new ≡ accepted i.items
    unfolding insert_unbounded data_fits
    put-unbounded (Some m) i e = let z : ◌≡◌ {A = ℕ} 0 1 = cc in absurd (omega arith)
    put-unbounded None i e = i.result

-- ---- the position, as code finds it

pub target-broken : (s : List ℕ) (key : Key) (three : Bool) (k : ℕ) → read_sheet s ≡ refused k → denied k ≡ insert_at_of key three (read_sheet s)
unfolding insert_at_of
target-broken s key three k e = rw e

module _ (s : List ℕ) (n : ℕ) (c : Counted s n) (key : Key) (three : Bool) where
  pub target-three : three ≡ false → denied 3 ≡ insert_at_of key three (read_sheet s)
  unfolding insert_at_of
  target-three h = rw (c.reads, h)

  module _ (h : three ≡ true) where
    target-sought : (t : Sought) → seek_in key 1 (list_items s) ≡ t → insert_at n t ≡ insert_at_of key three (read_sheet s)
    unfolding insert_at_of
    target-sought t e = rw (c.reads, h, e, c.count)

    pub target-taken : (start end : ℕ) → seek_in key 1 (list_items s) ≡ Present start end → denied 9 ≡ insert_at_of key three (read_sheet s)
    unfolding insert_at
    target-taken start end e = target-sought (Present start end) e

    pub target-open : (at : ℕ) → seek_in key 1 (list_items s) ≡ Absent at → Ok (record { at = at; count = n }) ≡ insert_at_of key three (read_sheet s)
    unfolding insert_at
    target-open at e = target-sought (Absent at) e
