-- An edit of a list is one splice of its bytes: items of a sheet, references of a body. Assumes nothing.
use mathlib.Core.Path.{◌≡◌, refl, sym, ap, ap₂, ◌∙◌}
use mathlib.Core.List.{List, [], ◌∷◌, ◌++◌, append_assoc, append-nil}
use Prim.Native.Nat.{ℕ, ◌+◌}
use native.Mathlib.Omega.{arith}
use lib.ListN.{length, take, drop, length-append}
use lib.Seq.{take_at, drop_at, drop-drop}
use Rattle.fields.specs.Numbers.{le_bytes, be_bytes}
use Rattle.fields.specs.Parts.{part, written, spliced}
use Rattle.fields.proofs.Numbers.{length-le_bytes, length-be_bytes}
use Rattle.fields.proofs.Parts.{spliced-written}
use Rattle.format.specs.References.{Ref, ref_bytes, refs_bytes, Body, body_with, body_bytes}
use Rattle.format.specs.Items.{Item, with_bytes, key_bytes, item_bytes, items_bytes, sheet_bytes}
use Rattle.format.proofs.Refs.{refs_bytes-append}
use Rattle.format.proofs.Bodies.{body_bytes-grouped, set-total}
use Rattle.format.proofs.Items.{back-21, length-key_bytes, length-item_bytes, items_bytes-append}

-- ---- bytes

-- the middle of three in another form
pub splice_at : (front old new back : List ℕ) (p q : ℕ) → length front ≡ p → p + length old ≡ q
    → front ++ (new ++ back) ≡ spliced p q new (front ++ (old ++ back))
splice_at front old new back p q e f =
    let l : List ℕ = front ++ (old ++ back) in
    let d : drop q l ≡ back =
    ap (drop q) (sym (append_assoc front old back)) ∙ drop_at (front ++ old) back q (length-append front old ∙ omega arith) in
    sym (append_assoc front new back)
    ∙ ap₂ (λ (x y : List ℕ). x ++ new ++ y) (sym (take_at front (old ++ back) p e)) (sym d)

-- ---- elements of a list, behind other bytes

module _ {A : Type 0} (bytes : List A → List ℕ) (joins : (a b : List A) → bytes (a ++ b) ≡ bytes a ++ bytes b) (before : List ℕ) where
  three : (front mid back : List A) → before ++ bytes (front ++ (mid ++ back)) ≡ (before ++ bytes front) ++ (bytes mid ++ bytes back)
  three front mid back =
      ap (λ (l : List ℕ). before ++ l) (joins front (mid ++ back) ∙ ap (λ (l : List ℕ). bytes front ++ l) (joins mid back))
      ∙ sym (append_assoc before (bytes front) (bytes mid ++ bytes back))

  pub splice-list : (front old new back : List A) (p q : ℕ) → length before + length (bytes front) ≡ p → p + length (bytes old) ≡ q
      → before ++ bytes (front ++ (new ++ back)) ≡ spliced p q (bytes new) (before ++ bytes (front ++ (old ++ back)))
  splice-list front old new back p q e f =
      three front new back
      ∙ splice_at (before ++ bytes front) (bytes old) (bytes new) (bytes back) p q (length-append before (bytes front) ∙ e) f
      ∙ ap (spliced p q (bytes new)) (sym (three front old back))

  pub drop-list : (front back : List A) (p : ℕ) → length before + length (bytes front) ≡ p → drop p (before ++ bytes (front ++ back)) ≡ bytes back
  drop-list front back p e =
      ap (λ (l : List ℕ). drop p (before ++ l)) (joins front back)
      ∙ ap (drop p) (sym (append_assoc before (bytes front) (bytes back)))
      ∙ drop_at (before ++ bytes front) (bytes back) p (length-append before (bytes front) ∙ e)

-- ---- items of a sheet

pub items_bytes-one : (i : Item) → items_bytes (i ∷ []) ≡ item_bytes i
unfolding items_bytes
items_bytes-one i = append-nil (item_bytes i)

-- where an item starts, and where it ends
abbrev pub item_at : List Item → ℕ
item_at front = length (sheet_bytes front)

abbrev pub item_end : List Item → Item → ℕ
item_end front i = length (sheet_bytes front) + (21 + length i.bytes)

pub sheet-splice : (front old new back : List Item) (p q : ℕ) → item_at front ≡ p → p + length (items_bytes old) ≡ q
    → sheet_bytes (front ++ (new ++ back)) ≡ spliced p q (items_bytes new) (sheet_bytes (front ++ (old ++ back)))
unfolding sheet_bytes
sheet-splice front old new back p q e f =
    splice-list items_bytes items_bytes-append (1 ∷ []) front old new back p q (omega arith) f

-- the items from a place on
pub sheet-from : (front back : List Item) → drop (item_at front) (sheet_bytes (front ++ back)) ≡ items_bytes back
unfolding sheet_bytes
sheet-from front back = drop-list items_bytes items_bytes-append (1 ∷ []) front back (item_at front) (omega arith)

pub sheet-join : (front : List Item) (i : Item) (back : List Item) → sheet_bytes (front ++ i ∷ back) ≡ sheet_bytes front ++ (item_bytes i ++ items_bytes back)
unfolding sheet_bytes items_bytes
sheet-join front i back = ap (λ (l : List ℕ). 1 ∷ l) (items_bytes-append front (i ∷ back))

pub item-ends : (front : List Item) (i : Item) → item_at front + length (items_bytes (i ∷ [])) ≡ item_end front i
item-ends front i = omega (arith, ap length (items_bytes-one i), length-item_bytes i)

-- another item in its place
pub sheet-exchange : (items front : List Item) (i j : Item) (back : List Item) → items ≡ front ++ i ∷ back
    → sheet_bytes (front ++ j ∷ back) ≡ spliced (item_at front) (item_end front i) (item_bytes j) (sheet_bytes items)
sheet-exchange items front i j back e =
    sheet-splice front (i ∷ []) (j ∷ []) back (item_at front) (item_end front i) refl (item-ends front i)
    ∙ ap₂ (spliced (item_at front) (item_end front i)) (items_bytes-one j) (ap sheet_bytes (sym e))

-- other data
pub sheet-replace : (items front : List Item) (i : Item) (d : List ℕ) (back : List Item) → items ≡ front ++ i ∷ back
    → sheet_bytes (front ++ with_bytes i d ∷ back) ≡ spliced (item_at front) (item_end front i) (item_bytes (with_bytes i d)) (sheet_bytes items)
sheet-replace items front i d back e = sheet-exchange items front i (with_bytes i d) back e

-- the item taken out
pub sheet-remove : (items front : List Item) (i : Item) (back : List Item) → items ≡ front ++ i ∷ back
    → sheet_bytes (front ++ back) ≡ spliced (item_at front) (item_end front i) [] (sheet_bytes items)
unfolding items_bytes
sheet-remove items front i back e =
    sheet-splice front (i ∷ []) [] back (item_at front) (item_end front i) refl (item-ends front i)
    ∙ ap (spliced (item_at front) (item_end front i) []) (ap sheet_bytes (sym e))

-- a new item put in
pub sheet-put : (items front : List Item) (new : Item) (back : List Item) → items ≡ front ++ back
    → sheet_bytes (front ++ new ∷ back) ≡ spliced (item_at front) (item_at front) (item_bytes new) (sheet_bytes items)
unfolding items_bytes
sheet-put items front new back e =
    sheet-splice front [] (new ∷ []) back (item_at front) (item_at front) refl (omega arith)
    ∙ ap₂ (spliced (item_at front) (item_at front)) (items_bytes-one new) (ap sheet_bytes (sym e))

-- ---- an item's data, 21 bytes on

-- length and key, then the data
pub item_bytes-head : (i : Item) (more : List ℕ) → item_bytes i ++ more ≡ (be_bytes 4 (17 + length i.bytes) ++ key_bytes i.key) ++ (i.bytes ++ more)
unfolding item_bytes
item_bytes-head i more =
    let n : List ℕ = be_bytes 4 (17 + length i.bytes) in
    let k : List ℕ = key_bytes i.key in
    append_assoc n (k ++ i.bytes) more ∙ ap (λ (l : List ℕ). n ++ l) (append_assoc k i.bytes more)
    ∙ sym (append_assoc n k (i.bytes ++ more))

pub length-head : (n : ℕ) (i : Item) → length (be_bytes 4 n ++ key_bytes i.key) ≡ 21
length-head n i = length-append (be_bytes 4 n) (key_bytes i.key) ∙ omega (arith, length-be_bytes 4 n, length-key_bytes i.key)

pub data-at : (i : Item) (more : List ℕ) → drop 21 (item_bytes i ++ more) ≡ i.bytes ++ more
data-at i more = back-21 i more

-- "the part of the sheet that is its data"
pub sheet-data : (items front : List Item) (i : Item) (back : List Item) → items ≡ front ++ i ∷ back
    → part (item_at front + 21) (length i.bytes) (sheet_bytes items) ≡ i.bytes
unfolding items_bytes
sheet-data items front i back e =
    ap (λ (l : List Item). part (item_at front + 21) (length i.bytes) (sheet_bytes l)) e
    ∙ ap (take (length i.bytes))
    (sym (drop-drop 21 (item_at front) (sheet_bytes (front ++ i ∷ back))) ∙ ap (drop 21) (sheet-from front (i ∷ back)) ∙ data-at i (items_bytes back))
    ∙ take_at i.bytes (items_bytes back) (length i.bytes) refl

-- other data as long as before is a write
pub sheet-rewrite : (items front : List Item) (i : Item) (d : List ℕ) (back : List Item) → items ≡ front ++ i ∷ back → length d ≡ length i.bytes
    → sheet_bytes (front ++ with_bytes i d ∷ back) ≡ written (item_at front + 21) d (sheet_bytes items)
unfolding items_bytes
sheet-rewrite items front i d back e n =
    let head : List ℕ = be_bytes 4 (17 + length i.bytes) ++ key_bytes i.key in
    let rest : List ℕ = items_bytes back in
    let at : length (sheet_bytes front ++ head) ≡ item_at front + 21 =
    length-append (sheet_bytes front) head ∙ ap (λ (k : ℕ). item_at front + k) (length-head (17 + length i.bytes) i) in
    let new : sheet_bytes (front ++ with_bytes i d ∷ back) ≡ (sheet_bytes front ++ head) ++ (d ++ rest) =
    sheet-join front (with_bytes i d) back
    ∙ ap (λ (l : List ℕ). sheet_bytes front ++ l)
    (item_bytes-head (with_bytes i d) rest ∙ ap (λ (k : ℕ). (be_bytes 4 (17 + k) ++ key_bytes i.key) ++ (d ++ rest)) n)
    ∙ sym (append_assoc (sheet_bytes front) head (d ++ rest)) in
    let old : sheet_bytes items ≡ (sheet_bytes front ++ head) ++ (i.bytes ++ rest) =
    ap sheet_bytes e ∙ sheet-join front i back ∙ ap (λ (l : List ℕ). sheet_bytes front ++ l) (item_bytes-head i rest)
    ∙ sym (append_assoc (sheet_bytes front) head (i.bytes ++ rest)) in
    let q : ℕ = item_at front + 21 + length d in
    new ∙ splice_at (sheet_bytes front ++ head) i.bytes d rest (item_at front + 21) q at (omega arith)
    ∙ ap (spliced (item_at front + 21) q d) (sym old)
    ∙ spliced-written (item_at front + 21) q d (sheet_bytes items) refl

-- ---- references of a body

pub refs_bytes-one : (r : Ref) → refs_bytes (r ∷ []) ≡ ref_bytes r
unfolding refs_bytes
refs_bytes-one r = append-nil (ref_bytes r)

-- where a reference starts
abbrev pub ref_start : Body → List Ref → ℕ
ref_start b front = 8 + length b.fixed + length (refs_bytes front)

pub before-refs : (b : Body) (t : ℕ) → length (le_bytes 8 t ++ b.fixed) ≡ 8 + length b.fixed
before-refs b t = length-append (le_bytes 8 t) b.fixed ∙ ap (λ (n : ℕ). n + length b.fixed) (length-le_bytes 8 t)

pub body-splice : (b : Body) (t : ℕ) (front old new back : List Ref) (p q : ℕ) → ref_start b front ≡ p → p + length (refs_bytes old) ≡ q
    → body_bytes (body_with b t (front ++ (new ++ back)))
    ≡ spliced p q (refs_bytes new) (body_bytes (body_with b t (front ++ (old ++ back))))
body-splice b t front old new back p q e f =
    body_bytes-grouped (body_with b t (front ++ (new ++ back)))
    ∙ splice-list refs_bytes refs_bytes-append (le_bytes 8 t ++ b.fixed) front old new back p q
    (ap (λ (n : ℕ). n + length (refs_bytes front)) (before-refs b t) ∙ e) f
    ∙ ap (spliced p q (refs_bytes new)) (sym (body_bytes-grouped (body_with b t (front ++ (old ++ back)))))

-- the same from the body itself: other references in a place, and another total over the first eight bytes
pub body-edit : (b : Body) (t : ℕ) (front old new back : List Ref) (p q : ℕ) → b.refs ≡ front ++ (old ++ back)
    → ref_start b front ≡ p → p + length (refs_bytes old) ≡ q
    → body_bytes (body_with b t (front ++ (new ++ back))) ≡ written 0 (le_bytes 8 t) (spliced p q (refs_bytes new) (body_bytes b))
body-edit b t front old new back p q e at to =
    let kept : Body = body_with b b.total (front ++ (new ++ back)) in
    sym (set-total kept t)
    ∙ ap (written 0 (le_bytes 8 t))
    (body-splice b b.total front old new back p q at to
    ∙ ap (λ (refs : List Ref). spliced p q (refs_bytes new) (body_bytes (body_with b b.total refs))) (sym e))
