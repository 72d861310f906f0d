-- Item lists as bytes: what is written is read back, what is read is written as it stood, and the steps of the reading; and the size
-- of a leaf for them. Assumes nothing.
use mathlib.Core.Path.{◌≡◌, refl, sym, ap, ap₂, ◌∙◌, subst}
use mathlib.Core.Logic.{◌⊎◌, inl, inr}
use mathlib.Core.Bool.{Bool, true, false, ◌&&◌}
use mathlib.Core.List.{List, [], ◌∷◌, ◌++◌, append_assoc}
use Prim.Native.Nat.{ℕ, zero, suc, ◌+◌, ◌-◌, ◌≤◌, ◌<◌}
use native.Mathlib.Omega.{arith}
use lib.Dec.{T, leb, ltb, eqb, eqb→eq, leb→le, le→leb, ltb→lt, lt→ltb}
use lib.ListN.{length, take, drop, get_or, length-append, length-take, take-append-drop}
use lib.Seq.{take_at, drop_at, drop-drop, get_or-drop}
use mir.Facts.{and_yes, yes_and}
use Rattle.fields.specs.Lists.{sum, all}
use Rattle.fields.specs.Numbers.{be, be_bytes, are_bytes}
use Rattle.fields.specs.Parts.{part}
use Rattle.fields.proofs.Lists.{all_map}
use Rattle.fields.proofs.Numbers.{are_bytes-drop, are_bytes-append, are_bytes-part, are_bytes-be_bytes, length-be_bytes, be-bound, be-be_bytes, be_bytes-be-at, be_bytes-one}
use Rattle.fields.proofs.Parts.{part-is, part-add, length_part}
use Rattle.format.specs.declared.Key.{Key}
use Rattle.format.specs.Questions.{Answer, refused, accepted, ask, bind}
use Rattle.format.specs.Items.{Item, rising, item_length, whole_item, first_item, read_items, read_sheet, key_bytes, item_bytes, items_bytes, sheet_bytes, nodesize_fits, data_fits}
use Rattle.format.proofs.Answers.{refused-not, accepted-inj, ask-ok, ask-yes, bind_ok}
use Rattle.format.proofs.Refs.{bind-refused}

-- ---- sane items: those that a run of bytes can hold

unfoldable pub sane : Item → Bool
sane i =
    ltb i.key.objectid 18446744073709551616 && ltb i.key.kind 256 && ltb i.key.offset 18446744073709551616
    && leb (length i.bytes) 65535 && are_bytes i.bytes

pub record Sane (i : Item) : Type 0 where
  pub objectid_small : i.key.objectid < 18446744073709551616
  pub kind_small : i.key.kind < 256
  pub offset_small : i.key.offset < 18446744073709551616
  pub bytes_fit : length i.bytes ≤ 65535
  pub bytes_small : T (are_bytes i.bytes)

pub sane-out : (i : Item) → T (sane i) → Sane i
unfolding sane
sane-out i t =
    let b₁ : Bool = ltb i.key.objectid 18446744073709551616 in
    let b₂ : Bool = b₁ && ltb i.key.kind 256 in
    let b₃ : Bool = b₂ && ltb i.key.offset 18446744073709551616 in
    let b₄ : Bool = b₃ && leb (length i.bytes) 65535 in
    let h₄ = and_yes b₄ (are_bytes i.bytes) t in
    let h₃ = and_yes b₃ (leb (length i.bytes) 65535) h₄.0 in
    let h₂ = and_yes b₂ (ltb i.key.offset 18446744073709551616) h₃.0 in
    let h₁ = and_yes b₁ (ltb i.key.kind 256) h₂.0 in
    record {
      objectid_small = ltb→lt i.key.objectid 18446744073709551616 h₁.0;
      kind_small = ltb→lt i.key.kind 256 h₁.1;
      offset_small = ltb→lt i.key.offset 18446744073709551616 h₂.1;
      bytes_fit = leb→le _ _ h₃.1;
      bytes_small = h₄.1;
    }

pub sane-in : (i : Item) → Sane i → T (sane i)
unfolding sane
sane-in i s =
    let b₁ : Bool = ltb i.key.objectid 18446744073709551616 in
    let b₂ : Bool = b₁ && ltb i.key.kind 256 in
    let b₃ : Bool = b₂ && ltb i.key.offset 18446744073709551616 in
    let b₄ : Bool = b₃ && leb (length i.bytes) 65535 in
    let o = lt→ltb i.key.objectid 18446744073709551616 s.objectid_small in
    let k = lt→ltb i.key.kind 256 s.kind_small in
    let f = lt→ltb i.key.offset 18446744073709551616 s.offset_small in
    yes_and b₄ _ (yes_and b₃ _ (yes_and b₂ _ (yes_and b₁ _ o k) f) (le→leb (length i.bytes) 65535 s.bytes_fit)) s.bytes_small

-- their data is within the limit
pub sane-fit : (items : List Item) → T (all sane items) → T (all (λ i. data_fits i.bytes) items)
unfolding data_fits
sane-fit items t = all_map sane (λ i. leb (length i.bytes) 65535) (λ i h. le→leb (length i.bytes) 65535 (sane-out i h).bytes_fit) items t

-- ---- a leaf's size

pub nodesize-out : (nodesize : ℕ) → T (nodesize_fits nodesize) → (501 ≤ nodesize) × (nodesize ≤ 65536)
unfolding nodesize_fits
nodesize-out nodesize t =
    let h = and_yes (leb 501 nodesize) _ t in
    (leb→le 501 nodesize h.0, leb→le nodesize 65536 h.1)

pub nodesize-in : (nodesize : ℕ) → 501 ≤ nodesize → nodesize ≤ 65536 → T (nodesize_fits nodesize)
unfolding nodesize_fits
nodesize-in nodesize h k = yes_and (leb 501 nodesize) (leb nodesize 65536) (le→leb 501 nodesize h) (le→leb nodesize 65536 k)

-- ---- lengths

pub length-key_bytes : (key : Key) → length (key_bytes key) ≡ 17
unfolding key_bytes
length-key_bytes key =
    let o : List ℕ = be_bytes 8 key.objectid in
    let k : List ℕ = be_bytes 1 key.kind in
    let f : List ℕ = be_bytes 8 key.offset in
    let h₁ = length-be_bytes 8 key.objectid in
    let h₂ = length-be_bytes 1 key.kind in
    let h₃ = length-be_bytes 8 key.offset in
    omega (arith, length-append o (k ++ f), length-append k f)

pub length-item_bytes : (i : Item) → length (item_bytes i) ≡ 21 + length i.bytes
unfolding item_bytes
length-item_bytes i =
    omega (
      arith,
      length-append (be_bytes 4 (17 + length i.bytes)) (key_bytes i.key ++ i.bytes),
      length-append (key_bytes i.key) i.bytes,
      length-be_bytes 4 (17 + length i.bytes),
      length-key_bytes i.key,
    )

pub length-items_bytes : (items : List Item) → length (items_bytes items) ≡ sum (λ i. 21 + length i.bytes) items
unfolding items_bytes
length-items_bytes [] = refl
length-items_bytes (i ∷ items) = omega (arith, length-append (item_bytes i) (items_bytes items), length-item_bytes i, length-items_bytes items)

pub length-sheet_bytes : (items : List Item) → length (sheet_bytes items) ≡ 1 + length (items_bytes items)
unfolding sheet_bytes
length-sheet_bytes items = omega arith

pub items_bytes-append : (a b : List Item) → items_bytes (a ++ b) ≡ items_bytes a ++ items_bytes b
unfolding items_bytes
items_bytes-append [] b = refl
items_bytes-append (i ∷ a) b =
    ap (λ (l : List ℕ). item_bytes i ++ l) (items_bytes-append a b) ∙ sym (append_assoc (item_bytes i) (items_bytes a) (items_bytes b))

-- ---- what is written is bytes

pub are_bytes-key_bytes : (key : Key) → T (are_bytes (key_bytes key))
unfolding key_bytes
are_bytes-key_bytes key =
    are_bytes-append (be_bytes 8 key.objectid) (be_bytes 1 key.kind ++ be_bytes 8 key.offset) (are_bytes-be_bytes 8 key.objectid)
    (are_bytes-append (be_bytes 1 key.kind) (be_bytes 8 key.offset) (are_bytes-be_bytes 1 key.kind) (are_bytes-be_bytes 8 key.offset))

pub are_bytes-item_bytes : (i : Item) → T (are_bytes i.bytes) → T (are_bytes (item_bytes i))
unfolding item_bytes
are_bytes-item_bytes i t =
    are_bytes-append (be_bytes 4 (17 + length i.bytes)) (key_bytes i.key ++ i.bytes) (are_bytes-be_bytes 4 (17 + length i.bytes))
    (are_bytes-append (key_bytes i.key) i.bytes (are_bytes-key_bytes i.key) t)

pub are_bytes-items_bytes : (items : List Item) → T (all sane items) → T (are_bytes (items_bytes items))
unfolding items_bytes
are_bytes-items_bytes [] t = tt
are_bytes-items_bytes (i ∷ items) t =
    let k = and_yes (sane i) _ t in
    are_bytes-append (item_bytes i) (items_bytes items) (are_bytes-item_bytes i (sane-out i k.0).bytes_small) (are_bytes-items_bytes items k.1)

pub are_bytes-sheet_bytes : (items : List Item) → T (all sane items) → T (are_bytes (sheet_bytes items))
unfolding sheet_bytes
are_bytes-sheet_bytes items t = are_bytes-items_bytes items t

-- ---- the steps of the reading

pub read_items-nil : (n : ℕ) → read_items n [] ≡ accepted []
unfolding read_items
read_items-nil zero = refl
read_items-nil (suc n) = refl

pub read_items-full : (l : List ℕ) → 0 < length l → read_items 0 l ≡ refused 1
unfolding read_items
read_items-full [] h = absurd (omega arith)
read_items-full (b ∷ l) h = refl

pub read_items-more : (n : ℕ) (l : List ℕ) → 0 < length l
    → read_items (suc n) l ≡ ask (whole_item l) 1 (bind (read_items n (drop (4 + item_length l) l)) (λ items. accepted (first_item l ∷ items)))
unfolding read_items
read_items-more n [] h = absurd (omega arith)
read_items-more n (b ∷ l) h = refl

-- what a whole item says of the bytes
pub whole_item-out : (l : List ℕ) → T (whole_item l) → (17 ≤ item_length l) × (item_length l ≤ 65552) × (4 + item_length l ≤ length l)
unfolding whole_item
whole_item-out l t =
    let b₁ : Bool = leb 17 (item_length l) in
    let b₂ : Bool = leb (item_length l) 65552 in
    let h₁ = and_yes (b₁ && b₂) _ t in
    let h₂ = and_yes b₁ b₂ h₁.0 in
    (leb→le 17 (item_length l) h₂.0, leb→le (item_length l) 65552 h₂.1, leb→le (4 + item_length l) (length l) h₁.1)

pub whole_item-in : (l : List ℕ) → 17 ≤ item_length l → item_length l ≤ 65552 → 4 + item_length l ≤ length l → T (whole_item l)
unfolding whole_item
whole_item-in l h k m =
    let b₁ : Bool = leb 17 (item_length l) in
    let b₂ : Bool = leb (item_length l) 65552 in
    yes_and (b₁ && b₂) _ (yes_and b₁ b₂ (le→leb 17 (item_length l) h) (le→leb (item_length l) 65552 k)) (le→leb (4 + item_length l) (length l) m)

-- items, or 1
pub read_items-decides : (n : ℕ) (l : List ℕ) → ((items : List Item) × (read_items n l ≡ accepted items)) ⊎ (read_items n l ≡ refused 1)
unfolding read_items ask bind
read_items-decides zero [] = inl ([], refl)
read_items-decides zero (b ∷ l) = inr refl
read_items-decides (suc n) [] = inl ([], refl)
read_items-decides (suc n) (b ∷ l) =
    go (whole_item (b ∷ l)) (read_items n (drop (4 + item_length (b ∷ l)) (b ∷ l))) (read_items-decides n (drop (4 + item_length (b ∷ l)) (b ∷ l)))
  where
    next : List Item → Answer (List Item)
    next items = accepted (first_item (b ∷ l) ∷ items)

    go : (c : Bool) (r : Answer (List Item)) → ((items : List Item) × (r ≡ accepted items)) ⊎ (r ≡ refused 1)
        → ((items : List Item) × (ask c 1 (bind r next) ≡ accepted items)) ⊎ (ask c 1 (bind r next) ≡ refused 1)
    go false r h = inr refl
    go true r (inl h) = inl (first_item (b ∷ l) ∷ h.0, ap (λ x. bind x next) h.1)
    go true r (inr e) = inr (bind-refused r next 1 e)

-- a sheet's items, or 1 or 2
pub data ReadsSheet (answer : Answer (List Item)) : Type 0 where
  sheet : (items : List Item) → answer ≡ accepted items → ReadsSheet answer
  broken : answer ≡ refused 1 → ReadsSheet answer
  unsorted : answer ≡ refused 2 → ReadsSheet answer

pub read_sheet-decides : (s : List ℕ) → ReadsSheet (read_sheet s)
unfolding read_sheet ask bind
read_sheet-decides [] = broken refl
read_sheet-decides (v ∷ l) = go (eqb v 1 && leb (1 + length l) 262144) (read_items 4096 l) (read_items-decides 4096 l)
  where
    next : List Item → Answer (List Item)
    next items = ask (rising items) 2 (accepted items)

    order : (items : List Item) (c : Bool) → ReadsSheet (ask c 2 (accepted items))
    order items true = sheet items refl
    order items false = unsorted refl

    go : (c : Bool) (r : Answer (List Item)) → ((items : List Item) × (r ≡ accepted items)) ⊎ (r ≡ refused 1)
        → ReadsSheet (ask c 1 (bind r next))
    go false r h = broken refl
    go true r (inl h) = subst ReadsSheet (sym (ap (λ x. bind x next) h.1)) (order h.0 (rising h.0))
    go true r (inr e) = broken (bind-refused r next 1 e)

-- no more items than so many
pub read_items-count : (n : ℕ) (l : List ℕ) (items : List Item) → read_items n l ≡ accepted items → length items ≤ n
unfolding read_items
read_items-count zero [] items e = subst (λ (x : List Item). length x ≤ 0) (accepted-inj e) (omega arith)
read_items-count zero (b ∷ l) items e = refused-not e
read_items-count (suc n) [] items e = subst (λ (x : List Item). length x ≤ suc n) (accepted-inj e) (omega arith)
read_items-count (suc n) (b ∷ l) items e =
    let d : List ℕ = drop (4 + item_length (b ∷ l)) (b ∷ l) in
    let h₁ = ask-ok (whole_item (b ∷ l)) 1 _ e in
    let h₂ = bind_ok (read_items n d) _ h₁.1 in
    let ih : length h₂.0 ≤ n = read_items-count n d h₂.0 h₂.1 in
    subst (λ (x : List Item). length x ≤ suc n) (accepted-inj h₂.2) (omega arith)

-- ---- written and read back

module _ (i : Item) (more : List ℕ) where
  -- the fields of an item's bytes, one after the other
  pub item_bytes-parts : item_bytes i ++ more
      ≡ be_bytes 4 (17 + length i.bytes)
      ++ (be_bytes 8 i.key.objectid ++ (be_bytes 1 i.key.kind ++ (be_bytes 8 i.key.offset ++ (i.bytes ++ more))))
  unfolding item_bytes key_bytes
  item_bytes-parts =
      let n : List ℕ = be_bytes 4 (17 + length i.bytes) in
      let o : List ℕ = be_bytes 8 i.key.objectid in
      let k : List ℕ = be_bytes 1 i.key.kind in
      let f : List ℕ = be_bytes 8 i.key.offset in
      append_assoc n (o ++ (k ++ f) ++ i.bytes) more
      ∙ ap (λ (l : List ℕ). n ++ l) (append_assoc (o ++ (k ++ f)) i.bytes more ∙ append_assoc o (k ++ f) (i.bytes ++ more))
      ∙ ap (λ (l : List ℕ). n ++ (o ++ l)) (append_assoc k f (i.bytes ++ more))

  back-4 : drop 4 (item_bytes i ++ more)
      ≡ be_bytes 8 i.key.objectid ++ (be_bytes 1 i.key.kind ++ (be_bytes 8 i.key.offset ++ (i.bytes ++ more)))
  back-4 = ap (drop 4) item_bytes-parts ∙ drop_at (be_bytes 4 (17 + length i.bytes)) _ 4 (length-be_bytes 4 (17 + length i.bytes))

  back-12 : drop 12 (item_bytes i ++ more) ≡ be_bytes 1 i.key.kind ++ (be_bytes 8 i.key.offset ++ (i.bytes ++ more))
  back-12 =
      sym (drop-drop 8 4 (item_bytes i ++ more)) ∙ ap (drop 8) back-4
      ∙ drop_at (be_bytes 8 i.key.objectid) _ 8 (length-be_bytes 8 i.key.objectid)

  back-13 : drop 13 (item_bytes i ++ more) ≡ be_bytes 8 i.key.offset ++ (i.bytes ++ more)
  back-13 =
      sym (drop-drop 1 12 (item_bytes i ++ more)) ∙ ap (drop 1) back-12
      ∙ drop_at (be_bytes 1 i.key.kind) _ 1 (length-be_bytes 1 i.key.kind)

  pub back-21 : drop 21 (item_bytes i ++ more) ≡ i.bytes ++ more
  back-21 =
      sym (drop-drop 8 13 (item_bytes i ++ more)) ∙ ap (drop 8) back-13
      ∙ drop_at (be_bytes 8 i.key.offset) (i.bytes ++ more) 8 (length-be_bytes 8 i.key.offset)

  pub item_length-back : length i.bytes ≤ 65535 → item_length (item_bytes i ++ more) ≡ 17 + length i.bytes
  unfolding item_length
  item_length-back h =
      ap (λ (l : List ℕ). be (take 4 l)) item_bytes-parts
      ∙ ap be (take_at (be_bytes 4 (17 + length i.bytes)) _ 4 (length-be_bytes 4 (17 + length i.bytes)))
      ∙ be-be_bytes 4 (17 + length i.bytes) (omega arith)

  pub drop-item : length i.bytes ≤ 65535 → drop (4 + item_length (item_bytes i ++ more)) (item_bytes i ++ more) ≡ more
  drop-item h = drop_at (item_bytes i) more (4 + item_length (item_bytes i ++ more)) (omega (arith, length-item_bytes i, item_length-back h))

  pub first_item-back : Sane i → first_item (item_bytes i ++ more) ≡ i
  unfolding first_item
  first_item-back s =
      let l : List ℕ = item_bytes i ++ more in
      let o : be (part 4 8 l) ≡ i.key.objectid =
      ap (λ (x : List ℕ). be (take 8 x)) back-4
      ∙ ap be (take_at (be_bytes 8 i.key.objectid) _ 8 (length-be_bytes 8 i.key.objectid))
      ∙ be-be_bytes 8 i.key.objectid s.objectid_small in
      let k : get_or l 12 0 ≡ i.key.kind =
      sym (get_or-drop 12 l 0 0) ∙ ap (λ (x : List ℕ). get_or x 0 0) back-12
      ∙ ap (λ (x : List ℕ). get_or (x ++ (be_bytes 8 i.key.offset ++ (i.bytes ++ more))) 0 0) (be_bytes-one i.key.kind s.kind_small) in
      let f : be (part 13 8 l) ≡ i.key.offset =
      ap (λ (x : List ℕ). be (take 8 x)) back-13
      ∙ ap be (take_at (be_bytes 8 i.key.offset) (i.bytes ++ more) 8 (length-be_bytes 8 i.key.offset))
      ∙ be-be_bytes 8 i.key.offset s.offset_small in
      let n : item_length l - 17 ≡ length i.bytes = omega (arith, item_length-back s.bytes_fit) in
      let d : part 21 (item_length l - 17) l ≡ i.bytes =
      ap₂ take n back-21 ∙ take_at i.bytes more (length i.bytes) refl in
      λ j. record { key = record { objectid = o j; kind = k j; offset = f j }; bytes = d j }

  pub whole_item-back : length i.bytes ≤ 65535 → T (whole_item (item_bytes i ++ more))
  whole_item-back h =
      let l : List ℕ = item_bytes i ++ more in
      let e = item_length-back h in
      let h₁ : 17 ≤ item_length l = omega arith in
      let h₂ : item_length l ≤ 65552 = omega arith in
      let h₃ : 4 + item_length l ≤ length l = omega (arith, length-append (item_bytes i) more, length-item_bytes i) in
      whole_item-in l h₁ h₂ h₃

pub read-items_bytes : (n : ℕ) (items : List Item) → T (all sane items) → length items ≤ n → read_items n (items_bytes items) ≡ accepted items
unfolding items_bytes bind
read-items_bytes n [] t h = read_items-nil n
read-items_bytes zero (i ∷ items) t h = absurd (omega arith)
read-items_bytes (suc n) (i ∷ items) t h =
    let k = and_yes (sane i) _ t in
    let s : Sane i = sane-out i k.0 in
    let more : List ℕ = items_bytes items in
    let n₁ = length-append (item_bytes i) more in
    let n₂ = length-item_bytes i in
    let ih : read_items n more ≡ accepted items = read-items_bytes n items k.1 (omega arith) in
    read_items-more n (item_bytes i ++ more) (omega arith)
    ∙ ask-yes (whole_item (item_bytes i ++ more)) 1 _ (whole_item-back i more s.bytes_fit)
    ∙ ap (λ (x : Answer (List Item)). bind x (λ (js : List Item). accepted (first_item (item_bytes i ++ more) ∷ js)))
    (ap (read_items n) (drop-item i more s.bytes_fit) ∙ ih)
    ∙ ap (λ (x : Item). accepted (x ∷ items)) (first_item-back i more s)

-- of sane items within the limits, question 2 is left
pub read-listed : (items : List Item) → T (all sane items) → length (sheet_bytes items) ≤ 262144 → length items ≤ 4096
    → read_sheet (sheet_bytes items) ≡ ask (rising items) 2 (accepted items)
unfolding read_sheet sheet_bytes bind
read-listed items t h n =
    ask-yes (eqb 1 1 && leb (1 + length (items_bytes items)) 262144) 1 _ (le→leb (1 + length (items_bytes items)) 262144 (omega arith))
    ∙ ap (λ (x : Answer (List Item)). bind x (λ (js : List Item). ask (rising js) 2 (accepted js))) (read-items_bytes 4096 items t n)

pub read-sheet_bytes : (items : List Item) → T (all sane items) → T (rising items) → length (sheet_bytes items) ≤ 262144 → length items ≤ 4096
    → read_sheet (sheet_bytes items) ≡ accepted items
read-sheet_bytes items t r h n = read-listed items t h n ∙ ask-yes (rising items) 2 (accepted items) r

-- ---- what is read is sane

pub get_d-small : (l : List ℕ) (n : ℕ) → T (are_bytes l) → get_or l n 0 < 256
get_d-small [] n t = omega arith
get_d-small (b ∷ l) zero t = ltb→lt b 256 (and_yes (ltb b 256) _ t).0
get_d-small (b ∷ l) (suc n) t = get_d-small l n (and_yes (ltb b 256) _ t).1

pub be-part : (at : ℕ) (l : List ℕ) → T (are_bytes l) → at + 8 ≤ length l → be (part at 8 l) < 18446744073709551616
be-part at l t h =
    let e : length (part at 8 l) ≡ 8 = length_part 8 at l h in
    rw e at (be-bound (part at 8 l) (are_bytes-part at 8 l t))

pub first_item-sane : (l : List ℕ) → T (are_bytes l) → T (whole_item l) → T (sane (first_item l))
unfolding first_item
first_item-sane l t h =
    let k = whole_item-out l h in
    let k₁ = k.0 in
    let k₂ = k.1 in
    let k₃ = k.2 in
    sane-in (first_item l)
    (record {
      objectid_small = be-part 4 l t (omega arith);
      kind_small = get_d-small l 12 t;
      offset_small = be-part 13 l t (omega arith);
      bytes_fit = omega (arith, length-take (item_length l - 17) (drop 21 l));
      bytes_small = are_bytes-part 21 (item_length l - 17) l t;
    })

pub items-sane : (n : ℕ) (l : List ℕ) (items : List Item) → T (are_bytes l) → read_items n l ≡ accepted items → T (all sane items)
unfolding read_items
items-sane zero [] items t e = rw (← accepted-inj e) tt
items-sane zero (b ∷ l) items t e = refused-not e
items-sane (suc n) [] items t e = rw (← accepted-inj e) tt
items-sane (suc n) (b ∷ l) items t e =
    let d : List ℕ = drop (4 + item_length (b ∷ l)) (b ∷ l) in
    let h₁ = ask-ok (whole_item (b ∷ l)) 1 _ e in
    let h₂ = bind_ok (read_items n d) _ h₁.1 in
    let ih = items-sane n d h₂.0 (are_bytes-drop (4 + item_length (b ∷ l)) (b ∷ l) t) h₂.1 in
    rw (← accepted-inj h₂.2) (yes_and (sane (first_item (b ∷ l))) _ (first_item-sane (b ∷ l) t h₁.0) ih)

-- what a sheet that was read says of its bytes after the version
pub sheet-out : (s : List ℕ) (items : List Item) → read_sheet s ≡ accepted items
    → (l : List ℕ) × (s ≡ 1 ∷ l) × (read_items 4096 l ≡ accepted items) × T (rising items) × (length s ≤ 262144)
unfolding read_sheet
sheet-out [] items e = refused-not e
sheet-out (v ∷ l) items e =
    let h₁ = ask-ok (eqb v 1 && leb (1 + length l) 262144) 1 _ e in
    let h₂ = bind_ok (read_items 4096 l) _ h₁.1 in
    let h₃ = ask-ok (rising h₂.0) 2 _ h₂.2 in
    let q : h₂.0 ≡ items = accepted-inj h₃.1 in
    let k = and_yes (eqb v 1) _ h₁.0 in
    let m : 1 + length l ≤ 262144 = leb→le _ _ k.1 in (
      l,
      ap (λ (x : ℕ). x ∷ l) (eqb→eq v 1 k.0),
      h₂.1 ∙ ap (λ (x : List Item). accepted x) q,
      subst (λ (x : List Item). T (rising x)) q h₃.0,
      omega arith,
    )

pub sheet-sane : (s : List ℕ) (items : List Item) → T (are_bytes s) → read_sheet s ≡ accepted items
    → T (all sane items) × (length items ≤ 4096) × T (rising items) × (length s ≤ 262144)
sheet-sane s items t e =
    let h = sheet-out s items e in
    let t₁ : T (are_bytes (1 ∷ h.0)) = subst (λ (l : List ℕ). T (are_bytes l)) h.1 t in
    (items-sane 4096 h.0 items t₁ h.2, read_items-count 4096 h.0 items h.2, h.3, h.4)

-- ---- read and written again

pub item_bytes-read : (l : List ℕ) → T (are_bytes l) → T (whole_item l) → item_bytes (first_item l) ≡ take (4 + item_length l) l
unfolding item_bytes key_bytes first_item item_length
item_bytes-read l t h =
    let k = whole_item-out l h in
    let k₁ = k.0 in
    let k₃ = k.2 in
    let n : ℕ = item_length l in
    let h₄ : 0 + 4 ≤ length l = omega arith in
    let h₁₂ : 4 + 8 ≤ length l = omega arith in
    let h₁₃ : 12 + 1 ≤ length l = omega arith in
    let h₂₁ : 13 + 8 ≤ length l = omega arith in
    let hₙ : 21 + (n - 17) ≤ length l = omega arith in
    let s : 17 + (n - 17) ≡ n = omega arith in
    let a : be_bytes 4 (17 + length (part 21 (n - 17) l)) ≡ part 0 4 l =
    ap (λ (x : ℕ). be_bytes 4 (17 + x)) (length_part (n - 17) 21 l hₙ) ∙ ap (be_bytes 4) s
    ∙ be_bytes-be-at 4 (part 0 4 l) (length_part 4 0 l h₄) (are_bytes-part 0 4 l t) in
    let o : be_bytes 8 (be (part 4 8 l)) ≡ part 4 8 l = be_bytes-be-at 8 (part 4 8 l) (length_part 8 4 l h₁₂) (are_bytes-part 4 8 l t) in
    let c : be_bytes 1 (get_or l 12 0) ≡ part 12 1 l = be_bytes-one (get_or l 12 0) (get_d-small l 12 t) ∙ sym (part-is 1 12 l h₁₃) in
    let f : be_bytes 8 (be (part 13 8 l)) ≡ part 13 8 l = be_bytes-be-at 8 (part 13 8 l) (length_part 8 13 l h₂₁) (are_bytes-part 13 8 l t) in
    (λ i. a i ++ ((o i ++ (c i ++ f i)) ++ part 21 (n - 17) l))
    ∙ ap (λ (x : List ℕ). part 0 4 l ++ ((part 4 8 l ++ x) ++ part 21 (n - 17) l)) (sym (part-add 1 8 12 l))
    ∙ ap (λ (x : List ℕ). part 0 4 l ++ (x ++ part 21 (n - 17) l)) (sym (part-add 8 9 4 l))
    ∙ ap (λ (x : List ℕ). part 0 4 l ++ x) (sym (part-add 17 (n - 17) 4 l) ∙ ap (λ (x : ℕ). part 4 x l) s)
    ∙ sym (part-add 4 n 0 l)

pub items_bytes-read : (n : ℕ) (l : List ℕ) (items : List Item) → T (are_bytes l) → read_items n l ≡ accepted items → items_bytes items ≡ l
unfolding read_items items_bytes
items_bytes-read zero [] items t e = ap items_bytes (sym (accepted-inj e))
items_bytes-read zero (b ∷ l) items t e = refused-not e
items_bytes-read (suc n) [] items t e = ap items_bytes (sym (accepted-inj e))
items_bytes-read (suc n) (b ∷ l) items t e =
    let m : ℕ = 4 + item_length (b ∷ l) in
    let h₁ = ask-ok (whole_item (b ∷ l)) 1 _ e in
    let h₂ = bind_ok (read_items n (drop m (b ∷ l))) _ h₁.1 in
    let ih = items_bytes-read n (drop m (b ∷ l)) h₂.0 (are_bytes-drop m (b ∷ l) t) h₂.1 in
    ap items_bytes (sym (accepted-inj h₂.2)) ∙ ap₂ ◌++◌ (item_bytes-read (b ∷ l) t h₁.0) ih ∙ take-append-drop m (b ∷ l)

pub sheet_bytes-read : (s : List ℕ) (items : List Item) → T (are_bytes s) → read_sheet s ≡ accepted items → sheet_bytes items ≡ s
unfolding sheet_bytes
sheet_bytes-read s items t e =
    let h = sheet-out s items e in
    let t₁ : T (are_bytes (1 ∷ h.0)) = subst (λ (l : List ℕ). T (are_bytes l)) h.1 t in
    ap (λ (l : List ℕ). 1 ∷ l) (items_bytes-read 4096 h.0 items t₁ h.2) ∙ sym h.1
