-- Leaf images: the questions of one taken apart, header by header, and what the items that were read from it are, so that question 1
-- of the sheet read is always answered yes. Assumes nothing.
use mathlib.Core.Path.{◌≡◌, refl, sym, ap, ◌∙◌, subst}
use mathlib.Core.Bool.{Bool, ◌&&◌}
use mathlib.Core.List.{List, [], ◌∷◌}
use Prim.Native.Nat.{ℕ, zero, suc, ◌+◌, ◌-◌, ◌*◌, ◌≤◌, ◌<◌}
use native.Mathlib.Omega.{arith}
use lib.Dec.{T, not_T, leb, eqb, eqb→eq, leb→le, le→leb}
use lib.ListN.{length, drop, get_or, length-take, length-drop}
use lib.Seq.{get_or-drop}
use mir.Facts.{and_yes, yes_and, yes_eqb}
use Rattle.fields.specs.Lists.{sum, all}
use Rattle.fields.specs.Numbers.{le, are_bytes}
use Rattle.fields.specs.Parts.{part}
use Rattle.fields.proofs.Numbers.{are_bytes-drop, are_bytes-part, le-bound}
use Rattle.fields.proofs.Parts.{length_part, part-drop}
use Rattle.format.specs.Questions.{refused, accepted, ask, bind}
use Rattle.format.specs.Items.{Item, key_of, rising, read_sheet, sheet_bytes, nodesize_fits}
use Rattle.format.specs.LeafImage.{checksum, count_in, level_in, is_leaf, data_position, data_size_in, key_in, image_item, image_items, items_in_image}
use Rattle.format.proofs.Answers.{accepted-inj, ask-ok, ask-yes, ask-no, bind_ok, bind-yes}
use Rattle.format.proofs.Items.{sane, sane-in, get_d-small, nodesize-out, length-items_bytes, length-sheet_bytes, read-listed}

-- ---- question 23

pub record Leaf (nodesize : ℕ) (image : List ℕ) : Type 0 where
  pub whole : length image ≡ nodesize
  pub level : level_in image ≡ 0
  pub sealed : le (part 0 4 image) ≡ checksum (drop 32 image)

pub leaf-out : (nodesize : ℕ) (image : List ℕ) → T (is_leaf nodesize image) → Leaf nodesize image
unfolding is_leaf
leaf-out nodesize image t =
    let b₁ : Bool = eqb (length image) nodesize in
    let b₂ : Bool = eqb (level_in image) 0 in
    let h₁ = and_yes (b₁ && b₂) _ t in
    let h₂ = and_yes b₁ b₂ h₁.0 in
    record { whole = eqb→eq _ nodesize h₂.0; level = eqb→eq _ 0 h₂.1; sealed = eqb→eq _ (checksum (drop 32 image)) h₁.1 }

pub leaf-in : (nodesize : ℕ) (image : List ℕ) → Leaf nodesize image → T (is_leaf nodesize image)
unfolding is_leaf
leaf-in nodesize image l =
    let b₁ : Bool = eqb (length image) nodesize in
    let b₂ : Bool = eqb (level_in image) 0 in
    yes_and (b₁ && b₂) _ (yes_and b₁ b₂ (yes_eqb l.whole) (yes_eqb l.level)) (yes_eqb l.sealed)

pub area-length : (nodesize : ℕ) (image : List ℕ) → length image ≡ nodesize → length (drop 101 image) ≡ nodesize - 101
area-length nodesize image whole = length-drop 101 image ∙ ap (λ (n : ℕ). n - 101) whole

-- ---- a header and its item

-- the fields of the header at a position in the image
module _ (image : List ℕ) (at : ℕ) where
  pub position-is : le (part (at + 17) 4 image) ≡ data_position (drop at image)
  unfolding data_position
  position-is = ap le (sym (part-drop at 17 4 image))

  pub size_is : le (part (at + 21) 4 image) ≡ data_size_in (drop at image)
  unfolding data_size_in
  size_is = ap le (sym (part-drop at 21 4 image))

  pub key-is : key_of (le (part at 8 image)) (get_or image (at + 8) 0) (le (part (at + 9) 8 image)) ≡ key_in (drop at image)
  unfolding key_in
  key-is = rw (part-drop at 9 8 image, get_or-drop at image 8 0)

pub image_item-key : (area headers : List ℕ) → (image_item area headers).key ≡ key_in headers
unfolding image_item
image_item-key area headers = refl

-- its data, by the position in the image
pub image_item-data : (image headers : List ℕ) → part (101 + data_position headers) (data_size_in headers) image ≡ (image_item (drop 101 image) headers).bytes
unfolding image_item
image_item-data image headers = sym (part-drop 101 (data_position headers) (data_size_in headers) image)

pub image_item-long : (area headers : List ℕ) → data_position headers + data_size_in headers ≤ length area
    → length (image_item area headers).bytes ≡ data_size_in headers
unfolding image_item
image_item-long area headers h = length_part (data_size_in headers) (data_position headers) area h

-- ---- a run of headers, one header at a time

module _ (least : ℕ) (area : List ℕ) (count end : ℕ) (headers : List ℕ) where
  abbrev packs : Bool
  packs = eqb (data_position headers + data_size_in headers) end && leb least (data_position headers)

  -- its data ends at `end`, and begins behind the headers
  pub run-next : data_position headers + data_size_in headers ≡ end → least ≤ data_position headers
      → image_items least area (suc count) end headers
      ≡ bind (image_items least area count (data_position headers) (drop 25 headers)) (λ items. accepted (image_item area headers ∷ items))
  unfolding image_items
  run-next ends begins =
      ask-yes packs 24 _
      (yes_and (eqb (data_position headers + data_size_in headers) end) _ (yes_eqb ends) (le→leb least (data_position headers) begins))

  pub run-cons : (others : List Item) → data_position headers + data_size_in headers ≡ end → least ≤ data_position headers
      → image_items least area count (data_position headers) (drop 25 headers) ≡ accepted others
      → image_items least area (suc count) end headers ≡ accepted (image_item area headers ∷ others)
  run-cons others ends begins reads =
      run-next ends begins ∙ bind-yes (image_items least area count (data_position headers) (drop 25 headers)) _ reads

  -- or it does not
  pub run-refused : (data_position headers + data_size_in headers ≡ end → least ≤ data_position headers → ⊥)
      → image_items least area (suc count) end headers ≡ refused 24
  unfolding image_items
  run-refused h =
      ask-no packs 24 _
      (not_T packs (λ t. let u = and_yes (eqb (data_position headers + data_size_in headers) end) _ t in h (eqb→eq _ end u.0) (leb→le least _ u.1)))

pub record FirstHeader (least : ℕ) (area : List ℕ) (count end : ℕ) (headers : List ℕ) (items : List Item) : Type 0 where
  pub ends : data_position headers + data_size_in headers ≡ end
  pub begins : least ≤ data_position headers
  pub others : List Item
  pub reads : image_items least area count (data_position headers) (drop 25 headers) ≡ accepted others
  pub are : image_item area headers ∷ others ≡ items

pub first-header : (least : ℕ) (area : List ℕ) (count end : ℕ) (headers : List ℕ) (items : List Item)
    → image_items least area (suc count) end headers ≡ accepted items → FirstHeader least area count end headers items
unfolding image_items
first-header least area count end headers items e =
    let h₁ = ask-ok (eqb (data_position headers + data_size_in headers) end && leb least (data_position headers)) 24 _ e in
    let h₂ = bind_ok (image_items least area count (data_position headers) (drop 25 headers)) _ h₁.1 in
    let t = and_yes (eqb (data_position headers + data_size_in headers) end) _ h₁.0 in
    record {
      ends = eqb→eq _ end t.0;
      begins = leb→le least _ t.1;
      others = h₂.0;
      reads = h₂.1;
      are = accepted-inj h₂.2;
    }

pub no-headers : (least : ℕ) (area : List ℕ) (end : ℕ) (headers : List ℕ) (items : List Item)
    → image_items least area 0 end headers ≡ accepted items → ◌≡◌ {A = List Item} [] items
unfolding image_items
no-headers least area end headers items e = accepted-inj e

abbrev pub data_length : Item → ℕ
data_length i = length i.bytes

-- as many items as were counted
pub run-count : (least : ℕ) (area : List ℕ) (count end : ℕ) (headers : List ℕ) (items : List Item)
    → image_items least area count end headers ≡ accepted items → length items ≡ count
run-count least area zero end headers items e = sym (ap length (no-headers least area end headers items e))
run-count least area (suc count) end headers items e =
    let f = first-header least area count end headers items e in
    sym (ap length f.are) ∙ ap suc (run-count least area count (data_position headers) (drop 25 headers) f.others f.reads)

-- their data stands between the headers' end and the end that is due
pub run-data : (least : ℕ) (area : List ℕ) (count end : ℕ) (headers : List ℕ) (items : List Item) → least ≤ end
    → image_items least area count end headers ≡ accepted items → least + sum data_length items ≤ end
unfolding image_item
run-data least area zero end headers items h e =
    subst (λ (l : List Item). least + sum data_length l ≤ end) (no-headers least area end headers items e) (omega arith)
run-data least area (suc count) end headers items h e =
    let f = first-header least area count end headers items e in
    let f₁ = f.ends in
    let ih = run-data least area count (data_position headers) (drop 25 headers) f.others f.begins f.reads in
    subst (λ (l : List Item). least + sum data_length l ≤ end) f.are
    (omega (arith, length-take (data_size_in headers) (drop (data_position headers) area)))

-- the first item begins behind the headers, so they stand within the bytes
pub run_room : (least : ℕ) (area : List ℕ) (count end : ℕ) (headers : List ℕ) (items : List Item) → 0 < count
    → image_items least area count end headers ≡ accepted items → least ≤ end
run_room least area zero end headers items h e = absurd (omega arith)
run_room least area (suc count) end headers items h e =
    let f = first-header least area count end headers items e in
    let f₁ = f.ends in
    let f₂ = f.begins in
    omega arith

-- headers that do not fit are not packed: the first item's data would begin behind the end, as whole numbers
pub headers-outside : (least : ℕ) (area : List ℕ) (count end : ℕ) (headers : List ℕ) → 0 < count → end < least
    → image_items least area count end headers ≡ refused 24
headers-outside least area zero end headers h k = absurd (omega arith)
headers-outside least area (suc count) end headers h k = run-refused least area count end headers (λ e l. absurd (omega arith))

-- ---- sane items

le-part : (at : ℕ) (l : List ℕ) → T (are_bytes l) → at + 8 ≤ length l → le (part at 8 l) < 18446744073709551616
le-part at l t h =
    let e : length (part at 8 l) ≡ 8 = length_part 8 at l h in
    rw e at (le-bound (part at 8 l) (are_bytes-part at 8 l t))

pub image_item-sane : (area headers : List ℕ) → T (are_bytes area) → T (are_bytes headers) → 25 ≤ length headers → data_size_in headers ≤ 65535
    → T (sane (image_item area headers))
unfolding image_item key_in
image_item-sane area headers t u h k =
    sane-in (image_item area headers)
    (record {
      objectid_small = le-part 0 headers u (omega arith);
      kind_small = get_d-small headers 8 u;
      offset_small = le-part 9 headers u (omega arith);
      bytes_fit = omega (arith, length-take (data_size_in headers) (drop (data_position headers) area));
      bytes_small = are_bytes-part (data_position headers) (data_size_in headers) area t;
    })

pub run-sane : (least : ℕ) (area : List ℕ) (count end : ℕ) (headers : List ℕ) (items : List Item) → T (are_bytes area) → T (are_bytes headers)
    → 25 * count ≤ length headers → end ≤ 65535
    → image_items least area count end headers ≡ accepted items → T (all sane items)
run-sane least area zero end headers items t u h k e =
    subst (λ (l : List Item). T (all sane l)) (no-headers least area end headers items e) tt
run-sane least area (suc count) end headers items t u h k e =
    let f = first-header least area count end headers items e in
    let f₁ = f.ends in
    let one : T (sane (image_item area headers)) = image_item-sane area headers t u (omega arith) (omega arith) in
    let long : 25 * count ≤ length (drop 25 headers) = simp length-drop (omega arith) in
    let ih = run-sane least area count (data_position headers) (drop 25 headers) f.others t (are_bytes-drop 25 headers u) long (omega arith) f.reads in
    subst (λ (l : List Item). T (all sane l)) f.are (yes_and (sane (image_item area headers)) _ one ih)

-- ---- of an image

pub sum-sizes : (items : List Item) → sum (λ i. 21 + length i.bytes) items ≡ sum data_length items + 21 * length items
sum-sizes [] = refl
sum-sizes (i ∷ items) = omega (arith, sum-sizes items)

module _ (nodesize : ℕ) (image : List ℕ) (items : List Item) (t : T (are_bytes image)) (whole : length image ≡ nodesize)
    (fits : T (nodesize_fits nodesize)) (e : items_in_image nodesize image ≡ accepted items) where
  -- the headers stand within the image
  pub image-headers : 25 * count_in image ≤ nodesize - 101
  image-headers = go (count_in image) e
    where
      go : (n : ℕ) → image_items (25 * n) (drop 101 image) n (nodesize - 101) (drop 101 image) ≡ accepted items → 25 * n ≤ nodesize - 101
      go zero r = omega arith
      go (suc n) r = run_room (25 * suc n) (drop 101 image) (suc n) (nodesize - 101) (drop 101 image) items (omega arith) r

  pub image-count : length items ≡ count_in image
  image-count = run-count (25 * count_in image) (drop 101 image) (count_in image) (nodesize - 101) (drop 101 image) items e

  pub image-sane : T (all sane items)
  image-sane =
      let n = nodesize-out nodesize fits in
      let n₁ = n.1 in
      let h₁ = image-headers in
      let h₂ = area-length nodesize image whole in
      run-sane (25 * count_in image) (drop 101 image) (count_in image) (nodesize - 101) (drop 101 image) items
      (are_bytes-drop 101 image t) (are_bytes-drop 101 image t) (omega arith) (omega arith) e

  pub image-few : length items ≤ 2617
  image-few =
      let n = nodesize-out nodesize fits in
      let n₁ = n.1 in
      let h₁ = image-headers in
      let h₂ = image-count in
      omega arith

  pub image-size : length (sheet_bytes items) + 4 * length items + 100 ≤ nodesize
  image-size =
      let n = nodesize-out nodesize fits in
      let n₀ = n.0 in
      let h₁ = image-headers in
      let h₂ = image-count in
      let h₃ = run-data (25 * count_in image) (drop 101 image) (count_in image) (nodesize - 101) (drop 101 image) items image-headers e in
      omega (arith, length-sheet_bytes items, length-items_bytes items, sum-sizes items)

  -- the sheet read is made of bytes, items and lengths that question 1 asks for: what is left is question 2
  pub image-listed : read_sheet (sheet_bytes items) ≡ ask (rising items) 2 (accepted items)
  image-listed =
      let n = nodesize-out nodesize fits in
      let n₁ = n.1 in
      let size = image-size in
      let few = image-few in
      read-listed items image-sane (omega arith) (omega arith)
