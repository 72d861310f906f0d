-- The items of a packed image written one after the other, on plain values. Assumes nothing.
use mathlib.Core.Path.{◌≡◌, refl, sym, ap, ap₂, ◌∙◌}
use mathlib.Core.List.{List, [], ◌∷◌}
use Prim.Native.Nat.{ℕ, suc, ◌+◌, ◌-◌, ◌*◌, ◌≤◌, ◌<◌}
use native.Mathlib.Omega.{arith}
use lib.ListN.{length, drop, length-append, length-drop}
use lib.Seq.{drop-drop}
use Rattle.fields.specs.Parts.{part, written}
use Rattle.fields.proofs.Parts.{written-pair, written_twice, written_next, copied_none}
use Rattle.format.specs.declared.Key.{Key}
use Rattle.format.specs.Questions.{accepted}
use Rattle.format.specs.Items.{Item, item_bytes, items_bytes, sheet_bytes}
use Rattle.format.specs.LeafImage.{count_in, data_position, data_size_in, key_in, image_item, image_items}
use Rattle.format.proofs.Items.{length-item_bytes, length-sheet_bytes}
use Rattle.format.proofs.LeafImages.{image_item-key, image_item-data, image_item-long, FirstHeader, first-header, no-headers, run-count}
use Rattle.item_list.specs.ItemWrites.{head_bytes}
use Rattle.item_list.proofs.ItemWrites.{length-head, item-head}
use Rattle.leaf_image.specs.Packing.{listed_in, IsPacked}

-- ---- one item

module _ (image headers : List ℕ) (fits : 101 + (data_position headers + data_size_in headers) ≤ length image) where
  abbrev i : Item
  i = image_item (drop 101 image) headers

  data-size : length i.bytes ≡ data_size_in headers
  data-size = image_item-long (drop 101 image) headers (simp length-drop (omega arith))

  pub item-puts : (out one two : List ℕ) (to position size inside past : ℕ) (key : Key)
      → position ≡ data_position headers → size ≡ data_size_in headers → key ≡ key_in headers
      → to + (21 + data_size_in headers) ≤ length out
      → (inside ≡ to + 21) × (one ≡ written to (head_bytes key size) out)
      → (past ≡ inside + (101 + position + size - (101 + position))) × (two ≡ written inside (part (101 + position) (101 + position + size - (101 + position)) image) one)
      → (past ≡ to + (21 + data_size_in headers)) × (two ≡ written to (item_bytes i) out)
  item-puts out one two to position size inside past key begins long same room e₁ e₂ =
      let width : 101 + position + size - (101 + position) ≡ size = omega arith in
      let head : head_bytes key size ≡ head_bytes i.key (length i.bytes) =
      ap₂ head_bytes (same ∙ sym (image_item-key (drop 101 image) headers)) (long ∙ sym data-size) in
      let body : part (101 + position) (101 + position + size - (101 + position)) image ≡ i.bytes =
      ap₂ (λ (p n : ℕ). part (101 + p) n image) begins (width ∙ long) ∙ image_item-data image headers in
      let second : two ≡ written (to + 21) i.bytes one = e₂.1 ∙ ap₂ (λ (k : ℕ) (l : List ℕ). written k l one) e₁.0 body in
      let first : one ≡ written to (head_bytes i.key (length i.bytes)) out = e₁.1 ∙ ap (λ (l : List ℕ). written to l out) head in (
        omega (arith, e₁.0, e₂.0, width, long),
        written-pair to 21 (data_size_in headers) (head_bytes i.key (length i.bytes)) i.bytes out one two (length-head i.key (length i.bytes)) data-size room first second
            ∙ ap (λ (l : List ℕ). written to l out) (sym (item-head i)),
      )

-- ---- one after the other

pub packed-count : (image : List ℕ) (count : ℕ) → IsPacked image → count ≡ length (listed_in image) → count ≡ count_in image
packed-count image count p e =
    e ∙ run-count (25 * count_in image) (drop 101 image) (count_in image) (length image - 101) (drop 101 image) (listed_in image) p.reads

-- what is left where `n` items are written and the next header stands at `at`: those items, written from `to` on, make the whole
pub record Left (image : List ℕ) (at n to : ℕ) (out whole : List ℕ) : Type 0 where
  pub rest : List Item
  pub end : ℕ
  pub reads : image_items (25 * count_in image) (drop 101 image) (count_in image - n) end (drop at image) ≡ accepted rest
  pub inside : end ≤ length image - 101
  pub room : to + length (items_bytes rest) ≤ length out
  pub makes : written to (items_bytes rest) out ≡ whole

pub left-first : (image out : List ℕ) → IsPacked image → length (sheet_bytes (listed_in image)) ≤ length out
    → Left image 101 0 1 out (written 1 (items_bytes (listed_in image)) out)
left-first image out p h =
    let z : count_in image - 0 ≡ count_in image = omega arith in
    record {
      rest = listed_in image;
      end = length image - 101;
      reads = ap (λ (k : ℕ). image_items (25 * count_in image) (drop 101 image) k (length image - 101) (drop 101 image)) z ∙ p.reads;
      inside = omega arith;
      room = omega (arith, h, length-sheet_bytes (listed_in image));
      makes = refl;
    }

module _ {image : List ℕ} {at n to : ℕ} {out whole : List ℕ} (left : Left image at n to out whole) where
  pub left_end : count_in image ≤ n → out ≡ whole
  unfolding items_bytes
  left_end h =
      let z : count_in image - n ≡ 0 = omega arith in
      let none : [] ≡ left.rest =
      no-headers (25 * count_in image) (drop 101 image) left.end (drop at image) left.rest
      (ap (λ (k : ℕ). image_items (25 * count_in image) (drop 101 image) k left.end (drop at image)) (sym z) ∙ left.reads) in
      copied_none to [] out ∙ ap (λ (items : List Item). written to (items_bytes items) out) none ∙ left.makes

  module _ (more : n < count_in image) where
    abbrev headers : List ℕ
    headers = drop at image

    abbrev item : Item
    item = image_item (drop 101 image) headers

    next : FirstHeader (25 * count_in image) (drop 101 image) (count_in image - (n + 1)) left.end headers left.rest
    next =
        let some : count_in image - n ≡ suc (count_in image - (n + 1)) = omega arith in
        first-header (25 * count_in image) (drop 101 image) (count_in image - (n + 1)) left.end headers left.rest
        (ap (λ (k : ℕ). image_items (25 * count_in image) (drop 101 image) k left.end headers) (sym some) ∙ left.reads)

    long : length (items_bytes left.rest) ≡ length (item_bytes item) + length (items_bytes next.others)
    unfolding items_bytes
    long = ap (λ (items : List Item). length (items_bytes items)) (sym next.are) ∙ length-append (item_bytes item) (items_bytes next.others)

    pub fits-image : 101 + (data_position headers + data_size_in headers) ≤ length image
    fits-image = omega (arith, next.ends, next.begins, left.inside, more)

    pub fits-header : at ≡ 101 + 25 * n → at + 25 ≤ length image
    fits-header e = omega (arith, next.ends, next.begins, left.inside, more, e)

    size_is : length (item_bytes item) ≡ 21 + data_size_in headers
    size_is = omega (arith, length-item_bytes item, data-size image headers fits-image)

    pub fits_out : to + (21 + data_size_in headers) ≤ length out
    fits_out = omega (arith, left.room, long, size_is)

    pub left-next : (past : ℕ) (new : List ℕ) → past ≡ to + (21 + data_size_in headers) → new ≡ written to (item_bytes item) out → length new ≡ length out
        → Left image (at + 25) (n + 1) past new whole
    unfolding items_bytes
    left-next past new p e l =
        record {
          rest = next.others;
          end = data_position headers;
          reads = ap (λ (h : List ℕ). image_items (25 * count_in image) (drop 101 image) (count_in image - (n + 1)) (data_position headers) h) (sym (drop-drop 25 at image)) ∙ next.reads;
          inside = omega (arith, next.ends, left.inside);
          room = omega (arith, left.room, long, size_is, p, l);
          makes =
              ap₂ (λ (k : ℕ) (bytes : List ℕ). written k (items_bytes next.others) bytes) p e
              ∙ written_twice to (item_bytes item) (items_bytes next.others) out (21 + data_size_in headers) size_is (omega (arith, left.room, long, size_is))
              ∙ ap (λ (items : List Item). written to (items_bytes items) out) next.are
              ∙ left.makes;
        }

-- the version byte before them
pub sheet-puts : (items : List Item) (old out : List ℕ) → length (sheet_bytes items) ≤ length old → out ≡ written 0 (1 ∷ []) old
    → written 1 (items_bytes items) out ≡ written 0 (sheet_bytes items) old
unfolding sheet_bytes
sheet-puts items old out h e = ap (written 1 (items_bytes items)) e ∙ written_next (1 ∷ []) (items_bytes items) old 1 refl (omega (arith, h))
