-- Leaf images read: where their data stands, on which bytes the reading depends, and that what is read is written as it stood.
-- Assumes nothing.
use mathlib.Core.Path.{◌≡◌, refl, sym, ap, ap₂, ◌∙◌, subst}
use mathlib.Core.Bool.{◌&&◌}
use mathlib.Core.List.{List, [], ◌∷◌, ◌++◌, append_assoc}
use Prim.Native.Nat.{ℕ, zero, suc, ◌+◌, ◌-◌, ◌*◌, ◌≤◌}
use native.Mathlib.Omega.{arith}
use lib.Dec.{T, leb, eqb}
use lib.ListN.{length, take, drop, get_or, replicate, length-drop}
use lib.Seq.{take_all, drop-drop, get_or-take}
use Rattle.fields.specs.Lists.{sum}
use Rattle.fields.specs.Numbers.{le, le_bytes, are_bytes}
use Rattle.fields.specs.Parts.{part}
use Rattle.fields.proofs.Numbers.{are_bytes-drop, are_bytes-part, le_bytes-le-at, le_bytes-one}
use Rattle.fields.proofs.Parts.{part-is, part-add, part-take, part_same, length_part}
use Rattle.format.specs.Questions.{Answer, accepted, ask, bind}
use Rattle.format.specs.Items.{Item, nodesize_fits}
use Rattle.format.specs.Sheets.{space_of}
use Rattle.format.specs.LeafImage.{count_in, level_in, data_position, data_size_in, key_in, image_item, image_items, items_in_image, item_header_bytes, headers_bytes, data_bytes, summed_bytes}
use Rattle.format.proofs.Answers.{bind-same}
use Rattle.format.proofs.Items.{get_d-small, nodesize-out}
use Rattle.format.proofs.LeafImages.{area-length, image_item-long, first-header, no-headers, data_length, image-headers, image-count}
use Rattle.format.proofs.LeafImagesWritten.{length-data_bytes, space-of}

-- ---- where the data stands

-- where the last item's data begins; without items, the end that is due
abbrev pub last_begin : ℕ → ℕ → List ℕ → ℕ
last_begin zero end headers = end
last_begin (suc count) end headers = last_begin count (data_position headers) (drop 25 headers)

module _ (least : ℕ) (area : List ℕ) where
  pub begin-below : (count end : ℕ) (headers : List ℕ) (items : List Item) → image_items least area count end headers ≡ accepted items
      → last_begin count end headers ≤ end
  begin-below zero end headers items e = omega arith
  begin-below (suc count) end headers items e =
      let f = first-header least area count end headers items e in
      let f₁ = f.ends in
      omega (arith, begin-below count (data_position headers) (drop 25 headers) f.others f.reads)

  pub begin-above : (count end : ℕ) (headers : List ℕ) (items : List Item) → least ≤ end → image_items least area count end headers ≡ accepted items
      → least ≤ last_begin count end headers
  begin-above zero end headers items h e = h
  begin-above (suc count) end headers items h e =
      let f = first-header least area count end headers items e in
      begin-above count (data_position headers) (drop 25 headers) f.others f.begins f.reads

  -- the data fills the bytes from there to the end
  pub run-sum : (count end : ℕ) (headers : List ℕ) (items : List Item) → end ≤ length area → image_items least area count end headers ≡ accepted items
      → sum data_length items + last_begin count end headers ≡ end
  run-sum zero end headers items h e =
      subst (λ (l : List Item). sum data_length l + end ≡ end) (no-headers least area end headers items e) (omega arith)
  run-sum (suc count) end headers items h e =
      let f = first-header least area count end headers items e in
      let f₁ = f.ends in
      subst (λ (l : List Item). sum data_length l + last_begin (suc count) end headers ≡ end) f.are
      (omega (
        arith,
        image_item-long area headers (omega arith),
        run-sum count (data_position headers) (drop 25 headers) f.others (omega arith) f.reads,
      ))

  -- ---- read and written again

  pub data-read : (count end : ℕ) (headers : List ℕ) (items : List Item) → end ≤ length area → image_items least area count end headers ≡ accepted items
      → data_bytes items ≡ part (last_begin count end headers) (end - last_begin count end headers) area
  unfolding data_bytes image_item
  data-read zero end headers items h e =
      let none : 0 ≡ end - end = omega arith in
      ap data_bytes (sym (no-headers least area end headers items e)) ∙ ap (λ (n : ℕ). part end n area) none
  data-read (suc count) end headers items h e =
      let f = first-header least area count end headers items e in
      let at : ℕ = data_position headers in
      let size : ℕ = data_size_in headers in
      let last : ℕ = last_begin count at (drop 25 headers) in
      let f₁ = f.ends in
      let low : last ≤ at = begin-below count at (drop 25 headers) f.others f.reads in
      let ih : data_bytes f.others ≡ part last (at - last) area = data-read count at (drop 25 headers) f.others (omega arith) f.reads in
      let up : at ≡ last + (at - last) = omega arith in
      let both : at - last + size ≡ end - last = omega arith in
      ap data_bytes (sym f.are)
      ∙ ap₂ (λ (l : List ℕ) (n : ℕ). l ++ part n size area) ih up
      ∙ sym (part-add (at - last) size last area)
      ∙ ap (λ (n : ℕ). part last n area) both

  pub header_read : (headers : List ℕ) → T (are_bytes headers) → 25 ≤ length headers
      → item_header_bytes (key_in headers) (data_position headers) (data_size_in headers) ≡ take 25 headers
  unfolding item_header_bytes key_in data_position data_size_in
  header_read headers t h =
      let o : le_bytes 8 (le (part 0 8 headers)) ≡ part 0 8 headers =
      le_bytes-le-at 8 (part 0 8 headers) (length_part 8 0 headers (omega arith)) (are_bytes-part 0 8 headers t) in
      let k : le_bytes 1 (get_or headers 8 0) ≡ part 8 1 headers =
      le_bytes-one (get_or headers 8 0) (get_d-small headers 8 t) ∙ sym (part-is 1 8 headers (omega arith)) in
      let f : le_bytes 8 (le (part 9 8 headers)) ≡ part 9 8 headers =
      le_bytes-le-at 8 (part 9 8 headers) (length_part 8 9 headers (omega arith)) (are_bytes-part 9 8 headers t) in
      let p : le_bytes 4 (le (part 17 4 headers)) ≡ part 17 4 headers =
      le_bytes-le-at 4 (part 17 4 headers) (length_part 4 17 headers (omega arith)) (are_bytes-part 17 4 headers t) in
      let s : le_bytes 4 (le (part 21 4 headers)) ≡ part 21 4 headers =
      le_bytes-le-at 4 (part 21 4 headers) (length_part 4 21 headers (omega arith)) (are_bytes-part 21 4 headers t) in
      (λ j. o j ++ (k j ++ (f j ++ (p j ++ s j))))
      ∙ ap (λ (l : List ℕ). part 0 8 headers ++ (part 8 1 headers ++ (part 9 8 headers ++ l))) (sym (part-add 4 4 17 headers))
      ∙ ap (λ (l : List ℕ). part 0 8 headers ++ (part 8 1 headers ++ l)) (sym (part-add 8 8 9 headers))
      ∙ ap (λ (l : List ℕ). part 0 8 headers ++ l) (sym (part-add 1 16 8 headers))
      ∙ sym (part-add 8 17 0 headers)

  pub headers-read : (count end : ℕ) (headers : List ℕ) (items : List Item) → T (are_bytes headers) → 25 * count ≤ length headers
      → end ≤ length area
      → image_items least area count end headers ≡ accepted items
      → headers_bytes end items ≡ part 0 (25 * count) headers
  unfolding headers_bytes image_item
  headers-read zero end headers items t long h e = ap (headers_bytes end) (sym (no-headers least area end headers items e))
  headers-read (suc count) end headers items t long h e =
      let f = first-header least area count end headers items e in
      let at : ℕ = data_position headers in
      let size : ℕ = data_size_in headers in
      let f₁ = f.ends in
      let n : length (part at size area) ≡ size = image_item-long area headers (omega arith) in
      let p : end - length (part at size area) ≡ at = omega arith in
      let rest : 25 * count ≤ length (drop 25 headers) = simp length-drop (omega arith) in
      let ih : headers_bytes at f.others ≡ part 0 (25 * count) (drop 25 headers) =
      headers-read count at (drop 25 headers) f.others (are_bytes-drop 25 headers t) rest (omega arith) f.reads in
      let all : 25 + 25 * count ≡ 25 * suc count = omega arith in
      ap (headers_bytes end) (sym f.are)
      ∙ ap₂ (λ (x y : ℕ). item_header_bytes (key_in headers) x y ++ headers_bytes x f.others) p n
      ∙ ap₂ ◌++◌ (header_read headers t (omega arith)) ih
      ∙ sym (part-add 25 (25 * count) 0 headers)
      ∙ ap (λ (k : ℕ). part 0 k headers) all

-- ---- on which bytes the reading depends

-- what a header says stands in its 25 bytes
module _ (headers others : List ℕ) (e : take 25 headers ≡ take 25 others) where
  position-same : data_position headers ≡ data_position others
  unfolding data_position
  position-same = ap le (part_same 17 4 25 headers others (omega arith) e)

  size_same : data_size_in headers ≡ data_size_in others
  unfolding data_size_in
  size_same = ap le (part_same 21 4 25 headers others (omega arith) e)

  key-same : key_in headers ≡ key_in others
  unfolding key_in
  key-same =
      let o : le (part 0 8 headers) ≡ le (part 0 8 others) = ap le (part_same 0 8 25 headers others (omega arith) e) in
      let k : get_or headers 8 0 ≡ get_or others 8 0 =
      sym (get_or-take 25 headers 8 0 (omega arith)) ∙ ap (λ (l : List ℕ). get_or l 8 0) e ∙ get_or-take 25 others 8 0 (omega arith) in
      let f : le (part 9 8 headers) ≡ le (part 9 8 others) = ap le (part_same 9 8 25 headers others (omega arith) e) in
      λ j. record { objectid = o j; kind = k j; offset = f j }

item-same : (area area' headers headers' : List ℕ) (last : ℕ) → take 25 headers ≡ take 25 headers' → drop last area ≡ drop last area'
    → last ≤ data_position headers
    → image_item area headers ≡ image_item area' headers'
unfolding image_item
item-same area area' headers headers' last e d low =
    let at : ℕ = data_position headers in
    let up : last + (at - last) ≡ at = omega arith in
    let there : drop at area ≡ drop at area' =
    ap (λ (n : ℕ). drop n area) (sym up) ∙ sym (drop-drop (at - last) last area) ∙ ap (drop (at - last)) d
    ∙ drop-drop (at - last) last area' ∙ ap (λ (n : ℕ). drop n area') up in
    let b : part at (data_size_in headers) area ≡ part (data_position headers') (data_size_in headers') area' =
    ap (take (data_size_in headers)) there
    ∙ ap₂ (λ (x y : ℕ). part x y area') (position-same headers headers' e) (size_same headers headers' e) in
    λ j. record { key = key-same headers headers' e j; bytes = b j }

-- the headers, and the data from where the last item's begins
pub run-same : (least : ℕ) (area area' : List ℕ) (count end : ℕ) (headers headers' : List ℕ) → take (25 * count) headers ≡ take (25 * count) headers'
    → drop (last_begin count end headers) area ≡ drop (last_begin count end headers) area'
    → image_items least area count end headers ≡ image_items least area' count end headers'
unfolding image_items
run-same least area area' zero end headers headers' e d = refl
run-same least area area' (suc count) end headers headers' e d =
    let first : take 25 headers ≡ take 25 headers' = part_same 0 25 (25 * suc count) headers headers' (omega arith) e in
    let rest : take (25 * count) (drop 25 headers) ≡ take (25 * count) (drop 25 headers') =
    part_same 25 (25 * count) (25 * suc count) headers headers' (omega arith) e in
    let at : ℕ = data_position headers in
    let p : at ≡ data_position headers' = position-same headers headers' first in
    let s : data_size_in headers ≡ data_size_in headers' = size_same headers headers' first in
    let ih : image_items least area count at (drop 25 headers) ≡ image_items least area' count at (drop 25 headers') =
    run-same least area area' count at (drop 25 headers) (drop 25 headers') rest d in
    let next : List Item → Answer (List Item) = λ items. accepted (image_item area' headers' ∷ items) in
    let inside : bind (image_items least area count at (drop 25 headers)) (λ items. accepted (image_item area headers ∷ items))
    ≡ bind (image_items least area count at (drop 25 headers)) next =
    bind-same (image_items least area count at (drop 25 headers)) _ next
    (λ items r. ap (λ (i : Item). accepted (i ∷ items))
    (item-same area area' headers headers' (last_begin count at (drop 25 headers)) first d (begin-below least area count at (drop 25 headers) items r))) in
    ap (ask (eqb (at + data_size_in headers) end && leb least at) 24) (inside ∙ ap (λ (r : Answer (List Item)). bind r next) ih)
    ∙ ap₂ (λ (x y : ℕ). ask (eqb (x + y) end && leb least x) 24 (bind (image_items least area' count x (drop 25 headers')) next)) p s

-- ---- an image read and written again with its own header

module _ (nodesize : ℕ) (image : List ℕ) (items : List Item) (t : T (are_bytes image)) (whole : length image ≡ nodesize)
    (fits : T (nodesize_fits nodesize)) (level : level_in image ≡ 0) (e : items_in_image nodesize image ≡ accepted items) where
  abbrev n : ℕ
  n = count_in image

  abbrev begin : ℕ
  begin = last_begin n (nodesize - 101) (drop 101 image)

  pub begin-low : 25 * n ≤ begin
  begin-low =
      begin-above (25 * n) (drop 101 image) n (nodesize - 101) (drop 101 image) items (image-headers nodesize image items t whole fits e) e

  pub image-sum : sum data_length items + begin ≡ nodesize - 101
  image-sum =
      let h = area-length nodesize image whole in
      run-sum (25 * n) (drop 101 image) n (nodesize - 101) (drop 101 image) items (omega arith) e

  header-own : part 32 64 (take 101 image) ≡ part 32 64 image
  header-own = part-take 32 64 101 image (omega arith)

  count-own : le_bytes 4 (length items) ≡ part 96 4 image
  unfolding count_in
  count-own =
      let h = nodesize-out nodesize fits in
      let h₀ = h.0 in
      ap (le_bytes 4) (image-count nodesize image items t whole fits e)
      ∙ le_bytes-le-at 4 (part 96 4 image) (length_part 4 96 image (omega arith)) (are_bytes-part 96 4 image t)

  level-own : 0 ∷ [] ≡ part 100 1 image
  unfolding level_in
  level-own =
      let h = nodesize-out nodesize fits in
      let h₀ = h.0 in
      sym (part-is 1 100 image (omega arith) ∙ ap (λ (b : ℕ). b ∷ []) level)

  headers-own : headers_bytes (nodesize - 101) items ≡ part 101 (25 * n) image
  headers-own =
      let h₁ = image-headers nodesize image items t whole fits e in
      let h₂ = area-length nodesize image whole in
      headers-read (25 * n) (drop 101 image) n (nodesize - 101) (drop 101 image) items (are_bytes-drop 101 image t) (omega arith) (omega arith) e

  gap-own : nodesize - space_of items ≡ begin - 25 * n
  gap-own =
      let h = nodesize-out nodesize fits in
      let h₀ = h.0 in
      omega (arith, space-of items, length-data_bytes items, image-sum, image-count nodesize image items t whole fits e)

  pub space-own : space_of items ≤ nodesize
  space-own =
      let h = nodesize-out nodesize fits in
      let h₀ = h.0 in
      omega (arith, space-of items, length-data_bytes items, image-sum, begin-low, image-count nodesize image items t whole fits e)

  data-own : data_bytes items ≡ drop (101 + begin) image
  data-own =
      let h = area-length nodesize image whole in
      let long : length (drop begin (drop 101 image)) ≤ nodesize - 101 - begin = simp length-drop (omega arith) in
      data-read (25 * n) (drop 101 image) n (nodesize - 101) (drop 101 image) items (omega arith) e
      ∙ take_all (nodesize - 101 - begin) (drop begin (drop 101 image)) long
      ∙ drop-drop begin 101 image

  -- bytes 32 to the end: the image's own, with the gap cleared
  pub summed-read : summed_bytes nodesize (take 101 image) items
      ≡ part 32 (69 + 25 * n) image ++ (replicate (begin - 25 * n) 0 ++ drop (101 + begin) image)
  unfolding summed_bytes
  summed-read =
      let rest : List ℕ = replicate (begin - 25 * n) 0 ++ drop (101 + begin) image in
      let a : List ℕ = part 32 64 image in
      let b : List ℕ = part 96 4 image in
      let c : List ℕ = part 100 1 image in
      let d : List ℕ = part 101 (25 * n) image in
      let five : 4 + (1 + 25 * n) ≡ 5 + 25 * n = omega arith in
      let all : 64 + (5 + 25 * n) ≡ 69 + 25 * n = omega arith in
      let joined : a ++ (b ++ (c ++ d)) ≡ part 32 (69 + 25 * n) image =
      ap (λ (l : List ℕ). a ++ (b ++ l)) (sym (part-add 1 (25 * n) 100 image))
      ∙ ap (λ (l : List ℕ). a ++ l) (sym (part-add 4 (1 + 25 * n) 96 image) ∙ ap (λ (k : ℕ). part 96 k image) five)
      ∙ sym (part-add 64 (5 + 25 * n) 32 image)
      ∙ ap (λ (k : ℕ). part 32 k image) all in
      (λ j. header-own j ++ (count-own j ++ (level-own j ++ (headers-own j ++ (replicate (gap-own j) 0 ++ data-own j)))))
      ∙ ap (λ (l : List ℕ). a ++ (b ++ l)) (sym (append_assoc c d rest))
      ∙ ap (λ (l : List ℕ). a ++ l) (sym (append_assoc b (c ++ d) rest))
      ∙ sym (append_assoc a (b ++ (c ++ d)) rest)
      ∙ ap (λ (l : List ℕ). l ++ rest) joined
