-- An image read, by way out: from what code has tested to what is answered. Assumes nothing.
use mathlib.Core.Path.{◌≡◌, refl, sym, ap, ◌∙◌, subst}
use mathlib.Core.Bool.{Bool, true, false, ◌&&◌}
use mathlib.Core.List.{List, ◌∷◌}
use Prim.Native.Nat.{ℕ, zero, suc, ◌+◌, ◌-◌, ◌*◌, ◌≤◌, ◌<◌}
use native.Mathlib.Omega.{arith}
use lib.Dec.{T, leb, eqb}
use lib.ListN.{length, drop}
use borrow.Author.Tests.{le-leb}
use Rattle.std.specs.Prelude.{Result, Ok, Err}
use Rattle.fields.specs.Numbers.{are_bytes}
use Rattle.fields.specs.Parts.{written}
use Rattle.format.specs.declared.Edited.{Edited}
use Rattle.format.specs.declared.Edited.TheVariants.{Written}
use Rattle.format.specs.declared.Refusal.{Refusal}
use Rattle.format.specs.Questions.{Answer, refused, absent, remove, accepted, decides, ask, bind, result_or_code, denied, Answered}
use Rattle.format.specs.Items.{Item, rising, sheet_bytes, read_sheet, nodesize_fits, held_sheet}
use Rattle.format.specs.History.{items_in}
use Rattle.format.specs.LeafImage.{count_in, data_position, data_size_in, image_item, image_items, items_in_image, is_leaf, read_image}
use Rattle.format.proofs.Decisions.{decides-ask, decides-bind}
use Rattle.format.proofs.Items.{sane-fit, nodesize-out}
use Rattle.format.proofs.LeafImages.{leaf-out, image-sane, image-few, image-size, image-listed}
use Rattle.item_list.specs.ItemWrites.{held_bytes}
use Rattle.item_list.proofs.ItemWrites.{room-short, room-left, held-written, held-refused, answered-no, answered-by}
use Rattle.leaf_image.specs.declared.Packed.{Packed}
use Rattle.leaf_image.specs.Packing.{packing, packed, listed_in, IsPacked}

-- ---- questions 24 and 2, as an answer

-- the items, with question 2 put to them
abbrev sorted : Answer (List Item) → Answer (List Item)
sorted answer = bind answer (λ items. ask (rising items) 2 (accepted items))

abbrev told : Answer (List Item) → Result Packed Refusal
told answer = result_or_code denied (λ items. packing (length items) (length (sheet_bytes items))) answer

items-decide : (least count end : ℕ) (area headers : List ℕ) → T (decides (image_items least area count end headers))
unfolding image_items
items-decide least zero end area headers = tt
items-decide least (suc m) end area headers =
    decides-ask (eqb (data_position headers + data_size_in headers) end && leb least (data_position headers)) 24 tt _
    (decides-bind (image_items least area m (data_position headers) (drop 25 headers)) (λ items. accepted (image_item area headers ∷ items)) (items-decide least m (data_position headers) area (drop 25 headers)) (λ items. tt))

sorted-decides : (answer : Answer (List Item)) → T (decides answer) → T (decides (sorted answer))
sorted-decides answer t =
    decides-bind answer (λ items. ask (rising items) 2 (accepted items)) t (λ items. decides-ask (rising items) 2 tt (accepted items) tt)

-- a refusal told is the answer's
told-refused : (answer : Answer (List Item)) (e : Refusal) → T (decides answer) → told answer ≡ Err e → answer ≡ refused e.number
told-refused (refused n) e t h = let p : record { number = n } ≡ e = cc in ap (λ (r : Refusal). refused r.number) p
told-refused absent e t h = absurd t
told-refused remove e t h = absurd t
told-refused (accepted items) e t h = let z : ◌≡◌ {A = ℕ} 0 1 = cc in absurd (omega arith)

-- so are count and size
record Listed (answer : Answer (List Item)) (p : Packed) : Type 0 where
  reads : answer ≡ accepted (items_in answer)
  sorts : sorted answer ≡ accepted (items_in answer)
  count-is : p.count ≡ length (items_in answer)
  size_is : p.size ≡ length (sheet_bytes (items_in answer))

told-listed : (answer : Answer (List Item)) (p : Packed) → told (sorted answer) ≡ Ok p → Listed answer p
unfolding ask bind items_in
told-listed (refused n) p e = let z : ◌≡◌ {A = ℕ} 0 1 = cc in absurd (omega arith)
told-listed absent p e = let z : ◌≡◌ {A = ℕ} 0 1 = cc in absurd (omega arith)
told-listed remove p e = let z : ◌≡◌ {A = ℕ} 0 1 = cc in absurd (omega arith)
told-listed (accepted items) p e =
    let h = go (rising items) e in
    record { reads = refl; sorts = h.0; count-is = h.1; size_is = h.2 }
  where
    go : (b : Bool) → told (ask b 2 (accepted items)) ≡ Ok p
        → (ask b 2 (accepted items) ≡ accepted items) × (p.count ≡ length items) × (p.size ≡ length (sheet_bytes items))
    go true f =
        let q : record { count = length items; size = length (sheet_bytes items) } ≡ p = cc in
        (refl, ap (λ (k : Packed). k.count) (sym q), ap (λ (k : Packed). k.size) (sym q))
    go false f = let z : ◌≡◌ {A = ℕ} 0 1 = cc in absurd (omega arith)

-- question 1 does not refuse
sorted-read : (answer : Answer (List Item)) → ((items : List Item) → answer ≡ accepted items → read_sheet (sheet_bytes items) ≡ ask (rising items) 2 (accepted items))
    → bind answer (λ items. read_sheet (sheet_bytes items)) ≡ sorted answer
unfolding bind
sorted-read (refused n) h = refl
sorted-read absent h = refl
sorted-read remove h = refl
sorted-read (accepted items) h = h items refl

-- ---- the answer

module _ (nodesize : ℕ) (image old : List ℕ) where
  pub read-node : nodesize_fits nodesize ≡ false → Answered (held_sheet (length old) (read_image nodesize image)) (denied 3) old old
  unfolding read_image ask
  read-node f = answered-no (read_image nodesize image) (length old) 3 old (rw f)

  module _ (fits : nodesize_fits nodesize ≡ true) where
    pub read-leaf : is_leaf nodesize image ≡ false → Answered (held_sheet (length old) (read_image nodesize image)) (denied 23) old old
    unfolding read_image ask
    read-leaf l = answered-no (read_image nodesize image) (length old) 23 old (rw (fits, l))

    module _ (leaf : is_leaf nodesize image ≡ true) where
      long : length image ≡ nodesize
      long = (leaf-out nodesize image (subst T (sym leaf) tt)).whole

      pub image-bounds : (501 ≤ length image) × (length image ≤ 65536)
      image-bounds = let h = nodesize-out nodesize (subst T (sym fits) tt) in (omega (arith, h.0, long), omega (arith, h.1, long))

      abbrev answer : Answer (List Item)
      answer = items_in_image (length image) image

      told_is : packed image ≡ told (sorted answer)
      unfolding packed
      told_is = refl

      module _ (bytes : T (are_bytes image)) where
        fit : T (nodesize_fits (length image))
        fit = subst (λ (n : ℕ). T (nodesize_fits n)) (sym long) (subst T (sym fits) tt)

        reads : read_image nodesize image ≡ sorted answer
        unfolding read_image ask
        reads =
            rw (fits, leaf) (ap (λ (n : ℕ). bind (items_in_image n image) (λ items. read_sheet (sheet_bytes items))) (sym long))
            ∙ sorted-read answer (λ items e. image-listed (length image) image items bytes refl fit e)

        pub read-refused : (e : Refusal) → packed image ≡ Err e → Answered (held_sheet (length old) (read_image nodesize image)) (Err e) old old
        read-refused e h =
            answered-no (read_image nodesize image) (length old) e.number old
            (reads
            ∙ told-refused (sorted answer) e (sorted-decides answer (items-decide (25 * count_in image) (count_in image) (length image - 101) (drop 101 image) (drop 101 image)))
            (sym told_is ∙ h))

        module _ (p : Packed) (e : packed image ≡ Ok p) where
          listed : Listed answer p
          listed = told-listed answer p (sym told_is ∙ e)

          pub is-packed : IsPacked image
          is-packed = record { reads = listed.reads }

          pub packed-count-is : p.count ≡ length (listed_in image)
          packed-count-is = listed.count-is

          pub packed-size-is : p.size ≡ length (sheet_bytes (listed_in image))
          packed-size-is = listed.size_is

          -- from question 21 of the bytes to that of the items
          by_bytes : (r : Result Edited Refusal) (new : List ℕ) → Answered (held_bytes (length old) p.count (sheet_bytes (listed_in image))) r old new
              → Answered (held_sheet (length old) (read_image nodesize image)) r old new
          by_bytes r new w =
              answered-by (read_image nodesize image) (length old) p.count (listed_in image) (sheet_bytes (listed_in image)) r old new (reads ∙ listed.sorts) refl
              (sym listed.count-is) (sane-fit (listed_in image) (image-sane (length image) image (listed_in image) bytes refl fit listed.reads)) w

          pub read-full : length old < p.size → Answered (held_sheet (length old) (read_image nodesize image)) (denied 21) old old
          read-full h =
              by_bytes (denied 21) old
              (held-refused (length old) p.count p.size (sheet_bytes (listed_in image)) old old (sym listed.size_is) (room-short (length old) p.size p.count h))

          pub read-written : (new : List ℕ) → p.size ≤ length old → new ≡ written 0 (sheet_bytes (listed_in image)) old
              → Answered (held_sheet (length old) (read_image nodesize image)) (Ok (Written p.size)) old new
          read-written new h w =
              let few : p.count ≤ 4096 = omega (arith, listed.count-is, image-few (length image) image (listed_in image) bytes refl fit listed.reads) in
              let small : p.size ≤ 262144 =
              omega (arith, listed.size_is, image-bounds.1, image-size (length image) image (listed_in image) bytes refl fit listed.reads) in
              by_bytes (Ok (Written p.size)) new
              (held-written (length old) p.count p.size (sheet_bytes (listed_in image)) old new (sym listed.size_is)
              (sym (room-left (length old) p.size p.count h small) ∙ le-leb p.count 4096 few) w)
