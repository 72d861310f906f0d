-- Leaf images written: how long they are, and that their items are read back. Assumes nothing.
use mathlib.Core.Path.{◌≡◌, refl, sym, ap, ap₂, ◌∙◌}
use mathlib.Core.List.{List, [], ◌∷◌, ◌++◌, append_assoc, append-nil}
use Prim.Native.Nat.{ℕ, suc, ◌+◌, ◌-◌, ◌*◌, ◌≤◌, ◌<◌}
use native.Mathlib.Omega.{arith}
use lib.Dec.{T}
use lib.ListN.{length, take, drop, get_or, replicate, length-append, length-replicate}
use lib.Seq.{take_at, drop_at, drop-drop, get_or-drop}
use mir.Facts.{and_yes}
use Rattle.fields.specs.Lists.{sum, all}
use Rattle.fields.specs.Numbers.{le, le_bytes}
use Rattle.fields.specs.Parts.{part}
use Rattle.fields.proofs.Numbers.{length-le_bytes, le-le_bytes, le_bytes-one}
use Rattle.fields.proofs.Parts.{length_part}
use Rattle.format.specs.declared.Key.{Key}
use Rattle.format.specs.Questions.{accepted}
use Rattle.format.specs.Items.{Item}
use Rattle.format.specs.Sheets.{item_space, space_of}
use Rattle.format.specs.LeafImage.{checksum, count_in, level_in, is_leaf, data_position, data_size_in, key_in, image_item, image_items, items_in_image, item_header_bytes, headers_bytes, data_bytes, summed_bytes, image_bytes}
use Rattle.format.proofs.Items.{sane, Sane, sane-out}
use Rattle.format.proofs.LeafImages.{leaf-in, run-cons, data_length}

-- ---- lengths

pub length-item_header_bytes : (key : Key) (position size : ℕ) → length (item_header_bytes key position size) ≡ 25
unfolding item_header_bytes
length-item_header_bytes key position size =
    let o : List ℕ = le_bytes 8 key.objectid in
    let k : List ℕ = le_bytes 1 key.kind in
    let f : List ℕ = le_bytes 8 key.offset in
    let p : List ℕ = le_bytes 4 position in
    let s : List ℕ = le_bytes 4 size in
    let h₁ = length-le_bytes 8 key.objectid in
    let h₂ = length-le_bytes 1 key.kind in
    let h₃ = length-le_bytes 8 key.offset in
    let h₄ = length-le_bytes 4 position in
    let h₅ = length-le_bytes 4 size in
    omega (
      arith,
      length-append o (k ++ (f ++ (p ++ s))),
      length-append k (f ++ (p ++ s)),
      length-append f (p ++ s),
      length-append p s,
    )

pub length-headers_bytes : (end : ℕ) (items : List Item) → length (headers_bytes end items) ≡ 25 * length items
unfolding headers_bytes
length-headers_bytes end [] = refl
length-headers_bytes end (i ∷ items) =
    let rest : ℕ = end - length i.bytes in
    omega (
      arith,
      length-append (item_header_bytes i.key rest (length i.bytes)) (headers_bytes rest items),
      length-item_header_bytes i.key rest (length i.bytes),
      length-headers_bytes rest items,
    )

pub length-data_bytes : (items : List Item) → length (data_bytes items) ≡ sum data_length items
unfolding data_bytes
length-data_bytes [] = refl
length-data_bytes (i ∷ items) = omega (arith, length-append (data_bytes items) i.bytes, length-data_bytes items)

sum-space : (items : List Item) → sum item_space items ≡ 25 * length items + sum data_length items
unfolding item_space
sum-space [] = refl
sum-space (i ∷ items) = omega (arith, sum-space items)

-- what they take in a leaf
pub space-of : (items : List Item) → space_of items ≡ 101 + 25 * length items + length (data_bytes items)
unfolding space_of
space-of items = omega (arith, sum-space items, length-data_bytes items)

-- headers, gap and data fill a leaf behind its header
pub length-behind : (nodesize : ℕ) (items : List Item) → space_of items ≤ nodesize
    → length (headers_bytes (nodesize - 101) items ++ (replicate (nodesize - space_of items) 0 ++ data_bytes items)) ≡ nodesize - 101
length-behind nodesize items fits =
    let b : List ℕ = headers_bytes (nodesize - 101) items in
    let r : List ℕ = replicate (nodesize - space_of items) 0 in
    omega (
      arith,
      length-append b (r ++ data_bytes items),
      length-append r (data_bytes items),
      length-headers_bytes (nodesize - 101) items,
      length-replicate {A = ℕ} (nodesize - space_of items) 0,
      space-of items,
    )

-- ---- one header read back

module _ (key : Key) (position size : ℕ) (more : List ℕ) where
  abbrev header : List ℕ
  header = item_header_bytes key position size ++ more

  header-parts : header
      ≡ le_bytes 8 key.objectid ++ (le_bytes 1 key.kind ++ (le_bytes 8 key.offset ++ (le_bytes 4 position ++ (le_bytes 4 size ++ more))))
  unfolding item_header_bytes
  header-parts =
      let o : List ℕ = le_bytes 8 key.objectid in
      let k : List ℕ = le_bytes 1 key.kind in
      let f : List ℕ = le_bytes 8 key.offset in
      let p : List ℕ = le_bytes 4 position in
      let s : List ℕ = le_bytes 4 size in
      append_assoc o (k ++ (f ++ (p ++ s))) more
      ∙ ap (λ (l : List ℕ). o ++ l) (append_assoc k (f ++ (p ++ s)) more)
      ∙ ap (λ (l : List ℕ). o ++ (k ++ l)) (append_assoc f (p ++ s) more)
      ∙ ap (λ (l : List ℕ). o ++ (k ++ (f ++ l))) (append_assoc p s more)

  from-8 : drop 8 header ≡ le_bytes 1 key.kind ++ (le_bytes 8 key.offset ++ (le_bytes 4 position ++ (le_bytes 4 size ++ more)))
  from-8 = ap (drop 8) header-parts ∙ drop_at (le_bytes 8 key.objectid) _ 8 (length-le_bytes 8 key.objectid)

  from-9 : drop 9 header ≡ le_bytes 8 key.offset ++ (le_bytes 4 position ++ (le_bytes 4 size ++ more))
  from-9 =
      sym (drop-drop 1 8 header) ∙ ap (drop 1) from-8
      ∙ drop_at (le_bytes 1 key.kind) _ 1 (length-le_bytes 1 key.kind)

  from-17 : drop 17 header ≡ le_bytes 4 position ++ (le_bytes 4 size ++ more)
  from-17 =
      sym (drop-drop 8 9 header) ∙ ap (drop 8) from-9
      ∙ drop_at (le_bytes 8 key.offset) _ 8 (length-le_bytes 8 key.offset)

  from-21 : drop 21 header ≡ le_bytes 4 size ++ more
  from-21 = sym (drop-drop 4 17 header) ∙ ap (drop 4) from-17 ∙ drop_at (le_bytes 4 position) _ 4 (length-le_bytes 4 position)

  pub from-25 : drop 25 header ≡ more
  from-25 = drop_at (item_header_bytes key position size) more 25 (length-item_header_bytes key position size)

  pub position-back : position < 4294967296 → data_position header ≡ position
  unfolding data_position
  position-back h =
      ap (λ (l : List ℕ). le (take 4 l)) from-17
      ∙ ap le (take_at (le_bytes 4 position) _ 4 (length-le_bytes 4 position))
      ∙ le-le_bytes 4 position h

  pub size_back : size < 4294967296 → data_size_in header ≡ size
  unfolding data_size_in
  size_back h =
      ap (λ (l : List ℕ). le (take 4 l)) from-21
      ∙ ap le (take_at (le_bytes 4 size) more 4 (length-le_bytes 4 size))
      ∙ le-le_bytes 4 size h

  pub key_back : key.objectid < 18446744073709551616 → key.kind < 256 → key.offset < 18446744073709551616 → key_in header ≡ key
  unfolding key_in
  key_back o< k< f< =
      let o : le (part 0 8 header) ≡ key.objectid =
      ap (λ (l : List ℕ). le (take 8 l)) header-parts
      ∙ ap le (take_at (le_bytes 8 key.objectid) _ 8 (length-le_bytes 8 key.objectid))
      ∙ le-le_bytes 8 key.objectid o< in
      let k : get_or header 8 0 ≡ key.kind =
      sym (get_or-drop 8 header 0 0) ∙ ap (λ (l : List ℕ). get_or l 0 0) from-8
      ∙ ap (λ (l : List ℕ). get_or (l ++ (le_bytes 8 key.offset ++ (le_bytes 4 position ++ (le_bytes 4 size ++ more)))) 0 0) (le_bytes-one key.kind k<) in
      let f : le (part 9 8 header) ≡ key.offset =
      ap (λ (l : List ℕ). le (take 8 l)) from-9
      ∙ ap le (take_at (le_bytes 8 key.offset) _ 8 (length-le_bytes 8 key.offset))
      ∙ le-le_bytes 8 key.offset f< in
      λ j. record { objectid = o j; kind = k j; offset = f j }

-- ---- a run of headers read back

item-is : (area headers : List ℕ) (i : Item) → key_in headers ≡ i.key → part (data_position headers) (data_size_in headers) area ≡ i.bytes
    → image_item area headers ≡ i
unfolding image_item
item-is area headers i q d = λ j. record { key = q j; bytes = d j }

-- the headers are those of the items, and their data stands behind `front`, up to `end`
pub run-back : (least : ℕ) (area : List ℕ) (items : List Item) (end : ℕ) (front behind more : List ℕ) → T (all sane items)
    → area ≡ front ++ (data_bytes items ++ behind)
    → length front + sum data_length items ≡ end
    → end ≤ 65535
    → least ≤ length front
    → image_items least area (length items) end (headers_bytes end items ++ more) ≡ accepted items
unfolding headers_bytes data_bytes image_items
run-back least area [] end front behind more t e sums small low = refl
run-back least area (i ∷ items) end front behind more t e sums small low =
    let k = and_yes (sane i) _ t in
    let s : Sane i = sane-out i k.0 in
    let at : ℕ = end - length i.bytes in
    let rest : List ℕ = headers_bytes at items ++ more in
    let headers : List ℕ = item_header_bytes i.key at (length i.bytes) ++ rest in
    let fit = s.bytes_fit in
    let p : data_position headers ≡ at = position-back i.key at (length i.bytes) rest (omega arith) in
    let z : data_size_in headers ≡ length i.bytes = size_back i.key at (length i.bytes) rest (omega arith) in
    let q : key_in headers ≡ i.key = key_back i.key at (length i.bytes) rest s.objectid_small s.kind_small s.offset_small in
    let split : area ≡ front ++ (data_bytes items ++ (i.bytes ++ behind)) =
    e ∙ ap (λ (l : List ℕ). front ++ l) (append_assoc (data_bytes items) i.bytes behind) in
    let before : length (front ++ data_bytes items) ≡ at = omega (arith, length-append front (data_bytes items), length-data_bytes items) in
    let there : drop at area ≡ i.bytes ++ behind =
    ap (drop at) (split ∙ sym (append_assoc front (data_bytes items) (i.bytes ++ behind)))
    ∙ drop_at (front ++ data_bytes items) (i.bytes ++ behind) at before in
    let d : part (data_position headers) (data_size_in headers) area ≡ i.bytes =
    ap₂ (λ (x y : ℕ). part x y area) p z ∙ ap (take (length i.bytes)) there ∙ take_at i.bytes behind (length i.bytes) refl in
    let ih : image_items least area (length items) at rest ≡ accepted items =
    run-back least area items at front (i.bytes ++ behind) more k.1 split (omega arith) (omega arith) low in
    let n : length front + sum data_length items ≡ at = omega arith in
    ap (image_items least area (suc (length items)) end) (append_assoc (item_header_bytes i.key at (length i.bytes)) (headers_bytes at items) more)
    ∙ run-cons least area (length items) end headers items (omega arith) (omega arith)
    (ap₂ (λ (x : ℕ) (l : List ℕ). image_items least area (length items) x l) p (from-25 i.key at (length i.bytes) rest) ∙ ih)
    ∙ ap (λ (x : Item). accepted (x ∷ items)) (item-is area headers i q d)

-- ---- an image read back

checksum-small : (bytes : List ℕ) → checksum bytes < 4294967296
unfolding checksum
checksum-small bytes = omega arith

module _ (nodesize : ℕ) (header : List ℕ) (items : List Item) (h : length header ≡ 101) where
  abbrev image : List ℕ
  image = image_bytes nodesize header items

  abbrev summed : List ℕ
  summed = summed_bytes nodesize header items

  -- what stands behind the leaf's header
  abbrev behind : List ℕ
  behind = headers_bytes (nodesize - 101) items ++ (replicate (nodesize - space_of items) 0 ++ data_bytes items)

  pub from-32 : drop 32 image ≡ summed
  unfolding image_bytes
  from-32 =
      let c : List ℕ = le_bytes 4 (checksum summed) in
      let z : List ℕ = replicate 28 0 in
      let n : length (c ++ z) ≡ 32 = omega (arith, length-append c z, length-le_bytes 4 (checksum summed)) in
      ap (drop 32) (sym (append_assoc c z summed)) ∙ drop_at (c ++ z) summed 32 n

  from-96 : drop 96 image ≡ le_bytes 4 (length items) ++ (0 ∷ behind)
  unfolding summed_bytes
  from-96 =
      sym (drop-drop 64 32 image) ∙ ap (drop 64) from-32
      ∙ drop_at (part 32 64 header) _ 64 (length_part 64 32 header (omega arith))

  from-100 : drop 100 image ≡ 0 ∷ behind
  from-100 = sym (drop-drop 4 96 image) ∙ ap (drop 4) from-96 ∙ drop_at (le_bytes 4 (length items)) (0 ∷ behind) 4 (length-le_bytes 4 (length items))

  pub from-101 : drop 101 image ≡ behind
  from-101 = sym (drop-drop 1 100 image) ∙ ap (drop 1) from-100

  level-back : level_in image ≡ 0
  unfolding level_in
  level-back = sym (get_or-drop 100 image 0 0) ∙ ap (λ (l : List ℕ). get_or l 0 0) from-100

  count-back : length items < 4294967296 → count_in image ≡ length items
  unfolding count_in
  count-back k =
      ap (λ (l : List ℕ). le (take 4 l)) from-96
      ∙ ap le (take_at (le_bytes 4 (length items)) _ 4 (length-le_bytes 4 (length items)))
      ∙ le-le_bytes 4 (length items) k

  checksum-back : le (part 0 4 image) ≡ checksum (drop 32 image)
  unfolding image_bytes
  checksum-back =
      ap le (take_at (le_bytes 4 (checksum summed)) _ 4 (length-le_bytes 4 (checksum summed)))
      ∙ le-le_bytes 4 (checksum summed) (checksum-small summed)
      ∙ ap checksum (sym from-32)

  module _ (fits : space_of items ≤ nodesize) where
    pub length-summed_bytes : length summed + 32 ≡ nodesize
    unfolding summed_bytes
    length-summed_bytes =
        let n₁ = space-of items in
        let n₂ = length_part 64 32 header (omega arith) in
        let n : List ℕ = le_bytes 4 (length items) in
        omega (
          arith,
          length-append (part 32 64 header) (n ++ (0 ∷ behind)),
          length-append n (0 ∷ behind),
          length-le_bytes 4 (length items),
          length-behind nodesize items fits,
        )

    pub length-image_bytes : length image ≡ nodesize
    unfolding image_bytes
    length-image_bytes =
        let c : List ℕ = le_bytes 4 (checksum summed) in
        let z : List ℕ = replicate 28 0 in
        omega (
          arith,
          length-append c (z ++ summed),
          length-append z summed,
          length-le_bytes 4 (checksum summed),
          length-replicate {A = ℕ} 28 0,
          length-summed_bytes,
        )

    -- question 23
    pub leaf-back : T (is_leaf nodesize image)
    leaf-back = leaf-in nodesize image (record { whole = length-image_bytes; level = level-back; sealed = checksum-back })

    -- question 24, and the items
    pub items_back : nodesize ≤ 65536 → T (all sane items) → items_in_image nodesize image ≡ accepted items
    items_back small t =
        let s = space-of items in
        let d = length-data_bytes items in
        let b : List ℕ = headers_bytes (nodesize - 101) items in
        let r : List ℕ = replicate (nodesize - space_of items) 0 in
        let n : count_in image ≡ length items = count-back (omega arith) in
        let e : behind ≡ b ++ r ++ (data_bytes items ++ []) =
        sym (append_assoc b r (data_bytes items)) ∙ ap (λ (l : List ℕ). b ++ r ++ l) (sym (append-nil (data_bytes items))) in
        let front : length (b ++ r) ≡ 25 * length items + (nodesize - space_of items) =
        omega (arith, length-append b r, length-headers_bytes (nodesize - 101) items, length-replicate {A = ℕ} (nodesize - space_of items) 0) in
        ap₂ (λ (k : ℕ) (l : List ℕ). image_items (25 * k) l k (nodesize - 101) l) n from-101
        ∙ run-back (25 * length items) behind items (nodesize - 101) (b ++ r) [] (r ++ data_bytes items) t e (omega arith) (omega arith) (omega arith)
