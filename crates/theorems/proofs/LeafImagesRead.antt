-- A read of a leaf image: it is accepted exactly if each question is answered yes, it depends on the headers and the data alone, and
-- what it gave is written back. Assumes nothing.
use mathlib.Core.Path.{◌≡◌, refl, sym, ap, ap₂, ◌∙◌, subst}
use mathlib.Core.Logic.{◌⊎◌, inl, inr}
use mathlib.Core.List.{List, ◌∷◌, ◌++◌}
use Prim.Native.Nat.{ℕ, zero, suc, ◌+◌, ◌-◌, ◌*◌, ◌≤◌, ◌<◌}
use native.Mathlib.Nat.{add-zero, add-suc, suc-add}
use native.Mathlib.Omega.{arith}
use lib.Dec.{T}
use lib.ListN.{take, drop, get_or, replicate}
use lib.Seq.{drop-drop, length-take-le}
use mir.Facts.{and_yes, yes_and}
use Rattle.fields.specs.Lists.{sum}
use Rattle.fields.specs.Numbers.{le, are_bytes}
use Rattle.fields.specs.Parts.{part}
use Rattle.fields.proofs.Lists.{lt-or}
use Rattle.fields.proofs.Parts.{part-drop, part_same}
use Rattle.format.specs.Questions.{Answer, accepted, ask, bind}
use Rattle.format.specs.Items.{Item, key_below, rising, read_sheet, sheet_bytes, nodesize_fits, held_sheet}
use Rattle.format.specs.LeafImage.{count_in, level_in, is_leaf, image_item, image_items, items_in_image, read_image, image_bytes, summed_bytes}
use Rattle.format.proofs.Answers.{ask-yes}
use Rattle.format.proofs.Items.{sane-fit, nodesize-out, nodesize-in}
use Rattle.format.proofs.LeafImages.{leaf-out, leaf-in, position-is, size_is, key-is, image_item-data, run-cons, first-header, no-headers, sum-sizes, image-few, image-count, image-sane, image-size, image-listed}
use Rattle.format.proofs.LeafImagesRead.{last_begin, run-same, image-sum, space-own, summed-read}
use Rattle.theorems.specs.LeafImages.{header_count, header_start, header_key, header_position, header_size, due_end, last_start, header_item, header_items, ReadsImage, ReadAccepted, ReadsAlike, gap_cleared, sealed_again, WritesBack}
use Rattle.theorems.proofs.Posting.{held-sheet-out, held-sheet-in, item_size, sheet-size, holds-out, holds-in}
use Rattle.theorems.proofs.LeafImages.{ImageRead, read_out, read-in, write-enough}

-- ---- headers by their index

module _ (image : List ℕ) (k : ℕ) where
  abbrev header : List ℕ
  header = drop (header_start k) image

  next-header : drop 25 header ≡ drop (header_start (suc k)) image
  next-header =
      let e : header_start k + 25 ≡ header_start (suc k) = omega arith in
      drop-drop 25 (header_start k) image ∙ ap (λ (n : ℕ). drop n image) e

  item-at : image_item (drop 101 image) header ≡ header_item image k
  unfolding image_item
  item-at =
      let b : (image_item (drop 101 image) header).bytes ≡ part (101 + header_position image k) (header_size image k) image =
      sym (image_item-data image header)
      ∙ ap₂ (λ (x y : ℕ). part (101 + x) y image) (sym (position-is image (header_start k))) (sym (size_is image (header_start k))) in
      λ j. record { key = sym (key-is image (header_start k)) j; bytes = b j }

module _ (nodesize : ℕ) (image : List ℕ) where
  abbrev run : ℕ → ℕ → ℕ → Answer (List Item)
  run least count k = image_items least (drop 101 image) count (due_end nodesize image k) (drop (header_start k) image)

  -- where the last item's data begins
  begin-at : (count k : ℕ) → last_begin count (due_end nodesize image k) (drop (header_start k) image) ≡ due_end nodesize image (k + count)
  begin-at zero k = ap (due_end nodesize image) (sym (add-zero k))
  begin-at (suc count) k =
      ap₂ (last_begin count) (sym (position-is image (header_start k))) (next-header image k)
      ∙ begin-at count (suc k)
      ∙ ap (due_end nodesize image) (suc-add k count ∙ sym (add-suc k count))

  -- ---- question 24 by index

  abbrev Ends : ℕ → Type 0
  Ends k = header_position image k + header_size image k ≡ due_end nodesize image k

  record Packed (least count k : ℕ) : Type 0 where
    ends : (m : ℕ) → k ≤ m → m < k + count → Ends m
    begins : (m : ℕ) → k ≤ m → m < k + count → least ≤ header_position image m

  here-or : (k m : ℕ) → k ≤ m → (k ≡ m) ⊎ (suc k ≤ m)
  here-or k m h = go (lt-or k m)
    where
      go : (k < m) ⊎ (m ≤ k) → (k ≡ m) ⊎ (suc k ≤ m)
      go (inl l) = inr (omega arith)
      go (inr g) = inl (omega arith)

  -- a fact of item k and of the later ones
  from-here : (P : ℕ → Type 0) (count k : ℕ) → P k → ((m : ℕ) → suc k ≤ m → m < suc k + count → P m) → (m : ℕ) → k ≤ m → m < k + suc count → P m
  from-here P count k one later m low high = go (here-or k m low)
    where
      go : (k ≡ m) ⊎ (suc k ≤ m) → P m
      go (inl e) = subst P e one
      go (inr l) = later m l (omega arith)

  run_only : (least count k : ℕ) (items : List Item) → run least count k ≡ accepted items
      → (header_items image k count ≡ items) × Packed least count k
  run_only least zero k items e = (
    no-headers least (drop 101 image) (due_end nodesize image k) (drop (header_start k) image) items e,
    record { ends = λ m low high. absurd (omega arith); begins = λ m low high. absurd (omega arith) },
  )
  run_only least (suc count) k items e =
      let f = first-header least (drop 101 image) count (due_end nodesize image k) (drop (header_start k) image) items e in
      let p = position-is image (header_start k) in
      let s = size_is image (header_start k) in
      let f₁ = f.ends in
      let f₂ = f.begins in
      let reads : run least count (suc k) ≡ accepted f.others =
      ap₂ (λ (x : ℕ) (l : List ℕ). image_items least (drop 101 image) count x l) p (sym (next-header image k)) ∙ f.reads in
      let ih = run_only least count (suc k) f.others reads in
      let P = ih.1 in
      let ends-here : Ends k = omega arith in
      let begins-here : least ≤ header_position image k = omega arith in (
        ap₂ (λ (i : Item) (l : List Item). i ∷ l) (sym (item-at image k)) ih.0 ∙ f.are,
        record {
          ends = from-here Ends count k ends-here P.ends;
          begins = from-here (λ m. least ≤ header_position image m) count k begins-here P.begins;
        },
      )

  run-enough : (least count k : ℕ) → Packed least count k → run least count k ≡ accepted (header_items image k count)
  unfolding image_items
  run-enough least zero k P = refl
  run-enough least (suc count) k P =
      let p = position-is image (header_start k) in
      let s = size_is image (header_start k) in
      let e : header_position image k + header_size image k ≡ due_end nodesize image k = P.ends k (omega arith) (omega arith) in
      let b : least ≤ header_position image k = P.begins k (omega arith) (omega arith) in
      let later : Packed least count (suc k) =
      record {
        ends = λ m low high. P.ends m (omega arith) (omega arith);
        begins = λ m low high. P.begins m (omega arith) (omega arith);
      } in
      let ih : run least count (suc k) ≡ accepted (header_items image (suc k) count) = run-enough least count (suc k) later in
      run-cons least (drop 101 image) count (due_end nodesize image k) (drop (header_start k) image) (header_items image (suc k) count)
      (omega arith) (omega arith)
      (ap₂ (λ (x : ℕ) (l : List ℕ). image_items least (drop 101 image) count x l) (sym p) (next-header image k) ∙ ih)
      ∙ ap (λ (i : Item). accepted (i ∷ header_items image (suc k) count)) (item-at image k)

-- ---- question 2 by index

module _ (image : List ℕ) where
  abbrev Below : ℕ → Type 0
  Below k = T (key_below (header_key image k) (header_key image (suc k)))

  rises-only : (count k : ℕ) → T (rising (header_items image k count)) → (m : ℕ) → k ≤ m → suc m < k + count → Below m
  rises-only zero k t m low high = absurd (omega arith)
  rises-only (suc zero) k t m low high = absurd (omega arith)
  rises-only (suc (suc count)) k t m low high =
      let h = and_yes (key_below (header_key image k) (header_key image (suc k))) _ t in
      go (lt-or k m) h.0 (λ l. rises-only (suc count) (suc k) h.1 m l (omega arith))
    where
      go : (k < m) ⊎ (m ≤ k) → Below k → (suc k ≤ m → Below m) → Below m
      go (inl l) one later = later (omega arith)
      go (inr g) one later = let e : k ≡ m = omega arith in subst Below e one

  rises-enough : (count k : ℕ) → ((m : ℕ) → k ≤ m → suc m < k + count → Below m) → T (rising (header_items image k count))
  rises-enough zero k f = tt
  rises-enough (suc zero) k f = tt
  rises-enough (suc (suc count)) k f =
      yes_and (key_below (header_key image k) (header_key image (suc k))) _ (f k (omega arith) (omega arith))
      (rises-enough (suc count) (suc k) (λ m low high. f m (omega arith) (omega arith)))

-- ---- a read is accepted exactly if

module _ (nodesize : ℕ) (image : List ℕ) (t : T (are_bytes image)) where
  abbrev count : ℕ
  count = header_count image

  abbrev listed : List Item
  listed = header_items image 0 count

  -- where the last item's data begins
  begin-is : last_begin (count_in image) (nodesize - 101) (drop 101 image) ≡ last_start nodesize image
  unfolding count_in
  begin-is =
      let e : 0 + count ≡ count = omega arith in
      begin-at nodesize image count 0 ∙ ap (due_end nodesize image) e

  listed-size : (items : List Item) → ImageRead nodesize image items
      → 1 + sum item_size items ≡ 1 + 21 * count + (nodesize - 101 - last_start nodesize image)
  unfolding count_in
  listed-size items r =
      let l = leaf-out nodesize image r.leaf in
      omega (
        arith,
        sum-sizes items,
        image-count nodesize image items t l.whole r.fits r.reads,
        image-sum nodesize image items t l.whole r.fits l.level r.reads,
        begin-is,
      )

  packed-items : (items : List Item) → items_in_image nodesize image ≡ accepted items
      → (listed ≡ items) × Packed nodesize image (25 * count) count 0
  unfolding count_in
  packed-items items e = run_only nodesize image (25 * count) count 0 items e

  items-packed : Packed nodesize image (25 * count) count 0 → items_in_image nodesize image ≡ accepted listed
  unfolding count_in
  items-packed P = run-enough nodesize image (25 * count) count 0 P

  level-is : level_in image ≡ get_or image 100 0
  unfolding level_in
  level-is = refl

  read_only : (room : ℕ) (sheet : List ℕ) → held_sheet room (read_image nodesize image) ≡ accepted sheet
      → ReadsImage nodesize image room × (sheet ≡ sheet_bytes listed)
  read_only room sheet e =
      let h = held-sheet-out room (read_image nodesize image) sheet e in
      let items : List Item = h.0 in
      let r : ImageRead nodesize image items = read_out nodesize image t items h.1 in
      let l = leaf-out nodesize image r.leaf in
      let n = nodesize-out nodesize r.fits in
      let p = packed-items items r.reads in
      let P = p.1 in
      let rises : T (rising listed) = subst (λ (l : List Item). T (rising l)) (sym p.0) r.rises in
      let size = listed-size items r in
      let roomy = (holds-out room items h.2).0 in (
        record {
          least = n.0;
          most = n.1;
          whole = l.whole;
          level = sym level-is ∙ l.level;
          sealed = l.sealed;
          ends = λ k below. P.ends k (omega arith) (omega arith);
          begins = λ k below. P.begins k (omega arith) (omega arith);
          rises = λ k below. rises-only image count 0 rises k (omega arith) (omega arith);
          roomy = omega arith;
        },
        sym h.3 ∙ ap sheet_bytes (sym p.0),
      )

  read-enough : (room : ℕ) (sheet : List ℕ) → ReadsImage nodesize image room → sheet ≡ sheet_bytes listed
      → held_sheet room (read_image nodesize image) ≡ accepted sheet
  read-enough room sheet q e =
      let fits : T (nodesize_fits nodesize) = nodesize-in nodesize q.least q.most in
      let P : Packed nodesize image (25 * count) count 0 =
      record { ends = λ m low high. q.ends m (omega arith); begins = λ m low high. q.begins m (omega arith) } in
      let r : ImageRead nodesize image listed =
      record {
        fits = fits;
        leaf = leaf-in nodesize image (record { whole = q.whole; level = level-is ∙ q.level; sealed = q.sealed });
        reads = items-packed P;
        rises = rises-enough image count 0 (λ m low high. q.rises m (omega arith));
      } in
      let roomy = q.roomy in
      let most = q.most in
      let size = listed-size listed r in
      let few = image-few nodesize image listed t q.whole fits r.reads in
      let within = image-size nodesize image listed t q.whole fits r.reads in
      let bytes = sheet-size listed in
      let holds = holds-in room listed (omega arith) (omega arith) (omega arith) (sane-fit listed (image-sane nodesize image listed t q.whole fits r.reads)) in
      held-sheet-in room (read_image nodesize image) listed (read-in nodesize image t listed r) holds ∙ ap (λ (l : List ℕ). accepted l) (sym e)

pub read-accepted : ReadAccepted
read-accepted nodesize image room sheet t =
    record { only = read_only nodesize image t room sheet; enough = λ q. read-enough nodesize image t room sheet q.0 q.1 }

-- ---- what an image's reading depends on

items_alike : (nodesize : ℕ) (image other : List ℕ)
    → part 96 (5 + 25 * header_count image) image ≡ part 96 (5 + 25 * header_count image) other
    → drop (101 + last_start nodesize image) image ≡ drop (101 + last_start nodesize image) other
    → items_in_image nodesize image ≡ items_in_image nodesize other
unfolding count_in
items_alike nodesize image other e d =
    let n : ℕ = header_count image in
    let same : n ≡ header_count other = ap le (part_same 0 4 (5 + 25 * n) (drop 96 image) (drop 96 other) (omega arith) e) in
    let headers : take (25 * n) (drop 101 image) ≡ take (25 * n) (drop 101 other) =
    sym (part-drop 96 5 (25 * n) image)
    ∙ part_same 5 (25 * n) (5 + 25 * n) (drop 96 image) (drop 96 other) (omega arith) e
    ∙ part-drop 96 5 (25 * n) other in
    let zero_more : 0 + n ≡ n = omega arith in
    let begin : last_begin n (nodesize - 101) (drop 101 image) ≡ last_start nodesize image =
    begin-at nodesize image n 0 ∙ ap (due_end nodesize image) zero_more in
    let from : (l : List ℕ) → drop (last_start nodesize image) (drop 101 l) ≡ drop (101 + last_start nodesize image) l =
    λ l. drop-drop (last_start nodesize image) 101 l in
    let standing : drop (last_begin n (nodesize - 101) (drop 101 image)) (drop 101 image) ≡ drop (last_begin n (nodesize - 101) (drop 101 image)) (drop 101 other) =
    ap (λ (k : ℕ). drop k (drop 101 image)) begin ∙ from image ∙ d ∙ sym (from other) ∙ ap (λ (k : ℕ). drop k (drop 101 other)) (sym begin) in
    run-same (25 * n) (drop 101 image) (drop 101 other) n (nodesize - 101) (drop 101 image) (drop 101 other) headers standing
    ∙ ap (λ (k : ℕ). image_items (25 * k) (drop 101 other) k (nodesize - 101) (drop 101 other)) same

pub reads-alike : ReadsAlike
unfolding read_image
reads-alike nodesize image other t u e d =
    let next : List Item → Answer (List Item) = λ items. read_sheet (sheet_bytes items) in
    ap (ask (nodesize_fits nodesize) 3)
    (ask-yes (is_leaf nodesize image) 23 _ t
    ∙ ap (λ (r : Answer (List Item)). bind r next) (items_alike nodesize image other e d)
    ∙ sym (ask-yes (is_leaf nodesize other) 23 _ u))

-- ---- read and written back

pub writes-back : WritesBack
unfolding image_bytes count_in
writes-back nodesize image sheet room enough t e h =
    let o = held-sheet-out room (read_image nodesize image) sheet e in
    let items : List Item = o.0 in
    let r : ImageRead nodesize image items = read_out nodesize image t items o.1 in
    let l = leaf-out nodesize image r.leaf in
    let n = nodesize-out nodesize r.fits in
    let n₀ = n.0 in
    let whole = l.whole in
    let reads : read_sheet sheet ≡ accepted items =
    ap read_sheet (sym o.3)
    ∙ image-listed nodesize image items t whole r.fits r.reads
    ∙ ask-yes (rising items) 2 (accepted items) r.rises in
    let begin = begin-is nodesize image t in
    let cleared : summed_bytes nodesize (take 101 image) items ≡ gap_cleared nodesize image =
    summed-read nodesize image items t whole r.fits l.level r.reads
    ∙ ap (λ (b : ℕ). part 32 (69 + 25 * header_count image) image ++ (replicate (b - 25 * header_count image) 0 ++ drop (101 + b) image)) begin in
    let is : image_bytes nodesize (take 101 image) items ≡ sealed_again (gap_cleared nodesize image) = ap sealed_again cleared in
    write-enough nodesize (take 101 image) sheet enough (sealed_again (gap_cleared nodesize image)) items
    (record {
      reads = reads;
      least = n.0;
      most = n.1;
      lent = length-take-le 101 image (omega arith);
      fits = space-own nodesize image items t whole r.fits l.level r.reads;
      roomy = h;
    })
    (sym is)
