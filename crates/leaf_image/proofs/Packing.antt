-- Questions 24 and 2 of an image, header by header, on plain values. Assumes nothing.
use mathlib.Core.Path.{◌≡◌, refl, sym, ap, ◌∙◌}
use mathlib.Core.Bool.{Bool, true, false, ◌&&◌, cond}
use mathlib.Core.List.{List, [], ◌∷◌}
use mathlib.Core.Logic.{◌⊎◌, inl, inr}
use Prim.Native.Nat.{ℕ, suc, ◌+◌, ◌-◌, ◌*◌, ◌≤◌, ◌<◌}
use native.Mathlib.Numerals.{add-one}
use native.Mathlib.Omega.{arith}
use lib.Dec.{leb}
use lib.ListN.{length, drop, length-drop}
use lib.Seq.{drop-drop}
use borrow.Author.Tests.{le-leb, lt-leb}
use Rattle.std.specs.Prelude.{Result}
use Rattle.fields.specs.Numbers.{le}
use Rattle.fields.specs.Parts.{part}
use Rattle.fields.proofs.Lists.{and-true, lt-or}
use Rattle.format.specs.declared.Key.{Key}
use Rattle.format.specs.declared.Refusal.{Refusal}
use Rattle.format.specs.Questions.{Answer, refused, absent, remove, accepted, ask, bind, result_or_code, denied}
use Rattle.format.specs.Items.{Item, rising, items_bytes, sheet_bytes}
use Rattle.format.specs.LeafImage.{count_in, data_position, data_size_in, key_in, image_item, image_items, items_in_image}
use Rattle.format.proofs.Items.{length-items_bytes, length-sheet_bytes}
use Rattle.format.proofs.LeafImages.{image_item-key, image_item-long, run-next, run-refused, headers-outside}
use Rattle.item_list.specs.Steps.{following}
use Rattle.item_list.specs.Seeks.{rising_behind}
use Rattle.item_list.proofs.Reading.{behind-nil, behind-cons, and_assoc}
use Rattle.leaf_image.specs.declared.Packed.{Packed}
use Rattle.leaf_image.specs.Packing.{packing, packed}

-- ---- one header more

-- what both questions are answered with where `n` headers were seen, whose data takes `used` bytes, the last one's key and whether
-- keys rose so far, and the items behind them read as given
unfoldable pub packed_behind : ℕ → ℕ → Bool → Key → Answer (List Item) → Result Packed Refusal
packed_behind n used ordered last answer =
    result_or_code denied (λ items. cond (ordered && rising_behind n last items) (packing (n + length items) (1 + (21 * n + used + length (items_bytes items)))) (denied 2)) answer

packed-cons : (n used : ℕ) (o : Bool) (last : Key) (i : Item) (answer : Answer (List Item))
    → packed_behind n used o last (bind answer (λ items. accepted (i ∷ items)))
    ≡ packed_behind (n + 1) (used + length i.bytes) (o && following n last i.key) i.key answer
unfolding packed_behind bind
packed-cons n used o last i (refused k) = refl
packed-cons n used o last i absent = refl
packed-cons n used o last i remove = refl
packed-cons n used o last i (accepted items) =
    let e : n + suc (length items) ≡ suc n + length items = omega arith in
    let l : 21 * n + used + length (items_bytes (i ∷ items)) ≡ 21 * suc n + (used + length i.bytes) + length (items_bytes items) =
    omega (arith, length-items_bytes (i ∷ items), length-items_bytes items) in
    rw (add-one n, behind-cons n last i items, and_assoc o (following n last i.key) (rising_behind (suc n) i.key items), e, l)

packed_none : (n used : ℕ) (o : Bool) (last : Key) → packed_behind n used o last (accepted []) ≡ cond o (packing n (1 + 21 * n + used)) (denied 2)
unfolding packed_behind items_bytes
packed_none n used o last =
    let e : n + 0 ≡ n = omega arith in
    let l : 1 + (21 * n + used + 0) ≡ 1 + 21 * n + used = omega arith in
    rw (behind-nil n last, and-true o, e, l)

packed_all : (used : ℕ) (last : Key) (answer : Answer (List Item)) → used ≡ 0
    → result_or_code denied (λ items. packing (length items) (length (sheet_bytes items))) (bind answer (λ items. ask (rising items) 2 (accepted items)))
    ≡ packed_behind 0 used true last answer
unfolding packed_behind bind ask
packed_all used last (refused k) z = refl
packed_all used last absent z = refl
packed_all used last remove z = refl
packed_all used last (accepted items) z = go (rising items)
  where
    go : (b : Bool) → result_or_code denied (λ (l : List Item). packing (length l) (length (sheet_bytes l))) (ask b 2 (accepted items))
        ≡ cond b (packing (0 + length items) (1 + (21 * 0 + used + length (items_bytes items)))) (denied 2)
    go true =
        let e : 0 + length items ≡ length items = omega arith in
        let l : 1 + (21 * 0 + used + length (items_bytes items)) ≡ length (sheet_bytes items) = omega (arith, length-sheet_bytes items) in
        rw (e, l)
    go false = refl

-- ---- the headers from a position on

-- the count, as code reads it
pub count-is : (image : List ℕ) → le (part 96 4 image) ≡ count_in image
unfolding count_in
count-is image = refl

module _ (image : List ℕ) where
  abbrev least : ℕ
  least = 25 * count_in image

  abbrev area : List ℕ
  area = drop 101 image

  -- what both questions are answered with where `n` headers were seen, the last one's data begins at `end`, and `at` is the next one
  abbrev pub behind : ℕ → ℕ → Bool → Key → ℕ → Result Packed Refusal
  behind n end o last at =
      cond (leb least end) (packed_behind n (length image - 101 - end) o last (image_items least area (count_in image - n) end (drop at image))) (denied 24)

  module _ (n end : ℕ) (o : Bool) (last : Key) (at : ℕ) where
    pub behind-low : end < 25 * count_in image → behind n end o last at ≡ denied 24
    behind-low h = rw (lt-leb least end h)

    behind-refused : image_items least area (count_in image - n) end (drop at image) ≡ refused 24 → behind n end o last at ≡ denied 24
    unfolding packed_behind
    behind-refused e = rw e (go (leb least end))
      where
        go : (b : Bool) → cond b (denied {A = Packed} 24) (denied 24) ≡ denied 24
        go true = refl
        go false = refl

    pub behind-end : (count : ℕ) → count ≡ count_in image → count ≤ n → n ≤ count → 25 * count ≤ end
        → behind n end o last at ≡ cond o (packing count (1 + 21 * count + (length image - 101 - end))) (denied 2)
    unfolding image_items
    behind-end count is a b h =
        let same : n ≡ count = omega arith in
        let z : count_in image - n ≡ 0 = omega arith in
        let low : least ≤ end = omega arith in
        rw (le-leb least end low, z) (packed_none n (length image - 101 - end) o last)
        ∙ ap (λ (k : ℕ). cond o (packing k (1 + 21 * k + (length image - 101 - end))) (denied 2)) same

    module _ (more : n < count_in image) where
      some : count_in image - n ≡ suc (count_in image - (n + 1))
      some = omega arith

      reads : (r : Answer (List Item)) → image_items least area (suc (count_in image - (n + 1))) end (drop at image) ≡ r
          → image_items least area (count_in image - n) end (drop at image) ≡ r
      reads r e = ap (λ (k : ℕ). image_items least area k end (drop at image)) some ∙ e

      pub behind-apart : (data_position (drop at image) + data_size_in (drop at image) ≡ end → ⊥) → behind n end o last at ≡ denied 24
      behind-apart h = behind-refused (reads (refused 24) (run-refused least area (count_in image - (n + 1)) end (drop at image) (λ e l. h e)))

      -- the header at hand: where its data begins, how long it is, its key, and whether keys still rise
      module _ (position size : ℕ) (key : Key) (o₁ : Bool) (begins : position ≡ data_position (drop at image)) (long : size ≡ data_size_in (drop at image))
          (k : key ≡ key_in (drop at image)) (p : o₁ ≡ (o && following n last key)) (ends : position + size ≡ end) (inside : end ≤ length image - 101) where
        pub behind-next : behind n end o last at ≡ behind (n + 1) position o₁ key (at + 25)
        behind-next = go (lt-or position (25 * count_in image))
          where
            go : (position < 25 * count_in image) ⊎ (25 * count_in image ≤ position) → behind n end o last at ≡ behind (n + 1) position o₁ key (at + 25)
            go (inl low) =
                behind-refused (reads (refused 24) (run-refused least area (count_in image - (n + 1)) end (drop at image) (λ e l. omega (arith, low, begins, l))))
                ∙ sym (rw (lt-leb least position low))
            go (inr high) =
                let i : Item = image_item area (drop at image) in
                let whole : data_position (drop at image) + data_size_in (drop at image) ≤ length area = simp length-drop (omega (arith, begins, long, ends, inside)) in
                let fills : length i.bytes ≡ size = image_item-long area (drop at image) whole ∙ sym long in
                let used : length image - 101 - end + size ≡ length image - 101 - position = omega (arith, ends, inside) in
                let same : i.key ≡ key = image_item-key area (drop at image) ∙ sym k in
                let rest : Answer (List Item) = image_items least area (count_in image - (n + 1)) position (drop (at + 25) image) in
                let e : image_items least area (count_in image - n) end (drop at image) ≡ bind rest (λ items. accepted (i ∷ items)) =
                reads (bind (image_items least area (count_in image - (n + 1)) (data_position (drop at image)) (drop 25 (drop at image))) (λ items. accepted (i ∷ items)))
                (run-next least area (count_in image - (n + 1)) end (drop at image) (omega (arith, begins, long, ends)) (omega (arith, begins, high)))
                ∙ rw (← begins, drop-drop 25 at image) in
                let step : packed_behind n (length image - 101 - end) o last (bind rest (λ items. accepted (i ∷ items))) ≡ packed_behind (n + 1) (length image - 101 - position) o₁ key rest =
                packed-cons n (length image - 101 - end) o last i rest ∙ rw (fills, same, used, ← p) in
                rw (le-leb least end (omega (arith, high, ends)), le-leb least position high) (ap (packed_behind n (length image - 101 - end) o last) e ∙ step)

  -- ---- from the first header on

  pub behind-first : (last : Key) → 101 + 25 * count_in image ≤ length image → packed image ≡ behind 0 (length image - 101) true last 101
  unfolding packed
  behind-first last h =
      let z : length image - 101 - (length image - 101) ≡ 0 = omega arith in
      let low : least ≤ length image - 101 = omega arith in
      let c : count_in image - 0 ≡ count_in image = omega arith in
      rw (le-leb least (length image - 101) low, c) (packed_all (length image - 101 - (length image - 101)) last (items_in_image (length image) image) z)

  -- more headers than the image holds: the first one's data would have to begin behind them all
  pub packed-over : length image - 101 < 25 * count_in image → packed image ≡ denied 24
  unfolding packed bind
  packed-over h = rw (headers-outside least area (count_in image) (length image - 101) area (omega arith) h)
