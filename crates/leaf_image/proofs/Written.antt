-- What the writer of an image leaves: an item's header, the items one by one from both ends, and the whole image. Assumes nothing.
use mathlib.Core.Path.{◌≡◌, refl, sym, ap, ap₂, ◌∙◌}
use mathlib.Core.List.{List, [], ◌∷◌, ◌++◌, append_assoc, append-nil}
use Prim.Native.Nat.{ℕ, ◌+◌, ◌-◌, ◌*◌, ◌≤◌}
use native.Mathlib.Omega.{arith}
use lib.ListN.{length, replicate, length-append, length-replicate}
use Rattle.crc32c.specs.Register.{crc32c, all_ones, crc_run, inverted}
use Rattle.fields.specs.Numbers.{le_bytes}
use Rattle.fields.specs.Parts.{part, written}
use Rattle.fields.proofs.Numbers.{length-le_bytes}
use Rattle.fields.proofs.Parts.{stores, length_part, length-written, written_twice, written_apart, written-before, written-pair, part-written}
use Rattle.format.specs.declared.Key.{Key}
use Rattle.format.specs.Items.{Item}
use Rattle.format.specs.Sheets.{item_space, space_of}
use Rattle.format.specs.LeafImage.{checksum, item_header_bytes, headers_bytes, data_bytes, summed_bytes, image_bytes}
use Rattle.format.proofs.LeafImagesWritten.{length-item_header_bytes, length-headers_bytes, space-of, length-behind, length-summed_bytes}
use Rattle.item_list.specs.Steps.{item_at}
use Rattle.item_list.proofs.Steps.{data_is, data-long}
use Rattle.item_list.proofs.Spaces.{space-cons}
use Rattle.item_list.proofs.Walks.{More}
use Rattle.leaf_image.specs.Writing.{leaf_header_bytes, area_bytes}

-- ---- an item's header

-- its five fields
pub item-header-writes : (key : Key) (position size at : ℕ) (old one two three four five : List ℕ) → at + 25 ≤ length old
    → one ≡ written at (le_bytes 8 key.objectid) old
    → two ≡ written (at + 8) (le_bytes 1 key.kind) one
    → three ≡ written (at + 9) (le_bytes 8 key.offset) two
    → four ≡ written (at + 17) (le_bytes 4 position) three
    → five ≡ written (at + 21) (le_bytes 4 size) four
    → five ≡ written at (item_header_bytes key position size) old
unfolding item_header_bytes
item-header-writes key position size at old one two three four five room e₁ e₂ e₃ e₄ e₅ =
    let o : List ℕ = le_bytes 8 key.objectid in
    let k : List ℕ = le_bytes 1 key.kind in
    let f : List ℕ = le_bytes 8 key.offset in
    let p : List ℕ = le_bytes 4 position in
    let s : List ℕ = le_bytes 4 size in
    let lo = length-le_bytes 8 key.objectid in
    let lk = length-le_bytes 1 key.kind in
    let lf = length-le_bytes 8 key.offset in
    let lp = length-le_bytes 4 position in
    let ls = length-le_bytes 4 size in
    let l₂ : length (o ++ k) ≡ 9 = length-append o k ∙ omega (arith, lo, lk) in
    let l₃ : length ((o ++ k) ++ f) ≡ 17 = length-append (o ++ k) f ∙ omega (arith, l₂, lf) in
    let l₄ : length (((o ++ k) ++ f) ++ p) ≡ 21 = length-append ((o ++ k) ++ f) p ∙ omega (arith, l₃, lp) in
    let w₂ : two ≡ written at (o ++ k) old = written-pair at 8 1 o k old one two lo lk (omega arith) e₁ e₂ in
    let w₃ : three ≡ written at ((o ++ k) ++ f) old = written-pair at 9 8 (o ++ k) f old two three l₂ lf (omega arith) w₂ e₃ in
    let w₄ : four ≡ written at (((o ++ k) ++ f) ++ p) old = written-pair at 17 4 ((o ++ k) ++ f) p old three four l₃ lp (omega arith) w₃ e₄ in
    let w₅ : five ≡ written at ((((o ++ k) ++ f) ++ p) ++ s) old =
    written-pair at 21 4 (((o ++ k) ++ f) ++ p) s old four five l₄ ls (omega arith) w₄ e₅ in
    w₅ ∙ ap (λ (l : List ℕ). written at l old) (append_assoc ((o ++ k) ++ f) p s ∙ append_assoc (o ++ k) f (p ++ s) ∙ append_assoc o k (f ++ (p ++ s)))

-- ---- headers and data of items

item-space : (i : Item) → item_space i ≡ 25 + length i.bytes
unfolding item_space
item-space i = refl

-- in a leaf they are few
pub few-items : (nodesize count : ℕ) (items : List Item) → space_of items ≤ nodesize → count ≡ length items → nodesize ≤ 65536
    → (101 + 25 * count ≤ nodesize) × (nodesize ≤ 65536)
few-items nodesize count items fits e small = (omega (arith, space-of items, fits, e), small)

-- ---- the items one by one

-- headers of the items so far stand up to `at`, their data from `end` on; the rest has room in between
pub record Placing (nodesize : ℕ) (items : List Item) (old out : List ℕ) (at end : ℕ) (rest : List Item) : Type 0 where
  pub heads : List ℕ
  pub bodies : List ℕ
  pub out-is : out ≡ written end bodies (written 101 heads old)
  pub heads-end : 101 + length heads ≡ at
  pub bodies-end : end + length bodies ≡ nodesize
  pub heads-total : heads ++ headers_bytes (end - 101) rest ≡ headers_bytes (nodesize - 101) items
  pub bodies-total : data_bytes rest ++ bodies ≡ data_bytes items
  pub room : at + space_of rest ≤ end + 101
  pub long : length out ≡ length old

-- an item of `size` bytes in the list has room: its header at `at`, its data before `end`
pub record Turn (nodesize at end size : ℕ) : Type 0 where
  pub low : 21 ≤ size
  pub high : size ≤ 65556
  pub behind : 101 ≤ at
  pub apart : at + 25 + (size - 21) ≤ end
  pub inside : end ≤ nodesize

module _ (nodesize : ℕ) (items : List Item) (old : List ℕ) (fits : space_of items ≤ nodesize) (h : nodesize ≤ length old) where
  pub placing-none : Placing nodesize items old old 101 nodesize items
  placing-none =
      let space = space-of items in
      let low : 101 + 0 ≤ length old = omega arith in
      let high : nodesize + 0 ≤ length (written 101 [] old) = omega (arith, length-written 101 [] old low) in
      record {
        heads = [];
        bodies = [];
        out-is = stores [] old 101 low ∙ stores [] (written 101 [] old) nodesize high;
        heads-end = refl;
        bodies-end = omega arith;
        heads-total = refl;
        bodies-total = append-nil (data_bytes items);
        room = omega arith;
        long = refl;
      }

module _ (nodesize : ℕ) (items : List Item) (old out : List ℕ) (at end : ℕ) (rest : List Item) (k : Placing nodesize items old out at end rest) where
  -- the room that the next item has
  pub item_room : (i : Item) (others : List Item) → rest ≡ i ∷ others → at + 25 + length i.bytes + space_of others ≤ end + 101
  item_room i others e =
      let r = k.room in
      let s : space_of rest ≡ space_of (i ∷ others) = ap space_of e in
      omega (arith, r, s, space-cons i others, item-space i)

  module _ (i : Item) (others : List Item) (is : rest ≡ i ∷ others) (h : nodesize ≤ length old) (next : ℕ) (n : next + length i.bytes ≡ end) where
    abbrev pub head : List ℕ
    head = item_header_bytes i.key (next - 101) (length i.bytes)

    heads-long : length (k.heads ++ head) ≡ length k.heads + 25
    heads-long =
        length-append k.heads head ∙ ap (λ (m : ℕ). length k.heads + m) (length-item_header_bytes i.key (next - 101) (length i.bytes))

    heads-fit : 101 + length (k.heads ++ head) ≤ length old
    heads-fit = omega (arith, item_room i others is, heads-long, space-of others, k.heads-end, k.bodies-end, h)

    -- its header stands behind the others
    head-placed : (one : List ℕ) → one ≡ written at head out → one ≡ written end k.bodies (written 101 (k.heads ++ head) old)
    head-placed one e =
        let H : List ℕ = k.heads in
        let B : List ℕ = k.bodies in
        let X : List ℕ = written 101 H old in
        let r = item_room i others is in
        let he = k.heads-end in
        let be = k.bodies-end in
        let lh : length head ≡ 25 = length-item_header_bytes i.key (next - 101) (length i.bytes) in
        let so = space-of others in
        let apart : at + length head ≤ end = omega (arith, r, lh, so) in
        let low : 101 + length H ≤ length old = omega (arith, he, apart, be, h) in
        let high : end + length B ≤ length X = omega (arith, be, h, length-written 101 H old low) in
        let both : 101 + (length H + length head) ≤ length old = omega (arith, he, apart, be, h) in
        e ∙ ap (written at head) k.out-is ∙ written_apart at end head B X apart high
        ∙ ap (written end B) (ap (λ (m : ℕ). written m head X) (sym he) ∙ written_twice 101 H head old (length H) refl both)

    -- its data stands before the others'
    body-placed : (one two : List ℕ) → one ≡ written at head out → two ≡ written next i.bytes one
        → two ≡ written next (i.bytes ++ k.bodies) (written 101 (k.heads ++ head) old)
    body-placed one two e₁ e₂ =
        let b : List ℕ = i.bytes in
        let B : List ℕ = k.bodies in
        let Y : List ℕ = written 101 (k.heads ++ head) old in
        let high : next + (length b + length B) ≤ length Y = omega (arith, n, k.bodies-end, h, length-written 101 (k.heads ++ head) old heads-fit) in
        e₂ ∙ ap (written next b) (head-placed one e₁ ∙ ap (λ (m : ℕ). written m B Y) (sym n)) ∙ written-before next (length b) b B Y refl high

    pub placing-next : (one two : List ℕ) → one ≡ written at head out → two ≡ written next i.bytes one
        → Placing nodesize items old two (at + 25) next others
    unfolding headers_bytes data_bytes
    placing-next one two e₁ e₂ =
        let b : List ℕ = i.bytes in
        let be = k.bodies-end in
        let l_b : length (b ++ k.bodies) ≡ length b + length k.bodies = length-append b k.bodies in
        let same : end - 101 - length b ≡ next - 101 = omega arith in
        let heads : headers_bytes (end - 101) rest ≡ head ++ headers_bytes (next - 101) others =
        ap (headers_bytes (end - 101)) is
        ∙ ap (λ (p : ℕ). item_header_bytes i.key p (length b) ++ headers_bytes p others) same in
        let Y : List ℕ = written 101 (k.heads ++ head) old in
        let l_y : length Y ≡ length old = length-written 101 (k.heads ++ head) old heads-fit in
        let high : next + length (b ++ k.bodies) ≤ length Y = omega (arith, n, be, h, l_b, l_y) in
        record {
          heads = k.heads ++ head;
          bodies = b ++ k.bodies;
          out-is = body-placed one two e₁ e₂;
          heads-end = omega (arith, heads-long, k.heads-end);
          bodies-end = omega (arith, l_b, n, be);
          heads-total = append_assoc k.heads head (headers_bytes (next - 101) others) ∙ ap (λ (l : List ℕ). k.heads ++ l) (sym heads) ∙ k.heads-total;
          bodies-total = sym (append_assoc (data_bytes others) b k.bodies) ∙ ap (λ (l : List Item). data_bytes l ++ k.bodies) (sym is) ∙ k.bodies-total;
          room = omega (arith, item_room i others is, n);
          long = ap length (body-placed one two e₁ e₂) ∙ length-written next (b ++ k.bodies) Y high ∙ l_y;
        }

  -- an item at hand: its size, and the room that it has
  module _ (s : List ℕ) (from size : ℕ) (m : More s from (from + size) rest) (h : nodesize ≤ length old) where
    data-size : length (item_at s from).bytes ≡ size - 21
    data-size = let l = data-long s from (from + size) m.whole in omega (arith, l)

    pub turn : Turn nodesize at end size
    turn =
        let w = m.whole in
        let l = data-long s from (from + size) w in
        let r = item_room (item_at s from) m.others m.is in
        let o = space-of m.others in
        let be = k.bodies-end in
        let he = k.heads-end in
        record { low = omega (arith, l); high = omega (arith, w.size, w.high); behind = omega (arith, he); apart = omega (arith, l, r, o); inside = omega (arith, be) }

    -- its header and its data are written
    pub placed-next : (key : Key) (one two : List ℕ) → key ≡ (item_at s from).key
        → one ≡ written at (item_header_bytes key (end - (size - 21) - 101) (size - 21)) out
        → two ≡ written (end - (size - 21)) (part (from + 21) (from + size - (from + 21)) s) one
        → Placing nodesize items old two (at + 25) (end - (size - 21)) m.others
    placed-next key one two e e₁ e₂ =
        let i : Item = item_at s from in
        let next : ℕ = end - (size - 21) in
        let d = data-size in
        let t = turn in
        let n : next + length i.bytes ≡ end = omega (arith, d, t.apart) in
        placing-next i m.others m.is h next n one two
        (e₁ ∙ ap₂ (λ (x : Key) (z : ℕ). written at (item_header_bytes x (next - 101) z) out) e (sym d))
        (e₂ ∙ ap (λ (b : List ℕ). written next b one) (sym (data_is s from (from + size) m.whole)))

  -- all items are placed
  pub placing-all : rest ≡ [] → (end + length (data_bytes items) ≡ nodesize) × (out ≡ written end (data_bytes items) (written 101 (headers_bytes (nodesize - 101) items) old))
  unfolding headers_bytes data_bytes
  placing-all e =
      let heads : k.heads ≡ headers_bytes (nodesize - 101) items =
      sym (append-nil k.heads) ∙ ap (λ (l : List Item). k.heads ++ headers_bytes (end - 101) l) (sym e) ∙ k.heads-total in
      let bodies : k.bodies ≡ data_bytes items = ap (λ (l : List Item). data_bytes l ++ k.bodies) (sym e) ∙ k.bodies-total in
      let be = k.bodies-end in
      let lb = ap length bodies in
      (omega (arith, be, lb), k.out-is ∙ ap₂ (λ (b a : List ℕ). written end b (written 101 a old)) bodies heads)

-- ---- the parts of the image

pub leaf-header-writes : (header : List ℕ) (count : ℕ) (old one two three four : List ℕ) → length header ≡ 101 → 101 ≤ length old
    → one ≡ written 4 (replicate 28 0) old
    → two ≡ written 32 (part 32 64 header) one
    → three ≡ written 96 (le_bytes 4 count) two
    → four ≡ written 100 (0 ∷ []) three
    → four ≡ written 4 (leaf_header_bytes header count) old
unfolding leaf_header_bytes
leaf-header-writes header count old one two three four long room e₁ e₂ e₃ e₄ =
    let z : List ℕ = replicate 28 0 in
    let p : List ℕ = part 32 64 header in
    let c : List ℕ = le_bytes 4 count in
    let lz : length z ≡ 28 = length-replicate {A = ℕ} 28 0 in
    let lp : length p ≡ 64 = length_part 64 32 header (omega arith) in
    let lc : length c ≡ 4 = length-le_bytes 4 count in
    let l₂ : length (z ++ p) ≡ 92 = length-append z p ∙ omega (arith, lz, lp) in
    let l₃ : length ((z ++ p) ++ c) ≡ 96 = length-append (z ++ p) c ∙ omega (arith, l₂, lc) in
    let w₂ : two ≡ written 4 (z ++ p) old = written-pair 4 28 64 z p old one two lz lp (omega arith) e₁ e₂ in
    let w₃ : three ≡ written 4 ((z ++ p) ++ c) old = written-pair 4 92 4 (z ++ p) c old two three l₂ lc (omega arith) w₂ e₃ in
    let w₄ : four ≡ written 4 (((z ++ p) ++ c) ++ (0 ∷ [])) old =
    written-pair 4 96 1 ((z ++ p) ++ c) (0 ∷ []) old three four l₃ refl (omega arith) w₃ e₄ in
    w₄ ∙ ap (λ (l : List ℕ). written 4 l old) (append_assoc (z ++ p) c (0 ∷ []) ∙ append_assoc z p (c ++ (0 ∷ [])))

module _ (nodesize : ℕ) (items : List Item) (fits : space_of items ≤ nodesize) where
  abbrev zeros : List ℕ
  zeros = replicate (nodesize - space_of items) 0

  pub length-area : length (area_bytes nodesize items) ≡ nodesize - 101
  unfolding area_bytes
  length-area = length-behind nodesize items fits

  module _ (count begin : ℕ) (old two : List ℕ) (counts : count ≡ length items) (h : nodesize ≤ length old)
      (placed : (begin + length (data_bytes items) ≡ nodesize) × (two ≡ written begin (data_bytes items) (written 101 (headers_bytes (nodesize - 101) items) old))) where
    pub gap-before : 101 + 25 * count ≤ begin
    gap-before = let p = placed.0 in omega (arith, p, space-of items, fits, counts)

    pub area_writes : (three : List ℕ) → three ≡ written (101 + 25 * count) (replicate (begin - (101 + 25 * count)) 0) two
        → three ≡ written 101 (area_bytes nodesize items) old
    unfolding area_bytes
    area_writes three e =
        let heads : List ℕ = headers_bytes (nodesize - 101) items in
        let bodies : List ℕ = data_bytes items in
        let X : List ℕ = written 101 heads old in
        let gap : ℕ = 101 + 25 * count in
        let n : ℕ = nodesize - space_of items in
        let p = placed.0 in
        let s = space-of items in
        let lh : length heads ≡ 25 * count = length-headers_bytes (nodesize - 101) items ∙ ap (λ (k : ℕ). 25 * k) (sym counts) in
        let lz : length zeros ≡ n = length-replicate {A = ℕ} n 0 in
        let lb : length (zeros ++ bodies) ≡ length zeros + length bodies = length-append zeros bodies in
        let clear : begin - gap ≡ n = omega (arith, p, s, counts) in
        let starts : begin ≡ gap + n = omega (arith, p, s, counts, fits) in
        let low : 101 + length heads ≤ length old = omega (arith, lh, s, counts, fits, h) in
        let high : gap + (n + length bodies) ≤ length X = omega (arith, length-written 101 heads old low, starts, p, h) in
        let both : 101 + (25 * count + length (zeros ++ bodies)) ≤ length old = omega (arith, lb, lz, starts, p, h) in
        e ∙ ap₂ (λ (m : ℕ) (l : List ℕ). written gap (replicate m 0) l) clear (placed.1 ∙ ap (λ (m : ℕ). written m bodies X) starts)
        ∙ written-before gap n zeros bodies X lz high
        ∙ written_twice 101 heads (zeros ++ bodies) old (25 * count) lh both

-- ---- the image

length-leaf-header : (header : List ℕ) (count : ℕ) → length header ≡ 101 → length (leaf_header_bytes header count) ≡ 97
unfolding leaf_header_bytes
length-leaf-header header count long =
    let z : List ℕ = replicate 28 0 in
    let p : List ℕ = part 32 64 header in
    let c : List ℕ = le_bytes 4 count in
    omega (
      arith,
      length-append z (p ++ (c ++ (0 ∷ []))),
      length-append p (c ++ (0 ∷ [])),
      length-append c (0 ∷ []),
      length-replicate {A = ℕ} 28 0,
      length_part 64 32 header (omega arith),
      length-le_bytes 4 count,
    )

module _ (nodesize : ℕ) (header : List ℕ) (items : List Item) (long : length header ≡ 101) (fits : space_of items ≤ nodesize) where
  abbrev summed : List ℕ
  summed = summed_bytes nodesize header items

  parts : leaf_header_bytes header (length items) ++ area_bytes nodesize items ≡ replicate 28 0 ++ summed
  unfolding leaf_header_bytes area_bytes summed_bytes
  parts =
      let p : List ℕ = part 32 64 header in
      let c : List ℕ = le_bytes 4 (length items) in
      let area : List ℕ = area_bytes nodesize items in
      append_assoc (replicate 28 0) (p ++ (c ++ (0 ∷ []))) area
      ∙ ap (λ (l : List ℕ). replicate 28 0 ++ l)
      (append_assoc p (c ++ (0 ∷ [])) area ∙ ap (λ (l : List ℕ). p ++ l) (append_assoc c (0 ∷ []) area))

  module _ (count : ℕ) (old one two : List ℕ) (counts : count ≡ length items) (h : nodesize ≤ length old)
      (e₁ : one ≡ written 4 (leaf_header_bytes header count) old) (e₂ : two ≡ written 101 (area_bytes nodesize items) one) where
    placed : two ≡ written 4 (replicate 28 0 ++ summed) old
    placed =
        let lh : length (leaf_header_bytes header (length items)) ≡ 97 = length-leaf-header header (length items) long in
        let la : length (area_bytes nodesize items) ≡ nodesize - 101 = length-area nodesize items fits in
        let room : 4 + (97 + (nodesize - 101)) ≤ length old = omega (arith, h, fits, space-of items) in
        written-pair 4 97 (nodesize - 101) (leaf_header_bytes header (length items)) (area_bytes nodesize items) old one two lh la room
        (e₁ ∙ ap (λ (n : ℕ). written 4 (leaf_header_bytes header n) old) counts) e₂
        ∙ ap (λ (l : List ℕ). written 4 l old) parts

    -- what the register runs over
    pub summed-read : part 32 (nodesize - 32) two ≡ summed
    summed-read =
        let z : List ℕ = replicate 28 0 in
        let lz : length z ≡ 28 = length-replicate {A = ℕ} 28 0 in
        let ls = length-summed_bytes nodesize header items long fits in
        let room : 4 + (28 + length summed) ≤ length old = omega (arith, ls, h) in
        let low : 4 + length z ≤ length old = omega (arith, lz, room) in
        let X : List ℕ = written 4 z old in
        let inside : 32 ≤ length X = omega (arith, length-written 4 z old low, room) in
        let size : length summed ≡ nodesize - 32 = omega (arith, ls) in
        ap (part 32 (nodesize - 32)) (placed ∙ sym (written_twice 4 z summed old 28 lz room))
        ∙ part-written 32 (nodesize - 32) summed X size inside

    pub image-writes : (register finished : ℕ) (three : List ℕ) → register ≡ crc_run crc32c all_ones (part 32 (nodesize - 32) two)
        → finished ≡ inverted register
        → three ≡ written 0 (le_bytes 4 finished) two
        → three ≡ written 0 (image_bytes nodesize header items) old
    unfolding image_bytes checksum
    image-writes register finished three r f e =
        let check : List ℕ = le_bytes 4 (checksum summed) in
        let rest : List ℕ = replicate 28 0 ++ summed in
        let ran : finished ≡ checksum summed = f ∙ ap inverted (r ∙ ap (crc_run crc32c all_ones) summed-read) in
        let lr = length-append (replicate 28 0) summed in
        let room : 0 + (4 + length rest) ≤ length old = omega (arith, lr, length-replicate {A = ℕ} 28 0, length-summed_bytes nodesize header items long fits, h) in
        e ∙ ap₂ (λ (n : ℕ) (l : List ℕ). written 0 (le_bytes 4 n) l) ran placed
        ∙ written-before 0 4 check rest old (length-le_bytes 4 (checksum summed)) room
