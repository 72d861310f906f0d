-- Laws of numbers as bytes, each over the width: decoding undoes encoding, encoding undoes decoding, lengths and bounds.
-- Assumes nothing.
use mathlib.Core.Path.{◌≡◌, refl, sym, ap, ap₂, ◌∙◌, subst}
use mathlib.Core.Bool.{true}
use mathlib.Core.List.{List, [], ◌∷◌, ◌++◌, append_assoc, reverse, reverse-cons, reverse-append, reverse-reverse}
use Prim.Native.Nat.{ℕ, zero, suc, ◌+◌, ◌*◌, ◌/◌, ◌%◌, ◌^◌, ◌≤◌, ◌<◌}
use native.Mathlib.Nat.{zero-add, suc-add, pow-zero, pow-suc, pow-succ', mul_assoc, div-one, div-div-eq-div-mul}
use Rattle.std.specs.Int.{Width, byte_at, byte_len, bytes_low_first, bytes_high_first, to_le_bytes, to_be_bytes}
use native.Mathlib.Omega.{arith}
use lib.Dec.{T, ltb, ltb→lt, lt→ltb}
use lib.ListN.{length, take, drop, get_or, length-append, length-drop, length-reverse, take-append-drop}
use lib.Seq.{take-add, take_at, drop_at, drop-drop, length-take-le}
use mir.Facts.{and_yes, yes_and}
use Rattle.fields.specs.Lists.{all}
use Rattle.fields.specs.Numbers.{le, le_bytes, be, be_bytes, words, word_bytes, are_bytes}
use Rattle.fields.specs.Parts.{part, written}
use Rattle.fields.proofs.Lists.{all_left, all_right, all_both}
use Rattle.fields.proofs.Parts.{length_part, part-add}

-- ---- bytes

-- from each element's range, which is how code knows a slice of u8
pub are_bytes-in : (l : List ℕ) → ((i : ℕ) → get_or l i 0 < 256) → T (are_bytes l)
are_bytes-in [] f = tt
are_bytes-in (b ∷ l) f = yes_and (ltb b 256) _ (lt→ltb b 256 (f 0)) (are_bytes-in l (λ i. f (suc i)))

pub are_bytes-take : (n : ℕ) (l : List ℕ) → T (are_bytes l) → T (are_bytes (take n l))
are_bytes-take n l t = all_left (λ b. ltb b 256) (take n l) (drop n l) (rw (take-append-drop n l) t)

pub are_bytes-drop : (n : ℕ) (l : List ℕ) → T (are_bytes l) → T (are_bytes (drop n l))
are_bytes-drop n l t = all_right (λ b. ltb b 256) (take n l) (drop n l) (rw (take-append-drop n l) t)

pub are_bytes-append : (a b : List ℕ) → T (are_bytes a) → T (are_bytes b) → T (are_bytes (a ++ b))
are_bytes-append a b s t = all_both (λ x. ltb x 256) a b s t

pub are_bytes-reverse : (l : List ℕ) → T (are_bytes l) → T (are_bytes (reverse l))
are_bytes-reverse [] t = tt
are_bytes-reverse (b ∷ l) t =
    let h = and_yes (ltb b 256) _ t in
    rw (reverse-cons b l) (are_bytes-append (reverse l) (b ∷ []) (are_bytes-reverse l h.1) (yes_and (ltb b 256) true h.0 tt))

pub are_bytes-part : (at n : ℕ) (l : List ℕ) → T (are_bytes l) → T (are_bytes (part at n l))
are_bytes-part at n l t = are_bytes-take n (drop at l) (are_bytes-drop at l t)

pub are_bytes-written : (at : ℕ) (new old : List ℕ) → T (are_bytes new) → T (are_bytes old) → T (are_bytes (written at new old))
are_bytes-written at new old s t =
    are_bytes-append (take at old ++ new) (drop (at + length new) old)
    (are_bytes-append (take at old) new (are_bytes-take at old t) s)
    (are_bytes-drop (at + length new) old t)

pub are_bytes-le_bytes : (width number : ℕ) → T (are_bytes (le_bytes width number))
unfolding le_bytes
are_bytes-le_bytes zero number = tt
are_bytes-le_bytes (suc width) number =
    yes_and (ltb (number % 256) 256) _ (lt→ltb (number % 256) 256 (omega arith)) (are_bytes-le_bytes width (number / 256))

pub are_bytes-be_bytes : (width number : ℕ) → T (are_bytes (be_bytes width number))
unfolding be_bytes
are_bytes-be_bytes width number = are_bytes-reverse (le_bytes width number) (are_bytes-le_bytes width number)

pub are_bytes-word_bytes : (list : List ℕ) → T (are_bytes (word_bytes list))
unfolding word_bytes
are_bytes-word_bytes [] = tt
are_bytes-word_bytes (word ∷ list) = are_bytes-append (le_bytes 8 word) (word_bytes list) (are_bytes-le_bytes 8 word) (are_bytes-word_bytes list)

-- ---- lengths and bounds

pub length-le_bytes : (width number : ℕ) → length (le_bytes width number) ≡ width
unfolding le_bytes
length-le_bytes zero number = refl
length-le_bytes (suc width) number = ap suc (length-le_bytes width (number / 256))

pub length-be_bytes : (width number : ℕ) → length (be_bytes width number) ≡ width
unfolding be_bytes
length-be_bytes width number = length-reverse (le_bytes width number) ∙ length-le_bytes width number

pub le-bound : (l : List ℕ) → T (are_bytes l) → le l < 256 ^ length l
unfolding le
le-bound [] t = rw pow-zero (omega arith)
le-bound (b ∷ l) t =
    let h = and_yes (ltb b 256) _ t in
    let k : b < 256 = ltb→lt b 256 h.0 in
    let i : le l < 256 ^ length l = le-bound l h.1 in
    rw pow-succ' (omega arith)

pub be-bound : (l : List ℕ) → T (are_bytes l) → be l < 256 ^ length l
unfolding be
be-bound l t =
    subst (λ (n : ℕ). le (reverse l) < 256 ^ n) (length-reverse l) (le-bound (reverse l) (are_bytes-reverse l t))

-- ---- one run of bytes after another

pub le-append : (a b : List ℕ) → le (a ++ b) ≡ le a + 256 ^ length a * le b
unfolding le
le-append [] b = omega arith
le-append (x ∷ a) b =
    let p : 256 ^ suc (length a) * le b ≡ 256 * (256 ^ length a * le b) =
    ap (λ (k : ℕ). k * le b) (pow-succ' 256 (length a)) ∙ mul_assoc 256 (256 ^ length a) (le b) in
    omega (arith, le-append a b)

-- the bytes of a number in two parts
pub le_bytes-join : (m n a b : ℕ) → a < 256 ^ m → le_bytes (m + n) (a + 256 ^ m * b) ≡ le_bytes m a ++ le_bytes n b
unfolding le_bytes
le_bytes-join zero n a b h =
    let e : a + 1 * b ≡ b = omega arith in
    rw (zero-add n, e)
le_bytes-join (suc m) n a b h =
    let h' : a < 256 * 256 ^ m = rw pow-succ' at h in
    let q : a / 256 < 256 ^ m = omega arith in
    let x : 256 ^ suc m * b ≡ 256 * (256 ^ m * b) = ap (λ (k : ℕ). k * b) (pow-succ' 256 m) ∙ mul_assoc 256 (256 ^ m) b in
    let low : (a + 256 ^ suc m * b) % 256 ≡ a % 256 = omega arith in
    let high : (a + 256 ^ suc m * b) / 256 ≡ a / 256 + 256 ^ m * b = omega arith in
    rw suc-add (rw (low, high, le_bytes-join m n (a / 256) b q))

-- ---- encoding and decoding

-- decode after encode
pub le-le_bytes : (width number : ℕ) → number < 256 ^ width → le (le_bytes width number) ≡ number
unfolding le le_bytes
le-le_bytes zero number h = omega arith
le-le_bytes (suc width) number h =
    let h' : number < 256 * 256 ^ width = rw pow-succ' at h in
    let q : number / 256 < 256 ^ width = omega arith in
    omega (arith, le-le_bytes width (number / 256) q)

pub be-be_bytes : (width number : ℕ) → number < 256 ^ width → be (be_bytes width number) ≡ number
unfolding be be_bytes
be-be_bytes width number h = ap le (reverse-reverse (le_bytes width number)) ∙ le-le_bytes width number h

-- encode after decode, at the list's length and at a width that is known to be that
pub le_bytes-le : (bytes : List ℕ) → T (are_bytes bytes) → le_bytes (length bytes) (le bytes) ≡ bytes
unfolding le le_bytes
le_bytes-le [] t = refl
le_bytes-le (b ∷ bytes) t =
    let h = and_yes (ltb b 256) _ t in
    let k : b < 256 = ltb→lt b 256 h.0 in
    let low : (b + 256 * le bytes) % 256 ≡ b = omega arith in
    let high : (b + 256 * le bytes) / 256 ≡ le bytes = omega arith in
    rw (low, high, le_bytes-le bytes h.1)

pub le_bytes-le-at : (width : ℕ) (bytes : List ℕ) → length bytes ≡ width → T (are_bytes bytes) → le_bytes width (le bytes) ≡ bytes
le_bytes-le-at width bytes e t = ap (λ (n : ℕ). le_bytes n (le bytes)) (sym e) ∙ le_bytes-le bytes t

pub be_bytes-be-at : (width : ℕ) (bytes : List ℕ) → length bytes ≡ width → T (are_bytes bytes) → be_bytes width (be bytes) ≡ bytes
unfolding be be_bytes
be_bytes-be-at width bytes e t =
    ap reverse (le_bytes-le-at width (reverse bytes) (length-reverse bytes ∙ e) (are_bytes-reverse bytes t)) ∙ reverse-reverse bytes

-- a byte
pub le_bytes-one : (n : ℕ) → n < 256 → le_bytes 1 n ≡ n ∷ []
unfolding le_bytes
le_bytes-one n h = let e : n % 256 ≡ n = omega arith in ap (λ (k : ℕ). k ∷ []) e

pub be_bytes-one : (n : ℕ) → n < 256 → be_bytes 1 n ≡ n ∷ []
unfolding be_bytes
be_bytes-one n h = ap reverse (le_bytes-one n h)

-- ---- the standard library's words for the same

byte_at-pow : (i number : ℕ) → byte_at i number ≡ number / 256 ^ i % 256
byte_at-pow zero number = ap (λ (n : ℕ). n % 256) (sym (div-one number))
byte_at-pow (suc i) number = refl

low_first : (width i number : ℕ) → bytes_low_first i width number ≡ le_bytes width (number / 256 ^ i)
unfolding le_bytes
low_first zero i number = refl
low_first (suc width) i number =
    let shift : number / 256 ^ suc i ≡ number / 256 ^ i / 256 =
    ap (λ (p : ℕ). number / p) (pow-suc 256 i) ∙ sym (div-div-eq-div-mul number (256 ^ i) 256) in
    ap₂ (λ (x : ℕ) (l : List ℕ). x ∷ l) (byte_at-pow i number) (low_first width (suc i) number ∙ ap (le_bytes width) shift)

pub to_le : (w : Width) (number : ℕ) → to_le_bytes w number ≡ le_bytes (byte_len w) number
to_le w number = low_first (byte_len w) 0 number ∙ ap (le_bytes (byte_len w)) (div-one number)

-- one byte more, the highest
le_bytes-last : (width number : ℕ) → le_bytes (suc width) number ≡ le_bytes width number ++ byte_at width number ∷ []
unfolding le_bytes
le_bytes-last zero number = refl
le_bytes-last (suc width) number =
    let shift : number / 256 / 256 ^ width ≡ number / 256 ^ suc width =
    div-div-eq-div-mul number 256 (256 ^ width) ∙ ap (λ (p : ℕ). number / p) (sym (pow-succ' 256 width)) in
    let byte : byte_at width (number / 256) ≡ byte_at (suc width) number =
    byte_at-pow width (number / 256) ∙ ap (λ (n : ℕ). n % 256) shift in
    ap (λ (l : List ℕ). number % 256 ∷ l)
    (le_bytes-last width (number / 256) ∙ ap (λ (x : ℕ). le_bytes width (number / 256) ++ x ∷ []) byte)

high_first : (width number : ℕ) → bytes_high_first width number ≡ be_bytes width number
unfolding be_bytes le_bytes
high_first zero number = refl
high_first (suc width) number =
    ap (λ (l : List ℕ). byte_at width number ∷ l) (high_first width number)
    ∙ sym (ap reverse (le_bytes-last width number) ∙ reverse-append (le_bytes width number) (byte_at width number ∷ []))

pub to_be : (w : Width) (number : ℕ) → to_be_bytes w number ≡ be_bytes (byte_len w) number
to_be w number = high_first (byte_len w) number

-- ---- a byte-swapped number

-- read lowest byte first and byte-swapped, it is the number read highest byte first
pub read_swapped : (width at low number : ℕ) (src : List ℕ) → at + width ≤ length src → ((i : ℕ) → get_or src i 0 < 256)
    → low ≡ le (part at width src)
    → number ≡ le (be_bytes width low)
    → number ≡ be (part at width src)
unfolding be be_bytes
read_swapped width at low number src h f read swapped =
    swapped ∙ ap (λ (n : ℕ). le (reverse (le_bytes width n))) read
    ∙ ap (λ (l : List ℕ). le (reverse l))
    (le_bytes-le-at width (part at width src) (length_part width at src h) (are_bytes-part at width src (are_bytes-in src f)))

-- ---- a number of twice a width, by its halves

pub le-halves : (m at : ℕ) (list : List ℕ) → at + m + m ≤ length list
    → le (part at (m + m) list) ≡ le (part at m list) + 256 ^ m * le (part (at + m) m list)
le-halves m at list h =
    let h' : at + m ≤ length list = omega arith in
    ap le (part-add m m at list) ∙ le-append (part at m list) (part (at + m) m list)
    ∙ ap (λ (k : ℕ). le (part at m list) + 256 ^ k * le (part (at + m) m list)) (length_part m at list h')

pub le_bytes-halves : (number : ℕ) → le_bytes 8 number ≡ le_bytes 4 (number % 4294967296) ++ le_bytes 4 (number / 4294967296)
le_bytes-halves number =
    let e : number ≡ number % 4294967296 + 4294967296 * (number / 4294967296) = omega arith in
    ap (le_bytes 8) e ∙ le_bytes-join 4 4 (number % 4294967296) (number / 4294967296) (omega arith)

pub be_bytes-halves : (number : ℕ) → be_bytes 8 number ≡ be_bytes 4 (number / 4294967296) ++ be_bytes 4 (number % 4294967296)
unfolding be_bytes
be_bytes-halves number =
    ap reverse (le_bytes-halves number) ∙ reverse-append (le_bytes 4 (number % 4294967296)) (le_bytes 4 (number / 4294967296))

pub swapped-halves : (number : ℕ)
    → le (be_bytes 8 number) ≡ le (be_bytes 4 (number / 4294967296)) + 4294967296 * le (be_bytes 4 (number % 4294967296))
swapped-halves number =
    let high : List ℕ = be_bytes 4 (number / 4294967296) in
    let low : List ℕ = be_bytes 4 (number % 4294967296) in
    ap le (be_bytes-halves number) ∙ le-append high low
    ∙ ap (λ (k : ℕ). le high + 256 ^ k * le low) (length-be_bytes 4 (number / 4294967296))

-- ---- words

pub length-words : (n : ℕ) (l : List ℕ) → length (words n l) ≡ n
unfolding words
length-words zero l = refl
length-words (suc n) l = ap suc (length-words n (drop 8 l))

pub length-word_bytes : (list : List ℕ) → length (word_bytes list) ≡ 8 * length list
unfolding word_bytes
length-word_bytes [] = refl
length-word_bytes (word ∷ list) =
    omega (arith, length-append (le_bytes 8 word) (word_bytes list), length-le_bytes 8 word, length-word_bytes list)

-- a word by its place
pub words-at : (n k : ℕ) (l : List ℕ) → k < n → get_or (words n l) k 0 ≡ le (part (8 * k) 8 l)
unfolding words
words-at zero k l h = absurd (omega arith)
words-at (suc n) zero l h = refl
words-at (suc n) (suc k) l h =
    let e : 8 + 8 * k ≡ 8 * suc k = omega arith in
    words-at n k (drop 8 l) (omega arith)
    ∙ ap (λ (m : List ℕ). le (take 8 m)) (drop-drop (8 * k) 8 l ∙ ap (λ (i : ℕ). drop i l) e)

-- decode after encode
pub words-word_bytes : (list more : List ℕ) → T (all (λ w. ltb w 18446744073709551616) list)
    → words (length list) (word_bytes list ++ more) ≡ list
unfolding words word_bytes
words-word_bytes [] more t = refl
words-word_bytes (word ∷ list) more t =
    let h = and_yes (ltb word 18446744073709551616) _ t in
    let rest : List ℕ = word_bytes list ++ more in
    let e : le_bytes 8 word ++ word_bytes list ++ more ≡ le_bytes 8 word ++ rest = append_assoc (le_bytes 8 word) (word_bytes list) more in
    let n : length (le_bytes 8 word) ≡ 8 = length-le_bytes 8 word in
    let first : le (take 8 (le_bytes 8 word ++ rest)) ≡ word =
    ap le (take_at (le_bytes 8 word) rest 8 n) ∙ le-le_bytes 8 word (ltb→lt word 18446744073709551616 h.0) in
    let others : words (length list) (drop 8 (le_bytes 8 word ++ rest)) ≡ list =
    ap (words (length list)) (drop_at (le_bytes 8 word) rest 8 n) ∙ words-word_bytes list more h.1 in
    ap (words (suc (length list))) e ∙ ap₂ (λ (x : ℕ) (l : List ℕ). x ∷ l) first others

-- encode after decode
pub word_bytes-words : (n : ℕ) (l : List ℕ) → 8 * n ≤ length l → T (are_bytes l) → word_bytes (words n l) ≡ take (8 * n) l
unfolding words word_bytes
word_bytes-words zero l h t = refl
word_bytes-words (suc n) l h t =
    let e : 8 * suc n ≡ 8 + 8 * n = omega arith in
    let h₈ : 8 ≤ length l = omega arith in
    let rest : 8 * n ≤ length (drop 8 l) = simp length-drop (omega arith) in
    ap₂ ◌++◌
    (le_bytes-le-at 8 (take 8 l) (length-take-le 8 l h₈) (are_bytes-take 8 l t))
    (word_bytes-words n (drop 8 l) rest (are_bytes-drop 8 l t))
    ∙ sym (take-add 8 (8 * n) l) ∙ ap (λ (k : ℕ). take k l) (sym e)

pub words-bound : (n : ℕ) (l : List ℕ) → 8 * n ≤ length l → T (are_bytes l) → T (all (λ w. ltb w 18446744073709551616) (words n l))
unfolding words
words-bound zero l h t = tt
words-bound (suc n) l h t =
    let h₈ : 8 ≤ length l = omega arith in
    let rest : 8 * n ≤ length (drop 8 l) = simp length-drop (omega arith) in
    let e : length (take 8 l) ≡ 8 = length-take-le 8 l h₈ in
    let b : le (take 8 l) < 256 ^ 8 = rw e at (le-bound (take 8 l) (are_bytes-take 8 l t)) in
    yes_and (ltb (le (take 8 l)) 18446744073709551616) _ (lt→ltb (le (take 8 l)) 18446744073709551616 b)
    (words-bound n (drop 8 l) rest (are_bytes-drop 8 l t))
