-- Laws of numbers in decimal and of lines. Assumes nothing.
use mathlib.Core.Path.{◌≡◌, refl, sym, ap, ◌∙◌}
use mathlib.Core.Bool.{cond}
use mathlib.Core.List.{List, [], ◌∷◌, ◌++◌, append_assoc, append-nil}
use Prim.Native.Nat.{ℕ, zero, suc, ◌+◌, ◌-◌, ◌*◌, ◌/◌, ◌%◌, ◌^◌, ◌≤◌, ◌<◌}
use native.Mathlib.Omega.{arith}
use lib.Dec.{ltb}
use lib.ListN.{length, length-append}
use native.Mathlib.Nat.{pow-succ'}
use borrow.Author.Tests.{lt-ltb, le-ltb}
use Rattle.fields.proofs.Lists.{by-test}
use Rattle.std.specs.Char.{digit_char}
use Rattle.text.specs.Numbers.{digits, line, spaced, hex_digit, hex_digits}

-- ---- digits

pub digits-one : (n : ℕ) → n < 10 → digits 20 n ≡ (48 + n % 10) ∷ []
unfolding digits
digits-one n h = simp (lt-ltb _ _ h)

-- with digits to spare, one more changes nothing
digits-spare : (m n : ℕ) → n < 10 ^ suc m → digits (suc (suc m)) n ≡ digits (suc m) n
unfolding digits
digits-spare zero n h = let s : n < 10 = omega arith in simp (lt-ltb _ _ s)
digits-spare (suc m) n h =
    let h' : n < 10 * 10 ^ suc m = rw pow-succ' at h in
    let q : n / 10 < 10 ^ suc m = omega arith in
    ap (λ (l : List ℕ). cond (ltb n 10) [] l ++ (48 + n % 10) ∷ []) (digits-spare m (n / 10) q)

pub digits_more : (n : ℕ) → 10 ≤ n → n < 18446744073709551616 → digits 20 n ≡ digits 20 (n / 10) ++ (48 + n % 10) ∷ []
unfolding digits
digits_more n h b =
    let s : n / 10 < 10 ^ 19 = omega arith in
    let e : digits 20 n ≡ digits 19 (n / 10) ++ (48 + n % 10) ∷ [] = simp (le-ltb _ _ h) in
    e ∙ ap (λ (l : List ℕ). l ++ (48 + n % 10) ∷ []) (sym (digits-spare 18 (n / 10) s))

pub digits-short : (m n : ℕ) → length (digits m n) ≤ m
unfolding digits
digits-short zero n = omega arith
digits-short (suc m) n =
    by-test (ltb n 10)
    (λ y. rw y (omega arith))
    (λ y. rw y (omega (arith, length-append (digits m (n / 10)) ((48 + n % 10) ∷ []), digits-short m (n / 10))))

-- ---- numbers after spaces

pub spaced-one : (n : ℕ) → spaced (n ∷ []) ≡ 32 ∷ digits 20 n
unfolding spaced
spaced-one n = ap (λ (l : List ℕ). 32 ∷ l) (append-nil (digits 20 n))

pub spaced-append : (a b : List ℕ) → spaced (a ++ b) ≡ spaced a ++ spaced b
unfolding spaced
spaced-append [] b = refl
spaced-append (n ∷ a) b =
    ap (λ (l : List ℕ). 32 ∷ (digits 20 n ++ l)) (spaced-append a b)
    ∙ ap (λ (l : List ℕ). 32 ∷ l) (sym (append_assoc (digits 20 n) (spaced a) (spaced b)))

pub spaced-short : (a : List ℕ) → length (spaced a) ≤ 21 * length a
unfolding spaced
spaced-short [] = omega arith
spaced-short (n ∷ a) = omega (arith, length-append (digits 20 n) (spaced a), digits-short 20 n, spaced-short a)

-- a line is its first number, the others after spaces, and a line feed
pub line-is : (n : ℕ) (a : List ℕ) → line (n ∷ a) ≡ digits 20 n ++ (spaced a ++ 10 ∷ [])
unfolding line spaced
line-is n [] = refl
line-is n (m ∷ a) =
    ap (λ (l : List ℕ). digits 20 n ++ 32 ∷ l) (line-is m a ∙ sym (append_assoc (digits 20 m) (spaced a) (10 ∷ [])))

-- ---- hexadecimal

pub hex-char : (n : ℕ) → digit_char n ≡ hex_digit n
unfolding hex_digit
hex-char n = refl

pub hex-none : (width n : ℕ) → width ≡ 0 → [] ≡ hex_digits width n
unfolding hex_digits
hex-none zero n e = refl
hex-none (suc width) n e = absurd (omega arith)

pub hex-more : (width n : ℕ) → (width ≡ 0 → ⊥) → hex_digits (width - 1) (n / 16) ++ hex_digit (n % 16) ∷ [] ≡ hex_digits width n
unfolding hex_digits
hex-more zero n h = absurd (h refl)
hex-more (suc width) n h =
    let e : suc width - 1 ≡ width = omega arith in
    ap (λ (w : ℕ). hex_digits w (n / 16) ++ hex_digit (n % 16) ∷ []) e

pub length-hex : (width n : ℕ) → length (hex_digits width n) ≡ width
unfolding hex_digits
length-hex zero n = refl
length-hex (suc width) n = omega (arith, length-append (hex_digits width (n / 16)) (hex_digit (n % 16) ∷ []), length-hex width (n / 16))
