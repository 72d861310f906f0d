-- Laws of parts of a run of bytes, and of bytes written into others. Assumes nothing.
use mathlib.Core.Path.{◌≡◌, refl, sym, ap, ap₂, ◌∙◌, subst}
use mathlib.Core.List.{List, [], ◌∷◌, ◌++◌, append_assoc, append-nil}
use Prim.Native.Nat.{ℕ, zero, suc, ◌+◌, ◌-◌, ◌≤◌, ◌<◌}
use native.Mathlib.Nat.{add-zero, zero-add, add-suc, suc-add}
use native.Mathlib.Numerals.{add-one}
use native.Mathlib.Omega.{arith}
use lib.ListN.{length, take, drop, get_or, set, length-append, length-drop, take-append-drop}
use lib.Seq.{sets, sets-eq, length-sets, set_comm, drop-cons, take-add, take-take, take_all, take_at, drop_at, drop-drop, length-take-le}
use Rattle.fields.specs.Parts.{part, written, spliced}

-- ---- parts

-- `size` bytes, each by its index, from `at + k` on
abbrev pub from : ℕ → ℕ → ℕ → List ℕ → List ℕ
from k zero at list = []
from k (suc size) at list = get_or list (at + k) 0 ∷ from (suc k) size at list

part-from : (k size at : ℕ) (list : List ℕ) → at + k + size ≤ length list → part (at + k) size list ≡ from k size at list
part-from k zero at list h = refl
part-from k (suc size) at list h =
    let inside : at + k < length list = omega arith in
    let rest : at + suc k + size ≤ length list = omega arith in
    ap (take (suc size)) (drop-cons list (at + k) 0 inside)
    ∙ ap (λ (i : ℕ). get_or list (at + k) 0 ∷ take size (drop i list)) (sym (add-suc at k))
    ∙ ap (λ (l : List ℕ). get_or list (at + k) 0 ∷ l) (part-from (suc k) size at list rest)

-- a part by its indices, as code reads it: `at`, `at + 1`, ..
abbrev pub listed : ℕ → ℕ → List ℕ → List ℕ
listed zero at list = []
listed (suc size) at list = get_or list at 0 ∷ from 1 size at list

pub part-is : (size at : ℕ) (list : List ℕ) → at + size ≤ length list → part at size list ≡ listed size at list
part-is zero at list h = refl
part-is (suc size) at list h =
    let inside : at < length list = omega arith in
    let rest : at + 1 + size ≤ length list = omega arith in
    ap (take (suc size)) (drop-cons list at 0 inside)
    ∙ ap (λ (i : ℕ). get_or list at 0 ∷ take size (drop i list)) (sym (add-one at))
    ∙ ap (λ (l : List ℕ). get_or list at 0 ∷ l) (part-from 1 size at list rest)

pub length_part : (size at : ℕ) (list : List ℕ) → at + size ≤ length list → length (part at size list) ≡ size
length_part size at list h = length-take-le size (drop at list) (simp length-drop (omega arith))

-- a part in two
pub part-add : (m n at : ℕ) (list : List ℕ) → part at (m + n) list ≡ part at m list ++ part (at + m) n list
part-add m n at list = take-add m n (drop at list) ∙ ap (λ (l : List ℕ). take m (drop at list) ++ take n l) (drop-drop m at list)

-- a part of what stands from a position on, and of the front
pub part-drop : (at n m : ℕ) (list : List ℕ) → part n m (drop at list) ≡ part (at + n) m list
part-drop at n m list = ap (take m) (drop-drop n at list)

pub part-take : (at size n : ℕ) (list : List ℕ) → at + size ≤ n → part at size (take n list) ≡ part at size list
part-take zero size n list h = take-take size n list (omega arith)
part-take (suc at) size zero list h = absurd (omega arith)
part-take (suc at) size (suc n) [] h = refl
part-take (suc at) size (suc n) (x ∷ list) h = part-take at size n list (omega arith)

-- lists with the same front have the same parts of it
pub part_same : (at size n : ℕ) (a b : List ℕ) → at + size ≤ n → take n a ≡ take n b → part at size a ≡ part at size b
part_same at size n a b h e = sym (part-take at size n a h) ∙ ap (part at size) e ∙ part-take at size n b h

-- the whole, and what is left from a position on
pub part-all : (size : ℕ) (list : List ℕ) → length list ≡ size → part 0 size list ≡ list
part-all size list e = take_all size list (omega arith)

pub part-rest : (at : ℕ) (list : List ℕ) → part at (length list - at) list ≡ drop at list
part-rest at list = take_all (length list - at) (drop at list) (simp length-drop (omega arith))

-- ---- writes

pub sets-append : (a b l : List ℕ) (i : ℕ) → sets l i (a ++ b) ≡ sets (sets l i a) (i + length a) b
sets-append [] b l i = ap (λ (k : ℕ). sets l k b) (sym (add-zero i))
sets-append (x ∷ a) b l i =
    sets-append a b (set l i x) (suc i)
    ∙ ap (λ (k : ℕ). sets (sets (set l i x) (suc i) a) k b) (suc-add i (length a) ∙ sym (add-suc i (length a)))

-- a store after the other from a position on is one write
pub stores : (new old : List ℕ) (at : ℕ) → at + length new ≤ length old → sets old at new ≡ written at new old
stores new old at h = sets-eq new old at h

pub stores_one : (old : List ℕ) (at a : ℕ) → at + 1 ≤ length old → set old at a ≡ written at (a ∷ []) old
stores_one old at a h = stores (a ∷ []) old at h

pub length-written : (at : ℕ) (new old : List ℕ) → at + length new ≤ length old → length (written at new old) ≡ length old
length-written at new old h = ap length (sym (stores new old at h)) ∙ length-sets old at new

-- two writes side by side are one
pub written_twice : (at : ℕ) (a b old : List ℕ) (n : ℕ) → length a ≡ n → at + (n + length b) ≤ length old
    → written (at + n) b (written at a old) ≡ written at (a ++ b) old
written_twice at a b old n e h =
    let ha : at + length a ≤ length old = omega arith in
    let hab : at + length (a ++ b) ≤ length old = simp length-append (omega arith) in
    let hb : at + length a + length b ≤ length (sets old at a) = simp length-sets (omega arith) in
    subst (λ (k : ℕ). written (at + k) b (written at a old) ≡ written at (a ++ b) old) e
    (ap (written (at + length a) b) (sym (stores a old at ha)) ∙ sym (stores b (sets old at a) (at + length a) hb)
    ∙ sym (sets-append a b old at) ∙ stores (a ++ b) old at hab)

-- the next write of a run that starts at the front
pub written_next : (a b old : List ℕ) (n : ℕ) → length a ≡ n → n + length b ≤ length old
    → written n b (written 0 a old) ≡ written 0 (a ++ b) old
written_next a b old n e h =
    let h' : 0 + (n + length b) ≤ length old = omega arith in
    ap (λ (k : ℕ). written k b (written 0 a old)) (sym (zero-add n)) ∙ written_twice 0 a b old n e h'

set_apart : (y l : List ℕ) (i j x : ℕ) → i < j → set (sets l j y) i x ≡ sets (set l i x) j y
set_apart [] l i j x h = refl
set_apart (b ∷ y) l i j x h =
    let later : i < suc j = omega arith in
    set_apart y (set l j b) i (suc j) x later
    ∙ ap (λ (m : List ℕ). sets m (suc j) y) (set_comm l j i b x (λ e. omega (arith, e, h)))

sets-apart : (x y l : List ℕ) (i j : ℕ) → i + length x ≤ j → sets (sets l j y) i x ≡ sets (sets l i x) j y
sets-apart [] y l i j h = refl
sets-apart (a ∷ x) y l i j h =
    let first : i < j = omega arith in
    let rest : suc i + length x ≤ j = omega arith in
    ap (λ (m : List ℕ). sets m (suc i) x) (set_apart y l i j a first) ∙ sets-apart x y (set l i a) (suc i) j rest

-- two writes that do not touch each other change places
pub written_apart : (i j : ℕ) (x y old : List ℕ) → i + length x ≤ j → j + length y ≤ length old
    → written i x (written j y old) ≡ written j y (written i x old)
written_apart i j x y old apart h =
    let hx : i + length x ≤ length old = omega arith in
    let hxy : i + length x ≤ length (sets old j y) = omega (arith, length-sets old j y) in
    let hyx : j + length y ≤ length (sets old i x) = omega (arith, length-sets old i x) in
    ap (written i x) (sym (stores y old j h)) ∙ sym (stores x (sets old j y) i hxy)
    ∙ sets-apart x y old i j apart
    ∙ stores y (sets old i x) j hyx ∙ ap (written j y) (stores x old i hx)

-- a write just before another joins it
pub written-before : (at n : ℕ) (a b old : List ℕ) → length a ≡ n → at + (n + length b) ≤ length old
    → written at a (written (at + n) b old) ≡ written at (a ++ b) old
written-before at n a b old e h =
    let apart : at + length a ≤ at + n = omega arith in
    let hb : at + n + length b ≤ length old = omega arith in
    written_apart at (at + n) a b old apart hb ∙ written_twice at a b old n e h

-- two writes side by side, as two calls in a row leave them
pub written-pair : (at m n : ℕ) (a b old one two : List ℕ) → length a ≡ m → length b ≡ n → at + (m + n) ≤ length old
    → one ≡ written at a old
    → two ≡ written (at + m) b one
    → two ≡ written at (a ++ b) old
written-pair at m n a b old one two ea eb h e₁ e₂ =
    let h' : at + (m + length b) ≤ length old = omega arith in
    e₂ ∙ ap (written (at + m) b) e₁ ∙ written_twice at a b old m ea h'

-- a write at the front
pub written-front : (new old : List ℕ) → written 0 new old ≡ new ++ drop (length new) old
written-front new old = ap (λ (k : ℕ). new ++ drop k old) (zero-add (length new))

-- what was written is read back
pub part-written : (at size : ℕ) (new old : List ℕ) → length new ≡ size → at ≤ length old → part at size (written at new old) ≡ new
part-written at size new old e h =
    ap (λ (l : List ℕ). take size (drop at l)) (append_assoc (take at old) new (drop (at + length new) old))
    ∙ ap (take size) (drop_at (take at old) (new ++ drop (at + length new) old) at (length-take-le at old h))
    ∙ take_at new (drop (at + length new) old) size e

-- a write over another that it covers
pub written_over : (at : ℕ) (a b old : List ℕ) → length a ≤ length b → at + length b ≤ length old
    → written at b (written at a old) ≡ written at b old
written_over at a b old small h =
    let front : length (take at old) ≡ at = length-take-le at old (omega arith) in
    let both : length (take at old ++ a) ≡ at + length a = simp (length-append, front) in
    let k : ℕ = length b - length a in
    let e : at + length b ≡ at + length a + k = omega arith in
    let rest : List ℕ = drop (at + length a) old in
    let before : take at (written at a old) ≡ take at old =
    ap (take at) (append_assoc (take at old) a rest) ∙ take_at (take at old) (a ++ rest) at front in
    let behind : drop (at + length b) (written at a old) ≡ drop (at + length b) old =
    ap (λ (i : ℕ). drop i (written at a old)) e ∙ sym (drop-drop k (at + length a) (written at a old))
    ∙ ap (drop k) (drop_at (take at old ++ a) rest (at + length a) both)
    ∙ drop-drop k (at + length a) old ∙ ap (λ (i : ℕ). drop i old) (sym e) in
    ap₂ (λ (f g : List ℕ). f ++ b ++ g) before behind

-- ---- a list copied part by part

-- two parts side by side, as two calls in a row leave them
pub copied-pair : (at from m n : ℕ) (src old one two : List ℕ) → from + (m + n) ≤ length src → at + (m + n) ≤ length old
    → one ≡ written at (part from m src) old
    → two ≡ written (at + m) (part (from + m) n src) one
    → two ≡ written at (part from (m + n) src) old
copied-pair at from m n src old one two h room e₁ e₂ =
    let h₁ : from + m ≤ length src = omega arith in
    let h₂ : from + m + n ≤ length src = omega arith in
    written-pair at m n (part from m src) (part (from + m) n src) old one two (length_part m from src h₁) (length_part n (from + m) src h₂) room e₁ e₂
    ∙ ap (λ (l : List ℕ). written at l old) (sym (part-add m n from src))

-- nothing is copied yet
pub copied_none : (at : ℕ) (src old : List ℕ) → old ≡ written at (part 0 0 src) old
copied_none at src old =
    sym (take-append-drop at old)
    ∙ ap₂ (λ (l : List ℕ) (k : ℕ). l ++ drop k old) (sym (append-nil (take at old))) (sym (add-zero at))

-- the next part of a list that is copied from its front on
pub copied_next : (at i n : ℕ) (src old one two : List ℕ) → i + n ≤ length src → at + length src ≤ length old
    → one ≡ written at (part 0 i src) old
    → two ≡ written (at + i) (part i n src) one
    → two ≡ written at (part 0 (i + n) src) old
copied_next at i n src old one two h room e₁ e₂ =
    copied-pair at 0 i n src old one two (omega arith) (omega arith) e₁
    (e₂ ∙ ap (λ (k : ℕ). written (at + i) (part k n src) one) (sym (zero-add i)))

-- a part may start within what is copied already: the bytes written twice are the same both times
pub copied-over : (at i a n : ℕ) (src old one two : List ℕ) → a ≤ i → i ≤ a + n → a + n ≤ length src → at + length src ≤ length old
    → one ≡ written at (part 0 i src) old
    → two ≡ written (at + a) (part a n src) one
    → two ≡ written at (part 0 (a + n) src) old
copied-over at i a n src old one two low high h room e₁ e₂ =
    let base : List ℕ = written at (part 0 a src) old in
    let ha : length (part 0 a src) ≡ a = length_part a 0 src (omega arith) in
    let hn : length (part a n src) ≡ n = length_part n a src (omega arith) in
    let hm : length (part a (i - a) src) ≡ i - a = length_part (i - a) a src (omega arith) in
    let hb : length base ≡ length old = length-written at (part 0 a src) old (omega arith) in
    let split : i ≡ a + (i - a) = omega arith in
    let first : one ≡ written (at + a) (part a (i - a) src) base =
    e₁ ∙ ap (λ (k : ℕ). written at (part 0 k src) old) split
    ∙ sym (copied_next at a (i - a) src old base (written (at + a) (part a (i - a) src) base) (omega arith) room refl refl) in
    copied_next at a n src old base two h room refl
    (e₂ ∙ ap (written (at + a) (part a n src)) first
    ∙ written_over (at + a) (part a (i - a) src) (part a n src) base (omega arith) (omega arith))

-- the last part
pub copied-last : (at i a n : ℕ) (src old one two : List ℕ) → a ≤ i → i ≤ length src → a + n ≡ length src → at + length src ≤ length old
    → one ≡ written at (part 0 i src) old
    → two ≡ written (at + a) (part a n src) one
    → two ≡ written at src old
copied-last at i a n src old one two low high e room e₁ e₂ =
    copied-over at i a n src old one two low (omega arith) (omega arith) room e₁ e₂
    ∙ ap (λ (l : List ℕ). written at l old) (part-all (a + n) src (sym e))

-- the two blocks of a list that is at most twice as long as one of them
pub copied-ends : (at n : ℕ) (src old one two : List ℕ) → n ≤ length src → length src ≤ n + n → at + length src ≤ length old
    → one ≡ written at (part 0 n src) old
    → two ≡ written (at + (length src - n)) (part (length src - n) n src) one
    → two ≡ written at src old
copied-ends at n src old one two long short room e₁ e₂ =
    copied-last at n (length src - n) n src old one two (omega arith) long (omega arith) room e₁ e₂

-- ---- splices

pub length-spliced : (from to : ℕ) (new old : List ℕ) → from ≤ length old
    → length (spliced from to new old) ≡ from + length new + (length old - to)
length-spliced from to new old h = simp (length-append, length-drop, length-take-le from old h)

-- a splice that keeps the length is a write
pub spliced-written : (from to : ℕ) (new old : List ℕ) → from + length new ≡ to → spliced from to new old ≡ written from new old
spliced-written from to new old e = ap (λ (k : ℕ). take from old ++ new ++ drop k old) (sym e)
