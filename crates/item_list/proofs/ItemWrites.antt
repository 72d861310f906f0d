-- Pieces written one after the other are the splice, and question 21 of the bytes is that of the items. Assumes nothing.
use mathlib.Core.Path.{◌≡◌, refl, sym, ap, ◌∙◌}
use mathlib.Core.Bool.{Bool, true, false, ◌&&◌}
use mathlib.Core.List.{List, [], ◌++◌, append_assoc, append-nil}
use Prim.Native.Nat.{ℕ, ◌+◌, ◌-◌, ◌≤◌, ◌<◌}
use native.Mathlib.Omega.{arith}
use lib.Dec.{T, leb}
use lib.ListN.{length, take, drop, length-append, length-drop}
use lib.Seq.{length-take-le}
use borrow.Author.Tests.{le-leb, lt-leb, leb-true}
use Rattle.std.specs.Prelude.{Result, Ok}
use Rattle.fields.specs.Lists.{all}
use Rattle.fields.specs.Numbers.{be_bytes}
use Rattle.fields.specs.Parts.{part, written, spliced}
use Rattle.fields.proofs.Lists.{T-eq}
use Rattle.fields.proofs.Numbers.{length-be_bytes}
use Rattle.fields.proofs.Parts.{part-rest, written-pair, written_next, written-front, length-spliced}
use Rattle.format.specs.declared.Key.{Key}
use Rattle.format.specs.declared.Edited.{Edited}
use Rattle.format.specs.declared.Edited.TheVariants.{Written}
use Rattle.format.specs.declared.Refusal.{Refusal}
use Rattle.format.specs.Questions.{Answer, refused, accepted, ask, bind, held, lent, denied, edited_of, Answered}
use Rattle.format.specs.Items.{Item, key_bytes, item_bytes, sheet_bytes, data_fits, sheet_holds, held_sheet}
use Rattle.format.proofs.Items.{length-key_bytes, length-item_bytes}
use Rattle.item_list.specs.ItemWrites.{head_bytes, room_for, held_bytes}

-- ---- an item's head

pub length-head : (key : Key) (size : ℕ) → length (head_bytes key size) ≡ 21
unfolding head_bytes
length-head key size =
    length-append (be_bytes 4 (17 + size)) (key_bytes key) ∙ omega (arith, length-be_bytes 4 (17 + size), length-key_bytes key)

pub item-head : (i : Item) → item_bytes i ≡ head_bytes i.key (length i.bytes) ++ i.bytes
unfolding item_bytes head_bytes
item-head i = sym (append_assoc (be_bytes 4 (17 + length i.bytes)) (key_bytes i.key) i.bytes)

-- its four fields
pub head-writes : (key : Key) (size at : ℕ) (old one two three four : List ℕ) → at + 21 ≤ length old
    → one ≡ written at (be_bytes 4 (17 + size)) old
    → two ≡ written (at + 4) (be_bytes 8 key.objectid) one
    → three ≡ written (at + 12) (be_bytes 1 key.kind) two
    → four ≡ written (at + 13) (be_bytes 8 key.offset) three
    → four ≡ written at (head_bytes key size) old
unfolding head_bytes key_bytes
head-writes key size at old one two three four room e₁ e₂ e₃ e₄ =
    let a : List ℕ = be_bytes 4 (17 + size) in
    let o : List ℕ = be_bytes 8 key.objectid in
    let k : List ℕ = be_bytes 1 key.kind in
    let f : List ℕ = be_bytes 8 key.offset in
    let la = length-be_bytes 4 (17 + size) in
    let lo = length-be_bytes 8 key.objectid in
    let lk = length-be_bytes 1 key.kind in
    let lf = length-be_bytes 8 key.offset in
    let lao : length (a ++ o) ≡ 12 = length-append a o ∙ omega (arith, la, lo) in
    let laok : length ((a ++ o) ++ k) ≡ 13 = length-append (a ++ o) k ∙ omega (arith, lao, lk) in
    let w₂ : two ≡ written at (a ++ o) old = written-pair at 4 8 a o old one two la lo (omega arith) e₁ e₂ in
    let w₃ : three ≡ written at ((a ++ o) ++ k) old = written-pair at 12 1 (a ++ o) k old two three lao lk (omega arith) w₂ e₃ in
    let w₄ : four ≡ written at (((a ++ o) ++ k) ++ f) old = written-pair at 13 8 ((a ++ o) ++ k) f old three four laok lf (omega arith) w₃ e₄ in
    w₄ ∙ ap (λ (l : List ℕ). written at l old) (append_assoc (a ++ o) k f ∙ append_assoc a o (k ++ f))

-- ---- pieces one after the other

-- the next piece of what is written from the front
pub written-more : (a b out one two : List ℕ) (n : ℕ) → n ≡ length a → length a + length b ≤ length out
    → one ≡ written 0 a out
    → two ≡ written n b one
    → two ≡ written 0 (a ++ b) out
written-more a b out one two n e h e₁ e₂ =
    let h' : n + length b ≤ length out = omega arith in
    e₂ ∙ ap (written n b) e₁ ∙ written_next a b out n (sym e) h'

module _ (s : List ℕ) (p q : ℕ) (fits : p ≤ length s) where
  pub item-writes : (i : Item) (out o₁ o₂ o₃ o₄ : List ℕ) (r₁ r₂ r₃ : ℕ)
      → p + (21 + length i.bytes) + (length s - q) ≤ length out
      → (r₁ ≡ 0 + length (take p s)) × (o₁ ≡ written 0 (take p s) out)
      → (r₂ ≡ r₁ + 21) × (o₂ ≡ written r₁ (head_bytes i.key (length i.bytes)) o₁)
      → (r₃ ≡ r₂ + length i.bytes) × (o₃ ≡ written r₂ i.bytes o₂)
      → o₄ ≡ written r₃ (part q (length s - q) s) o₃
      → o₄ ≡ written 0 (spliced p q (item_bytes i) s) out
  item-writes i out o₁ o₂ o₃ o₄ r₁ r₂ r₃ room e₁ e₂ e₃ e₄ =
      let h : List ℕ = head_bytes i.key (length i.bytes) in
      let d : List ℕ = i.bytes in
      let l₁ : length (take p s) ≡ p = length-take-le p s fits in
      let n₁ : r₁ ≡ length (take p s) = omega (arith, e₁.0) in
      let lh : length h ≡ 21 = length-head i.key (length d) in
      let l₂ : length (take p s ++ h) ≡ p + 21 = length-append (take p s) h ∙ omega (arith, l₁, lh) in
      let l₃ : length ((take p s ++ h) ++ d) ≡ p + 21 + length d = length-append (take p s ++ h) d ∙ omega (arith, l₂) in
      let h₂ : length (take p s) + length h ≤ length out = omega (arith, l₁, lh, room) in
      let w₂ : o₂ ≡ written 0 (take p s ++ h) out = written-more (take p s) h out o₁ o₂ r₁ n₁ h₂ e₁.1 e₂.1 in
      let n₂ : r₂ ≡ length (take p s ++ h) = omega (arith, e₁.0, e₂.0, l₁, l₂) in
      let h₃ : length (take p s ++ h) + length d ≤ length out = omega (arith, l₂, room) in
      let w₃ : o₃ ≡ written 0 ((take p s ++ h) ++ d) out = written-more (take p s ++ h) d out o₂ o₃ r₂ n₂ h₃ w₂ e₃.1 in
      let n₃ : r₃ ≡ length ((take p s ++ h) ++ d) = omega (arith, n₂, e₃.0, l₂, l₃) in
      let h₄ : length ((take p s ++ h) ++ d) + length (drop q s) ≤ length out = omega (arith, l₃, room, length-drop q s) in
      let w₄ : o₄ ≡ written 0 (((take p s ++ h) ++ d) ++ drop q s) out =
      written-more ((take p s ++ h) ++ d) (drop q s) out o₃ o₄ r₃ n₃ h₄ w₃ (e₄ ∙ ap (λ (l : List ℕ). written r₃ l o₃) (part-rest q s)) in
      w₄
      ∙ ap (λ (l : List ℕ). written 0 (l ++ drop q s) out)
      (append_assoc (take p s) h d ∙ ap (λ (l : List ℕ). take p s ++ l) (sym (item-head i)))

  pub rest-writes : (out o₁ o₂ : List ℕ) (r₁ : ℕ) → p + (length s - q) ≤ length out
      → (r₁ ≡ 0 + length (take p s)) × (o₁ ≡ written 0 (take p s) out)
      → o₂ ≡ written r₁ (part q (length s - q) s) o₁
      → o₂ ≡ written 0 (spliced p q [] s) out
  rest-writes out o₁ o₂ r₁ room e₁ e₂ =
      let l₁ : length (take p s) ≡ p = length-take-le p s fits in
      let n₁ : r₁ ≡ length (take p s) = omega (arith, e₁.0) in
      let h₂ : length (take p s) + length (drop q s) ≤ length out = omega (arith, l₁, room, length-drop q s) in
      written-more (take p s) (drop q s) out o₁ o₂ r₁ n₁ h₂ e₁.1 (e₂ ∙ ap (λ (l : List ℕ). written r₁ l o₁) (part-rest q s))
      ∙ ap (λ (l : List ℕ). written 0 (l ++ drop q s) out) (sym (append-nil (take p s)))

  pub item-long : (i : Item) → length (spliced p q (item_bytes i) s) ≡ p + (21 + length i.bytes) + (length s - q)
  item-long i = length-spliced p q (item_bytes i) s fits ∙ ap (λ (n : ℕ). p + n + (length s - q)) (length-item_bytes i)

  pub rest-long : length (spliced p q [] s) ≡ p + (length s - q)
  rest-long = length-spliced p q [] s fits ∙ omega arith

-- ---- question 21

module _ (room size count : ℕ) where
  pub room-short : room < size → room_for room size count ≡ false
  unfolding room_for
  room-short h = rw (lt-leb size room h)

  pub room-left : size ≤ room → size ≤ 262144 → leb count 4096 ≡ room_for room size count
  unfolding room_for
  room-left h k = rw (le-leb size room h, le-leb size 262144 k)

pub room_out : (room size count : ℕ) → room_for room size count ≡ true → size ≤ room
unfolding room_for
room_out room size count e = leb-true size room (go (leb size room) (leb size 262144) (leb count 4096) e)
  where
    go : (a b c : Bool) → (a && b && c) ≡ true → a ≡ true
    go true b c h = refl
    go false b c h = h

module _ (room count size : ℕ) (bytes old new : List ℕ) (is : length bytes ≡ size) where
  pub held-written : room_for room size count ≡ true → new ≡ written 0 bytes old → Answered (held_bytes room count bytes) (Ok (Written size)) old new
  unfolding ask edited_of lent
  held-written h e =
      let a : held_bytes room count bytes ≡ accepted bytes = rw (is, h) in
      record {
        result = sym (ap edited_of a ∙ ap (λ (n : ℕ). Ok (Written n)) is);
        output = e ∙ written-front bytes old ∙ sym (ap (λ (x : Answer (List ℕ)). lent x old) a);
      }

  pub held-refused : room_for room size count ≡ false → Answered (held_bytes room count bytes) (denied 21) old old
  unfolding ask edited_of lent
  held-refused h =
      let a : held_bytes room count bytes ≡ refused 21 = rw (is, h) in
      record { result = sym (ap edited_of a); output = sym (ap (λ (x : Answer (List ℕ)). lent x old) a) }

-- the same of items whose bytes they are
pub held-sheet : (room count : ℕ) (items : List Item) (bytes : List ℕ) → sheet_bytes items ≡ bytes → length items ≡ count
    → T (all (λ i. data_fits i.bytes) items)
    → held_sheet room (accepted items) ≡ held_bytes room count bytes
unfolding held_sheet held sheet_holds room_for bind ask
held-sheet room count items bytes e n t =
    rw (← e, ← n, T-eq (all (λ i. data_fits i.bytes) items) t)
    (go (leb (length (sheet_bytes items)) room && leb (length (sheet_bytes items)) 262144 && leb (length items) 4096))
  where
    go : (b : Bool) → bind (ask (b && true) 21 (accepted items)) (λ (l : List Item). accepted (sheet_bytes l)) ≡ ask b 21 (accepted (sheet_bytes items))
    go true = refl
    go false = refl

-- ---- the answer of an edit

module _ (s : List ℕ) (p q : ℕ) (fits : p ≤ length s) (room count : ℕ) (old new : List ℕ) where
  pub item-held : (i : Item) → room_for room (p + (21 + length i.bytes) + (length s - q)) count ≡ true
      → new ≡ written 0 (spliced p q (item_bytes i) s) old
      → Answered (held_bytes room count (spliced p q (item_bytes i) s)) (Ok (Written (p + (21 + length i.bytes) + (length s - q)))) old new
  item-held i h e =
      held-written room count (p + (21 + length i.bytes) + (length s - q)) (spliced p q (item_bytes i) s) old new (item-long s p q fits i) h e

  pub item_refused : (i : Item) → room_for room (p + (21 + length i.bytes) + (length s - q)) count ≡ false
      → Answered (held_bytes room count (spliced p q (item_bytes i) s)) (denied 21) old old
  item_refused i h =
      held-refused room count (p + (21 + length i.bytes) + (length s - q)) (spliced p q (item_bytes i) s) old new (item-long s p q fits i) h

  pub rest-held : room_for room (p + (length s - q)) count ≡ true → new ≡ written 0 (spliced p q [] s) old
      → Answered (held_bytes room count (spliced p q [] s)) (Ok (Written (p + (length s - q)))) old new
  rest-held h e = held-written room count (p + (length s - q)) (spliced p q [] s) old new (rest-long s p q fits) h e

  pub rest-refused : room_for room (p + (length s - q)) count ≡ false → Answered (held_bytes room count (spliced p q [] s)) (denied 21) old old
  rest-refused h = held-refused room count (p + (length s - q)) (spliced p q [] s) old new (rest-long s p q fits) h

-- ---- from the bytes to the items

pub answered-no : (a : Answer (List Item)) (room k : ℕ) (old : List ℕ) → a ≡ refused k → Answered (held_sheet room a) (denied k) old old
unfolding held_sheet held bind edited_of lent
answered-no a room k old e =
    record {
      result = sym (ap (λ (x : Answer (List Item)). edited_of (held_sheet room x)) e);
      output = sym (ap (λ (x : Answer (List Item)). lent (held_sheet room x) old) e);
    }

pub answered-by : (a : Answer (List Item)) (room count : ℕ) (items : List Item) (bytes : List ℕ) (r : Result Edited Refusal) (old new : List ℕ)
    → a ≡ accepted items → sheet_bytes items ≡ bytes → length items ≡ count → T (all (λ i. data_fits i.bytes) items)
    → Answered (held_bytes room count bytes) r old new
    → Answered (held_sheet room a) r old new
answered-by a room count items bytes r old new e b n t w =
    let h : held_sheet room a ≡ held_bytes room count bytes = ap (held_sheet room) e ∙ held-sheet room count items bytes b n t in
    record { result = w.result ∙ sym (ap edited_of h); output = w.output ∙ sym (ap (λ (x : Answer (List ℕ)). lent x old) h) }
