-- The own-flag: set in a body before it is written, or in the list after it. Assumes nothing.
use mathlib.Core.Path.{◌≡◌, refl, sym, ap, ap₂, ◌∙◌, subst}
use mathlib.Core.Bool.{Bool, true, false, ◌&&◌}
use mathlib.Core.List.{List, [], ◌∷◌, ◌++◌, append_assoc}
use Prim.Native.Nat.{ℕ, ◌+◌, ◌≤◌}
use native.Mathlib.Omega.{arith}
use lib.Bits.{bit_or}
use lib.Dec.{leb, le→leb}
use lib.ListN.{length, take, drop, length-append, length-drop}
use lib.Seq.{take-append-le, drop-append-le}
use Rattle.fields.specs.Lists.{all, Cut}
use Rattle.fields.specs.Numbers.{le, le_bytes}
use Rattle.fields.specs.Parts.{part, written}
use Rattle.fields.proofs.Numbers.{length-le_bytes}
use Rattle.fields.proofs.Parts.{length-written}
use Rattle.std.specs.Prelude.{Result, Ok}
use Rattle.format.specs.declared.Edited.{Edited}
use Rattle.format.specs.declared.Refusal.{Refusal}
use Rattle.format.specs.declared.Edited.TheVariants.{Written}
use Rattle.format.specs.Questions.{Answer, refused, absent, remove, accepted, ask, bind, held, lent, edited_of, Answered}
use Rattle.format.specs.References.{flags_of}
use Rattle.format.specs.Bodies.{body_fits, on_head, with_flags}
use Rattle.format.specs.Items.{Item, item_bytes, items_bytes, sheet_bytes, data_fits, sheet_holds, held_sheet, with_bytes}
use Rattle.format.proofs.Answers.{ask-yes, accepted-inj, refused-not, absent-not, remove-not}
use Rattle.format.proofs.Items.{length-item_bytes}
use Rattle.format.proofs.Splices.{sheet-join, sheet-data}
use Rattle.record_edit.specs.declared.RecordAt.{RecordAt}
use Rattle.transaction.specs.Drops.{with_own_flag}
use Rattle.record_edit.proofs.Stands.{Stands}
use Rattle.transaction.proofs.Rewrites.{sheet-part, part-inside}

-- ---- from the answer without the flag to that with it, in a lent output

-- what the flag makes of an answer, and that the flags stand inside a list that was accepted
pub record Owned (at : ℕ) (plain own : Answer (List ℕ)) : Type 0 where
  pub same : own ≡ bind plain (λ bytes. accepted (with_own_flag at bytes))
  pub long : (bytes : List ℕ) → plain ≡ accepted bytes → at + 8 ≤ length bytes

own-append : (at : ℕ) (bytes more : List ℕ) → at + 8 ≤ length bytes → with_own_flag at (bytes ++ more) ≡ with_own_flag at bytes ++ more
own-append at bytes more h =
    let x : List ℕ = le_bytes 8 (bit_or (le (part at 8 bytes)) 256) in
    let n : length x ≡ 8 = length-le_bytes 8 (bit_or (le (part at 8 bytes)) 256) in
    let at≤ : at ≤ length bytes = omega arith in
    let to≤ : at + length x ≤ length bytes = omega arith in
    let rest : drop at (bytes ++ more) ≡ drop at bytes ++ more = drop-append-le at bytes more at≤ in
    let eight : 8 ≤ length (drop at bytes) = simp length-drop (omega arith) in
    let flags : part at 8 (bytes ++ more) ≡ part at 8 bytes = ap (take 8) rest ∙ take-append-le 8 (drop at bytes) more eight in
    ap (λ (l : List ℕ). written at (le_bytes 8 (bit_or (le l) 256)) (bytes ++ more)) flags
    ∙ ap₂ (λ (a b : List ℕ). a ++ x ++ b) (take-append-le at bytes more at≤) (drop-append-le (at + length x) bytes more to≤)
    ∙ sym (append_assoc (take at bytes ++ x) (drop (at + length x) bytes) more)

length-own : (at : ℕ) (bytes : List ℕ) → at + 8 ≤ length bytes → length (with_own_flag at bytes) ≡ length bytes
length-own at bytes h =
    let x : List ℕ = le_bytes 8 (bit_or (le (part at 8 bytes)) 256) in
    let n : length x ≡ 8 = length-le_bytes 8 (bit_or (le (part at 8 bytes)) 256) in
    length-written at x bytes (omega arith)

module _ {at : ℕ} {own : Answer (List ℕ)} where
  pub own-fits : (plain : Answer (List ℕ)) (q : Result Edited Refusal) (n : ℕ) (old mid : List ℕ) → q ≡ Ok (Written n) → Owned at plain own → Answered plain q old mid → at + 8 ≤ length mid
  unfolding edited_of lent
  own-fits (refused k) q n old mid is o w = let e = sym is ∙ w.result in let z : ◌≡◌ {A = ℕ} 0 1 = cc in absurd (omega arith)
  own-fits absent q n old mid is o w = let e = sym is ∙ w.result in let z : ◌≡◌ {A = ℕ} 0 1 = cc in absurd (omega arith)
  own-fits remove q n old mid is o w = let e = sym is ∙ w.result in let z : ◌≡◌ {A = ℕ} 0 1 = cc in absurd (omega arith)
  own-fits (accepted bytes) q n old mid is o w =
      let l = ap length w.output ∙ length-append bytes (drop (length bytes) old) in
      let h = o.long bytes refl in
      omega arith

  -- written, then the flag
  pub own-written : (plain : Answer (List ℕ)) (q : Result Edited Refusal) (n : ℕ) (old mid new : List ℕ) → q ≡ Ok (Written n) → Owned at plain own → Answered plain q old mid
      → new ≡ with_own_flag at mid
      → Answered own (Ok (Written n)) old new
  unfolding edited_of lent bind
  own-written (refused k) q n old mid new is o w e = let f = sym is ∙ w.result in let z : ◌≡◌ {A = ℕ} 0 1 = cc in absurd (omega arith)
  own-written absent q n old mid new is o w e = let f = sym is ∙ w.result in let z : ◌≡◌ {A = ℕ} 0 1 = cc in absurd (omega arith)
  own-written remove q n old mid new is o w e = let f = sym is ∙ w.result in let z : ◌≡◌ {A = ℕ} 0 1 = cc in absurd (omega arith)
  own-written (accepted bytes) q n old mid new is o w e =
      let h : at + 8 ≤ length bytes = o.long bytes refl in
      let l : length (with_own_flag at bytes) ≡ length bytes = length-own at bytes h in
      subst (λ (a : Answer (List ℕ)). Answered a (Ok (Written n)) old new) (sym o.same)
      (record {
        result = sym is ∙ w.result ∙ ap (λ (k : ℕ). Ok (Written k)) (sym l);
        output = e ∙ ap (with_own_flag at) w.output ∙ own-append at bytes (drop (length bytes) old) h
            ∙ ap (λ (k : ℕ). with_own_flag at bytes ++ drop k old) (sym l);
      })

  -- nothing written
  pub own-other : (plain : Answer (List ℕ)) (q r : Result Edited Refusal) (old new : List ℕ) → q ≡ r → ((n : ℕ) → r ≡ Ok (Written n) → ⊥) → Owned at plain own → Answered plain q old new
      → Answered own r old new
  unfolding edited_of lent bind
  own-other (refused k) q r old new is h o w =
      subst (λ (a : Answer (List ℕ)). Answered a r old new) (sym o.same) (record { result = sym is ∙ w.result; output = w.output })
  own-other absent q r old new is h o w =
      subst (λ (a : Answer (List ℕ)). Answered a r old new) (sym o.same) (record { result = sym is ∙ w.result; output = w.output })
  own-other remove q r old new is h o w =
      subst (λ (a : Answer (List ℕ)). Answered a r old new) (sym o.same) (record { result = sym is ∙ w.result; output = w.output })
  own-other (accepted bytes) q r old new is h o w = absurd (h (length bytes) (sym is ∙ w.result))

-- ---- in the record's body

abbrev marked : List ℕ → List ℕ
marked rest = written 16 (le_bytes 8 (bit_or (flags_of rest) 256)) rest

-- a body with a head, and not too long
abbrev pub Headed : List ℕ → Type 0
Headed rest = (24 ≤ length rest) × (length rest ≤ 65535)

pub with-own : (rest : List ℕ) → Headed rest → with_flags rest 256 ≡ accepted (marked rest)
unfolding with_flags on_head body_fits
with-own rest h =
    ask-yes (leb (length rest) 65535) 3 _ (le→leb (length rest) 65535 h.1) ∙ ask-yes (leb 24 (length rest)) 6 _ (le→leb 24 (length rest) h.0)

all-swap : (p : Item → Bool) (a : List Item) (x y : Item) (b : List Item) → p x ≡ p y → all p (a ++ x ∷ b) ≡ all p (a ++ y ∷ b)
all-swap p [] x y b e = ap (λ (t : Bool). t && all p b) e
all-swap p (w ∷ a) x y b e = ap (λ (t : Bool). p w && t) (all-swap p a x y b e)

module _ {s : List ℕ} {c : Cut Item} {target : RecordAt} (st : Stands s c target) (more : List Item) where
  abbrev put : List ℕ → List Item
  put d = c.front ++ with_bytes c.hit d ∷ more

  put-long : (rest : List ℕ) → target.start + 21 + length rest ≤ length (sheet_bytes (put rest))
  put-long rest =
      let i : Item = with_bytes c.hit rest in
      let l₁ = ap length (sheet-join c.front i more) ∙ length-append (sheet_bytes c.front) (item_bytes i ++ items_bytes more) in
      let l₂ = length-append (item_bytes i) (items_bytes more) in
      let l₃ = length-item_bytes i in
      let l₄ = st.starts in
      omega arith

  module _ (rest : List ℕ) (whole : Headed rest) where
    abbrev flags : List ℕ
    flags = le_bytes 8 (bit_or (flags_of rest) 256)

    inside : 16 + length flags ≤ length rest
    inside = let n = length-le_bytes 8 (bit_or (flags_of rest) 256) in let l = whole.0 in omega arith

    -- the bytes of the list
    put-own : sheet_bytes (put (marked rest)) ≡ with_own_flag (target.start + 37) (sheet_bytes (put rest))
    unfolding flags_of
    put-own =
        let i : Item = with_bytes c.hit rest in
        let all : List ℕ = sheet_bytes (put rest) in
        let p : ℕ = length (sheet_bytes c.front) + 21 in
        let is : part p (length rest) all ≡ rest = sheet-data (put rest) c.front i more refl in
        let a = st.starts in
        let l = put-long rest in
        let w = whole.0 in
        let at : p + 16 ≡ target.start + 37 = omega arith in
        let room : p + 16 ≤ length all = omega arith in
        let fits : 16 + 8 ≤ length rest = omega arith in
        let read : part 16 8 rest ≡ part (target.start + 37) 8 all =
        ap (part 16 8) (sym is) ∙ part-inside p (length rest) 16 8 all fits room ∙ ap (λ (k : ℕ). part k 8 all) at in
        sheet-part (put rest) c.front i 16 flags more refl inside
        ∙ (λ j. written (at j) (le_bytes 8 (bit_or (le (read j)) 256)) all)

    length-own-put : length (sheet_bytes (put (marked rest))) ≡ length (sheet_bytes (put rest))
    length-own-put =
        let l = put-long rest in
        let w = whole.0 in
        ap length put-own ∙ length-own (target.start + 37) (sheet_bytes (put rest)) (omega arith)

    holds-own : (room : ℕ) → sheet_holds room (put (marked rest)) ≡ sheet_holds room (put rest)
    unfolding sheet_holds data_fits
    holds-own room =
        let many : length (put (marked rest)) ≡ length (put rest) =
        length-append c.front (with_bytes c.hit (marked rest) ∷ more) ∙ sym (length-append c.front (with_bytes c.hit rest ∷ more)) in
        let fits : all (λ i. leb (length i.bytes) 65535) (put (marked rest)) ≡ all (λ i. leb (length i.bytes) 65535) (put rest) =
        all-swap (λ i. leb (length i.bytes) 65535) c.front (with_bytes c.hit (marked rest)) (with_bytes c.hit rest) more
        (ap (λ (k : ℕ). leb k 65535) (length-written 16 flags rest inside)) in
        λ j. leb (length-own-put j) room && leb (length-own-put j) 262144 && leb (many j) 4096 && fits j

    own_held : (room : ℕ) → Owned (target.start + 37) (held_sheet room (accepted (put rest))) (held_sheet room (accepted (put (marked rest))))
    unfolding held_sheet held bind ask
    own_held room =
        record {
          same = ap (λ (b : Bool). bind (ask b 21 (accepted (put (marked rest)))) (λ items. accepted (sheet_bytes items))) (holds-own room)
              ∙ go (sheet_holds room (put rest));
          long = λ bytes e. inside_of (sheet_holds room (put rest)) bytes e;
        }
      where
        go : (b : Bool)
            → bind (ask b 21 (accepted (put (marked rest)))) (λ items. accepted (sheet_bytes items))
            ≡ bind (bind (ask b 21 (accepted (put rest))) (λ items. accepted (sheet_bytes items))) (λ bytes. accepted (with_own_flag (target.start + 37) bytes))
        go true = ap accepted put-own
        go false = refl

        inside_of : (b : Bool) (bytes : List ℕ) → bind (ask b 21 (accepted (put rest))) (λ items. accepted (sheet_bytes items)) ≡ accepted bytes
            → target.start + 37 + 8 ≤ length bytes
        inside_of true bytes e = let l = put-long rest in let w = whole.0 in let f : length (sheet_bytes (put rest)) ≡ length bytes = ap length (accepted-inj e) in omega arith
        inside_of false bytes e = refused-not e

  -- after the body's answer
  pub own-bind : (room : ℕ) (a : Answer (List ℕ)) → ((rest : List ℕ) → a ≡ accepted rest → Headed rest)
      → Owned (target.start + 37) (held_sheet room (bind a (λ rest. accepted (put rest)))) (held_sheet room (bind a (λ rest. bind (with_flags rest 256) (λ d. accepted (put d)))))
  unfolding held_sheet held bind
  own-bind room (refused k) h = record { same = refl; long = λ bytes e. refused-not e }
  own-bind room absent h = record { same = refl; long = λ bytes e. absent-not e }
  own-bind room remove h = record { same = refl; long = λ bytes e. remove-not e }
  own-bind room (accepted rest) h =
      subst (λ (a : Answer (List ℕ)). Owned (target.start + 37) (held_sheet room (accepted (put rest))) (held_sheet room (bind a (λ d. accepted (put d)))))
      (sym (with-own rest (h rest refl))) (own_held rest (h rest refl) room)
