-- Bodies as bytes: what is written is read back, what is read is written as it stood, and a total written over another.
-- Assumes nothing.
use mathlib.Core.Path.{◌≡◌, refl, sym, ap, ◌∙◌, subst}
use mathlib.Core.Bool.{Bool, true, false, ◌&&◌, cond}
use mathlib.Core.List.{List, ◌++◌, append_assoc}
use Prim.Native.Nat.{ℕ, ◌+◌, ◌/◌, ◌%◌, ◌≤◌, ◌<◌}
use native.Mathlib.Omega.{arith}
use lib.Dec.{T, leb, eqb, leb→le, le→leb}
use lib.ListN.{length, take, drop, length-append, length-drop, take-append-drop}
use lib.Seq.{take_at, drop_at, take-append-le, drop-append-le, take-take, drop-drop, length-take-le}
use Rattle.format.specs.Bodies.{body_fits, on_body}
use Rattle.fields.specs.Lists.{all}
use Rattle.fields.specs.Numbers.{le, le_bytes, are_bytes}
use Rattle.fields.specs.Parts.{part, written}
use Rattle.fields.proofs.Numbers.{are_bytes-take, are_bytes-drop, are_bytes-append, are_bytes-le_bytes, length-le_bytes, le-bound, le-le_bytes, le_bytes-le-at}
use Rattle.format.specs.Questions.{Answer, refused, accepted, ask, bind}
use Rattle.format.specs.References.{Ref, read_refs, refs_bytes, total_of, flags_of, start_of, Body, body_with, read_body, body_bytes}
use Rattle.format.proofs.Answers.{bind-yes, accepted-inj, ask-ok, ask-yes, bind_ok}
use Rattle.format.proofs.Refs.{whole, read-refs_bytes, read_refs-whole, refs_bytes-read, are_bytes-refs_bytes, bind-refused, Reads, read, strange as strange_refs, cut_off as cut_off_refs, read_refs-decides}

-- where the references start, from the bytes after the total
abbrev pub start_fixed : ℕ → List ℕ → ℕ
start_fixed type fixed = cond (eqb type 168 && eqb (le (part 8 8 fixed) / 2 % 2) 1) 42 24

-- a body that a run of bytes can hold
pub record Sound (type : ℕ) (b : Body) : Type 0 where
  pub fits : b.total < 18446744073709551616
  pub starts : start_fixed type b.fixed ≡ 8 + length b.fixed
  pub fixed_bytes : T (are_bytes b.fixed)
  pub wholes : T (all whole b.refs)

-- with another total and other references it still is one
pub sound-with : (type : ℕ) (b : Body) (total : ℕ) (refs : List Ref) → Sound type b → total < 18446744073709551616
    → T (all whole refs) → Sound type (body_with b total refs)
sound-with type b total refs s h t = record { fits = h; starts = s.starts; fixed_bytes = s.fixed_bytes; wholes = t }

-- ---- where the references start

pub start-cases : (c : Bool) → 24 ≤ cond c 42 24
start-cases true = omega arith
start-cases false = omega arith

pub start-least : (type : ℕ) (d : List ℕ) → 24 ≤ start_of type d
unfolding start_of
start-least type d = start-cases (eqb type 168 && eqb (flags_of d / 2 % 2) 1)

pub start_fixed-least : (type : ℕ) (fixed : List ℕ) → 24 ≤ start_fixed type fixed
start_fixed-least type fixed = start-cases (eqb type 168 && eqb (le (part 8 8 fixed) / 2 % 2) 1)

pub fixed-long : (type : ℕ) (b : Body) → Sound type b → 16 ≤ length b.fixed
fixed-long type b s = omega (arith, start_fixed-least type b.fixed, s.starts)

-- eight bytes at 16, in front of anything, are eight bytes at 8 of what follows the first eight
pub part-after : (first l more : List ℕ) → length first ≡ 8 → 16 ≤ length l → part 16 8 (first ++ (l ++ more)) ≡ part 8 8 l
part-after first l more e h =
    ap (take 8) (sym (drop-drop 8 8 (first ++ (l ++ more))) ∙ ap (drop 8) (drop_at first (l ++ more) 8 e) ∙ drop-append-le 8 l more (omega arith))
    ∙ take-append-le 8 (drop 8 l) more (omega (arith, length-drop 8 l))

pub flags-body_bytes : (b : Body) → 16 ≤ length b.fixed → flags_of (body_bytes b) ≡ le (part 8 8 b.fixed)
unfolding flags_of body_bytes
flags-body_bytes b h = ap le (part-after (le_bytes 8 b.total) b.fixed (refs_bytes b.refs) (length-le_bytes 8 b.total) h)

pub start-body_bytes : (type : ℕ) (b : Body) → Sound type b → start_of type (body_bytes b) ≡ 8 + length b.fixed
unfolding start_of
start-body_bytes type b s =
    ap (λ (n : ℕ). cond (eqb type 168 && eqb (n / 2 % 2) 1) 42 24) (flags-body_bytes b (fixed-long type b s)) ∙ s.starts

-- ---- lengths and totals

pub length-body_bytes : (b : Body) → length (body_bytes b) ≡ 8 + length b.fixed + length (refs_bytes b.refs)
unfolding body_bytes
length-body_bytes b =
    omega (
      arith,
      length-append (le_bytes 8 b.total) (b.fixed ++ refs_bytes b.refs),
      length-append b.fixed (refs_bytes b.refs),
      length-le_bytes 8 b.total,
    )

pub total-body_bytes : (b : Body) → b.total < 18446744073709551616 → total_of (body_bytes b) ≡ b.total
unfolding total_of body_bytes
total-body_bytes b h =
    ap le (take_at (le_bytes 8 b.total) (b.fixed ++ refs_bytes b.refs) 8 (length-le_bytes 8 b.total)) ∙ le-le_bytes 8 b.total h

-- a total written over another
pub set-total : (b : Body) (t : ℕ) → written 0 (le_bytes 8 t) (body_bytes b) ≡ body_bytes (body_with b t b.refs)
unfolding body_bytes
set-total b t =
    ap (λ (l : List ℕ). le_bytes 8 t ++ l)
    (drop_at (le_bytes 8 b.total) (b.fixed ++ refs_bytes b.refs) (0 + length (le_bytes 8 t))
    (omega (arith, length-le_bytes 8 b.total, length-le_bytes 8 t)))

pub are_bytes-body_bytes : (type : ℕ) (b : Body) → Sound type b → T (are_bytes (body_bytes b))
unfolding body_bytes
are_bytes-body_bytes type b s =
    are_bytes-append (le_bytes 8 b.total) (b.fixed ++ refs_bytes b.refs) (are_bytes-le_bytes 8 b.total)
    (are_bytes-append b.fixed (refs_bytes b.refs) s.fixed_bytes (are_bytes-refs_bytes b.refs s.wholes))

-- ---- written and read back

-- what stands before the references, then the references
pub body_bytes-grouped : (b : Body) → body_bytes b ≡ (le_bytes 8 b.total ++ b.fixed) ++ refs_bytes b.refs
unfolding body_bytes
body_bytes-grouped b = sym (append_assoc (le_bytes 8 b.total) b.fixed (refs_bytes b.refs))

pub read-body_bytes : (type : ℕ) (b : Body) → Sound type b → read_body type (body_bytes b) ≡ accepted b
unfolding read_body bind
read-body_bytes type b s =
    let t8 : List ℕ = le_bytes 8 b.total in
    let l8 : length t8 ≡ 8 = length-le_bytes 8 b.total in
    let rr : List ℕ = refs_bytes b.refs in
    let d : List ℕ = body_bytes b in
    let n : ℕ = 8 + length b.fixed in
    let st : start_of type d ≡ n = start-body_bytes type b s in
    let long = fixed-long type b s in
    let len : length d ≡ n + length rr = length-body_bytes b in
    let g : d ≡ (t8 ++ b.fixed) ++ rr = body_bytes-grouped b in
    let n₃ : length (t8 ++ b.fixed) ≡ n = length-append t8 b.fixed ∙ ap (λ (x : ℕ). x + length b.fixed) l8 in
    let rd : read_refs (length d) (drop (start_of type d) d) ≡ accepted b.refs =
    ap (λ (x : ℕ). read_refs (length d) (drop x d)) st
    ∙ ap (λ (x : List ℕ). read_refs (length d) (drop n x)) g
    ∙ ap (read_refs (length d)) (drop_at (t8 ++ b.fixed) rr n n₃)
    ∙ read-refs_bytes (length d) b.refs s.wholes (omega arith) in
    let to : total_of d ≡ b.total = total-body_bytes b s.fits in
    let fx : drop 8 (take (start_of type d) d) ≡ b.fixed =
    ap (λ (x : ℕ). drop 8 (take x d)) st
    ∙ ap (λ (x : List ℕ). drop 8 (take n x)) g
    ∙ ap (drop 8) (take_at (t8 ++ b.fixed) rr n n₃)
    ∙ drop_at t8 b.fixed 8 l8 in
    ask-yes (leb 24 (length d)) 6 _ (le→leb 24 (length d) (omega arith))
    ∙ ask-yes (leb (start_of type d) (length d)) 6 _ (le→leb (start_of type d) (length d) (omega arith))
    ∙ ap (λ (x : Answer (List Ref)). bind x (λ (refs : List Ref).
    accepted (record { total = total_of d; fixed = drop 8 (take (start_of type d) d); refs = refs }))) rd
    ∙ (λ i. accepted (record { total = to i; fixed = fx i; refs = b.refs }))

-- ---- what a body that was read says of its bytes

pub record Read (type : ℕ) (d : List ℕ) (b : Body) : Type 0 where
  pub long : 24 ≤ length d
  pub started : start_of type d ≤ length d
  pub refs_read : read_refs (length d) (drop (start_of type d) d) ≡ accepted b.refs
  pub total_read : total_of d ≡ b.total
  pub fixed_read : drop 8 (take (start_of type d) d) ≡ b.fixed

pub read_out : (type : ℕ) (d : List ℕ) (b : Body) → read_body type d ≡ accepted b → Read type d b
unfolding read_body
read_out type d b e =
    let h₁ = ask-ok (leb 24 (length d)) 6 _ e in
    let h₂ = ask-ok (leb (start_of type d) (length d)) 6 _ h₁.1 in
    let h₃ = bind_ok (read_refs (length d) (drop (start_of type d) d)) _ h₂.1 in
    let q = accepted-inj h₃.2 in
    record {
      long = leb→le _ _ h₁.0;
      started = leb→le _ _ h₂.0;
      refs_read = h₃.1 ∙ ap (λ (x : Body). accepted x.refs) q;
      total_read = ap (λ (x : Body). x.total) q;
      fixed_read = ap (λ (x : Body). x.fixed) q;
    }

pub read-total : (type : ℕ) (d : List ℕ) (b : Body) → read_body type d ≡ accepted b → total_of d ≡ b.total
read-total type d b e = (read_out type d b e).total_read

pub read-long : (type : ℕ) (d : List ℕ) (b : Body) → read_body type d ≡ accepted b → 24 ≤ length d
read-long type d b e = (read_out type d b e).long

pub body_bytes-read : (type : ℕ) (d : List ℕ) (b : Body) → T (are_bytes d) → read_body type d ≡ accepted b → body_bytes b ≡ d
unfolding body_bytes total_of
body_bytes-read type d b t e =
    let h : Read type d b = read_out type d b e in
    let st : ℕ = start_of type d in
    let k₁ : 24 ≤ length d = h.long in
    let k₂ : 24 ≤ st = start-least type d in
    let e₁ : le_bytes 8 b.total ≡ take 8 (take st d) =
    ap (le_bytes 8) (sym h.total_read) ∙ le_bytes-le-at 8 (take 8 d) (length-take-le 8 d (omega arith)) (are_bytes-take 8 d t)
    ∙ sym (take-take 8 st d (omega arith)) in
    let e₂ : refs_bytes b.refs ≡ drop st d =
    refs_bytes-read (length d) (drop st d) b.refs (are_bytes-drop st d t) (omega (arith, length-drop st d)) h.refs_read in
    let e₃ : b.fixed ≡ drop 8 (take st d) = sym h.fixed_read in
    (λ i. e₁ i ++ (e₃ i ++ e₂ i))
    ∙ sym (append_assoc (take 8 (take st d)) (drop 8 (take st d)) (drop st d))
    ∙ ap (λ (z : List ℕ). z ++ drop st d) (take-append-drop 8 (take st d))
    ∙ take-append-drop st d

pub read-start : (type : ℕ) (d : List ℕ) (b : Body) → read_body type d ≡ accepted b → start_of type d ≡ 8 + length b.fixed
read-start type d b e =
    let h : Read type d b = read_out type d b e in
    let x : List ℕ = take (start_of type d) d in
    let k = ap length h.fixed_read in
    omega (arith, start-least type d, length-take-le (start_of type d) d h.started, length-drop 8 x)

pub read-sound : (type : ℕ) (d : List ℕ) (b : Body) → T (are_bytes d) → read_body type d ≡ accepted b → Sound type b
unfolding start_of total_of
read-sound type d b t e =
    let h : Read type d b = read_out type d b e in
    let k₁ : 24 ≤ length d = h.long in
    let k₂ = start-least type d in
    let l8 : length (take 8 d) ≡ 8 = length-take-le 8 d (omega arith) in
    let at : start_of type d ≡ 8 + length b.fixed = read-start type d b e in
    let long : 16 ≤ length b.fixed = omega arith in
    let fl : flags_of d ≡ le (part 8 8 b.fixed) = ap flags_of (sym (body_bytes-read type d b t e)) ∙ flags-body_bytes b long in
    record {
      fits = rw (← h.total_read) (rw l8 at (le-bound (take 8 d) (are_bytes-take 8 d t)));
      starts = ap (λ (n : ℕ). cond (eqb type 168 && eqb (n / 2 % 2) 1) 42 24) (sym fl) ∙ at;
      fixed_bytes = subst (λ (l : List ℕ). T (are_bytes l)) h.fixed_read
          (are_bytes-drop 8 (take (start_of type d) d) (are_bytes-take (start_of type d) d t));
      wholes = read_refs-whole (length d) (drop (start_of type d) d) b.refs (are_bytes-drop (start_of type d) d t) h.refs_read;
    }

-- ---- a body, or 6, 7 or 8

pub data ReadsBody (answer : Answer Body) : Type 0 where
  body : (b : Body) → answer ≡ accepted b → ReadsBody answer
  short : answer ≡ refused 6 → ReadsBody answer
  strange : answer ≡ refused 7 → ReadsBody answer
  cut_off : answer ≡ refused 8 → ReadsBody answer

pub read_body-decides : (type : ℕ) (d : List ℕ) → ReadsBody (read_body type d)
unfolding read_body ask bind
read_body-decides type d =
    go (leb 24 (length d)) (leb (start_of type d) (length d)) (read_refs (length d) (drop (start_of type d) d))
    (read_refs-decides (length d) (drop (start_of type d) d))
  where
    with-refs : List Ref → Body
    with-refs refs = record { total = total_of d; fixed = drop 8 (take (start_of type d) d); refs = refs }

    next : List Ref → Answer Body
    next refs = accepted (with-refs refs)

    go : (b c : Bool) (r : Answer (List Ref)) → Reads r → ReadsBody (ask b 6 (ask c 6 (bind r next)))
    go false c r h = short refl
    go true false r h = short refl
    go true true r (read refs e) = body (with-refs refs) (ap (λ x. bind x next) e)
    go true true r (strange_refs e) = strange (bind-refused r next 7 e)
    go true true r (cut_off_refs e) = cut_off (bind-refused r next 8 e)

-- ---- a call on a body that reads

pub on-body : {A : Type 0} (type : ℕ) (d : List ℕ) (b : Body) (next : Body → Answer A) → length d ≤ 65535 → read_body type d ≡ accepted b
    → on_body type d next ≡ next b
unfolding on_body body_fits
on-body type d b next h r = ask-yes (body_fits d) 3 _ (le→leb (length d) 65535 h) ∙ bind-yes (read_body type d) next r
