-- What a body counts under a name: it is read off the references alone, so another total and, in a record of type 169, other
-- flags do not change it; and where the name stands nowhere it is 0. Assumes nothing.
use mathlib.Core.Path.{◌≡◌, refl, sym, ap, ◌∙◌}
use mathlib.Core.Bool.{Bool, true, false, ◌&&◌, cond}
use mathlib.Core.List.{List, ◌++◌}
use mathlib.Core.Option.{Option, none, some}
use Prim.Native.Nat.{ℕ, ◌+◌, ◌-◌, ◌/◌, ◌%◌, ◌≤◌}
use native.Mathlib.Omega.{arith}
use lib.Bits.{bit_or}
use lib.Dec.{leb, eqb, leb→le}
use lib.ListN.{length, take, drop, length-append}
use lib.Seq.{length-take-le, drop_at, drop-drop}
use Rattle.fields.specs.Lists.{Cut, first_cut}
use Rattle.fields.specs.Numbers.{le, le_bytes}
use Rattle.fields.specs.Parts.{written}
use Rattle.fields.proofs.Lists.{cut-none}
use Rattle.fields.proofs.Numbers.{length-le_bytes}
use Rattle.fields.proofs.Parts.{length-written}
use Rattle.format.specs.Questions.{Answer, refused, absent, remove, accepted, ask, bind, found, result_or}
use Rattle.format.specs.declared.BlockRef.{BlockRef}
use Rattle.format.specs.References.{Ref, read_refs, total_of, flags_of, start_of, Body, body_with, read_body, body_bytes}
use Rattle.format.specs.Bodies.{body_fits, on_body, on_head, named, one, lowered_by_one, on_total, with_flags, less, drop_inline, drop_inline_tree_ref}
use Rattle.format.specs.Apply.{flagged}
use Rattle.format.specs.Left.{left_among, left_in}
use Rattle.format.proofs.Answers.{ask-ok, bind_ok, accepted-inj}
use Rattle.format.proofs.Bodies.{start-least}
use Rattle.format.proofs.Left.{none_left}
use Rattle.transaction.proofs.Turns.{refused-absent, accepted-absent, asked-absent}

-- ---- bytes behind a write

behind-written : (at n : ℕ) (new old : List ℕ) → at + length new ≤ n → n ≤ length old → drop n (written at new old) ≡ drop n old
behind-written at n new old low high =
    let front : length (take at old) ≡ at = length-take-le at old (omega arith) in
    let both : length (take at old ++ new) ≡ at + length new = simp (length-append, front) in
    let k : ℕ = n - (at + length new) in
    let e : n ≡ at + length new + k = omega arith in
    ap (λ (i : ℕ). drop i (written at new old)) e ∙ sym (drop-drop k (at + length new) (written at new old))
    ∙ ap (drop k) (drop_at (take at old ++ new) (drop (at + length new) old) (at + length new) both)
    ∙ drop-drop k (at + length new) old ∙ ap (λ (i : ℕ). drop i old) (sym e)

-- ---- what is read of the references

module _ (type kind : ℕ) (fields : List ℕ) where
  abbrev leaves : List ℕ → Answer (List Ref) → ℕ
  leaves d refs =
      result_or 0 (left_among kind fields) (ask (leb 24 (length d)) 6 (ask (leb (start_of type d) (length d)) 6 refs))

  left-refs : (d : List ℕ) → left_in type kind fields d ≡ leaves d (read_refs (length d) (drop (start_of type d) d))
  unfolding left_in read_body ask bind
  left-refs d = go (leb 24 (length d)) (leb (start_of type d) (length d)) (read_refs (length d) (drop (start_of type d) d))
    where
      go : (p q : Bool) (r : Answer (List Ref))
          → result_or 0 (λ (b : Body). left_among kind fields b.refs)
          (ask p 6 (ask q 6 (bind r (λ refs. accepted (record { total = total_of d; fixed = drop 8 (take (start_of type d) d); refs = refs })))))
          ≡ result_or 0 (left_among kind fields) (ask p 6 (ask q 6 r))
      go true true (refused n) = refl
      go true true absent = refl
      go true true remove = refl
      go true true (accepted refs) = refl
      go true false r = refl
      go false q r = refl

  left-same : (a b : List ℕ) → length a ≡ length b → start_of type a ≡ start_of type b → drop 24 a ≡ drop 24 b
      → left_in type kind fields a ≡ left_in type kind fields b
  left-same a b l s e =
      let least = start-least type a in
      let k : ℕ = start_of type a - 24 in
      let at : start_of type a ≡ 24 + k = omega arith in
      let rest : drop (start_of type a) a ≡ drop (start_of type b) b =
      ap (λ (n : ℕ). drop n a) at ∙ sym (drop-drop k 24 a) ∙ ap (drop k) e ∙ drop-drop k 24 b ∙ ap (λ (n : ℕ). drop n b) (sym at ∙ s) in
      left-refs a
      ∙ (λ j. result_or 0 (left_among kind fields) (ask (leb 24 (l j)) 6 (ask (leb (s j) (l j)) 6 (read_refs (l j) (rest j)))))
      ∙ sym (left-refs b)

  -- ---- another total

  left-total : (d : List ℕ) (t : ℕ) → 24 ≤ length d → left_in type kind fields (written 0 (le_bytes 8 t) d) ≡ left_in type kind fields d
  unfolding start_of flags_of
  left-total d t long =
      let new : List ℕ = le_bytes 8 t in
      let eight : length new ≡ 8 = length-le_bytes 8 t in
      let flags : drop 16 (written 0 new d) ≡ drop 16 d = behind-written 0 16 new d (omega arith) (omega arith) in
      left-same (written 0 new d) d (length-written 0 new d (omega arith))
      (ap (λ (l : List ℕ). cond (eqb type 168 && eqb (le (take 8 l) / 2 % 2) 1) 42 24) flags)
      (behind-written 0 24 new d (omega arith) long)

  pub total_left : (lowered : ℕ → Answer ℕ) (d rest : List ℕ) → on_total d lowered ≡ accepted rest → left_in type kind fields rest ≡ left_in type kind fields d
  unfolding on_total on_head
  total_left lowered d rest e =
      let h₁ = ask-ok (body_fits d) 3 _ e in
      let h₂ = ask-ok (leb 24 (length d)) 6 _ h₁.1 in
      let h₃ = bind_ok (lowered (total_of d)) _ h₂.1 in
      ap (left_in type kind fields) (sym (accepted-inj h₃.2)) ∙ left-total d h₃.0 (leb→le _ _ h₂.0)

-- ---- other flags: in a record of type 169 the references stand at 24 whatever they are

pub flagged-left : (kind : ℕ) (fields : List ℕ) (own : Bool) (d rest : List ℕ) → flagged own d ≡ accepted rest → left_in 169 kind fields rest ≡ left_in 169 kind fields d
unfolding flagged with_flags on_head start_of
flagged-left kind fields false d rest e = ap (left_in 169 kind fields) (sym (accepted-inj e))
flagged-left kind fields true d rest e =
    let h₁ = ask-ok (body_fits d) 3 _ e in
    let h₂ = ask-ok (leb 24 (length d)) 6 _ h₁.1 in
    let new : List ℕ = le_bytes 8 (bit_or (flags_of d) 256) in
    let eight : length new ≡ 8 = length-le_bytes 8 (bit_or (flags_of d) 256) in
    let long : 24 ≤ length d = leb→le _ _ h₂.0 in
    let low : 16 + length new ≤ 24 = omega arith in
    let inside : 16 + length new ≤ length d = omega arith in
    ap (left_in 169 kind fields) (sym (accepted-inj h₂.1))
    ∙ left-same 169 kind fields (written 16 new d) d (length-written 16 new d inside) refl (behind-written 16 24 new d low long)

-- ---- a name that stands nowhere

lowered-there : (total : ℕ) (make : ℕ → List ℕ) → bind (lowered_by_one total) (λ t. accepted (make t)) ≡ absent → ⊥
unfolding lowered_by_one ask bind
lowered-there total make = go (leb 2 total)
  where
    go : (b : Bool) → bind (ask b 13 (accepted (total - 1))) (λ t. accepted (make t)) ≡ absent → ⊥
    go true e = accepted-absent e
    go false e = refused-absent e

-- a drop that finds no reference of it
module _ (name : BlockRef) where
  abbrev wanted : Ref → Bool
  wanted = named 176 (one name.tree)

  abbrev lowered : Body → Cut Ref → Answer (List ℕ)
  lowered b c = bind (lowered_by_one b.total) (λ total. accepted (body_bytes (body_with b total (c.front ++ (less c.hit 1 ++ c.back)))))

  none_found : (b : Body) (o : Option (Cut Ref)) → first_cut wanted b.refs ≡ o → bind (found o) (lowered b) ≡ absent
      → left_among 176 (one name.tree) b.refs ≡ 0
  unfolding found bind
  none_found b none h e = none_left 176 (one name.tree) b.refs (cut-none wanted b.refs h)
  none_found b (some c) h e = absurd (lowered-there b.total _ e)

  pub absent-left : (type : ℕ) (d : List ℕ) → drop_inline_tree_ref type d name ≡ absent → left_in type 176 (one name.tree) d ≡ 0
  unfolding drop_inline_tree_ref drop_inline on_body left_in bind
  absent-left type d e = go (read_body type d) (asked-absent (body_fits d) 3 _ e)
    where
      go : (a : Answer Body) → bind a (λ b. bind (found (first_cut wanted b.refs)) (lowered b)) ≡ absent
          → result_or 0 (λ (b : Body). left_among 176 (one name.tree) b.refs) a ≡ 0
      go (refused n) f = refl
      go absent f = refl
      go remove f = refl
      go (accepted b) f = none_found b (first_cut wanted b.refs) refl f
