-- Laws of the whole text: what it is where a body is refused, and where its references are read; and what a lent output holds.
-- Assumes nothing.
use mathlib.Core.Path.{◌≡◌, refl, sym, ap, ap₂, ◌∙◌}
use mathlib.Core.Logic.{◌⊎◌, inl, inr}
use mathlib.Core.Bool.{Bool, true, false}
use mathlib.Core.List.{List, [], ◌∷◌, ◌++◌}
use Prim.Native.Nat.{ℕ, ◌+◌, ◌≤◌, ◌<◌}
use native.Mathlib.Omega.{arith}
use lib.ListN.{length, take, drop}
use lib.Seq.{take_all, length-take-le}
use borrow.Author.Tests.{lt-leb}
use Rattle.fields.specs.Parts.{written}
use Rattle.fields.proofs.Lists.{lt-or}
use Rattle.fields.proofs.Parts.{stores}
use Rattle.std.specs.Prelude.{Ok}
use Rattle.format.specs.declared.Edited.TheVariants.{Written}
use Rattle.format.specs.Questions.{Answer, refused, absent, remove, accepted, ask, bind, held_text, denied, Answered}
use Rattle.format.specs.References.{Ref, Body, total_of, flags_of, start_of, read_body}
use Rattle.format.specs.Bodies.{body_fits, on_body}
use Rattle.format.specs.Lister.{line, ref_lines, listing, printed, listed}
use Rattle.format.proofs.Outputs.{text-refused, text-written}
use Rattle.format.proofs.Refs.{read_refs-decides}
use Rattle.inline_refs.specs.Steps.{read_from}
use Rattle.inline_refs.specs.Scans.{refs_in, ref_count_of}
use Rattle.inline_refs.proofs.Notes.{Opens}
use Rattle.inline_refs.proofs.Counts.{count-reads, fault-reads}
use Rattle.text.specs.Puts.{Put}
use Rattle.lister_text.specs.Refs.{refs_of}

-- ---- what the text is

-- a call that reads a body asks as the reader of its references does
body-then : (a b c : Bool) (x : Answer (List Ref)) (total : ℕ) (fixed : List ℕ) (f : ℕ → List Ref → Answer (List ℕ))
    → ask a 3 (bind (ask b 6 (ask c 6 (bind x (λ refs. accepted (record { total = total; fixed = fixed; refs = refs }))))) (λ (y : Body). f y.total y.refs))
    ≡ bind (ask a 3 (bind (ask b 6 (ask c 6 (bind x (λ refs. accepted (record { total = total; fixed = fixed; refs = refs }))))) (λ (y : Body). accepted y.refs))) (f total)
unfolding ask bind
body-then false b c x total fixed f = refl
body-then true false c x total fixed f = refl
body-then true true false x total fixed f = refl
body-then true true true (refused number) total fixed f = refl
body-then true true true absent total fixed f = refl
body-then true true true remove total fixed f = refl
body-then true true true (accepted refs) total fixed f = refl

module _ (type : ℕ) (s : List ℕ) where
  abbrev text : List Ref → List ℕ
  text refs = line (start_of type s ∷ total_of s ∷ flags_of s ∷ length refs ∷ []) ++ ref_lines refs

  listing-is : listing type s ≡ bind (refs_in type s) (λ refs. accepted (text refs))
  unfolding listing refs_in on_body read_body
  listing-is =
      body-then _ _ _ _ _ _ (λ total refs. accepted (line (start_of type s ∷ total ∷ flags_of s ∷ length refs ∷ []) ++ ref_lines refs))

  pub text-shut : (n : ℕ) → refs_in type s ≡ refused n → printed (refused n) ≡ printed (listing type s)
  unfolding bind
  text-shut n e = ap printed (sym (listing-is ∙ ap (λ (x : Answer (List Ref)). bind x (λ refs. accepted (text refs))) e))

  module _ (start : ℕ) (o : Opens type s start) where
    pub text-fault : (n : ℕ) → denied n ≡ ref_count_of (read_from s start) → printed (refused n) ≡ printed (listing type s)
    unfolding read_from
    text-fault n e = text-shut n (o.reads ∙ fault-reads (read_from s start) n (read_refs-decides (length (drop start s)) (drop start s)) e)

    pub text-is : (count : ℕ) → Ok count ≡ ref_count_of (read_from s start)
        → line (start ∷ total_of s ∷ flags_of s ∷ count ∷ []) ++ ref_lines (refs_of (read_from s start)) ≡ printed (listing type s)
    unfolding printed bind refs_of
    text-is count e =
        let w = count-reads (read_from s start) count e in
        ap₂ (λ (a b : ℕ). line (a ∷ total_of s ∷ flags_of s ∷ b ∷ []) ++ ref_lines (refs_of (read_from s start))) o.at w.many
        ∙ ap (λ (x : Answer (List Ref)). line (start_of type s ∷ total_of s ∷ flags_of s ∷ length w.refs ∷ []) ++ ref_lines (refs_of x)) w.is
        ∙ ap printed (sym (listing-is ∙ ap (λ (x : Answer (List Ref)). bind x (λ refs. accepted (text refs))) (o.reads ∙ w.is)))

pub text-empty : (input : List ℕ) → length input ≡ 0 → printed (refused 6) ≡ listed input
unfolding listed
text-empty [] e = refl
text-empty (type ∷ body) e = absurd (omega arith)

pub text-some : {input body : List ℕ} {type : ℕ} → input ≡ type ∷ body → printed (listing type body) ≡ listed input
unfolding listed
text-some e = ap listed (sym e)

-- ---- the lent output

module _ (text old : List ℕ) where
  pub put-fits : (n : ℕ) (new : List ℕ) → Put text 0 old n new → n ≤ length old → new ≡ written 0 text old
  put-fits n new p h = p.bytes ∙ stores text old 0 (omega (arith, p.further))

  pub text-short : (n : ℕ) → n ≡ 0 + length text → length old < n → Answered (held_text (length old) text) (denied 21) old old
  text-short n e h = text-refused text old (omega arith)

  pub text-writes : (n m : ℕ) (new : List ℕ) → n ≡ 0 + length text → n ≤ length old → Put text 0 old m new
      → Answered (held_text (length old) text) (Ok (Written n)) old new
  text-writes n m new e h p = text-written text old n new (omega arith) h (put-fits m new p (omega (arith, p.further)))

-- ---- how much of an input decides its text

long-refused : (type : ℕ) (body : List ℕ) → 65535 < length body → listing type body ≡ refused 3
unfolding listing on_body ask body_fits
long-refused type body h = simp (lt-leb _ _ h)

-- a type byte, and one byte more than the longest body
pub listed-cut : (input : List ℕ) → listed (take 65537 input) ≡ listed input
unfolding listed
listed-cut [] = refl
listed-cut (type ∷ body) = go (lt-or (length body) 65537)
  where
    go : (length body < 65537) ⊎ (65537 ≤ length body) → printed (listing type (take 65536 body)) ≡ printed (listing type body)
    go (inl h) = let z : length body ≤ 65536 = omega arith in ap (λ (l : List ℕ). printed (listing type l)) (take_all 65536 body z)
    go (inr h) =
        let z : 65536 ≤ length body = omega arith in
        let l : 65535 < length (take 65536 body) = omega (arith, length-take-le 65536 body z) in
        let m : 65535 < length body = omega arith in
        ap printed (long-refused type (take 65536 body) l ∙ sym (long-refused type body m))
