-- Laws of what is left under a name: in a body with so much off the first reference of the name, in a data reference's item, and
-- in the answer of a call that reports it. Assumes nothing.
use mathlib.Core.Path.{◌≡◌, refl, ap, ◌∙◌, subst}
use mathlib.Core.Logic.{◌⊎◌, inl, inr}
use mathlib.Core.Bool.{Bool, true, false, not, cond}
use mathlib.Core.List.{List, [], ◌∷◌, ◌++◌}
use Rattle.std.specs.Prelude.{Result}
use mathlib.Core.Option.{none, some}
use Prim.Native.Nat.{ℕ, ◌+◌, ◌-◌, ◌≤◌, ◌<◌}
use native.Mathlib.Omega.{arith}
use lib.Dec.{T}
use lib.ListN.{length}
use borrow.Author.Tests.{lt-ltb, le-ltb}
use mir.Facts.{and_yes}
use Rattle.fields.specs.Lists.{all, Cut, first_cut}
use Rattle.fields.specs.Numbers.{le, le_bytes, are_bytes}
use Rattle.fields.specs.Parts.{written}
use Rattle.fields.proofs.Lists.{cond_yes, lt-or, sum-append, all-mid, all-put, all_rest, cut-some, cut-none}
use Rattle.fields.proofs.Numbers.{length-le_bytes, le-le_bytes}
use Rattle.fields.proofs.Parts.{part-written}
use Rattle.format.specs.declared.Dropped.{Dropped}
use Rattle.format.specs.declared.Refusal.{Refusal}
use Rattle.format.specs.Questions.{Answer, refused, absent, remove, accepted, result_or, dropped_of, AnsweredDropped}
use Rattle.format.specs.References.{Ref, Body, body_with, read_body, body_bytes}
use Rattle.format.specs.Bodies.{named, weighed, less, keyed_count}
use Rattle.format.specs.Left.{weight_under, left_among, left_in}
use Rattle.format.proofs.Refs.{whole, whole-less}
use Rattle.format.proofs.Bodies.{Sound, sound-with, read-body_bytes, read-sound}

-- ---- among references

-- none of them has the name
pub none_left : (kind : ℕ) (fields : List ℕ) (refs : List Ref) → T (all (λ r. not (named kind fields r)) refs) → left_among kind fields refs ≡ 0
none_left kind fields [] t = refl
none_left kind fields (r ∷ refs) t =
    let h = and_yes (not (named kind fields r)) _ t in
    go (named kind fields r) h.0 (none_left kind fields refs h.1)
  where
    go : (b : Bool) → T (not b) → left_among kind fields refs ≡ 0 → cond b r.weight 0 + left_among kind fields refs ≡ 0
    go true h e = absurd h
    go false h e = omega (arith, e)

-- a reference of the name with so much off counts the rest, if there is any
less-left : (kind : ℕ) (fields : List ℕ) (r : Ref) (amount : ℕ) → T (named kind fields r)
    → left_among kind fields (less r amount) ≡ r.weight - amount
unfolding less named
less-left kind fields r amount t = go (lt-or amount r.weight)
  where
    go : (amount < r.weight) ⊎ (r.weight ≤ amount) → left_among kind fields (less r amount) ≡ r.weight - amount
    go (inl h) = rw (lt-ltb _ _ h) (omega (arith, cond_yes (named kind fields r) (r.weight - amount) 0 t))
    go (inr h) = rw (le-ltb _ _ h) (omega arith)

-- ---- in a body

-- so much off one of its references
pub less-wholes : (c : Cut Ref) → T (all whole (c.front ++ c.hit ∷ c.back)) → (amount : ℕ)
    → T (all whole (c.front ++ (less c.hit amount ++ c.back)))
unfolding less
less-wholes c wholes amount = go (lt-or amount c.hit.weight)
  where
    go : (amount < c.hit.weight) ⊎ (c.hit.weight ≤ amount) → T (all whole (c.front ++ (less c.hit amount ++ c.back)))
    go (inl h) =
        rw (lt-ltb _ _ h)
        (all-put whole c.front (weighed c.hit (c.hit.weight - amount)) c.back (all_rest whole c.front c.hit c.back wholes)
        (whole-less c.hit amount (all-mid whole c.front c.hit c.back wholes) h))
    go (inr h) = rw (le-ltb _ _ h) (all_rest whole c.front c.hit c.back wholes)

pub left-read : (type kind : ℕ) (fields d : List ℕ) (b : Body) → read_body type d ≡ accepted b
    → left_in type kind fields d ≡ left_among kind fields b.refs
unfolding left_in
left-read type kind fields d b e = ap (result_or 0 (λ (x : Body). left_among kind fields x.refs)) e

pub left-bytes : (type kind : ℕ) (fields : List ℕ) (b : Body) → Sound type b → left_in type kind fields (body_bytes b) ≡ left_among kind fields b.refs
left-bytes type kind fields b s = left-read type kind fields (body_bytes b) b (read-body_bytes type b s)

module _ (type kind : ℕ) (fields d : List ℕ) (b : Body) (reads : read_body type d ≡ accepted b) where
  -- the name stands nowhere in it
  pub left-none : first_cut (named kind fields) b.refs ≡ none → left_in type kind fields d ≡ 0
  left-none n = left-read type kind fields d b reads ∙ none_left kind fields b.refs (cut-none (named kind fields) b.refs n)

  -- the first reference of the name gives way to others, and the total to another
  module _ (bytes : T (are_bytes d)) (c : Cut Ref) (cuts : first_cut (named kind fields) b.refs ≡ some c) (total : ℕ)
      (fits : total < 18446744073709551616) where
    abbrev new_body : List Ref → Body
    new_body new = body_with b total (c.front ++ (new ++ c.back))

    left-with : (new : List Ref) → T (all whole (c.front ++ (new ++ c.back)))
        → left_in type kind fields (body_bytes (new_body new)) ≡ left_among kind fields new + left_among kind fields c.back
    left-with new t =
        let f : Ref → ℕ = weight_under kind fields in
        let s : Sound type (new_body new) =
        sound-with type b total (c.front ++ (new ++ c.back)) (read-sound type d b bytes reads) fits t in
        let miss = none_left kind fields c.front (cut-some (named kind fields) b.refs cuts).miss in
        left-bytes type kind fields (new_body new) s ∙ sum-append f c.front (new ++ c.back)
        ∙ omega (arith, miss, sum-append f new c.back)

    wholes : T (all whole (c.front ++ c.hit ∷ c.back))
    wholes = subst (λ (l : List Ref). T (all whole l)) (cut-some (named kind fields) b.refs cuts).same (read-sound type d b bytes reads).wholes

    -- so much off it
    pub left_less : (amount : ℕ)
        → left_in type kind fields (body_bytes (new_body (less c.hit amount))) ≡ (c.hit.weight - amount) + left_among kind fields c.back
    left_less amount =
        left-with (less c.hit amount) (less-wholes c wholes amount)
        ∙ ap (λ (n : ℕ). n + left_among kind fields c.back)
        (less-left kind fields c.hit amount (cut-some (named kind fields) b.refs cuts).hit)

-- ---- in a data reference's item

pub keyed-left : (item : List ℕ) (n : ℕ) → length item ≡ 28 → n < 4294967296 → keyed_count (written 24 (le_bytes 4 n) item) ≡ n
unfolding keyed_count
keyed-left item n long h =
    ap le (part-written 24 4 (le_bytes 4 n) item (length-le_bytes 4 n) (omega (arith, long))) ∙ le-le_bytes 4 n h

-- ---- in an answer: only a result shows the number

dropped-by : (l m : ℕ) (a : Answer (List ℕ)) → ((result : List ℕ) → a ≡ accepted result → l ≡ m) → dropped_of l a ≡ dropped_of m a
unfolding dropped_of
dropped-by l m (refused number) f = refl
dropped-by l m absent f = refl
dropped-by l m remove f = refl
dropped-by l m (accepted result) f = ap (λ (n : ℕ). dropped_of n (accepted result)) (f result refl)

pub answered-left : {a : Answer (List ℕ)} {l m : ℕ} {r : Result Dropped Refusal} {old new : List ℕ} → AnsweredDropped a l r old new
    → ((result : List ℕ) → a ≡ accepted result → l ≡ m) → AnsweredDropped a m r old new
answered-left {a} {l} {m} w f = record { result = w.result ∙ dropped-by l m a f; output = w.output }
