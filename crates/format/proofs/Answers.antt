-- Answers taken apart: what an accepted call says of its questions, and back.
-- Assumes nothing.
use mathlib.Core.Path.{◌≡◌, refl, ap, ◌∙◌, subst}
use mathlib.Core.Logic.{◌⊎◌, inl, inr}
use mathlib.Core.Bool.{Bool, true, false, not}
use mathlib.Core.Option.{Option, none, some}
use Prim.Native.Nat.{ℕ}
use native.Mathlib.Omega.{arith}
use lib.Dec.{T}
use Rattle.std.specs.Prelude.{Result, Err}
use Rattle.std.specs.Result.{IsErrAnd}
use Rattle.std.proofs.lemmas.Result.{err_from_is_err_and}
use Rattle.format.specs.declared.Refusal.{Refusal}
use Rattle.format.specs.Questions.{Answer, refused, absent, remove, accepted, ask, bind, needed, found, if_absent, also, held}

-- which of the four an answer is
abbrev tag : {A : Type 0} → Answer A → ℕ
tag (refused n) = 0
tag absent = 1
tag remove = 2
tag (accepted a) = 3

pub refused-not {ℓ} : {A : Type 0} {X : Type ℓ} {n : ℕ} {a : A} → ◌≡◌ {A = Answer A} (refused n) (accepted a) → X
refused-not e = let z : ◌≡◌ {A = ℕ} 0 3 = ap tag e in absurd (omega arith)

pub absent-not {ℓ} : {A : Type 0} {X : Type ℓ} {a : A} → ◌≡◌ {A = Answer A} absent (accepted a) → X
absent-not e = let z : ◌≡◌ {A = ℕ} 1 3 = ap tag e in absurd (omega arith)

pub remove-not {ℓ} : {A : Type 0} {X : Type ℓ} {a : A} → ◌≡◌ {A = Answer A} remove (accepted a) → X
remove-not e = let z : ◌≡◌ {A = ℕ} 2 3 = ap tag e in absurd (omega arith)

pub accepted-inj : {A : Type 0} {a b : A} → ◌≡◌ {A = Answer A} (accepted a) (accepted b) → a ≡ b
accepted-inj e = cc

-- ---- questions

pub ask-ok : {A : Type 0} (b : Bool) (n : ℕ) (next : Answer A) {a : A} → ask b n next ≡ accepted a → T b × (next ≡ accepted a)
unfolding ask
ask-ok true n next e = (tt, e)
ask-ok false n next e = refused-not e

pub ask-yes : {A : Type 0} (b : Bool) (n : ℕ) (next : Answer A) → T b → ask b n next ≡ next
unfolding ask
ask-yes true n next t = refl
ask-yes false n next t = absurd t

pub ask-no : {A : Type 0} (b : Bool) (n : ℕ) (next : Answer A) → T (not b) → ask b n next ≡ refused n
unfolding ask
ask-no true n next t = absurd t
ask-no false n next t = refl

pub bind_ok : {A B : Type 0} (r : Answer A) (next : A → Answer B) {b : B} → bind r next ≡ accepted b
    → (a : A) × (r ≡ accepted a) × (next a ≡ accepted b)
unfolding bind
bind_ok (refused n) next e = refused-not e
bind_ok absent next e = absent-not e
bind_ok remove next e = remove-not e
bind_ok (accepted a) next e = (a, refl, e)

pub bind-yes : {A B : Type 0} (r : Answer A) (next : A → Answer B) {a : A} → r ≡ accepted a → bind r next ≡ next a
unfolding bind
bind-yes r next e = ap (λ x. bind x next) e

-- what follows matters where it is reached
pub bind-same : {A B : Type 0} (r : Answer A) (f g : A → Answer B) → ((a : A) → r ≡ accepted a → f a ≡ g a) → bind r f ≡ bind r g
unfolding bind
bind-same (refused n) f g h = refl
bind-same absent f g h = refl
bind-same remove f g h = refl
bind-same (accepted a) f g h = h a refl

-- one after the other, from the left or from the right
pub bind-next : {A B C : Type 0} (a : Answer A) (f : A → Answer B) (g : B → Answer C) → bind a (λ x. bind (f x) g) ≡ bind (bind a f) g
unfolding bind
bind-next (refused n) f g = refl
bind-next absent f g = refl
bind-next remove f g = refl
bind-next (accepted x) f g = refl

pub needed-ok : {A : Type 0} (n : ℕ) (o : Option A) {a : A} → needed n o ≡ accepted a → o ≡ some a
unfolding needed
needed-ok n none e = refused-not e
needed-ok n (some b) e = ap some (accepted-inj e)

pub found_ok : {A : Type 0} (o : Option A) {a : A} → found o ≡ accepted a → o ≡ some a
unfolding found
found_ok none e = absent-not e
found_ok (some b) e = ap some (accepted-inj e)

pub if_absent-ok : {A : Type 0} (r s : Answer A) {a : A} → if_absent r s ≡ accepted a
    → (r ≡ accepted a) ⊎ ((r ≡ absent) × (s ≡ accepted a))
unfolding if_absent
if_absent-ok (refused n) s e = refused-not e
if_absent-ok absent s e = inr (refl, e)
if_absent-ok remove s e = remove-not e
if_absent-ok (accepted b) s e = inl e

pub also-ok : {A : Type 0} (b : Bool) (n : ℕ) (r : Answer A) {a : A} → also b n r ≡ accepted a → T b × (r ≡ accepted a)
unfolding also
also-ok true n r e = (tt, e)
also-ok false n (refused m) e = refused-not e
also-ok false n absent e = refused-not e
also-ok false n remove e = refused-not e
also-ok false n (accepted b) e = refused-not e

pub also-yes : {A : Type 0} (b : Bool) (n : ℕ) (r : Answer A) → T b → also b n r ≡ r
unfolding also
also-yes true n r t = refl
also-yes false n r t = absurd t

pub held-ok : {A : Type 0} (holds : A → Bool) (r : Answer A) {a : A} → held holds r ≡ accepted a → (r ≡ accepted a) × T (holds a)
unfolding held
held-ok holds r e =
    let h = bind_ok r _ e in
    let k = ask-ok (holds h.0) 21 _ h.2 in
    (h.1 ∙ k.1, subst (λ x. T (holds x)) (accepted-inj k.1) k.0)

-- ---- what a `?` hands on

pub handed_on : {T : Type 0} {r : Result T Refusal} {e : Refusal} → IsErrAnd r (λ x. x ≡ e) → r ≡ Err e
handed_on {r = r} h = let p = err_from_is_err_and r h in p.1 ∙ ap Err p.2
