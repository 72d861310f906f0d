-- Laws of sums and tests over lists, and of the cut at the first element that passes a test. Assumes nothing.
use mathlib.Core.Path.{◌≡◌, refl, sym, ap, ap₂, subst}
use mathlib.Core.Logic.{◌⊎◌, inl, inr}
use mathlib.Core.Bool.{Bool, true, false, not, ◌&&◌, ◌||◌, cond}
use mathlib.Core.Option.{Option, none, some, map}
use mathlib.Core.List.{List, [], ◌∷◌, ◌++◌}
use Prim.Native.Nat.{ℕ, ◌+◌, ◌≤◌, ◌<◌}
use native.Mathlib.Omega.{arith}
use native.Mathlib.Decide.{dec_le}
use native.Mathlib.Nat.{lt_of_not-le}
use lib.Dec.{T, eqb, eqb_refl, eqb→eq}
use mir.Facts.{and_yes, yes_and}
use Rattle.fields.specs.Lists.{sum, all, same, Cut, later, first_cut}

-- ---- tests

-- by the value of a test, with its equation
pub by-test {ℓ} : {P : Type ℓ} (b : Bool) → (b ≡ true → P) → (b ≡ false → P) → P
by-test true f g = f refl
by-test false f g = g refl

pub T-eq : (b : Bool) → T b → b ≡ true
T-eq true t = refl
T-eq false t = absurd t

pub and-true : (a : Bool) → (a && true) ≡ a
and-true true = refl
and-true false = refl

pub and-false : (a : Bool) → (a && false) ≡ false
and-false true = refl
and-false false = refl

pub imp-out : (a b : Bool) → T (not a || b) → T a → T b
imp-out true b t h = t
imp-out false b t h = absurd h

pub imp-in : (a b : Bool) → (T a → T b) → T (not a || b)
imp-in true b f = f tt
imp-in false b f = tt

pub or_left : (a b : Bool) → T a → T (a || b)
or_left true b t = tt
or_left false b t = absurd t

pub or_right : (a b : Bool) → T b → T (a || b)
or_right true b t = tt
or_right false b t = t

pub cond_yes : {A : Type 0} (b : Bool) (x y : A) → T b → cond b x y ≡ x
cond_yes true x y t = refl
cond_yes false x y t = absurd t

pub cond_no : {A : Type 0} (b : Bool) (x y : A) → T (not b) → cond b x y ≡ y
cond_no true x y t = absurd t
cond_no false x y t = refl

pub eqb_same : (n : ℕ) → eqb n n ≡ true
eqb_same n = T-eq (eqb n n) (eqb_refl n)

pub lt-or : (a b : ℕ) → (a < b) ⊎ (b ≤ a)
lt-or a b = elim (dec_le b a) [ yes h ↦ inr h | no h ↦ inl (lt_of_not-le h) ]

pub some_inj : {A : Type 0} {a b : A} → ◌≡◌ {A = Option A} (some a) (some b) → a ≡ b
some_inj e = cc

pub no-some {ℓ} : {A : Type 0} {X : Type ℓ} {a : A} → ◌≡◌ {A = Option A} none (some a) → X
no-some e = let z : ◌≡◌ {A = ℕ} 0 1 = cc in absurd (omega arith)

-- ---- sums

pub sum-append : {A : Type 0} (f : A → ℕ) (a b : List A) → sum f (a ++ b) ≡ sum f a + sum f b
sum-append f [] b = omega arith
sum-append f (x ∷ a) b = omega (arith, sum-append f a b)

-- ---- tests over lists

pub all_left : {A : Type 0} (p : A → Bool) (a b : List A) → T (all p (a ++ b)) → T (all p a)
all_left p [] b t = tt
all_left p (x ∷ a) b t = let h = and_yes (p x) _ t in yes_and (p x) _ h.0 (all_left p a b h.1)

pub all_right : {A : Type 0} (p : A → Bool) (a b : List A) → T (all p (a ++ b)) → T (all p b)
all_right p [] b t = t
all_right p (x ∷ a) b t = all_right p a b (and_yes (p x) _ t).1

pub all_both : {A : Type 0} (p : A → Bool) (a b : List A) → T (all p a) → T (all p b) → T (all p (a ++ b))
all_both p [] b s t = t
all_both p (x ∷ a) b s t = let h = and_yes (p x) _ s in yes_and (p x) _ h.0 (all_both p a b h.1 t)

-- from one test to another
pub all_map : {A : Type 0} (p q : A → Bool) → ((x : A) → T (p x) → T (q x)) → (l : List A) → T (all p l) → T (all q l)
all_map p q f [] t = tt
all_map p q f (x ∷ l) t = let h = and_yes (p x) _ t in yes_and (q x) _ (f x h.0) (all_map p q f l h.1)

-- from two tests to a third
pub all_two : {A : Type 0} (p q s : A → Bool) → ((x : A) → T (p x) → T (q x) → T (s x)) → (l : List A) → T (all p l) → T (all q l) → T (all s l)
all_two p q s f [] t u = tt
all_two p q s f (x ∷ l) t u =
    let h = and_yes (p x) _ t in let k = and_yes (q x) _ u in
    yes_and (s x) _ (f x h.0 k.0) (all_two p q s f l h.1 k.1)

pub all-every : {A : Type 0} (p : A → Bool) → ((x : A) → T (p x)) → (l : List A) → T (all p l)
all-every p f [] = tt
all-every p f (x ∷ l) = yes_and (p x) _ (f x) (all-every p f l)

-- the middle of three
pub all-mid : {A : Type 0} (p : A → Bool) (a : List A) (x : A) (b : List A) → T (all p (a ++ x ∷ b)) → T (p x)
all-mid p a x b t = (and_yes (p x) _ (all_right p a (x ∷ b) t)).0

pub all_rest : {A : Type 0} (p : A → Bool) (a : List A) (x : A) (b : List A) → T (all p (a ++ x ∷ b)) → T (all p (a ++ b))
all_rest p a x b t = all_both p a b (all_left p a (x ∷ b) t) (and_yes (p x) _ (all_right p a (x ∷ b) t)).1

pub all-put : {A : Type 0} (p : A → Bool) (a : List A) (x : A) (b : List A) → T (all p (a ++ b)) → T (p x) → T (all p (a ++ x ∷ b))
all-put p a x b t h = all_both p a (x ∷ b) (all_left p a b t) (yes_and (p x) _ h (all_right p a b t))

-- none of the list is counted
pub none-counted : {A : Type 0} (p : A → Bool) (l : List A) → sum (λ x. cond (p x) 1 0) l ≡ 0 → T (all (λ x. not (p x)) l)
none-counted p [] e = tt
none-counted p (x ∷ l) e = go (p x) (none-counted p l) e
  where
    go : (b : Bool) → (sum (λ y. cond (p y) 1 0) l ≡ 0 → T (all (λ y. not (p y)) l)) → cond b 1 0 + sum (λ y. cond (p y) 1 0) l ≡ 0 → T (not b && all (λ y. not (p y)) l)
    go true ih h = absurd (omega arith)
    go false ih h = ih (omega arith)

-- ---- the same numbers

pub same-yes : (a b : List ℕ) → T (same a b) → a ≡ b
unfolding same
same-yes [] [] t = refl
same-yes [] (y ∷ b) t = absurd t
same-yes (x ∷ a) [] t = absurd t
same-yes (x ∷ a) (y ∷ b) t =
    let h = and_yes (eqb x y) _ t in
    ap₂ (λ (n : ℕ) (l : List ℕ). n ∷ l) (eqb→eq x y h.0) (same-yes a b h.1)

pub same_refl : (a : List ℕ) → T (same a a)
unfolding same
same_refl [] = tt
same_refl (x ∷ a) = yes_and (eqb x x) _ (eqb_refl x) (same_refl a)

-- ---- the first that passes

pub record Found {A : Type 0} (p : A → Bool) (l : List A) (c : Cut A) : Type 0 where
  pub same : l ≡ c.front ++ c.hit ∷ c.back
  pub hit : T (p c.hit)
  pub miss : T (all (λ x. not (p x)) c.front)

module _ {A : Type 0} (p : A → Bool) (x : A) (list : List A) where
  cut_step : (b : Bool) → p x ≡ b → (o : Option (Cut A)) → ((c : Cut A) → o ≡ some c → Found p list c)
      → {c : Cut A} → cond b (some (record { front = []; hit = x; back = list })) (map (later x) o) ≡ some c → Found p (x ∷ list) c
  cut_step true b o ih {c} e =
      let e' : ◌≡◌ {A = Cut A} (record { front = []; hit = x; back = list }) c = cc in
      subst (Found p (x ∷ list)) e' (record { same = refl; hit = subst T (sym b) tt; miss = tt })
  cut_step false b none ih e = no-some e
  cut_step false b (some d) ih {c} e =
      let f : Found p list d = ih d refl in
      let e' : later x d ≡ c = cc in
      subst (Found p (x ∷ list)) e'
      (record { same = ap (λ (l : List A). x ∷ l) f.same; hit = f.hit; miss = rw b f.miss })

  cut-step-none : (b : Bool) → p x ≡ b → (o : Option (Cut A)) → (o ≡ none → T (all (λ y. not (p y)) list))
      → cond b (some (record { front = []; hit = x; back = list })) (map (later x) o) ≡ none → T (all (λ y. not (p y)) (x ∷ list))
  cut-step-none true b o ih e = no-some (sym e)
  cut-step-none false b none ih e = rw b (ih refl)
  cut-step-none false b (some d) ih e = no-some (sym e)

pub cut-some : {A : Type 0} (p : A → Bool) (l : List A) {c : Cut A} → first_cut p l ≡ some c → Found p l c
cut-some p [] e = no-some e
cut-some p (x ∷ list) e = cut_step p x list (p x) refl (first_cut p list) (λ c d. cut-some p list d) e

pub cut-none : {A : Type 0} (p : A → Bool) (l : List A) → first_cut p l ≡ none → T (all (λ x. not (p x)) l)
cut-none p [] e = tt
cut-none p (x ∷ list) e = cut-step-none p x list (p x) refl (first_cut p list) (cut-none p list) e
