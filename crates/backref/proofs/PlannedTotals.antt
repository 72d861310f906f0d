-- Laws of a total that is moved, and of one that stays. Assumes nothing.
use mathlib.Core.Path.{◌≡◌, refl, sym, ap, subst, ◌∙◌}
use mathlib.Core.Bool.{Bool, true, false, cond}
use mathlib.Core.List.{List, ◌++◌}
use Prim.Native.Nat.{ℕ, ◌+◌, ◌-◌, ◌^◌, ◌≤◌, ◌<◌}
use native.Mathlib.Omega.{arith}
use lib.Dec.{T, leb}
use lib.ListN.{length, take, drop, replicate, take-append-drop, length-append}
use lib.Seq.{length-take-le, take_at, take-take, take-append-le}
use borrow.Author.Tests.{le-leb, lt-leb, lt-ltb, le-ltb, leb-true}
use Rattle.std.specs.Prelude.{Option, Some, None, Result, Ok, Err, SomeIff}
use Rattle.std.specs.Option.{ok_or}
use Rattle.format.specs.declared.Refusal.{Refusal}
use Rattle.fields.specs.Numbers.{le, le_bytes, are_bytes}
use Rattle.fields.specs.Parts.{part, written, spliced}
use Rattle.fields.proofs.Numbers.{are_bytes-take, le_bytes-le-at, length-le_bytes}
use Rattle.fields.proofs.Parts.{length-written, written-front, spliced-written}
use Rattle.format.specs.Questions.{Answer, refused, accepted, ask, denied, told_of}
use Rattle.format.specs.Bodies.{raised_by, lowered_by_one, lowered_by_part, reduced_by}
use Rattle.backref.specs.Totals.{one_asked, part_asked}

-- ---- a total that is moved

module _ (t amount : ℕ) where
  pub raised-yes : t ≤ 18446744073709551615 - amount → amount < 18446744073709551616 → raised_by amount t ≡ accepted (t + amount)
  unfolding raised_by ask
  raised-yes h k =
      let z : t + amount < 2 ^ 64 = omega arith in
      simp (lt-ltb _ _ z)

  pub raised-no : 18446744073709551615 - amount < t → raised_by amount t ≡ refused 12
  unfolding raised_by ask
  raised-no h =
      let z : 2 ^ 64 ≤ t + amount = omega arith in
      simp (le-ltb _ _ z)

-- raised or reduced, by what the checked sum or difference is
module _ (t amount : ℕ) (o : Option ℕ) where
  pub raised-told : SomeIff o (t + amount < 18446744073709551616) (t + amount) → ok_or o (record { number = 12 }) ≡ told_of (raised_by amount t)
  unfolding raised_by ask told_of
  raised-told = go o
    where
      go : (o : Option ℕ) → SomeIff o (t + amount < 18446744073709551616) (t + amount) → ok_or o (record { number = 12 }) ≡ told_of (raised_by amount t)
      go None h = let z : 2 ^ 64 ≤ t + amount = omega (arith, h) in simp (le-ltb _ _ z)
      go (Some x) h = let z : t + amount < 2 ^ 64 = omega (arith, h.0) in ap Ok h.1 ∙ simp (lt-ltb _ _ z)

  pub reduced-told : SomeIff o (amount ≤ t) (t - amount) → ok_or o (record { number = 14 }) ≡ told_of (reduced_by amount t)
  unfolding reduced_by ask told_of
  reduced-told = go o
    where
      go : (o : Option ℕ) → SomeIff o (amount ≤ t) (t - amount) → ok_or o (record { number = 14 }) ≡ told_of (reduced_by amount t)
      go None h = let z : t < amount = omega (arith, h) in simp (lt-leb _ _ z)
      go (Some x) h = ap Ok h.1 ∙ simp (le-leb _ _ h.0)

-- the questions of what goes off a total
pub record Asked (r : Result (Unit {0}) Refusal) (answer : Answer ℕ) (result : ℕ) : Type 0 where
  pub refuses : {x : Refusal} → r ≡ Err x → answer ≡ refused x.number
  pub passes : {u : Unit {0}} → r ≡ Ok u → answer ≡ accepted result

-- one question, or two
asked-no : (n : ℕ) (result : ℕ) → Asked (denied n) (refused n) result
asked-no n result = record { refuses = λ e. ap refused (ap number_in e); passes = λ e. absurd (not-both e) }
  where
    number_in : Result (Unit {0}) Refusal → ℕ
    number_in (Ok u) = 0
    number_in (Err x) = x.number

    not-both : {u : Unit {0}} → ◌≡◌ {A = Result (Unit {0}) Refusal} (denied n) (Ok u) → ⊥
    not-both e = let z : ◌≡◌ {A = ℕ} 0 1 = cc in omega arith

pub asked-yes : (result : ℕ) → Asked (Ok tt) (accepted result) result
asked-yes result = record { refuses = λ e. absurd (not-both e); passes = λ e. refl }
  where
    not-both : {x : Refusal} → ◌≡◌ {A = Result (Unit {0}) Refusal} (Ok tt) (Err x) → ⊥
    not-both e = let z : ◌≡◌ {A = ℕ} 0 1 = cc in omega arith

pub one-asks : (amount t : ℕ) → amount ≡ 1 → Asked (one_asked t) (lowered_by_one t) (t - amount)
unfolding one_asked lowered_by_one ask
one-asks amount t e = subst (λ (k : ℕ). Asked (one_asked t) (lowered_by_one t) (t - k)) (sym e) (go (leb 2 t))
  where
    go : (x : Bool) → Asked (cond x (Ok tt) (denied 13)) (ask x 13 (accepted (t - 1))) (t - 1)
    go true = asked-yes (t - 1)
    go false = asked-no 13 (t - 1)

-- one goes off, by what the question came to
module _ (t : ℕ) where
  pub lowered-no : {x : Refusal} → Err x ≡ one_asked t → Err x ≡ told_of (lowered_by_one t)
  unfolding told_of
  lowered-no e = sym (ap told_of ((one-asks 1 t refl).refuses (sym e)))

  pub lowered-yes : {u : Unit {0}} → Ok u ≡ one_asked t → (2 ≤ t) × (Ok (t - 1) ≡ told_of (lowered_by_one t))
  unfolding told_of one_asked
  lowered-yes {u} e = (go (leb 2 t) refl (sym e), sym (ap told_of ((one-asks 1 t refl).passes (sym e))))
    where
      go : (x : Bool) → leb 2 t ≡ x → ◌≡◌ {A = Result (Unit {0}) Refusal} (cond x (Ok tt) (denied 13)) (Ok u) → 2 ≤ t
      go true h k = leb-true _ _ h
      go false h k = absurd (let z : ◌≡◌ {A = ℕ} 0 1 = cc in omega arith)

pub part-asks : (amount standing t : ℕ) → Asked (part_asked amount standing) (lowered_by_part amount standing t) (t - amount)
unfolding part_asked lowered_by_part ask
part-asks amount standing t = go (leb 1 amount) (leb amount standing)
  where
    go : (x y : Bool) → Asked (cond x (cond y (Ok tt) (denied 22)) (denied 10)) (ask x 10 (ask y 22 (accepted (t - amount)))) (t - amount)
    go true true = asked-yes (t - amount)
    go true false = asked-no 22 (t - amount)
    go false y = asked-no 10 (t - amount)

-- the same by what the code was told
pub asked-by : {r s : Result (Unit {0}) Refusal} {answer : Answer ℕ} {result : ℕ} → r ≡ s → Asked s answer result → Asked r answer result
asked-by {answer = answer} {result = result} e h = subst (λ (x : Result (Unit {0}) Refusal). Asked x answer result) (sym e) h

-- what does not refuse is answered yes
pub asked-all : (r : Result (Unit {0}) Refusal) → ((x : Refusal) → r ≡ Err x → ⊥) → r ≡ Ok tt
asked-all (Ok u) n = refl
asked-all (Err x) n = absurd (n x refl)

-- ---- a body whose first eight bytes stay

-- the total as it was, before a splice further on
pub total_kept : (t from to : ℕ) (new body : List ℕ) → T (are_bytes body) → 8 ≤ from → from ≤ length body → t ≡ le (part 0 8 body)
    → written 0 (le_bytes 8 t) (spliced from to new body) ≡ spliced from to new body
total_kept t from to new body b low high e =
    let s : List ℕ = spliced from to new body in
    let n₁ : length (take from body) ≡ from = length-take-le from body high in
    let n₂ : 8 ≤ length (take from body) = omega arith in
    let n₃ : 8 ≤ length (take from body ++ new) = omega (arith, length-append (take from body) new) in
    let n₄ : 8 ≤ length body = omega arith in
    let front : le_bytes 8 t ≡ take 8 s =
    ap (le_bytes 8) e ∙ le_bytes-le-at 8 (take 8 body) (length-take-le 8 body n₄) (are_bytes-take 8 body b)
    ∙ sym (take-append-le 8 (take from body ++ new) (drop to body) n₃ ∙ take-append-le 8 (take from body) new n₂ ∙ take-take 8 from body low) in
    written-front (le_bytes 8 t) s ∙ ap (λ (k : ℕ). le_bytes 8 t ++ drop k s) (length-le_bytes 8 t)
    ∙ ap (λ (l : List ℕ). l ++ drop 8 s) front ∙ take-append-drop 8 s

-- so many bytes rewritten in place
module _ (body word new : List ℕ) (t at size : ℕ) (b : T (are_bytes body)) (e : t ≡ le (part 0 8 body)) (low : 8 ≤ at)
    (high : at + size ≤ length body) (long : length word ≡ size) (front : take size new ≡ word) where
  pub rewritten : written at word body ≡ written 0 (le_bytes 8 t) (spliced at (at + size) (take size new) body)
  rewritten =
      let z : at + length word ≡ at + size = omega arith in
      let h : at ≤ length body = omega arith in
      sym (spliced-written at (at + size) word body z) ∙ ap (λ (l : List ℕ). spliced at (at + size) l body) (sym front)
      ∙ sym (total_kept t at (at + size) (take size new) body b low h e)

-- a word in front of zeros
pub word-front : (word new : List ℕ) (size : ℕ) → length word ≡ size → size ≤ 29 → new ≡ written 0 word (replicate 32 0)
    → (take size new ≡ word) × (length new ≡ 32)
word-front word new size n h e =
    let z : 0 + length word ≤ length (replicate {A = ℕ} 32 0) = omega arith in (
      ap (take size) (e ∙ written-front word (replicate 32 0)) ∙ take_at word (drop (length word) (replicate 32 0)) size n,
      ap length e ∙ length-written 0 word (replicate 32 0) z,
    )
