-- Laws of the calls that read no references. Assumes nothing.
use mathlib.Core.Path.{◌≡◌, refl, sym, ap, subst, ◌∙◌}
use mathlib.Core.Bool.{Bool, true, false}
use mathlib.Core.List.{List, [], ◌++◌, append-nil}
use Prim.Native.Nat.{ℕ, ◌≤◌, ◌<◌}
use native.Mathlib.Omega.{arith}
use lib.Bits.{bit_or}
use lib.Dec.{T, leb}
use lib.ListN.{length, take, drop, replicate, take-append-drop}
use borrow.Author.Tests.{le-leb, lt-leb, leb-true}
use Rattle.std.specs.Prelude.{Result, Ok, Err}
use Rattle.format.specs.declared.Refusal.{Refusal}
use Rattle.fields.specs.Numbers.{le, le_bytes, are_bytes}
use Rattle.fields.specs.Parts.{part, written, spliced}
use Rattle.fields.proofs.Numbers.{length-le_bytes}
use Rattle.format.specs.Questions.{Answer, refused, accepted, ask, bind, told_of, denied}
use Rattle.format.specs.References.{total_of, flags_of}
use Rattle.format.specs.Bodies.{body_fits, raised_by, lowered_by_one, reduced_by, on_head, on_total, raise_total, lower_total, reduce_total, flags, with_flags}
use Rattle.backref.specs.declared.plan.Plan.TheVariants.{Edit}
use Rattle.backref.specs.declared.plan.Plan.{Plan}
use Rattle.backref.specs.Plans.{edited, Planned, KeepsLength}
use Rattle.backref.specs.Reads.{head_asked}
use Rattle.backref.specs.declared.total_plans.TotalChange.{TotalChange}
use Rattle.backref.specs.declared.total_plans.TotalChange.TheVariants.{Raise, LowerByOne, Reduce}
use Rattle.backref.specs.Totals.{change_total, total_by}
use Rattle.backref.proofs.Outcomes.{plan-edit, plan-refused, keeps-refused}
use Rattle.backref.proofs.PlannedTotals.{rewritten, word-front}

-- ---- questions 3 and 6

module _ (body : List ℕ) where
  pub head-long : 65535 < length body → denied 3 ≡ head_asked body
  unfolding head_asked body_fits
  head-long h = simp (lt-leb _ _ h)

  pub head-short : length body ≤ 65535 → length body < 24 → denied 6 ≡ head_asked body
  unfolding head_asked body_fits
  head-short h k = simp (le-leb _ _ h, lt-leb _ _ k)

  pub head-whole : length body ≤ 65535 → 24 ≤ length body → Ok tt ≡ head_asked body
  unfolding head_asked body_fits
  head-whole h k = simp (le-leb _ _ h, le-leb _ _ k)

  pub record Head (r : Result (Unit {0}) Refusal) : Type 1 where
    pub refuses : {A : Type 0} (next : Answer A) {x : Refusal} → r ≡ Err x → on_head body next ≡ refused x.number
    pub passes : {A : Type 0} (next : Answer A) {u : Unit {0}} → r ≡ Ok u → on_head body next ≡ next
    pub fits : {u : Unit {0}} → r ≡ Ok u → length body ≤ 65535
    pub long : {u : Unit {0}} → r ≡ Ok u → 24 ≤ length body

  heads : Head (head_asked body)
  unfolding head_asked on_head ask body_fits
  heads = go (leb (length body) 65535) refl (leb 24 (length body)) refl
    where
      number_in : Result (Unit {0}) Refusal → ℕ
      number_in (Ok u) = 0
      number_in (Err x) = x.number

      not-both : {X : Type 0} {r : Result (Unit {0}) Refusal} {x : Refusal} {u : Unit {0}} → r ≡ Err x → r ≡ Ok u → X
      not-both e k = let z : ◌≡◌ {A = ℕ} 0 1 = cc in absurd (omega arith)

      go : (x : Bool) → leb (length body) 65535 ≡ x → (y : Bool) → leb 24 (length body) ≡ y → Head (head_asked body)
      go true a true b = rw (a, b) (record {
        refuses = λ next h. not-both h refl;
        passes = λ next h. rw (a, b) refl;
        fits = λ h. leb-true _ _ a;
        long = λ h. leb-true _ _ b;
      })
      go true a false b = rw (a, b) (record {
        refuses = λ next h. rw (a, b) (ap refused (ap number_in h));
        passes = λ next h. not-both refl h;
        fits = λ h. not-both refl h;
        long = λ h. not-both refl h;
      })
      go false a y b = rw a (record {
        refuses = λ next h. rw a (ap refused (ap number_in h));
        passes = λ next h. not-both refl h;
        fits = λ h. not-both refl h;
        long = λ h. not-both refl h;
      })

  pub head : (r : Result (Unit {0}) Refusal) → r ≡ head_asked body → Head r
  head r e = subst Head (sym e) heads

-- ---- totals

-- another total and nothing else
total-only : (t : ℕ) (body : List ℕ) → written 0 (le_bytes 8 t) body ≡ written 0 (le_bytes 8 t) (spliced 8 8 [] body)
total-only t body =
    ap (written 0 (le_bytes 8 t)) (sym (take-append-drop 8 body) ∙ ap (λ (l : List ℕ). l ++ drop 8 body) (sym (append-nil (take 8 body))))

abbrev pub total_plan : ℕ → Plan
total_plan t = Edit (record { from = 8; to = 8; new = replicate 32 0; size = 0; total = t; count = 0 })

pub change-is : (body : List ℕ) (change : TotalChange) → change_total body change ≡ on_total body (total_by change)
unfolding raise_total lower_total reduce_total
change-is body (Raise amount) = refl
change-is body LowerByOne = refl
change-is body (Reduce amount) = refl

-- what becomes of a total, by what the code was told of it
module _ (change : TotalChange) (t : ℕ) (r : Result ℕ Refusal) (e : r ≡ told_of (total_by change t)) where
  abbrev Said : Result ℕ Refusal → Answer ℕ → Type 0
  Said (Ok new) a = a ≡ accepted new
  Said (Err x) a = a ≡ refused x.number

  asked-said : (b : Bool) (n new : ℕ) → Said (told_of (ask b n (accepted new))) (ask b n (accepted new))
  unfolding told_of ask
  asked-said true n new = refl
  asked-said false n new = refl

  said : (c : TotalChange) → Said (told_of (total_by c t)) (total_by c t)
  unfolding raised_by lowered_by_one reduced_by
  said (Raise amount) = asked-said _ _ _
  said LowerByOne = asked-said _ _ _
  said (Reduce amount) = asked-said _ _ _

  pub changed-no : {x : Refusal} → r ≡ Err x → total_by change t ≡ refused x.number
  changed-no {x} k = subst (λ (y : Result ℕ Refusal). Said y (total_by change t)) (sym e ∙ k) (said change)

  pub changed-to : {new : ℕ} → r ≡ Ok new → total_by change t ≡ accepted new
  changed-to {new} k = subst (λ (y : Result ℕ Refusal). Said y (total_by change t)) (sym e ∙ k) (said change)

-- a call that moves the total
module _ (body : List ℕ) (moved : ℕ → Answer ℕ) (answer : Answer (List ℕ)) (whole : answer ≡ on_total body moved)
    (r : Result (Unit {0}) Refusal) (q : r ≡ head_asked body) (p : Result Plan Refusal) where
  pub total_head : {x : Refusal} → r ≡ Err x → p ≡ Err x → Planned p body answer × KeepsLength p
  unfolding on_total
  total_head {x} z e = (plan-refused p body answer x.number e (whole ∙ (head body r q).refuses _ z), keeps-refused e)

  module _ (t : ℕ) {u : Unit {0}} (z : r ≡ Ok u) (is : t ≡ le (part 0 8 body)) where
    becomes : (a : Answer ℕ) → moved t ≡ a → answer ≡ bind a (λ total. accepted (written 0 (le_bytes 8 total) body))
    unfolding on_total total_of
    becomes a h =
        whole ∙ (head body r q).passes _ z
        ∙ ap (λ (x : Answer ℕ). bind x (λ total. accepted (written 0 (le_bytes 8 total) body))) (ap moved (sym is) ∙ h)

    pub total_refused : {x : Refusal} → moved t ≡ refused x.number → p ≡ Err x → Planned p body answer × KeepsLength p
    unfolding bind
    total_refused {x} h e = (plan-refused p body answer x.number e (becomes (refused x.number) h), keeps-refused e)

    pub total_moved : {new : ℕ} {plan : Plan} → moved t ≡ accepted new → plan ≡ total_plan new → p ≡ Ok plan → Planned p body answer × KeepsLength p
    unfolding edited bind KeepsLength
    total_moved {new} h o e = (
      plan-edit p body answer _ (written 0 (le_bytes 8 new) body) (e ∙ ap Ok o)
          (record { low = omega arith; order = omega arith; high = omega (arith, (head body r q).long z); fits = (head body r q).fits z; small = omega arith; full = refl })
          (becomes (accepted new) h) (total-only new body),
      subst KeepsLength (sym (e ∙ ap Ok o)) refl,
    )

-- ---- flags

module _ (body : List ℕ) (r : Result (Unit {0}) Refusal) (q : r ≡ head_asked body) where
  pub flags-refused : {x : Refusal} → r ≡ Err x → Err x ≡ told_of (flags body)
  unfolding told_of flags
  flags-refused h = sym (ap told_of ((head body r q).refuses (accepted (flags_of body)) h))

  pub flags-are : (f : ℕ) {u : Unit {0}} → r ≡ Ok u → f ≡ le (part 16 8 body) → Ok f ≡ told_of (flags body)
  unfolding told_of flags flags_of
  flags-are f z e = ap Ok e ∙ sym (ap told_of ((head body r q).passes (accepted (flags_of body)) z))

  module _ (set : ℕ) (p : Result Plan Refusal) where
    pub flags-head : {x : Refusal} → r ≡ Err x → p ≡ Err x → Planned p body (with_flags body set) × KeepsLength p
    unfolding with_flags
    flags-head {x} z e = (plan-refused p body (with_flags body set) x.number e ((head body r q).refuses _ z), keeps-refused e)

    pub flags-plan : (t f : ℕ) (new : List ℕ) {u : Unit {0}} → r ≡ Ok u → T (are_bytes body) → t ≡ le (part 0 8 body)
        → f ≡ le (part 16 8 body) → new ≡ written 0 (le_bytes 8 (bit_or f set)) (replicate 32 0)
        → p ≡ Ok (Edit (record { from = 16; to = 24; new = new; size = 8; total = t; count = 0 }))
        → Planned p body (with_flags body set) × KeepsLength p
    unfolding with_flags flags_of edited KeepsLength
    flags-plan t f new z b e₁ e₂ e₃ e =
        let h = head body r q in
        let long : 24 ≤ length body = h.long z in
        let word : List ℕ = le_bytes 8 (bit_or f set) in
        let n8 : length word ≡ 8 = length-le_bytes 8 (bit_or f set) in
        let New-is = word-front word new 8 n8 (omega arith) e₃ in (
          plan-edit p body (with_flags body set) _ (written 16 word body) e
              (record { low = omega arith; order = omega arith; high = long; fits = h.fits z; small = omega arith; full = New-is.1 })
              (h.passes _ z ∙ ap (λ (x : ℕ). accepted (written 16 (le_bytes 8 (bit_or x set)) body)) (sym e₂))
              (rewritten body word new t 16 8 b e₁ (omega arith) long n8 New-is.0),
          subst KeepsLength (sym e) refl,
        )
