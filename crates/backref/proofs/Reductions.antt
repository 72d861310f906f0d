-- Laws of a plan with a further step behind it. Assumes nothing.
use mathlib.Core.Path.{◌≡◌, refl, sym, ap, subst, ◌∙◌}
use mathlib.Core.List.{List, ◌++◌}
use mathlib.Core.Logic.{◌⊎◌, inl, inr}
use Prim.Native.Nat.{ℕ, ◌-◌, ◌≤◌, ◌<◌}
use native.Mathlib.Omega.{arith}
use lib.Dec.{leb, le→leb}
use lib.ListN.{length, take, drop}
use lib.Seq.{drop_at}
use borrow.Author.Tests.{le-leb, lt-leb}
use Rattle.std.specs.Prelude.{Result, Ok, Err}
use Rattle.format.specs.declared.Refusal.{Refusal}
use Rattle.fields.specs.Numbers.{le, le_bytes}
use Rattle.fields.specs.Parts.{part, written, spliced}
use Rattle.fields.proofs.Numbers.{le-le_bytes, length-le_bytes}
use Rattle.fields.proofs.Parts.{written-front, part-written}
use Rattle.format.specs.Questions.{Answer, refused, absent, accepted, ask, bind, if_absent, denied}
use Rattle.format.specs.Bodies.{body_fits, on_head, reduced_by, on_total, reduce_total}
use Rattle.format.specs.References.{total_of}
use Rattle.format.proofs.Answers.{ask-yes, if_absent-ok, refused-not}
use Rattle.backref.specs.declared.plan.Plan.TheVariants.{Edit, Absent, Remove}
use Rattle.backref.specs.declared.plan.BodyEdit.{BodyEdit}
use Rattle.backref.specs.declared.plan.Plan.{Plan}
use Rattle.backref.specs.Plans.{edited, total_in, plan_answer, PlanIn, Planned, Whole, Reduces, Needs}
use Rattle.backref.proofs.Outcomes.{plan-refused}

-- a total over a total
overwritten : (t u : ℕ) (x : List ℕ) → written 0 (le_bytes 8 u) (written 0 (le_bytes 8 t) x) ≡ written 0 (le_bytes 8 u) x
overwritten t u x =
    let a : List ℕ = le_bytes 8 t in
    let b : List ℕ = le_bytes 8 u in
    let n : length a ≡ length b = length-le_bytes 8 t ∙ sym (length-le_bytes 8 u) in
    written-front b (written 0 a x)
    ∙ ap (λ (l : List ℕ). b ++ l)
    (ap (drop (length b)) (written-front a x) ∙ drop_at a (drop (length a) x) (length b) n ∙ ap (λ (k : ℕ). drop k x) n)
    ∙ sym (written-front b x)

-- ---- an amount off the total that was planned

abbrev off : ℕ → ℕ → List ℕ → Answer (List ℕ)
off amount total rest = bind (reduced_by amount total) (λ less. accepted (written 0 (le_bytes 8 less) rest))

module _ (e : BodyEdit) (amount : ℕ) (word : e.total < 18446744073709551616) where
  pub reduced-low : (r : Result Plan Refusal) → e.total < amount → r ≡ denied 14 → Reduces (Ok (Edit e)) amount r
  unfolding bind reduced_by ask plan_answer total_in
  reduced-low r h o = record {
    word = word;
    says = λ body. (plan-refused r body _ 14 o (simp (lt-leb _ _ h))).says;
    inside = λ body i. (plan-refused r body (refused 14) 14 o refl).inside;
  }

  abbrev fewer : BodyEdit
  fewer = record { from = e.from; to = e.to; new = e.new; size = e.size; total = e.total - amount; count = e.count }

  pub reduced-edit : (r : Result Plan Refusal) → amount ≤ e.total → r ≡ Ok (Edit fewer) → Reduces (Ok (Edit e)) amount r
  unfolding bind reduced_by ask edited plan_answer PlanIn total_in
  reduced-edit r h o = record {
    word = word;
    says = λ body.
        ap (λ (x : Result Plan Refusal). plan_answer x body) o
        ∙ ap accepted (sym (overwritten e.total (e.total - amount) (spliced e.from e.to (take e.size e.new) body)))
        ∙ simp (le-leb _ _ h);
    inside = λ body i.
        subst (λ (x : Result Plan Refusal). PlanIn x body) (sym o)
        (record { low = i.low; order = i.order; high = i.high; fits = i.fits; small = i.small; full = i.full });
  }

-- without an edit nothing follows
module _ (amount : ℕ) where
  pub reduced-other : (plan : Plan) → ((e : BodyEdit) → plan ≡ Edit e → ⊥) → Reduces (Ok plan) amount (Ok plan)
  unfolding plan_answer total_in bind
  reduced-other (Edit e) h = absurd (h e refl)
  reduced-other Absent h = record { word = omega arith; says = λ body. refl; inside = λ body i. i }
  reduced-other Remove h = record { word = omega arith; says = λ body. refl; inside = λ body i. i }

  pub reduced-refused : (x : Refusal) → Reduces (Err x) amount (Err x)
  unfolding plan_answer total_in bind
  reduced-refused x = record { word = omega arith; says = λ body. refl; inside = λ body i. i }

-- where every result is a body, this is the call on bodies
module _ (amount : ℕ) (body : List ℕ) where
  off-is : (e : BodyEdit) → e.total < 18446744073709551616 → (24 ≤ length (edited e body)) × (length (edited e body) ≤ 65535)
      → off amount e.total (edited e body) ≡ reduce_total (edited e body) amount
  unfolding reduce_total on_total on_head body_fits total_of edited
  off-is e word l =
      let rest : List ℕ = edited e body in
      let new : List ℕ = le_bytes 8 e.total in
      let behind : List ℕ = spliced e.from e.to (take e.size e.new) body in
      let h : 0 ≤ length behind = omega arith in
      let total-back : e.total ≡ le (part 0 8 rest) = sym (ap le (part-written 0 8 new behind (length-le_bytes 8 e.total) h) ∙ le-le_bytes 8 e.total word) in
      ap (λ (t : ℕ). bind (reduced_by amount t) (λ total. accepted (written 0 (le_bytes 8 total) rest))) total-back
      ∙ sym (ask-yes (leb (length rest) 65535) 3 _ (le→leb (length rest) 65535 l.1) ∙ ask-yes (leb 24 (length rest)) 6 _ (le→leb 24 (length rest) l.0))

  pub reduces-whole : {r : Result Plan Refusal} (plan : Result Plan Refusal) → Reduces plan amount r → Whole plan body → PlanIn plan body
      → Planned r body (bind (plan_answer plan body) (λ rest. reduce_total rest amount))
  unfolding bind plan_answer total_in Whole
  reduces-whole (Ok (Edit e)) d whole i = record { says = d.says body ∙ off-is e d.word (whole (edited e body) refl); inside = d.inside body i }
  reduces-whole (Ok Absent) d whole i = record { says = d.says body; inside = d.inside body i }
  reduces-whole (Ok Remove) d whole i = record { says = d.says body; inside = d.inside body i }
  reduces-whole (Err x) d whole i = record { says = d.says body; inside = d.inside body i }

-- ---- what is absent is 5

pub needs-absent : (r : Result Plan Refusal) → r ≡ denied 5 → Needs (Ok Absent) r
unfolding plan_answer if_absent
needs-absent r o = record {
  says = λ body. (plan-refused r body (refused 5) 5 o refl).says;
  inside = λ body i. (plan-refused r body (refused 5) 5 o refl).inside;
}

pub needs-same : {plan : Plan} → ((e : BodyEdit) × (plan ≡ Edit e)) ⊎ (plan ≡ Remove) → Needs (Ok plan) (Ok plan)
unfolding plan_answer if_absent
needs-same (inl h) = subst (λ (p : Plan). Needs (Ok p) (Ok p)) (sym h.1) (record { says = λ body. refl; inside = λ body i. i })
needs-same (inr h) = subst (λ (p : Plan). Needs (Ok p) (Ok p)) (sym h) (record { says = λ body. refl; inside = λ body i. i })

pub needs-refused : (x : Refusal) → Needs (Err x) (Err x)
unfolding plan_answer if_absent
needs-refused x = record { says = λ body. refl; inside = λ body i. i }

module _ (plan : Result Plan Refusal) where
  -- a refusal is no result
  pub needs-whole : (r : Result Plan Refusal) (body : List ℕ) → Needs plan r → Whole plan body → Whole r body
  unfolding Whole
  needs-whole r body n w rest e =
      go (if_absent-ok (plan_answer plan body) (refused 5) (sym (n.says body) ∙ e))
    where
      go : (plan_answer plan body ≡ accepted rest) ⊎ ((plan_answer plan body ≡ absent) × (◌≡◌ {A = Answer (List ℕ)} (refused 5) (accepted rest)))
          → (24 ≤ length rest) × (length rest ≤ 65535)
      go (inl h) = w rest h
      go (inr h) = refused-not h.1
