-- The pass over a record's references, a step at a time. Assumes nothing.
use mathlib.Core.Path.{◌≡◌, refl, sym, ap, ap₂, ◌∙◌, subst}
use Prim.Native.Nat.{ℕ, ◌+◌}
use native.Mathlib.Omega.{arith}
use mathlib.Core.Bool.{true, false}
use mathlib.Core.List.{List, [], ◌∷◌}
use lib.ListN.{drop}
use Rattle.fields.specs.Lists.{sum}
use Rattle.format.specs.Questions.{Answer, refused, absent, remove, accepted, bind}
use Rattle.format.specs.References.{Ref, ref_at}
use Rattle.inline_refs.specs.Steps.{read_from}
use Rattle.inline_refs.proofs.Steps.{At}
use Rattle.data_refs.proofs.Differing.{none-twice}
use Rattle.balance.proofs.Admits.{none_ahead}
use Rattle.balance.specs.Ranks.{span_refs}
use Rattle.balance.specs.Tally.{RefRun, kept_run, admits, sound, weight_in}
use Rattle.balance.specs.declared.record.Run.{Run}
use Rattle.std.specs.Prelude.{Option, Some, None}
use Rattle.balance.specs.Spans.{last_rank, run_of, RunKept, weighing, weighed_of, Light}

pub weigh-start : (body : List ℕ) (from : ℕ) (a : Answer (List Ref))
    → weighing (run_of body (record { kind = 0; rank = Some 0; from = from; n = 0; known = 0 })) 0 a ≡ weighed_of a
unfolding weighed_of run_of last_rank span_refs
weigh-start body from a = refl

pub none_passed : (body : List ℕ) (from : ℕ) → RunKept body (record { kind = 0; rank = Some 0; from = from; n = 0; known = 0 }) from
none_passed body from =
    record {
      reaches = (λ e. absurd (omega arith));
      inside = (λ e. let z : ◌≡◌ {A = ℕ} 0 1 = cc in absurd (omega arith));
      apart = none-twice body from;
      hashed = (λ h. absurd (omega arith));
      ahead = none_ahead body from 0 _;
    }

pub kept-to : (body : List ℕ) (p : Run) (at next : ℕ) → at ≡ next → RunKept body p at → RunKept body p next
kept-to body p at next e h = subst (RunKept body p) e h

more : (run : RefRun) (weight : ℕ) (r : Ref) (a : Answer (List Ref)) → admits run r ≡ true
    → weighing (kept_run run r) (weight + r.weight) a ≡ weighing run weight (bind a (λ refs. accepted (r ∷ refs)))
unfolding weighing bind sound
more run weight r (refused n) e = refl
more run weight r absent e = refl
more run weight r remove e = refl
more run weight r (accepted refs) e =
    let z : weight + r.weight + sum weight_in refs ≡ weight + (r.weight + sum weight_in refs) = omega arith in
    rw (e, z) refl

fewer : (run : RefRun) (weight : ℕ) (r : Ref) (a : Answer (List Ref)) → admits run r ≡ false
    → None ≡ weighing run weight (bind a (λ refs. accepted (r ∷ refs)))
unfolding weighing bind sound
fewer run weight r (refused n) e = refl
fewer run weight r absent e = refl
fewer run weight r remove e = refl
fewer run weight r (accepted refs) e = rw e refl

module _ (s : List ℕ) (at k p n q next : ℕ) (h : At s at k p n q next) (run : RefRun) (weight : ℕ) where
  pub weigh-step : (grown : RefRun) (w : ℕ) → admits run (ref_at k (drop p s)) ≡ true → grown ≡ kept_run run (ref_at k (drop p s)) → w ≡ (ref_at k (drop p s)).weight
      → weighing grown (weight + w) (read_from s next) ≡ weighing run weight (read_from s at)
  weigh-step grown w a g e =
      ap₂ (λ (x : RefRun) (y : ℕ). weighing x (weight + y) (read_from s next)) g e
      ∙ more run weight (ref_at k (drop p s)) (read_from s next) a
      ∙ ap (weighing run weight) (sym h.reads)

  pub weigh-no : admits run (ref_at k (drop p s)) ≡ false → None ≡ weighing run weight (read_from s at)
  weigh-no a = fewer run weight (ref_at k (drop p s)) (read_from s next) a ∙ ap (weighing run weight) (sym h.reads)

pub weigh-end : (run : RefRun) (weight : ℕ) (a : Answer (List Ref)) → a ≡ accepted [] → Some weight ≡ weighing run weight a
unfolding weighing sound
weigh-end run weight a e = rw e (ap Some (omega arith))

pub weigh-fault : (run : RefRun) (weight refusal : ℕ) (a : Answer (List Ref)) → a ≡ refused refusal → None ≡ weighing run weight a
unfolding weighing
weigh-fault run weight number a e = rw e refl

-- where there is no weight
pub weigh-none : (size : ℕ) (a : Answer (List Ref)) (o : Option ℕ) → o ≡ None → None ≡ weighed_of a → (o ≡ weighed_of a) × Light size o
weigh-none size a o e w = subst (λ (p : Option ℕ). (p ≡ weighed_of a) × Light size p) (sym e) (w, tt)
