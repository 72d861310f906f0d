-- Where a step leaves a reader, by what the step found. Assumes nothing.
use mathlib.Core.Path.{◌≡◌, sym, ap, subst, ◌∙◌}
use mathlib.Core.List.{List, []}
use Prim.Native.Nat.{ℕ}
use Rattle.std.specs.Prelude.{Option, Some, None, Result, Ok, Err}
use Rattle.format.specs.declared.Refusal.{Refusal}
use Rattle.inline_refs.specs.declared.step.RefAt.{RefAt}
use Rattle.format.specs.Questions.{refused, accepted}
use Rattle.inline_refs.specs.Steps.{ref_step_at, moved, read_from}
use Rattle.inline_refs.proofs.Steps.{At, seen, ended, stopped}

module _ (s : List ℕ) (at : ℕ) (step : Result (Option RefAt) Refusal) (is : step ≡ ref_step_at s at) where
  module _ (r : RefAt) (e : step ≡ Ok (Some r)) where
    pub moves-on : r.next.at ≡ moved (ref_step_at s at) at
    unfolding moved
    moves-on = ap (λ (x : Result (Option RefAt) Refusal). moved x at) (sym e ∙ is)

    -- so what is known of the reference holds with the reader's new position
    pub stands-behind : (after : ℕ) → after ≡ moved (ref_step_at s at) at → At s at r.kind r.start r.size r.count after
    stands-behind after w = subst (At s at r.kind r.start r.size r.count) (moves-on ∙ sym w) (seen s at (Ok (Some r)) (sym e ∙ is))

  pub stays-at-end : step ≡ Ok None → at ≡ moved (ref_step_at s at) at
  unfolding moved
  stays-at-end e = ap (λ (x : Result (Option RefAt) Refusal). moved x at) (sym e ∙ is)

  pub stays-at-fault : (refusal : Refusal) → step ≡ Err refusal → at ≡ moved (ref_step_at s at) at
  unfolding moved
  stays-at-fault refusal e = ap (λ (x : Result (Option RefAt) Refusal). moved x at) (sym e ∙ is)

-- a turn of a loop over a reader whose body is `s`: where it stands after a reference, and what is left at the end and at a fault
module _ (s body : List ℕ) (same : body ≡ s) (at : ℕ) {r : Result (Option RefAt) Refusal} (is : r ≡ ref_step_at body at) where
  pub read-on : {o : Option RefAt} {x : RefAt} {after : ℕ} → after ≡ moved (ref_step_at body at) at → r ≡ Ok o → o ≡ Some x
      → At s at x.kind x.start x.size x.count after
  read-on {x = x} {after = after} w h k =
      subst (λ (l : List ℕ). At l at x.kind x.start x.size x.count after) same (stands-behind body at r is x (h ∙ ap Ok k) after w)

  pub read-out : {o : Option RefAt} → r ≡ Ok o → o ≡ None → read_from s at ≡ accepted []
  read-out h k = subst (λ (l : List ℕ). read_from l at ≡ accepted []) same (ended body at is h k)

  pub read-shut : {x : Refusal} → r ≡ Err x → read_from s at ≡ refused x.number
  read-shut {x = x} h = subst (λ (l : List ℕ). read_from l at ≡ refused x.number) same (stopped body at is h)
