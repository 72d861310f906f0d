-- Laws of a plan that takes a reference out whole, one for each way out. Assumes nothing.
use mathlib.Core.Path.{◌≡◌, refl, sym, ap, ◌∙◌}
use mathlib.Core.Bool.{false}
use mathlib.Core.List.{List, [], ◌∷◌, ◌++◌}
use Prim.Native.Nat.{ℕ}
use native.Mathlib.Omega.{arith}
use lib.Dec.{T}
use lib.ListN.{replicate}
use Rattle.std.specs.Prelude.{Some, None, Result, Ok}
use Rattle.format.specs.declared.Refusal.{Refusal}
use Rattle.fields.specs.Numbers.{le, are_bytes}
use Rattle.fields.specs.Parts.{part}
use Rattle.format.specs.Questions.{Answer, accepted, bind, found, TakenOut, denied}
use Rattle.format.specs.References.{refs_bytes, start_of, body_with, body_bytes}
use Rattle.format.proofs.Bodies.{on-body}
use Rattle.inline_refs.specs.declared.ref_name.RefName.{RefName}
use Rattle.inline_refs.specs.declared.noted.Found.{Found}
use Rattle.inline_refs.specs.declared.scan.Seen.{Seen}
use Rattle.inline_refs.specs.declared.scan.Seen.TheVariants.{Open}
use Rattle.inline_refs.specs.Scans.{is_wanted, scan_of, refs_in, hit_of}
use Rattle.inline_refs.proofs.Views.{CutAt}
use Rattle.inline_refs.proofs.RefPositions.{cut-between, found-view}
use Rattle.backref.specs.declared.plan.Plan.TheVariants.{Absent}
use Rattle.backref.specs.declared.plan.Plan.{Plan}
use Rattle.backref.specs.Plans.{PlannedTaken}
use Rattle.backref.proofs.TakenPlans.{with-count, taken_refused, taken-absent, taken-edit}
use Rattle.backref.specs.ByName.{take_inline}
use Rattle.backref.proofs.AddedAt.{ReadIn, total-read, scan-faults, placed, plan_of, adding-plan}

module _ (type : ℕ) (d : List ℕ) (w : RefName) (plan : Result Plan Refusal) where
  abbrev taken : Answer TakenOut
  taken = take_inline type d w

  pub take-fault : (n : ℕ) → denied n ≡ scan_of w 0 (start_of type d) (Open false) (refs_in type d) → plan ≡ denied n → PlannedTaken plan d taken
  unfolding take_inline
  take-fault n e o = taken_refused plan d taken n o (scan-faults type d w 0 n _ e)

  module _ (seen : Seen) (r : ReadIn type d w 0 seen) where
    pub take-absent : None ≡ hit_of seen → plan ≡ Ok Absent → PlannedTaken plan d taken
    unfolding take_inline found bind
    take-absent e o =
        taken-absent plan d taken o
        (on-body type d r.from _ r.fits r.read
        ∙ rw (found-view w 0 (start_of type d) r.from.refs seen None e r.view) refl)

    module _ (f : Found) (t : ℕ) (e : Some f ≡ hit_of seen) (is : t ≡ le (part 0 8 d)) where
      hit : CutAt (is_wanted w) (start_of type d) r.from.refs f.at f.next f.weight
      hit = found-view w 0 (start_of type d) r.from.refs seen (Some f) e r.view

      abbrev left : ℕ → List ℕ
      left total = body_bytes (body_with r.from total (hit.parts.front ++ hit.parts.back))

      take_found : taken ≡ with-count hit.parts.hit.weight (left r.from.total)
      unfolding take_inline found bind
      take_found = on-body type d r.from _ r.fits r.read ∙ rw hit.cuts refl

      pub take-gone : T (are_bytes d) → plan ≡ plan_of f.at f.next (replicate 32 0) 0 t f.weight → PlannedTaken plan d taken
      unfolding refs_bytes
      take-gone bytes o =
          let c = hit.parts in
          taken-edit plan d taken (left t) _ o
          (adding-plan plan d r.from c.front (c.hit ∷ []) c.back f.at f.next (replicate 32 0) 0 t f.weight [] (accepted (left t))
          (placed type d r.from bytes r.read c.front (c.hit ∷ []) c.back f.at f.next (cut-between (is_wanted w) (start_of type d) r.from.refs f.at f.next f.weight hit))
          r.fits o refl refl (omega arith) refl)
          (take_found ∙ ap (λ (m : ℕ). with-count m (left r.from.total)) (sym hit.weighs) ∙ ap (λ (m : ℕ). with-count f.weight (left m)) (total-read type d r t is))
