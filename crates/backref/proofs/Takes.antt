-- Laws of the plans that take so much off a reference, one for each way out. Assumes nothing.
use mathlib.Core.Path.{◌≡◌, refl, sym, ap, ◌∙◌, subst}
use mathlib.Core.Bool.{false}
use mathlib.Core.List.{List, [], ◌∷◌, ◌++◌}
use Prim.Native.Nat.{ℕ, ◌+◌, ◌-◌, ◌≤◌, ◌<◌}
use native.Mathlib.Omega.{arith}
use lib.Dec.{T}
use lib.ListN.{take, replicate}
use borrow.Author.Tests.{lt-ltb, le-ltb}
use Rattle.std.specs.Prelude.{Some, None, Result, Ok}
use Rattle.format.specs.declared.Refusal.{Refusal}
use Rattle.fields.specs.Numbers.{le, are_bytes}
use Rattle.fields.specs.Parts.{part}
use Rattle.format.specs.Questions.{Answer, refused, accepted, bind, found, denied}
use Rattle.format.specs.References.{payload_length, Ref, make_ref, ref_bytes, refs_bytes, start_of, body_with, body_bytes}
use Rattle.format.specs.Bodies.{one, triple, lowered_by_one, lowered_by_part, less, weighed, drop_inline, drop_inline_tree_ref, drop_inline_data_ref}
use Rattle.format.proofs.Bodies.{on-body}
use Rattle.format.proofs.Splices.{refs_bytes-one}
use Rattle.inline_refs.specs.declared.ref_name.RefName.{RefName}
use Rattle.inline_refs.specs.declared.ref_name.RefName.TheVariants.{Block, Data, SharedBlock, SharedData}
use Rattle.inline_refs.specs.declared.noted.Found.{Found}
use Rattle.inline_refs.specs.declared.scan.Seen.{Seen}
use Rattle.inline_refs.specs.declared.scan.Seen.TheVariants.{Open}
use Rattle.inline_refs.specs.Scans.{kind_of, fields_of, is_wanted, scan_of, refs_in, hit_of}
use Rattle.inline_refs.proofs.Views.{CutAt}
use Rattle.inline_refs.proofs.RefPositions.{cut-between, cut-passed, found-view}
use Rattle.backref.specs.declared.plan.Plan.TheVariants.{Absent}
use Rattle.backref.specs.declared.plan.Plan.{Plan}
use Rattle.backref.specs.Plans.{Planned}
use Rattle.backref.specs.ByName.{OneOff, drop_named, drop_asked}
use Rattle.backref.proofs.NewBytes.{Holds, wanted-small}
use Rattle.backref.proofs.Outcomes.{plan-absent, plan-refused}
use Rattle.backref.proofs.PlannedTotals.{Asked, one-asks, part-asks}
use Rattle.backref.proofs.AddedAt.{ReadIn, total-read, scan-faults, placed, plan_of, adding-plan, wanted-is}

-- how the total is lowered, by the name
abbrev lowers_by : RefName → ℕ → ℕ → ℕ → Answer ℕ
lowers_by (Block name) amount = λ standing. lowered_by_one
lowers_by (Data name) amount = λ standing. lowered_by_one
lowers_by (SharedBlock parent) amount = lowered_by_part amount
lowers_by (SharedData parent) amount = lowered_by_part amount

-- the definition without cases
pub drop-named : {d : List ℕ} {plan : Result Plan Refusal} (type : ℕ) (w : RefName) (amount : ℕ) → OneOff w amount
    → Planned plan d (drop_inline type d (kind_of w) (fields_of w) amount (lowers_by w amount)) → Planned plan d (drop_named type d w amount)
unfolding drop_inline_tree_ref drop_inline_data_ref kind_of fields_of
drop-named {d} {plan} type (Block name) amount e h =
    subst (λ (n : ℕ). Planned plan d (drop_inline type d 176 (one name.tree) n (λ standing. lowered_by_one))) e h
drop-named {d} {plan} type (Data name) amount e h =
    subst (λ (n : ℕ). Planned plan d (drop_inline type d 178 (triple name) n (λ standing. lowered_by_one))) e h
drop-named type (SharedBlock parent) amount e h = h
drop-named type (SharedData parent) amount e h = h

-- what code asks is the question of the total
module _ (w : RefName) (amount standing t : ℕ) (one : OneOff w amount) where
  pub lowers : Asked (drop_asked w amount standing t) (lowers_by w amount standing t) (t - amount)
  unfolding drop_asked
  lowers = go w one
    where
      go : (v : RefName) → OneOff v amount → Asked (drop_asked v amount standing t) (lowers_by v amount standing t) (t - amount)
      go (Block name) o = one-asks amount t o
      go (Data name) o = one-asks amount t o
      go (SharedBlock parent) o = part-asks amount standing t
      go (SharedData parent) o = part-asks amount standing t

module _ (type : ℕ) (d : List ℕ) (w : RefName) (amount : ℕ) (lowered : ℕ → ℕ → Answer ℕ) (plan : Result Plan Refusal) where
  abbrev dropped : Answer (List ℕ)
  dropped = drop_inline type d (kind_of w) (fields_of w) amount lowered

  pub drop-fault : (n : ℕ) → denied n ≡ scan_of w 0 (start_of type d) (Open false) (refs_in type d) → plan ≡ denied n → Planned plan d dropped
  unfolding drop_inline
  drop-fault n e o = plan-refused plan d dropped n o (scan-faults type d w 0 n _ e)

  module _ (seen : Seen) (r : ReadIn type d w 0 seen) where
    pub drop-absent : None ≡ hit_of seen → plan ≡ Ok Absent → Planned plan d dropped
    unfolding drop_inline found bind
    drop-absent e o =
        plan-absent plan d dropped o
        (on-body type d r.from _ r.fits r.read
        ∙ rw (found-view w 0 (start_of type d) r.from.refs seen None e r.view) refl)

    module _ (f : Found) (t : ℕ) (e : Some f ≡ hit_of seen) (is : t ≡ le (part 0 8 d)) where
      hit : CutAt (is_wanted w) (start_of type d) r.from.refs f.at f.next f.weight
      hit = found-view w 0 (start_of type d) r.from.refs seen (Some f) e r.view

      abbrev left : List Ref → ℕ → Answer (List ℕ)
      left new total = accepted (body_bytes (body_with r.from total (hit.parts.front ++ (new ++ hit.parts.back))))

      drop-found : (a : Answer ℕ) → lowered f.weight t ≡ a → dropped ≡ bind a (left (less hit.parts.hit amount))
      unfolding drop_inline found bind
      drop-found a h =
          on-body type d r.from _ r.fits r.read ∙ rw hit.cuts refl
          ∙ ap (λ (b : Answer ℕ). bind b (left (less hit.parts.hit amount)))
          (ap (λ (m : ℕ). lowered m r.from.total) (sym hit.weighs) ∙ ap (lowered f.weight) (total-read type d r t is) ∙ h)

      pub drop-refused : (n : ℕ) → lowered f.weight t ≡ refused n → plan ≡ denied n → Planned plan d dropped
      unfolding bind
      drop-refused n h o = plan-refused plan d dropped n o (drop-found (refused n) h)

      module _ (bytes : T (are_bytes d)) (u : ℕ) (h : lowered f.weight t ≡ accepted u) where
        drop-edit : (new : List Ref) → less hit.parts.hit amount ≡ new → dropped ≡ left new u
        unfolding bind
        drop-edit new k = drop-found (accepted u) h ∙ ap (λ (l : List Ref). left l u) k

        pub drop-gone : f.weight ≤ amount → plan ≡ plan_of f.at f.next (replicate 32 0) 0 u 0 → Planned plan d dropped
        unfolding less refs_bytes
        drop-gone k o =
            let c = hit.parts in
            let z : c.hit.weight ≤ amount = omega (arith, hit.weighs) in
            let none_left : less c.hit amount ≡ [] = simp (le-ltb _ _ z) in
            adding-plan plan d r.from c.front (c.hit ∷ []) c.back f.at f.next (replicate 32 0) 0 u 0 [] dropped
            (placed type d r.from bytes r.read c.front (c.hit ∷ []) c.back f.at f.next (cut-between (is_wanted w) (start_of type d) r.from.refs f.at f.next f.weight hit))
            r.fits o refl refl (omega arith) (drop-edit [] none_left)

        pub drop-kept : (new : List ℕ) (size : ℕ) → amount < f.weight → Holds w (f.weight - amount) new → size ≡ 1 + payload_length (kind_of w)
            → plan ≡ plan_of f.at f.next new size u 0 → Planned plan d dropped
        unfolding less
        drop-kept new size k n s o =
            let c = hit.parts in
            let z : amount < c.hit.weight = omega (arith, hit.weighs) in
            let fewer : Ref = weighed c.hit (c.hit.weight - amount) in
            let one_left : less c.hit amount ≡ fewer ∷ [] = simp (lt-ltb _ _ z) in
            let same : fewer ≡ make_ref (kind_of w) (fields_of w) (f.weight - amount) =
            wanted-is w c.hit (c.hit.weight - amount) (cut-passed (is_wanted w) (start_of type d) r.from.refs f.at f.next f.weight hit)
            ∙ ap (λ (m : ℕ). make_ref (kind_of w) (fields_of w) (m - amount)) (sym hit.weighs) in
            adding-plan plan d r.from c.front (c.hit ∷ []) c.back f.at f.next new size u 0 (fewer ∷ []) dropped
            (placed type d r.from bytes r.read c.front (c.hit ∷ []) c.back f.at f.next (cut-between (is_wanted w) (start_of type d) r.from.refs f.at f.next f.weight hit))
            r.fits o
            (ap (λ (m : ℕ). take m new) s ∙ n.front ∙ sym (ap ref_bytes same) ∙ sym (refs_bytes-one fewer))
            n.long (wanted-small w size s) (drop-edit (fewer ∷ []) one_left)
