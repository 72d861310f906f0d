-- A shared reference taken out of a body: how long the rest is, and what its plan answers. Assumes nothing.
use mathlib.Core.Path.{◌≡◌, refl, sym, ap, ◌∙◌}
use mathlib.Core.List.{List, ◌∷◌, ◌++◌}
use Prim.Native.Nat.{ℕ, ◌≤◌}
use native.Mathlib.Omega.{arith}
use lib.Dec.{T, leb, leb→le}
use lib.ListN.{length, length-append}
use Rattle.std.specs.Prelude.{Result, Ok, Err}
use Rattle.format.specs.declared.Refusal.{Refusal}
use Rattle.fields.specs.Lists.{Cut, first_cut}
use Rattle.fields.specs.Numbers.{are_bytes}
use Rattle.fields.proofs.Lists.{Found, cut-some}
use Rattle.format.specs.declared.SharedRef.{SharedRef}
use Rattle.format.specs.Questions.{Answer, accepted, bind, found, bytes_of, TakenOut}
use Rattle.format.specs.References.{Ref, ref_bytes, refs_bytes, Body, body_with, read_body, body_bytes}
use Rattle.format.specs.Bodies.{body_fits, shared_kind, on_body, named, one, take_inline_shared}
use Rattle.format.proofs.Answers.{ask-ok, bind_ok, found_ok, accepted-inj}
use Rattle.format.proofs.Refs.{refs_bytes-append}
use Rattle.format.proofs.Bodies.{fixed-long, length-body_bytes, read-sound, body_bytes-read}
use Rattle.backref.specs.declared.plan.Plan.TheVariants.{Edit, Absent, Remove}
use Rattle.backref.specs.declared.plan.Plan.{Plan}
use Rattle.backref.specs.Plans.{plan_answer, plan_taken, PlannedTaken, Whole}

-- the body without one of its references
left-length : (type : ℕ) (d : List ℕ) → T (are_bytes d) → (b : Body) → read_body type d ≡ accepted b → (c : Cut Ref) → b.refs ≡ c.front ++ c.hit ∷ c.back
    → (24 ≤ length (body_bytes (body_with b b.total (c.front ++ c.back)))) × (length (body_bytes (body_with b b.total (c.front ++ c.back))) ≤ length d)
unfolding refs_bytes
left-length type d bytes b h c same =
    let n₁ = length-body_bytes (body_with b b.total (c.front ++ c.back)) in
    let n₂ = ap length (sym (body_bytes-read type d b bytes h)) ∙ length-body_bytes b in
    let n₃ = ap (λ (l : List Ref). length (refs_bytes l)) same ∙ ap length (refs_bytes-append c.front (c.hit ∷ c.back))
    ∙ length-append (refs_bytes c.front) (ref_bytes c.hit ++ refs_bytes c.back) in
    let n₄ = length-append (ref_bytes c.hit) (refs_bytes c.back) in
    let n₅ = ap length (refs_bytes-append c.front c.back) ∙ length-append (refs_bytes c.front) (refs_bytes c.back) in
    let n₆ = fixed-long type b (read-sound type d b bytes h) in
    (omega (arith, n₁, n₆), omega (arith, n₁, n₂, n₃, n₄, n₅))

without-count : (p : Result Plan Refusal) (body : List ℕ) → bytes_of (plan_taken p body) ≡ plan_answer p body
unfolding plan_taken plan_answer bind
without-count (Ok (Edit e)) body = refl
without-count (Ok Absent) body = refl
without-count (Ok Remove) body = refl
without-count (Err x) body = refl

module _ (type : ℕ) (d : List ℕ) (s : SharedRef) where
  taken-length : T (are_bytes d) → (out : TakenOut) → take_inline_shared type d s ≡ accepted out → (24 ≤ length out.bytes) × (length out.bytes ≤ 65535)
  unfolding take_inline_shared on_body body_fits
  taken-length bytes out e =
      let q₁ = ask-ok (shared_kind s.kind) 3 _ e in
      let q₂ = ask-ok (leb (length d) 65535) 3 _ q₁.1 in
      let read = bind_ok (read_body type d) _ q₂.1 in
      let b : Body = read.0 in
      let hit = bind_ok (found (first_cut (named s.kind (one s.parent)) b.refs)) _ read.2 in
      let c : Cut Ref = hit.0 in
      let k : Found (named s.kind (one s.parent)) b.refs c = cut-some _ b.refs (found_ok _ hit.1) in
      let l = left-length type d bytes b read.1 c k.same in
      let is = ap (λ (x : TakenOut). length x.bytes) (accepted-inj hit.2) in
      let fits = leb→le (length d) 65535 q₂.0 in
      (omega (arith, is, l.0), omega (arith, is, l.1, fits))

  module _ (plan : Result Plan Refusal) (p : PlannedTaken plan d (take_inline_shared type d s)) where
    pub taken-says : plan_answer plan d ≡ bytes_of (take_inline_shared type d s)
    taken-says = sym (without-count plan d) ∙ ap (λ (x : Answer TakenOut). bytes_of x) p.says

    pub taken-whole : T (are_bytes d) → Whole plan d
    unfolding Whole
    taken-whole bytes rest e =
        let out = bind_ok (take_inline_shared type d s) _ (sym taken-says ∙ e) in
        let l = taken-length bytes out.0 out.1 in
        let is = ap length (accepted-inj out.2) in
        (omega (arith, is, l.0), omega (arith, is, l.1))
