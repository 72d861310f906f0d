-- One count off a data reference's own item, or an amount off a shared one's, and off the total. Assumes nothing.
use mathlib.Core.Path.{◌≡◌, refl, sym, ap, ap₂, ◌∙◌, subst}
use mathlib.Core.Bool.{Bool, true, false, ◌&&◌, cond}
use mathlib.Core.List.{List}
use Prim.Native.Nat.{ℕ, ◌+◌, ◌-◌, ◌≤◌}
use native.Mathlib.Omega.{arith}
use lib.Dec.{T, leb, eqb, eqb→eq, leb→le}
use lib.ListN.{length}
use lib.Seq.{take_all}
use mir.Facts.{and_yes}
use borrow.Author.Tests.{eqb-true}
use Rattle.fields.specs.Lists.{same}
use Rattle.fields.specs.Numbers.{le, le_bytes, words}
use Rattle.fields.specs.Parts.{part, written}
use Rattle.format.specs.declared.DataRef.{DataRef}
use Rattle.std.specs.Prelude.{Result, Ok, Err}
use Rattle.format.specs.declared.Edited.{Edited}
use Rattle.format.specs.declared.Refusal.{Refusal}
use Rattle.format.specs.declared.Edited.TheVariants.{Absent as NoMatch}
use Rattle.format.specs.Questions.{Answer, absent, refused, remove, accepted, ask, bind, lent, edited_of, decides, Answered}
use Rattle.format.specs.Bodies.{triple, body_fits, on_head, lowered_by_one, on_total, lower_total, keyed_count, drop_keyed_data_ref}
use Rattle.format.specs.References.{total_of}
use Rattle.format.proofs.Answers.{ask-ok, bind_ok, accepted-inj, refused-not, absent-not, remove-not}
use Rattle.format.proofs.Decisions.{decides-ask, decides-bind}
use Rattle.backref.specs.declared.plan.BodyEdit.{BodyEdit}
use Rattle.backref.specs.declared.plan.Plan.{Plan}
use Rattle.backref.specs.declared.plan.Plan.TheVariants.{Edit, Absent, Remove}
use Rattle.backref.specs.Plans.{edited, plan_answer, Planned}
use Rattle.backref.proofs.Outcomes.{Edits}
use Rattle.record_edit.specs.declared.RecordAt.{RecordAt}
use Rattle.record_edit.specs.Records.{data_of}
use Rattle.transaction.specs.Drops.{held_at}
use Rattle.transaction.proofs.Rewrites.{last-four}

-- ---- the item's own drop

-- an item that counts less: questions 15 and 16, and what is left
pub keyed-out : (item : List ℕ) (d : DataRef) {bytes : List ℕ} → drop_keyed_data_ref item d ≡ accepted bytes
    → (length item ≡ 28) × (1 ≤ keyed_count item) × (bytes ≡ written 24 (le_bytes 4 (keyed_count item - 1)) item)
unfolding drop_keyed_data_ref
keyed-out item d {bytes} e =
    let h₁ = ask-ok (body_fits item) 3 _ e in
    let h₂ = ask-ok (eqb (length item) 28 && same (words 3 item) (triple d)) 15 _ h₁.1 in
    let h₃ = ask-ok (leb 1 (keyed_count item)) 16 _ h₂.1 in
    (eqb→eq _ _ (and_yes (eqb (length item) 28) _ h₂.0).0, leb→le _ _ h₃.0, go (eqb (keyed_count item) 1) h₃.1)
  where
    go : (b : Bool) → cond b remove (accepted (written 24 (le_bytes 4 (keyed_count item - 1)) item)) ≡ accepted bytes
        → bytes ≡ written 24 (le_bytes 4 (keyed_count item - 1)) item
    go true f = remove-not f
    go false f = sym (accepted-inj f)

-- an item that goes: it counts one
asked-gone : {A : Type 0} (b : Bool) (n : ℕ) (next : Answer A) → ask b n next ≡ remove → T b × (next ≡ remove)
unfolding ask
asked-gone true n next e = (tt, e)
asked-gone false n next e = let z : ◌≡◌ {A = ℕ} 0 1 = cc in absurd (omega arith)

pub keyed-gone : (item : List ℕ) (d : DataRef) → drop_keyed_data_ref item d ≡ remove → (length item ≡ 28) × (keyed_count item ≡ 1)
unfolding drop_keyed_data_ref
keyed-gone item d e =
    let h₁ = asked-gone (body_fits item) 3 _ e in
    let h₂ = asked-gone (eqb (length item) 28 && same (words 3 item) (triple d)) 15 _ h₁.1 in
    let h₃ = asked-gone (leb 1 (keyed_count item)) 16 _ h₂.1 in
    (eqb→eq _ _ (and_yes (eqb (length item) 28) _ h₂.0).0, go (eqb (keyed_count item) 1) refl h₃.1)
  where
    go : (b : Bool) → eqb (keyed_count item) 1 ≡ b → cond b remove (accepted (written 24 (le_bytes 4 (keyed_count item - 1)) item)) ≡ remove → keyed_count item ≡ 1
    go true h f = eqb-true _ _ h
    go false h f = remove-not (sym f)

-- as code reads it
count-is : (s : List ℕ) (from to : ℕ) → from + 21 ≤ to → to ≤ length s → length (data_of s from to) ≡ 28 → keyed_count (data_of s from to) ≡ le (part (to - 4) 4 s)
unfolding keyed_count
count-is s from to a b l = ap le (last-four s from to 24 a b l)

-- the item of shared data is its count
pub shared-is : (s : List ℕ) (from to : ℕ) → from + 21 ≤ to → to ≤ length s → length (data_of s from to) ≡ 4 → le (data_of s from to) ≡ le (part (to - 4) 4 s)
shared-is s from to a b l = ap le (sym (take_all 4 (data_of s from to) (omega arith)) ∙ last-four s from to 0 a b l)

-- ---- the total: a lower one is planned, or it is refused

decided : {A : Type 0} (a : Answer A) → T (decides a) → (a ≡ absent → ⊥) × (a ≡ remove → ⊥)
decided (refused n) t = ((λ e. let z : ◌≡◌ {A = ℕ} 0 1 = cc in absurd (omega arith)), (λ e. let z : ◌≡◌ {A = ℕ} 0 1 = cc in absurd (omega arith)))
decided absent t = absurd t
decided remove t = absurd t
decided (accepted a) t = ((λ e. absent-not (sym e)), (λ e. remove-not (sym e)))

lower-decides : (d : List ℕ) → T (decides (lower_total d))
unfolding lower_total on_total on_head lowered_by_one
lower-decides d =
    decides-ask (body_fits d) 3 tt _ (decides-ask (leb 24 (length d)) 6 tt _ (decides-bind _ _ (decides-ask (leb 2 (total_of d)) 13 tt _ tt) (λ t. tt)))

lower-edits : (d : List ℕ) (p : Result Plan Refusal) {x : Plan} → p ≡ Ok x → plan_answer p d ≡ lower_total d → Edits p
unfolding plan_answer
lower-edits d (Ok (Edit e)) k h = record { edit = e; is = refl }
lower-edits d (Ok Absent) k h = absurd ((decided (lower_total d) (lower-decides d)).0 (sym h))
lower-edits d (Ok Remove) k h = absurd ((decided (lower_total d) (lower-decides d)).1 (sym h))
lower-edits d (Err x) k h = let z : ◌≡◌ {A = ℕ} 0 1 = cc in absurd (omega arith)

module _ (s : List ℕ) (target : RecordAt) (p : Result Plan Refusal)
    (total : Planned p (data_of s target.start target.end) (lower_total (data_of s target.start target.end))) where
  abbrev body : List ℕ
  body = data_of s target.start target.end

  -- a total that is not lowered: the item is not read
  pub total-refused : (next : List ℕ → Answer (List ℕ)) {x : Refusal} {r : Result Edited Refusal} (old : List ℕ) → r ≡ Err x → p ≡ Err x
      → Answered (bind (lower_total body) next) r old old
  unfolding plan_answer bind lent edited_of
  total-refused next {x} {r} old f e =
      subst (λ (a : Answer (List ℕ)). Answered (bind a next) r old old) (ap (λ (q : Result Plan Refusal). plan_answer q body) (sym e) ∙ total.says)
      (record { result = f; output = refl })

  -- and nothing is made
  pub total-stays : (next : List ℕ → Answer (List ℕ)) {x : Refusal} → p ≡ Err x → {result : List ℕ} → bind (lower_total body) next ≡ accepted result → ⊥
  unfolding plan_answer
  total-stays next e f =
      let h = bind_ok (lower_total body) next f in
      refused-not (ap (λ (q : Result Plan Refusal). plan_answer q body) (sym e) ∙ total.says ∙ h.1)

  module _ (from to : ℕ) (name : DataRef) (room : ℕ) (q : Result Plan Refusal) (item : Planned q (data_of s from to) (drop_keyed_data_ref (data_of s from to) name)) where
    abbrev at_item : Answer (List ℕ) → List ℕ → Answer (List ℕ)
    at_item = held_at room s target from to (le (part (to - 4) 4 s) - 1)

    abbrev answer : Answer (List ℕ)
    answer = bind (lower_total body) (at_item (drop_keyed_data_ref (data_of s from to) name))

    -- as the item's plan answers
    by-plan : {x : Result Plan Refusal} → q ≡ x → bind (plan_answer p body) (at_item (plan_answer x (data_of s from to))) ≡ answer
    by-plan e =
        ap₂ (λ (a b : Answer (List ℕ)). bind a (at_item b)) total.says (ap (λ (y : Result Plan Refusal). plan_answer y (data_of s from to)) (sym e) ∙ item.says)

    accepts : {x : Plan} → p ≡ Ok x → (rest : List ℕ) × (plan_answer p body ≡ accepted rest)
    unfolding plan_answer
    accepts e =
        let h = lower-edits body p e total.says in
        (edited h.edit body, ap (λ (y : Result Plan Refusal). plan_answer y body) h.is)

    pub item_refused : {x : Refusal} {y : Plan} {r : Result Edited Refusal} (old : List ℕ) → p ≡ Ok y → r ≡ Err x → q ≡ Err x → Answered answer r old old
    unfolding plan_answer bind held_at lent edited_of
    item_refused {x} {y} {r} old e g f =
        subst (λ (a : Answer (List ℕ)). Answered a r old old)
        (ap (λ (a : Answer (List ℕ)). bind a (at_item (refused x.number))) (sym (accepts e).1) ∙ by-plan f)
        (record { result = g; output = refl })

    pub item-absent : {y : Plan} (old : List ℕ) → p ≡ Ok y → q ≡ Ok Absent → Answered answer (Ok NoMatch) old old
    unfolding plan_answer bind held_at lent edited_of
    item-absent old e f =
        subst (λ (a : Answer (List ℕ)). Answered a (Ok NoMatch) old old)
        (ap (λ (a : Answer (List ℕ)). bind a (at_item absent)) (sym (accepts e).1) ∙ by-plan f)
        (record { result = refl; output = refl })

-- what stands there counts at least one
pub one-counted : (s : List ℕ) (from to count : ℕ) (name : DataRef) (q : Result Plan Refusal) {edit : BodyEdit} → from + 21 ≤ to → to ≤ length s
    → Planned q (data_of s from to) (drop_keyed_data_ref (data_of s from to) name) → q ≡ Ok (Edit edit) → count ≡ le (part (to - 4) 4 s) → 1 ≤ count
unfolding plan_answer
one-counted s from to count name q a b h e is =
    let k = keyed-out (data_of s from to) name (sym h.says ∙ ap (λ (x : Result Plan Refusal). plan_answer x (data_of s from to)) e) in
    let c = count-is s from to a b k.0 in
    let one = k.1 in
    omega arith

-- and one, where the item goes
pub one-gone : (s : List ℕ) (from to : ℕ) (name : DataRef) (q : Result Plan Refusal) → from + 21 ≤ to → to ≤ length s
    → Planned q (data_of s from to) (drop_keyed_data_ref (data_of s from to) name) → q ≡ Ok Remove → 0 ≡ le (part (to - 4) 4 s) - 1
unfolding plan_answer
one-gone s from to name q a b h e =
    let k = keyed-gone (data_of s from to) name (sym h.says ∙ ap (λ (x : Result Plan Refusal). plan_answer x (data_of s from to)) e) in
    let c = count-is s from to a b k.0 in
    let one = k.1 in
    omega arith
