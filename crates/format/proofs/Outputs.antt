-- What a lent output holds and a call answers, by way out: a refusal, or a result that was written to the front; and question 21
-- of a body and of a text. Assumes nothing.
use mathlib.Core.Path.{◌≡◌, sym, ap, ◌∙◌, subst}
use mathlib.Core.List.{List}
use Rattle.std.specs.Prelude.{Option, Result, Ok}
use Prim.Native.Nat.{ℕ, ◌≤◌, ◌<◌}
use native.Mathlib.Omega.{arith}
use lib.ListN.{length}
use borrow.Author.Tests.{le-leb, lt-leb}
use Rattle.fields.specs.Parts.{written}
use Rattle.fields.proofs.Parts.{written-front}
use Rattle.format.specs.declared.Edited.{Edited}
use Rattle.format.specs.declared.Edited.TheVariants.{Written}
use Rattle.format.specs.declared.Taken.{Taken}
use Rattle.format.specs.declared.Refusal.{Refusal}
use Rattle.format.specs.Questions.{Answer, refused, accepted, ask, bind, held, held_text, lent, denied, edited_of, TakenOut, Answered, AnsweredTaken}
use Rattle.format.specs.Bodies.{body_fits, held_body}

pub answered-refused : {a : Answer (List ℕ)} {number : ℕ} (old : List ℕ) → a ≡ refused number → Answered a (denied number) old old
unfolding lent edited_of
answered-refused old e = record { result = sym (ap edited_of e); output = sym (ap (λ x. lent x old) e) }

pub answered-written : {a : Answer (List ℕ)} {body old new : List ℕ} → a ≡ accepted body → new ≡ written 0 body old
    → Answered a (Ok (Written (length body))) old new
unfolding lent edited_of
answered-written {body = body} {old = old} e w =
    record { result = sym (ap edited_of e); output = w ∙ written-front body old ∙ sym (ap (λ x. lent x old) e) }

-- the same for bytes that are known to be the body
pub answered-body : (room : ℕ) {bytes body old new : List ℕ} {r : Result Edited Refusal} → bytes ≡ body
    → Answered (held_body room (accepted bytes)) r old new
    → Answered (held_body room (accepted body)) r old new
answered-body room {old = old} {new = new} {r = r} e h = subst (λ b. Answered (held_body room (accepted b)) r old new) e h

module _ (body : List ℕ) (room : ℕ) where
  pub held-body : length body ≤ room → length body ≤ 65535 → held_body room (accepted body) ≡ accepted body
  unfolding held_body held bind ask body_fits
  held-body h k = simp (le-leb _ _ h, le-leb _ _ k)

  pub no_room : room < length body → held_body room (accepted body) ≡ refused 21
  unfolding held_body held bind ask body_fits
  no_room h = simp (lt-leb _ _ h)

  pub too_long : length body ≤ room → 65535 < length body → held_body room (accepted body) ≡ refused 21
  unfolding held_body held bind ask body_fits
  too_long h k = simp (le-leb _ _ h, lt-leb _ _ k)

module _ (text old : List ℕ) where
  pub text-refused : length old < length text → Answered (held_text (length old) text) (denied 21) old old
  unfolding held bind ask
  text-refused h = answered-refused old (simp (lt-leb _ _ h))

  pub text-written : (size : ℕ) (new : List ℕ) → size ≡ length text → size ≤ length old → new ≡ written 0 text old
      → Answered (held_text (length old) text) (Ok (Written size)) old new
  unfolding held bind ask
  text-written size new e h w =
      let room : length text ≤ length old = omega arith in
      let fits : held_text (length old) text ≡ accepted text = simp (le-leb _ _ room) in
      subst (λ (n : ℕ). Answered (held_text (length old) text) (Ok (Written n)) old new) (sym e) (answered-written fits w)

-- an answer that is handed on
pub handed : {a : Answer (List ℕ)} {r s : Result Edited Refusal} {old new : List ℕ} → r ≡ s → Answered a s old new → Answered a r old new
handed {a} {old = old} {new = new} e h = subst (λ (x : Result Edited Refusal). Answered a x old new) (sym e) h

pub handed-taken : {a : Answer TakenOut} {r s : Result (Option Taken) Refusal} {old new : List ℕ} → r ≡ s → AnsweredTaken a s old new → AnsweredTaken a r old new
handed-taken {a} {old = old} {new = new} e h = subst (λ (x : Result (Option Taken) Refusal). AnsweredTaken a x old new) (sym e) h
