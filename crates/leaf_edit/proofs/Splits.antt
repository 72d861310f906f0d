-- What a splitting call answers and leaves in the lent slice. Assumes nothing.
use mathlib.Core.Path.{◌≡◌, refl, sym, ap, ◌∙◌, subst}
use mathlib.Core.List.{List, [], ◌∷◌}
use Prim.Native.Nat.{ℕ, ◌+◌, ◌≤◌, ◌<◌, ◌/◌}
use native.Mathlib.Omega.{arith}
use lib.ListN.{length, set}
use borrow.Author.Tests.{le-leb, lt-leb}
use Rattle.std.specs.Int.{div_ceil}
use Rattle.fields.specs.Parts.{written}
use Rattle.fields.proofs.Parts.{stores_one, written-front}
use Rattle.std.specs.Prelude.{Result, Ok}
use Rattle.format.specs.declared.Edited.{Edited}
use Rattle.format.specs.declared.Edited.TheVariants.{Written}
use Rattle.format.specs.declared.Refusal.{Refusal}
use Rattle.format.specs.Questions.{Answer, refused, accepted, ask, bind, held, lent, denied, edited_of, Answered}
use Rattle.format.specs.Items.{read_sheet, on_sheet}
use Rattle.format.specs.Sheets.{split, held_cuts}
use Rattle.item_list.proofs.Reading.{Counted}

module _ (a : Answer (List ℕ)) (room : ℕ) (old new : List ℕ) where
  answered : (b : Answer (List ℕ)) → held_cuts room a ≡ b → Answered b (edited_of b) old new → Answered (held_cuts room a) (edited_of b) old new
  answered b e w = record { result = sym (ap edited_of e); output = w.output ∙ sym (ap (λ (x : Answer (List ℕ)). lent x old) e) }

  pub cuts-refused : (k : ℕ) → a ≡ refused k → new ≡ old → Answered (held_cuts room a) (denied k) old new
  unfolding held_cuts held bind edited_of lent
  cuts-refused k e same = answered (refused k) (ap (held_cuts room) e) (record { result = refl; output = same })

  module _ (numbers : List ℕ) (e : a ≡ accepted numbers) where
    pub cuts-short : room < length numbers → new ≡ old → Answered (held_cuts room a) (denied 21) old new
    unfolding held_cuts held bind ask edited_of lent
    cuts-short h same =
        answered (refused 21) (ap (held_cuts room) e ∙ rw (lt-leb (length numbers) room h)) (record { result = refl; output = same })

    pub cuts-written : (count : ℕ) → count ≡ length numbers → count ≤ room → new ≡ written 0 numbers old
        → Answered (held_cuts room a) (Ok (Written count)) old new
    unfolding held_cuts held bind ask edited_of lent
    cuts-written count is h w =
        let h' : length numbers ≤ room = omega arith in
        subst (λ (k : ℕ). Answered (held_cuts room a) (Ok (Written k)) old new) (sym is)
        (answered (accepted numbers) (ap (held_cuts room) e ∙ rw (le-leb (length numbers) room h'))
        (record { result = refl; output = w ∙ written-front numbers old }))

-- what is written for an answer is written for whatever has that answer
pub cuts-like : (a : Answer (List ℕ)) (room : ℕ) {old new : List ℕ} {b : Answer (List ℕ)} {r : Result Edited Refusal} → a ≡ b
    → Answered (held_cuts room b) r old new
    → Answered (held_cuts room a) r old new
cuts-like a room {old = old} {new = new} {r = r} e w = subst (λ (x : Answer (List ℕ)). Answered (held_cuts room x) r old new) (sym e) w

pub one_written : (old : List ℕ) (index : ℕ) → 1 ≤ length old → set old 0 index ≡ written 0 (index ∷ []) old
one_written old index h = stores_one old 0 index h

-- ---- split

pub half-up : (n : ℕ) → div_ceil n 2 ≡ (n + 1) / 2
half-up n = omega arith

pub split-refused : (s : List ℕ) (k : ℕ) → read_sheet s ≡ refused k → split s ≡ refused k
unfolding split on_sheet bind
split-refused s k e = rw e

module _ (s : List ℕ) (n : ℕ) (c : Counted s n) where
  pub split-few : n < 2 → split s ≡ refused 19
  unfolding split on_sheet bind ask
  split-few h = rw (c.reads, c.count, lt-leb 2 n h)

  pub split-half : 2 ≤ n → split s ≡ accepted ((n + 1) / 2 ∷ [])
  unfolding split on_sheet bind ask
  split-half h = rw (c.reads, c.count, le-leb 2 n h)
