-- From what `crc32c_text` says of a lent output to the answer of the call. Assumes nothing.
use mathlib.Core.Path.{◌≡◌, sym, ap, subst, ◌∙◌}
use mathlib.Core.Bool.{Bool, true, false, cond}
use mathlib.Core.List.{List}
use Prim.Native.Nat.{ℕ, ◌≤◌}
use native.Mathlib.Omega.{arith}
use lib.ListN.{length}
use borrow.Author.Tests.{leb-true, leb-false}
use Rattle.fields.specs.Parts.{written}
use Rattle.std.specs.Prelude.{Ok}
use Rattle.format.specs.declared.Edited.TheVariants.{Written}
use Rattle.format.specs.Questions.{held_text, denied, Answered}
use Rattle.format.proofs.Outputs.{text-refused, text-written}
use Rattle.crc32c_text.specs.Text.{table_text, TextIn}
use Rattle.crc32c_text.proofs.Lines.{length-text}

module _ (polynomial : ℕ) {flag : Bool} {old new : List ℕ} (h : TextIn polynomial flag old new) where
  pub answers-held : flag ≡ true → Answered (held_text (length old) (table_text polynomial)) (Ok (Written 2304)) old new
  answers-held e =
      let room : length (table_text polynomial) ≤ length old = leb-true _ _ (sym h.told ∙ e) in
      text-written (table_text polynomial) old 2304 new (sym (length-text polynomial)) (omega (arith, room, length-text polynomial))
      (h.output ∙ ap (λ (b : Bool). cond b (written 0 (table_text polynomial) old) old) e)

  pub answers-short : flag ≡ false → Answered (held_text (length old) (table_text polynomial)) (denied 21) old new
  answers-short e =
      let same : new ≡ old = h.output ∙ ap (λ (b : Bool). cond b (written 0 (table_text polynomial) old) old) e in
      subst (λ (l : List ℕ). Answered (held_text (length old) (table_text polynomial)) (denied 21) old l) (sym same)
      (text-refused (table_text polynomial) old (leb-false _ _ (sym h.told ∙ e)))
