-- Laws of texts put down one after the other. Assumes nothing.
use mathlib.Core.Path.{◌≡◌, refl, sym, ap, subst, ◌∙◌}
use mathlib.Core.List.{List, [], ◌∷◌, ◌++◌}
use Prim.Native.Nat.{ℕ, ◌+◌, ◌≤◌, ◌<◌}
use native.Mathlib.Nat.{add-zero}
use native.Mathlib.Numerals.{add-one}
use native.Mathlib.Omega.{arith}
use lib.ListN.{length, drop, get_or, set, length-append}
use lib.Seq.{sets, set_out, drop-cons}
use Rattle.fields.proofs.Parts.{sets-append}
use Rattle.text.specs.Puts.{Put}

-- ---- one text, and one after the other

pub put-none : (at : ℕ) (old : List ℕ) → Put [] at old at old
put-none at old = record { further = sym (add-zero at); bytes = refl }

pub put_is : {a b : List ℕ} {at next : ℕ} {old new : List ℕ} → a ≡ b → Put a at old next new → Put b at old next new
put_is {at = at} {next = next} {old = old} {new = new} e p = subst (λ (l : List ℕ). Put l at old next new) e p

pub put-out : (old : List ℕ) (at byte : ℕ) → length old ≤ at → Put (byte ∷ []) at old (at + 1) old
put-out old at byte h = record { further = refl; bytes = sym (set_out old at byte h) }

pub put_in : (old : List ℕ) (at byte : ℕ) → Put (byte ∷ []) at old (at + 1) (set old at byte)
put_in old at byte = record { further = refl; bytes = refl }

pub put_then : {a b : List ℕ} {at mid next : ℕ} {old half new : List ℕ} → Put a at old mid half → Put b mid half next new
    → Put (a ++ b) at old next new
put_then {a = a} {b = b} {at = at} {mid = mid} {old = old} {half = half} p q =
    record {
      further = omega (arith, p.further, q.further, length-append a b);
      bytes = q.bytes ∙ ap (λ (l : List ℕ). sets l mid b) p.bytes ∙ ap (λ (n : ℕ). sets (sets old at a) n b) p.further
          ∙ sym (sets-append a b old at);
    }

-- ---- loops: the rest, put down from here, makes the whole

abbrev pub Makes : List ℕ → ℕ → List ℕ → List ℕ → ℕ → List ℕ → Type 0
Makes rest at now whole at₀ old = (next : ℕ) (new : List ℕ) → Put rest at now next new → Put whole at₀ old next new

pub makes-all : (whole : List ℕ) (at : ℕ) (old : List ℕ) → Makes whole at old whole at old
makes-all whole at old next new p = p

pub makes-is : {a b whole : List ℕ} {at at₀ : ℕ} {now old : List ℕ} → a ≡ b → Makes a at now whole at₀ old → Makes b at now whole at₀ old
makes-is {whole = whole} {at = at} {at₀ = at₀} {now = now} {old = old} e m = subst (λ (l : List ℕ). Makes l at now whole at₀ old) e m

pub makes-next : {a rest whole : List ℕ} {at at₀ mid : ℕ} {now half old : List ℕ} → Put a at now mid half
    → Makes (a ++ rest) at now whole at₀ old
    → Makes rest mid half whole at₀ old
makes-next p m next new q = m next new (put_then p q)

pub makes-done : {rest whole : List ℕ} {at at₀ : ℕ} {now old : List ℕ} → rest ≡ [] → Makes rest at now whole at₀ old → Put whole at₀ old at now
makes-done {at = at} {now = now} e m = m at now (put_is (sym e) (put-none at now))

-- a byte of a list further
pub makes-byte : (bytes : List ℕ) (i : ℕ) {whole : List ℕ} {at at₀ mid : ℕ} {now half old : List ℕ} → i < length bytes
    → Put (get_or bytes i 0 ∷ []) at now mid half
    → Makes (drop i bytes) at now whole at₀ old
    → Makes (drop (i + 1) bytes) mid half whole at₀ old
makes-byte bytes i h p m =
    let e : drop i bytes ≡ (get_or bytes i 0 ∷ []) ++ drop (i + 1) bytes = rw add-one (drop-cons bytes i 0 h) in
    makes-next p (makes-is e m)
