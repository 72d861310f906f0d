-- Laws of a body's fields, put down one after the other. Assumes nothing.
use mathlib.Core.Path.{◌≡◌, refl, sym, ap, ◌∙◌}
use mathlib.Core.List.{List, [], ◌∷◌, ◌++◌}
use Prim.Native.Nat.{ℕ, zero, suc, ◌+◌, ◌-◌, ◌*◌, ◌<◌}
use native.Mathlib.Omega.{arith}
use lib.ListN.{drop}
use lib.Seq.{drop-drop}
use Rattle.fields.specs.Numbers.{le, words}
use Rattle.fields.specs.Parts.{part}
use Rattle.text.specs.Numbers.{digits, spaced}
use Rattle.text.specs.Puts.{Put}
use Rattle.text.proofs.Numbers.{spaced-one}
use Rattle.text.proofs.Writes.{put_is, Makes, makes-is, makes-next}

words-next : (left at : ℕ) (s : List ℕ)
    → spaced (words (suc left) (drop at s)) ≡ spaced (le (part at 8 s) ∷ []) ++ spaced (words left (drop (at + 8) s))
unfolding words spaced
words-next left at s =
    ap (λ (l : List ℕ). 32 ∷ (digits 20 (le (part at 8 s)) ++ spaced (words left l))) (drop-drop 8 at s)
    ∙ ap (λ (l : List ℕ). l ++ spaced (words left (drop (at + 8) s))) (sym (spaced-one (le (part at 8 s))))

pub words-end : (many : ℕ) (s : List ℕ) → many ≡ 0 → spaced (words many s) ≡ []
unfolding words spaced
words-end zero s e = refl
words-end (suc many) s e = absurd (omega arith)

-- field number n of so many
pub makes-field : (many n start : ℕ) (s : List ℕ) (field : ℕ) {whole : List ℕ} {from at₀ mid : ℕ} {now half old : List ℕ} → n < many
    → field ≡ le (part (start + 8 * n) 8 s)
    → Put (spaced (field ∷ [])) from now mid half
    → Makes (spaced (words (many - n) (drop (start + 8 * n) s))) from now whole at₀ old
    → Makes (spaced (words (many - (n + 1)) (drop (start + 8 * (n + 1)) s))) mid half whole at₀ old
makes-field many n start s field h e p m =
    let more : many - n ≡ suc (many - (n + 1)) = omega arith in
    let on : start + 8 * n + 8 ≡ start + 8 * (n + 1) = omega arith in
    makes-is (ap (λ (k : ℕ). spaced (words (many - (n + 1)) (drop k s))) on)
    (makes-next (put_is (ap (λ (k : ℕ). spaced (k ∷ [])) e) p)
    (makes-is (ap (λ (k : ℕ). spaced (words k (drop (start + 8 * n) s))) more ∙ words-next (many - (n + 1)) (start + 8 * n) s) m))
