-- References of one type that stand side by side: one more of them. Assumes nothing.
use mathlib.Core.Path.{◌≡◌, refl, ap, ◌∙◌}
use Prim.Native.Nat.{ℕ, zero, suc, ◌+◌, ◌*◌}
use native.Mathlib.Nat.{suc-mul, zero-mul, add_comm}
use native.Mathlib.Omega.{arith}
use mathlib.Core.List.{List, [], ◌∷◌, ◌++◌}
use lib.ListN.{drop}
use Rattle.format.specs.References.{payload_length, Ref, ref_at}
use Rattle.balance.specs.Ranks.{span_refs}

mul-more : (n k : ℕ) → suc n * k ≡ k + n * k
mul-more n k = suc-mul n k ∙ add_comm (n * k) k

-- one more at the end
pub span-snoc : (kind : ℕ) (body : List ℕ) (from n : ℕ)
    → span_refs kind body from (n + 1) ≡ span_refs kind body from n ++ ref_at kind (drop (from + n * (1 + payload_length kind) + 1) body) ∷ []
unfolding span_refs
span-snoc kind body from zero = let z : from + 0 * (1 + payload_length kind) ≡ from = rw (zero-mul (1 + payload_length kind)) (omega arith) in rw z refl
span-snoc kind body from (suc n) =
    let k : ℕ = 1 + payload_length kind in
    let z : from + k + n * k ≡ from + suc n * k = rw (mul-more n k) (omega arith) in
    let u : suc n + 1 ≡ suc (n + 1) = omega arith in
    ap (span_refs kind body from) u
    ∙ ap (λ (l : List Ref). ref_at kind (drop (from + 1) body) ∷ l)
    (span-snoc kind body (from + k) n ∙ ap (λ (p : ℕ). span_refs kind body (from + k) n ++ ref_at kind (drop (p + 1) body) ∷ []) z)
