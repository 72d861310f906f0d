-- The rules by which a drop lowers a record's total: by one (question 13), or by a part of what stands (10 and 22).
-- Assumes nothing.
use mathlib.Core.Path.{◌≡◌, ◌∙◌}
use Prim.Native.Nat.{ℕ, ◌-◌, ◌≤◌, ◌<◌}
use native.Mathlib.Omega.{arith}
use lib.Dec.{T, leb, leb→le, le→leb}
use mir.Facts.{not_T}
use Rattle.format.specs.Questions.{Answer, decides, refused, accepted}
use Rattle.format.specs.Bodies.{lowered_by_one, lowered_by_part}
use Rattle.format.proofs.Answers.{ask-ok, ask-yes, ask-no, accepted-inj}
use Rattle.format.proofs.Decisions.{decides-ask}

-- a rule that takes so much off a total where something stands: it refuses, or the amount is within what stands
pub record Lowers (amount : ℕ) (lowered : ℕ → ℕ → Answer ℕ) : Type 0 where
  pub sure : (standing total : ℕ) → T (decides (lowered standing total))
  pub out : (standing total rest : ℕ) → 1 ≤ standing → lowered standing total ≡ accepted rest
      → (1 ≤ amount) × (amount ≤ standing) × (total - amount ≡ rest)

-- ---- by one

pub one_out : (total rest : ℕ) → lowered_by_one total ≡ accepted rest → (2 ≤ total) × (total - 1 ≡ rest)
unfolding lowered_by_one
one_out total rest e = let h = ask-ok (leb 2 total) 13 _ e in (leb→le _ _ h.0, accepted-inj h.1)

pub one_in : (total : ℕ) → 2 ≤ total → lowered_by_one total ≡ accepted (total - 1)
unfolding lowered_by_one
one_in total h = ask-yes (leb 2 total) 13 _ (le→leb 2 total h)

pub one-lowers : Lowers 1 (λ standing. lowered_by_one)
unfolding lowered_by_one
one-lowers =
    record {
      sure = λ standing total. decides-ask (leb 2 total) 13 tt _ tt;
      out = λ standing total rest h e. (omega arith, h, (one_out total rest e).1);
    }

-- ---- by a part

pub part_out : (amount standing total rest : ℕ) → lowered_by_part amount standing total ≡ accepted rest
    → (1 ≤ amount) × (amount ≤ standing) × (total - amount ≡ rest)
unfolding lowered_by_part
part_out amount standing total rest e =
    let h₁₀ = ask-ok (leb 1 amount) 10 _ e in
    let h₂₂ = ask-ok (leb amount standing) 22 _ h₁₀.1 in
    (leb→le _ _ h₁₀.0, leb→le _ _ h₂₂.0, accepted-inj h₂₂.1)

pub part_in : (amount standing total : ℕ) → 1 ≤ amount → amount ≤ standing
    → lowered_by_part amount standing total ≡ accepted (total - amount)
unfolding lowered_by_part
part_in amount standing total h k =
    ask-yes (leb 1 amount) 10 _ (le→leb 1 amount h) ∙ ask-yes (leb amount standing) 22 _ (le→leb amount standing k)

pub part-more : (amount standing total : ℕ) → standing < amount → lowered_by_part amount standing total ≡ refused 22
unfolding lowered_by_part
part-more amount standing total h =
    ask-yes (leb 1 amount) 10 _ (le→leb 1 amount (omega arith))
    ∙ ask-no (leb amount standing) 22 _ (not_T (leb amount standing) (λ t. let k = leb→le amount standing t in absurd (omega arith)))

pub part-lowers : (amount : ℕ) → Lowers amount (lowered_by_part amount)
unfolding lowered_by_part
part-lowers amount =
    record {
      sure = λ standing total. decides-ask (leb 1 amount) 10 tt _ (decides-ask (leb amount standing) 22 tt _ tt);
      out = λ standing total rest h e. part_out amount standing total rest e;
    }
