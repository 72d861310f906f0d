-- Data references of one hash that stand side by side, one more at a time. Assumes nothing.
use mathlib.Core.Path.{◌≡◌, sym, ◌∙◌, subst}
use mathlib.Core.Logic.{◌⊎◌, inl, inr}
use mathlib.Core.List.{List}
use Prim.Native.Nat.{ℕ, ◌+◌, ◌*◌, ◌≤◌, ◌<◌}
use native.Mathlib.Omega.{arith}
use lib.ListN.{drop}
use Rattle.fields.proofs.Lists.{lt-or}
use Rattle.format.specs.References.{ref_at, rank}
use Rattle.data_refs.specs.Triples.{triple_size}
use Rattle.balance.specs.Spans.{OneRank}

pub one-more-ranks : (body : List ℕ) (from n m at found own : ℕ) → at ≡ from + triple_size * m → found ≡ rank (ref_at 178 (drop (at + 1) body)) → found ≡ own
    → OneRank body from n m own → OneRank body from n (m + 1) own
one-more-ranks body from n m at found own e f o r = record { ranks = (λ i l h. go i l h (lt-or i m)) }
  where
    go : (i : ℕ) → n ≤ i → i < m + 1 → (i < m) ⊎ (m ≤ i) → rank (ref_at 178 (drop (from + triple_size * i + 1) body)) ≡ own
    go i l h (inl b) = r.ranks i l b
    go i l h (inr b) =
        let q : at + 1 ≡ from + triple_size * i + 1 = omega arith in
        subst (λ (k : ℕ). rank (ref_at 178 (drop k body)) ≡ own) q (sym f ∙ o)

pub none_more : (body : List ℕ) (from n own : ℕ) → OneRank body from n n own
none_more body from n own = record { ranks = (λ i l h. absurd (omega arith)) }

pub fewer-ranks : (body : List ℕ) (from n m r own : ℕ) → r ≤ m → OneRank body from n m own → OneRank body from n r own
fewer-ranks body from n m r own l o = record { ranks = (λ i a b. o.ranks i a (omega arith)) }
