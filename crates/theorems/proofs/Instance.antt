-- Demand 3 at the computed list of postings (format's proofs, Postings): what it assumes can be met. Assumes nothing.
use mathlib.Core.Bool.{Bool}
use mathlib.Core.List.{List, [], ◌∷◌}
use Prim.Native.Nat.{◌^◌}
use lib.Dec.{T, ltb}
use mir.Facts.{and_yes}
use Rattle.fields.specs.Lists.{all}
use Rattle.format.specs.Ledger.{name_of}
use Rattle.format.specs.History.{Posting}
use Rattle.format.proofs.Computed.{computed}
use Rattle.format.proofs.Postings.{opening, postings, opens}
use Rattle.theorems.specs.Demand.{Wides, Demand3}
use Rattle.theorems.proofs.Demand.{demand-3}

abbrev is_wide : Posting → Bool
is_wide p = all (λ w. ltb w (2 ^ 64)) (name_of p.change).fields

wides : (list : List Posting) → T (all is_wide list) → Wides list
wides [] t = tt
wides (p ∷ list) t = let h = and_yes (is_wide p) (all is_wide list) t in (record { fields = h.0 }, wides list h.1)

pub wide : Wides postings
unfolding postings
wide = wides postings tt

pub met : Demand3 opening postings
unfolding computed opening
met = demand-3 opening postings tt opens wide
