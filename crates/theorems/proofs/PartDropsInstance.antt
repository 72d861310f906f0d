-- The laws of document 02's ticket 1 at computed sheets: what they assume can be met. Assumes nothing.
use mathlib.Core.Path.{◌≡◌, refl}
use mathlib.Core.List.{List, [], ◌∷◌}
use Prim.Native.Nat.{ℕ}
use native.Mathlib.Omega.{arith}
use lib.Dec.{leb→le}
use lib.ListN.{length}
use Rattle.fields.specs.Numbers.{le_bytes}
use Rattle.format.specs.declared.Change.TheVariants.{AddShared, DropShared}
use Rattle.format.specs.Questions.{refused, accepted}
use Rattle.format.specs.References.{make_ref}
use Rattle.format.specs.Items.{sheet_bytes}
use Rattle.format.specs.Ledger.{name_of, posted}
use Rattle.format.proofs.Computed.{computed, parent, item, data_record}
use Rattle.theorems.specs.PartDrops.{InTwoParts, StandsWithLess}
use Rattle.theorems.proofs.TooMuch.{too_much}
use Rattle.theorems.proofs.GivenBack.{given_back}
use Rattle.theorems.proofs.AddsUp.{adds-up}

-- a data extent with a shared data reference that counts so much, inline or as an item; with another one beside it; with none
abbrev inline : ℕ → List ℕ
inline n = sheet_bytes (data_record 12288 n (make_ref 184 (9 ∷ []) n ∷ []) ∷ [])

abbrev apart : ℕ → List ℕ
apart n = sheet_bytes (data_record 12288 n [] ∷ item 12288 184 9 (le_bytes 4 n) ∷ [])

abbrev beside : List ℕ
beside = sheet_bytes (data_record 12288 7 (make_ref 184 (9 ∷ []) 5 ∷ make_ref 184 (8 ∷ []) 2 ∷ []) ∷ [])

abbrev none : List ℕ
none = sheet_bytes (data_record 12288 0 [] ∷ [])

-- ---- two added and dropped again: to a name that stands, and to a new one

raised : posted 4096 (inline 5) (AddShared 12288 (parent 184 9) 2) 59 ≡ accepted (inline 7)
unfolding computed
raised = refl

pub lowered : posted 4096 (inline 7) (DropShared 12288 (parent 184 9) 2) 59 ≡ accepted (inline 5)
unfolding computed
lowered = given_back 4096 (inline 5) (inline 7) 12288 (parent 184 9) 2 59 59 tt (record { fields = tt }) raised (leb→le (length (inline 5)) 59 tt)

came : posted 4096 (inline 5) (AddShared 12288 (parent 184 8) 2) 72 ≡ accepted beside
unfolding computed
came = refl

pub went : posted 4096 beside (DropShared 12288 (parent 184 8) 2) 59 ≡ accepted (inline 5)
unfolding computed
went = given_back 4096 (inline 5) beside 12288 (parent 184 8) 2 72 59 tt (record { fields = tt }) came (leb→le (length (inline 5)) 59 tt)

-- ---- two and one off inline are three off, which leaves two; two and three off an item are five off, which leaves nothing

in_two : InTwoParts 4096 (inline 5) 12288 (parent 184 9) 2 1 59 59 (inline 2)
unfolding computed
in_two = record { between = inline 3; drops-first = refl; drops-second = refl }

pub three : posted 4096 (inline 5) (DropShared 12288 (parent 184 9) 3) 59 ≡ accepted (inline 2)
unfolding computed
three =
    (adds-up 4096 (inline 5) 12288 (parent 184 9) 2 1 59 59 (inline 2) tt (omega arith) (omega arith) (leb→le (length (inline 5)) 59 tt)).only in_two

five : posted 4096 (apart 5) (DropShared 12288 (parent 184 9) 5) 46 ≡ accepted none
unfolding computed
five = refl

pub two-and-three : InTwoParts 4096 (apart 5) 12288 (parent 184 9) 2 3 71 46 none
unfolding computed
two-and-three =
    (adds-up 4096 (apart 5) 12288 (parent 184 9) 2 3 71 46 none tt (omega arith) (omega arith) (leb→le (length (apart 5)) 71 tt)).enough five

-- ---- six of a name that counts five, with no room

above : posted 4096 (inline 5) (DropShared 12288 (parent 184 9) 6) 0 ≡ refused 22
unfolding computed
above = refl

pub stands-with-less : StandsWithLess 4096 (inline 5) (name_of (DropShared 12288 (parent 184 9) 6)) 6
unfolding computed
stands-with-less = (too_much 4096 (inline 5) 12288 (parent 184 9) 6 0 tt).only above
