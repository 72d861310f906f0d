use mathlib.Core.Path.{ap}
use Prim.Native.Nat.{ℕ}
use lib.Bits.{bit_xor}
use lib.Dec.{lit≤}
use lib.Pow.{shl_exact}
use borrow.Author.Rules.{rules}
use Rattle.extent_write.proofs.joined.Goals as goal

-- The shift loses nothing.

pub returns : goal.returns
returns c = ap (λ (x : ℕ). bit_xor x c.args.two) (shl_exact {a = c.args.one} 32 31 64 (search rules) (lit≤ tt))
