-- fit and fits, from the answer of the pass. Assumes nothing.
use mathlib.Core.Path.{◌≡◌}
use mathlib.Core.Bool.{true, false, ◌&&◌}
use mathlib.Core.List.{List}
use Prim.Native.Nat.{ℕ, ◌+◌, ◌*◌}
use native.Mathlib.Omega.{arith}
use lib.Dec.{leb}
use lib.ListN.{length}
use Rattle.std.specs.Prelude.{Ok}
use Rattle.format.specs.Questions.{refused, ask, bind, denied, told_of}
use Rattle.format.specs.Items.{read_sheet, on_sheet, nodesize_fits, data_fits}
use Rattle.format.specs.Sheets.{fit, fits}
use Rattle.item_list.proofs.Reading.{Counted}
use Rattle.item_list.proofs.Spaces.{space-sheet}

module _ (nodesize : ℕ) (s : List ℕ) (k : ℕ) (e : read_sheet s ≡ refused k) where
  pub fit_refused : denied k ≡ told_of (fit nodesize s)
  unfolding fit on_sheet bind told_of
  fit_refused = rw e

  pub fits_refused : (bytes : List ℕ) → denied k ≡ told_of (fits nodesize s bytes)
  unfolding fits on_sheet bind told_of
  fits_refused bytes = rw e

module _ (nodesize : ℕ) (s : List ℕ) (n : ℕ) (c : Counted s n) where
  pub fit-no : nodesize_fits nodesize ≡ false → denied 3 ≡ told_of (fit nodesize s)
  unfolding fit on_sheet bind ask told_of
  fit-no h = rw (c.reads, h)

  pub fit-says : nodesize_fits nodesize ≡ true → Ok (leb (100 + length s + 4 * n) nodesize) ≡ told_of (fit nodesize s)
  unfolding fit on_sheet bind ask told_of
  fit-says h = rw (c.reads, h, space-sheet s n c)

  pub fits-no : (bytes : List ℕ) → (nodesize_fits nodesize && data_fits bytes) ≡ false → denied 3 ≡ told_of (fits nodesize s bytes)
  unfolding fits on_sheet bind ask told_of
  fits-no bytes h = rw (c.reads, h)

  pub fits-says : (bytes : List ℕ) → (nodesize_fits nodesize && data_fits bytes) ≡ true
      → Ok (leb (125 + length s + 4 * n + length bytes) nodesize) ≡ told_of (fits nodesize s bytes)
  unfolding fits on_sheet bind ask told_of
  fits-says bytes h =
      let e : 125 + length s + 4 * n + length bytes ≡ 100 + length s + 4 * n + (25 + length bytes) = omega arith in
      rw (c.reads, h, space-sheet s n c, e)
