use mathlib.Core.Path.{◌≡◌, ap, ◌∙◌}
use Prim.Native.Nat.{◌≤◌, ◌<◌}
use native.Mathlib.Omega.{arith}
use lib.ListN.{length}
use Rattle.text.proofs.Writes.{put_is, makes-done}
use Rattle.crc32c_text.specs.Text.{hex_lines, table_text}
use Rattle.crc32c_text.proofs.Lines.{put-line, makes-line, lines_end}
use Rattle.crc32c_text.proofs.put_lines.Goals as goal

pub loop-entry-preserved : goal.loop-entry-preserved
loop-entry-preserved c =
    let l = c.loop-entry in
    let i = l.invariant in
    let table = c.table_of-table.result in
    let inside : l.entry-index < length table = omega (arith, i.2) in (
      makes-line table l.entry-index inside (put-line _ c.put_hex-end.ensures.0 c.put_byte-at.ensures) i.0,
      omega (arith, c.put_byte-at.ensures.further, c.put_hex-end.ensures.1, i.1),
      i.2,
      c.put_byte-at.auto.out ∙ c.put_hex-end.auto.out ∙ i.3,
    )

pub returns : goal.returns
unfolding table_text
returns c =
    let l = c.loop-entry in
    let table = c.table_of-table.result in
    let end : length table ≤ l.entry-index = omega (arith, l.invariant.2) in
    let n : l.entry-index ≡ 256 = omega arith in
    let p = put_is (ap hex_lines c.table_of-table.ensures) (makes-done (lines_end table l.entry-index end) l.invariant.0) in
    record { further = omega (arith, p.further, l.invariant.1, n); bytes = p.bytes }
