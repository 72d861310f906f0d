-- Laws of a table's text. Assumes nothing.
use mathlib.Core.Path.{◌≡◌, refl, sym, ap, ◌∙◌}
use mathlib.Core.Bool.{true, false}
use mathlib.Core.List.{List, [], ◌∷◌}
use Prim.Native.Nat.{ℕ, ◌+◌, ◌*◌, ◌≤◌, ◌<◌}
use native.Mathlib.Omega.{arith}
use native.Mathlib.Numerals.{add-one}
use lib.ListN.{length, drop, get_or, length-append, drop_of_length-le}
use lib.Seq.{drop-cons}
use borrow.Author.Tests.{le-leb, lt-leb}
use Rattle.fields.proofs.Parts.{stores}
use Rattle.text.specs.Numbers.{hex_digits}
use Rattle.text.specs.Puts.{Put}
use Rattle.text.proofs.Numbers.{length-hex}
use Rattle.text.proofs.Writes.{put_then, Makes, makes-is, makes-next}
use Rattle.crc32c_steps.specs.Steps.{steps, table_of}
use Rattle.crc32c_steps.proofs.Entries.{entries-length}
use Rattle.crc32c_text.specs.Text.{hex_line, hex_lines, table_text, TextIn}

-- a line has nine bytes
pub length-line : (entry : ℕ) → length (hex_line entry) ≡ 9
unfolding hex_line
length-line entry = omega (arith, length-append (hex_digits 8 entry) (10 ∷ []), length-hex 8 entry)

length-lines : (entries : List ℕ) → length (hex_lines entries) ≡ 9 * length entries
unfolding hex_lines
length-lines [] = refl
length-lines (entry ∷ entries) = omega (arith, length-append (hex_line entry) (hex_lines entries), length-line entry, length-lines entries)

pub length-table : (polynomial : ℕ) → length (table_of polynomial) ≡ 256
unfolding table_of
length-table polynomial = entries-length (steps polynomial 8) 256 0

-- the text has 2,304 bytes, whatever the polynomial
pub length-text : (polynomial : ℕ) → length (table_text polynomial) ≡ 2304
unfolding table_text
length-text polynomial = omega (arith, length-lines (table_of polynomial), length-table polynomial)

-- ---- one line further

pub put-line : (entry : ℕ) {at end next : ℕ} {old half new : List ℕ} → Put (hex_digits 8 entry) at old end half → Put (10 ∷ []) end half next new
    → Put (hex_line entry) at old next new
unfolding hex_line
put-line entry p q = put_then p q

pub makes-line : (entries : List ℕ) (n : ℕ) {whole : List ℕ} {at at₀ mid : ℕ} {now half old : List ℕ} → n < length entries
    → Put (hex_line (get_or entries n 0)) at now mid half
    → Makes (hex_lines (drop n entries)) at now whole at₀ old
    → Makes (hex_lines (drop (n + 1) entries)) mid half whole at₀ old
unfolding hex_lines
makes-line entries n h p m =
    let e : drop n entries ≡ get_or entries n 0 ∷ drop (n + 1) entries = rw add-one (drop-cons entries n 0 h) in
    makes-next p (makes-is (ap hex_lines e) m)

pub lines_end : (entries : List ℕ) (n : ℕ) → length entries ≤ n → hex_lines (drop n entries) ≡ []
unfolding hex_lines
lines_end entries n h = ap hex_lines (drop_of_length-le entries h)

-- ---- a lent output that is too short, and one that holds the text

pub text-short : (polynomial : ℕ) (old : List ℕ) → length old < 2304 → TextIn polynomial false old old
text-short polynomial old h =
    let short : length old < length (table_text polynomial) = omega (arith, length-text polynomial) in
    record { told = sym (lt-leb _ _ short); output = refl }

pub text-held : (polynomial : ℕ) (old new : List ℕ) → 2304 ≤ length old → Put (table_text polynomial) 0 old 2304 new
    → TextIn polynomial true old new
text-held polynomial old new h p =
    let room : length (table_text polynomial) ≤ length old = omega (arith, length-text polynomial) in
    record { told = sym (le-leb _ _ room); output = p.bytes ∙ stores (table_text polynomial) old 0 (omega (arith, room)) }
