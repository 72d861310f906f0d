use Rattle.crc32c_text.proofs.Lines.{text-short, text-held}
use Rattle.crc32c_text.proofs.table_text.Goals as goal

pub returns-then-out-lt-LENGTH : goal.returns-then-out-lt-LENGTH
returns-then-out-lt-LENGTH c = text-short _ _ c.if-out-lt-LENGTH.true

pub returns : goal.returns
returns c = text-held _ _ _ c.if-out-lt-LENGTH.false c.put_lines.ensures
