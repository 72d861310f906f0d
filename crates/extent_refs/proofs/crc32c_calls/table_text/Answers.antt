use Rattle.extent_refs.proofs.Texts.{answers-held, answers-short}
use Rattle.extent_refs.proofs.crc32c_calls.table_text.Goals as goal

pub returns-then-not-table_text : goal.returns-then-not-table_text
returns-then-not-table_text c = answers-short _ c.table_text.ensures c.if-not-table_text.true

pub returns : goal.returns
returns c = answers-held _ c.table_text.ensures c.if-not-table_text.false
