use Rattle.extent_refs.proofs.Answers.{coded}
use Rattle.extent_refs.proofs.crc32c_calls.crc32c_table_text.Goals as goal

pub returns : goal.returns
returns c = coded c.table_text-answer.ensures c.put_edited.ensures
