use Rattle.inline_refs.proofs.RowLengths.{row-said}
use Rattle.inline_refs.proofs.lengths.lengths_of.Goals as goal

pub returns : goal.returns
returns c = row-said _ _ _ c.row_of.ensures c.unwrap_or.ensures
