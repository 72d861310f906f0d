use Rattle.inline_refs.proofs.Notes.{by_rank}
use Rattle.inline_refs.proofs.scan.scan_ranked.Goals as goal

pub returns : goal.returns
returns c = by_rank _ _ _ c.rank_by-ranked.ensures c.scan_from.ensures
