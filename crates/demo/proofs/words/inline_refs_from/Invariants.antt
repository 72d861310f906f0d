use Rattle.std.proofs.Common.{◌-◌, length}
use Rattle.demo.proofs.words.inline_refs_from.Given as goal

abbrev pub decreases-loop-reference : goal.decreases-loop-reference
decreases-loop-reference g l = length l.body - l.cursor.at
