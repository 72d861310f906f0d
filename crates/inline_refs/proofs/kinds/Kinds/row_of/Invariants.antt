use mathlib.Core.Path.{◌≡◌}
use lib.ListN.{drop}
use Rattle.format.specs.References.{kinds, row_in}
use Rattle.inline_refs.proofs.kinds.Kinds.row_of.Given as goal

abbrev pub invariant-loop-row : goal.invariant-loop-row
invariant-loop-row l = row_in (drop l.row-index kinds) l.kind ≡ row_in kinds l.kind
