use mathlib.Core.Path.{sym, ap, ◌∙◌}
use Rattle.fields.specs.Numbers.{le}
use Rattle.fields.proofs.Parts.{part-is}
use Rattle.fields.proofs.get.get_u32_le.Goals as goal

pub returns : goal.returns
returns c =
    c.join_bytes.ensures ∙ ap le (sym (part-is 4 c.args.at c.args.s.now c.requires))
