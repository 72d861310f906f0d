use mathlib.Core.Path.{refl}
use mathlib.Core.List.{[], ◌∷◌}
use lib.ListN.{length}
use Rattle.format.specs.Questions.{accepted}
use Rattle.leaf_edit.proofs.Splits.{cuts-short, cuts-written, one_written}
use Rattle.leaf_edit.proofs.halves.put_cut.Goals as goal

pub returns-then-cuts-lt1 : goal.returns-then-cuts-lt1
returns-then-cuts-lt1 c =
    cuts-short (accepted (c.args.at ∷ [])) (length c.args.cuts.now) c.args.cuts.now c.args.cuts.now (c.args.at ∷ []) refl c.if-cuts-lt1.true refl

pub returns : goal.returns
returns c =
    cuts-written (accepted (c.args.at ∷ [])) (length c.args.cuts.now) c.args.cuts.now _ (c.args.at ∷ []) refl _ refl c.if-cuts-lt1.false (one_written c.args.cuts.now _ c.if-cuts-lt1.false)
