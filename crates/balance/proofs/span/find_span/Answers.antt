use mathlib.Core.Path.{refl}
use Rattle.balance.proofs.Spanning.{spanned}
use Rattle.balance.proofs.span.find_span.Goals as goal

pub returns : goal.returns
returns c =
    let p = c.requires.t in
    (spanned c.args.body.now c.args.start c.args.kind _ _ c.skip-from.ensures c.count-n.ensures p.1.0 p.1.1 p.0, refl)
