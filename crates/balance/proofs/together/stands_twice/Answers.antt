use mathlib.Core.Path.{sym, ap, ◌∙◌}
use mathlib.Core.Bool.{not}
use Rattle.balance.proofs.Admits.{clear-by, looked-up}
use Rattle.balance.proofs.together.stands_twice.Goals as goal

pub returns-then-n-known : goal.returns-then-n-known
returns-then-n-known c =
    ap not (sym (clear-by c.args.body.now c.args.from c.args.n c.args.known c.requires.distinct.0 c.if-n-known.true c.args.at c.requires.n_value.0))

pub returns : goal.returns
returns c =
    let a = c.args in
    c.is_some.ensures ∙ looked-up a.body.now a.from a.at _ c.triple_at.ensures a.n _ c.number_among.ensures
