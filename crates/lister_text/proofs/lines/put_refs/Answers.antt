use native.Mathlib.Omega.{arith}
use lib.ListN.{drop}
use Rattle.inline_refs.proofs.Moves.{read-on, read-out}
use Rattle.text.proofs.Writes.{makes-is, makes-next, makes-done}
use Rattle.lister_text.proofs.Texts.{no-fault, read-in, readable-next, lines_next, lines_end, ref-short}
use Rattle.lister_text.proofs.lines.put_refs.Goals as goal

pub unwrap-requires : goal.unwrap-requires
unwrap-requires c = no-fault _ _ _ (rw (← c.loop-reference.invariant.4) c.step.ensures.0) c.loop-reference.invariant.1

pub put_ref-next-requires : goal.put_ref-next-requires
put_ref-next-requires c =
    let i = c.loop-reference.invariant in
    let w = read-on _ _ c.loop-reference.invariant.4 _ c.step.ensures.0 c.step.ensures.2 c.unwrap.ensures c.in-Some.is in
    (read-in _ _ _ _ w, c.requires.0, omega (arith, i.2, i.3, c.requires.0))

pub loop-reference-smaller : goal.loop-reference-smaller
loop-reference-smaller c =
    let w = read-on _ _ c.loop-reference.invariant.4 _ c.step.ensures.0 c.step.ensures.2 c.unwrap.ensures c.in-Some.is in
    omega (arith, w.inside, w.further, w.within)

pub loop-reference-preserved : goal.loop-reference-preserved
loop-reference-preserved c =
    let i = c.loop-reference.invariant in
    let w = read-on _ _ c.loop-reference.invariant.4 _ c.step.ensures.0 c.step.ensures.2 c.unwrap.ensures c.in-Some.is in (
      makes-next c.put_ref-next.ensures (makes-is (lines_next _ _ _ _ _ _ _ w i.1) i.0),
      readable-next _ _ _ _ _ _ _ w i.1,
      omega (arith, c.put_ref-next.ensures.further, ref-short c.in-Some.reference.kind (drop c.in-Some.reference.start c.args.body.now) w.kind_known, w.long, w.further, i.2),
      w.within,
      rw c.step.ensures.1 i.4,
    )

pub returns : goal.returns
returns c =
    let i = c.loop-reference.invariant in
    let w = read-out _ _ i.4 _ c.step.ensures.0 c.unwrap.ensures c.in_default.is in
    (makes-done (lines_end _ w) i.0, omega (arith, i.2, i.3))
