use Rattle.std.proofs.Common.{arith}
use Rattle.inline_refs.proofs.Steps.{stepped}
use Rattle.demo.proofs.words.inline_refs_from.Goals as goal

pub inline_ref-requires : goal.inline_ref-requires
inline_ref-requires g c =
    let w = stepped _ _ c.step.ensures c.in-Ok-Some.is c.in-Ok-Some.field-0-is in
    omega (arith, w.start, w.further, w.within)

pub loop-reference-smaller : goal.loop-reference-smaller
loop-reference-smaller g c =
    let w = stepped _ _ c.step.ensures c.in-Ok-Some.is c.in-Ok-Some.field-0-is in
    omega (arith, w.inside, w.further, w.within)
