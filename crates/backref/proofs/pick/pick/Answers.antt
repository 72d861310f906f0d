use mathlib.Core.Path.{refl}
use native.Mathlib.Omega.{arith}
use Rattle.inline_refs.proofs.Moves.{read-on, read-out, read-shut}
use Rattle.backref.proofs.Picks.{field-inside, going-none, going_next, pick-ended, pick-fault, pick-found}
use Rattle.backref.proofs.pick.pick.Goals as goal

pub loop-reference-init : goal.loop-reference-init
loop-reference-init c = rw (c.new-reader.ensures.0, c.new-reader.ensures.1) (going-none _ _ _ _ c.requires.1, refl)

pub returns-in_err-reference : goal.returns-in_err-reference
returns-in_err-reference c =
    let inv = c.loop-reference.invariant in
    pick-fault _ _ _ _ _ inv.0 _ (read-shut _ _ inv.1 _ c.step.ensures.0 c.in_err-reference.was)

pub get_u64_le-requires : goal.get_u64_le-requires
get_u64_le-requires c =
    field-inside _ _ _ _ _ _ _ (read-on _ _ c.loop-reference.invariant.1 _ c.step.ensures.0 c.step.ensures.2 c.in_ok-reference.was c.in-Some.is)

pub returns-then-left-eq0 : goal.returns-then-left-eq0
returns-then-left-eq0 c =
    let inv = c.loop-reference.invariant in
    let w = read-on _ _ inv.1 _ c.step.ensures.0 c.step.ensures.2 c.in_ok-reference.was c.in-Some.is in
    (pick-found _ _ _ _ _ inv.0 _ _ _ _ _ w _ c.if-left-eq0.true c.get_u64_le.ensures, omega (arith, w.start, w.further, w.within))

pub loop-reference-smaller : goal.loop-reference-smaller
loop-reference-smaller c =
    let w = read-on _ _ c.loop-reference.invariant.1 _ c.step.ensures.0 c.step.ensures.2 c.in_ok-reference.was c.in-Some.is in
    omega (arith, w.inside, w.further, w.within)

pub loop-reference-preserved : goal.loop-reference-preserved
loop-reference-preserved c =
    let inv = c.loop-reference.invariant in
    let w = read-on _ _ inv.1 _ c.step.ensures.0 c.step.ensures.2 c.in_ok-reference.was c.in-Some.is in
    (going_next _ _ _ _ _ inv.0 _ _ _ _ _ w c.if-left-eq0.false, rw c.step.ensures.1 inv.1)

pub returns : goal.returns
returns c =
    let inv = c.loop-reference.invariant in
    (pick-ended _ _ _ _ _ inv.0 (read-out _ _ inv.1 _ c.step.ensures.0 c.in_ok-reference.was c.in_default.is), tt)
