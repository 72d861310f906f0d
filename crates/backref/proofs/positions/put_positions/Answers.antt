use mathlib.Core.Path.{◌≡◌, refl}
use native.Mathlib.Omega.{arith}
use Rattle.std.specs.Prelude.{None}
use Rattle.inline_refs.proofs.Moves.{read-on, read-out, read-shut}
use Rattle.backref.proofs.RefPositions.{placing-none, placing-all, placing-fault, room-left, placing-next}
use Rattle.backref.proofs.positions.put_positions.Goals as goal

pub loop-positions-init : goal.loop-positions-init
loop-positions-init c =
    rw (c.new-reader.ensures.0, c.new-reader.ensures.1) (placing-none c.args.body.now c.args.positions.now c.args.start c.args.count c.requires.1 c.requires.2, omega arith, refl, refl)

pub overflow_cast-positions : goal.overflow_cast-positions
overflow_cast-positions c =
    let inv = c.loop-positions.invariant in
    let w = read-on _ _ inv.3 _ c.step.ensures.0 c.step.ensures.2 c.in-Ok-Some.is c.in-Ok-Some.field-0-is in
    omega (arith, w.inside, c.requires.0, inv.2)

pub bounds-positions-i : goal.bounds-positions-i
bounds-positions-i c =
    let inv = c.loop-positions.invariant in
    let w = read-on _ _ inv.3 _ c.step.ensures.0 c.step.ensures.2 c.in-Ok-Some.is c.in-Ok-Some.field-0-is in
    room-left _ _ _ _ _ _ inv.0 _ _ _ _ _ w

pub loop-positions-smaller : goal.loop-positions-smaller
loop-positions-smaller c =
    let w = read-on _ _ c.loop-positions.invariant.3 _ c.step.ensures.0 c.step.ensures.2 c.in-Ok-Some.is c.in-Ok-Some.field-0-is in
    omega (arith, w.inside, w.further, w.within)

pub loop-positions-preserved : goal.loop-positions-preserved
loop-positions-preserved c =
    let inv = c.loop-positions.invariant in
    let w = read-on _ _ inv.3 _ c.step.ensures.0 c.step.ensures.2 c.in-Ok-Some.is c.in-Ok-Some.field-0-is in
    (rw inv.2 (placing-next _ _ _ _ _ _ inv.0 _ _ _ _ _ w), omega (arith, w.further, inv.1), refl, rw c.step.ensures.1 inv.3)

pub returns-in_default : goal.returns-in_default
returns-in_default c =
    let inv = c.loop-positions.invariant in
    let none : c.in_default.field-0 ≡ None = search in
    placing-all _ _ _ _ _ _ inv.0 (read-out _ _ inv.3 _ c.step.ensures.0 c.in_default.is none)

pub returns-in_default-2 : goal.returns-in_default-2
returns-in_default-2 c =
    let inv = c.loop-positions.invariant in
    placing-fault _ _ _ _ _ _ inv.0 _ (read-shut _ _ inv.3 _ c.step.ensures.0 c.in_default.is)
