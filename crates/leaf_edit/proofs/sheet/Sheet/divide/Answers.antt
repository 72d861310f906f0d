use mathlib.Core.Path.{refl, sym, ap, ◌∙◌}
use native.Mathlib.Omega.{arith}
use lib.ListN.{length}
use Rattle.format.proofs.Answers.{handed_on}
use Rattle.format.specs.Questions.{refused}
use Rattle.format.specs.Sheets.{filled, split_to_fit}
use Rattle.item_list.specs.Steps.{list_items}
use Rattle.leaf_edit.proofs.Splits.{cuts-refused, cuts-short, cuts-written, cuts-like}
use Rattle.leaf_edit.proofs.Leaves.{to-fit-large, to-fit-few, two_are, more_are}
use Rattle.leaf_edit.proofs.sheet.Sheet.divide.Goals as goal

pub returns-in_err-at : goal.returns-in_err-at
returns-in_err-at c =
    let z = c.args.self.now.known.0 in
    let e = c.in_err-at.ensures in
    rw (handed_on c.from_residual.ensures.1) (cuts-refused (split_to_fit _ _) _ _ _ _ (to-fit-large _ _ _ z c.requires e.1 ∙ ap refused (sym e.0)) refl)

pub put_cut-requires : goal.put_cut-requires
put_cut-requires c =
    let z = c.args.self.now.known.0 in
    let l = (two_are _ _ _ z c.requires _ c.in_ok-at.ensures _ c.in-TwoWay.is).1 in
    omega (arith, l, z.count-is, z.few)

-- two leaves
pub returns-in-TwoWay : goal.returns-in-TwoWay
returns-in-TwoWay c =
    let z = c.args.self.now.known.0 in
    cuts-like (split_to_fit c.args.self.now.nodesize c.args.self.now.bytes.now) _ (two_are _ _ _ z c.requires _ c.in_ok-at.ensures _ c.in-TwoWay.is).0 c.put_cut.ensures

-- leaves filled from the left
pub returns-then-self-lt2 : goal.returns-then-self-lt2
returns-then-self-lt2 c =
    let z = c.args.self.now.known.0 in
    let k = more_are _ _ _ z c.requires _ c.in_ok-at.ensures _ c.in-Leaves.is in
    cuts-refused (split_to_fit _ _) _ _ _ _ (to-fit-few _ _ _ z c.requires k.0 c.if-self-lt2.true) refl

pub returns-then-cuts-leaves : goal.returns-then-cuts-leaves
returns-then-cuts-leaves c =
    let a = c.args in
    let z = c.args.self.now.known.0 in
    let k = more_are _ _ _ z c.requires _ c.in_ok-at.ensures _ c.in-Leaves.is in
    let e = k.1 in
    cuts-short (split_to_fit a.self.now.nodesize a.self.now.bytes.now) (length a.cuts.now) a.cuts.now a.cuts.now (filled a.self.now.nodesize 0 101 (list_items a.self.now.bytes.now)) (k.2 c.if-self-lt2.false) (omega arith) refl

pub fill_write-requires : goal.fill_write-requires
fill_write-requires c =
    let z = c.args.self.now.known.0 in
    let e = (more_are _ _ _ z c.requires _ c.in_ok-at.ensures _ c.in-Leaves.is).1 in
    let l = c.if-cuts-leaves.false in
    omega arith

pub returns-else-cuts-leaves : goal.returns-else-cuts-leaves
returns-else-cuts-leaves c =
    let a = c.args in
    let z = c.args.self.now.known.0 in
    let k = more_are _ _ _ z c.requires _ c.in_ok-at.ensures _ c.in-Leaves.is in
    cuts-written (split_to_fit a.self.now.nodesize a.self.now.bytes.now) (length a.cuts.now) a.cuts.now _ _ (k.2 c.if-self-lt2.false) _ k.1 c.if-cuts-leaves.false c.fill_write.ensures
