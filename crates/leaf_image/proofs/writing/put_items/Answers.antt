use borrow.Author.Rules.{rules}
use mathlib.Core.Path.{◌≡◌, sym, subst}
use mathlib.Core.List.{List}
use Prim.Native.Nat.{ℕ, ◌+◌, ◌<◌}
use native.Mathlib.Omega.{arith}
use lib.ListN.{length}
use Rattle.format.specs.Items.{Item}
use Rattle.item_list.specs.Steps.{item_size_at}
use Rattle.item_list.proofs.Steps.{past_first, past_next}
use Rattle.item_list.proofs.Reading.{list-some}
use Rattle.item_list.proofs.Walks.{Rest, More, rest_all, rest_end, rest-item}
use Rattle.leaf_image.proofs.Written.{placing-none, turn, placed-next, placing-all}
use Rattle.leaf_image.proofs.writing.put_items.Goals as goal

pub loop-from-init : goal.loop-from-init
loop-from-init c =
    let p = c.args.leaf.fits in
    (past_first _ (list-some _ p.0), record { items = _; rest = rest_all _ p.0; so = placing-none _ _ _ p.2 c.requires })

-- an item is at hand
more : {s : List ℕ} {from size : ℕ} {items : List Item} → size ≡ item_size_at s from → Rest s from items → from < length s → More s from (from + size) items
more {s = s} {from = from} {items = items} e rest h = subst (λ (k : ℕ). More s from (from + k) items) (sym e) (rest-item _ _ _ rest h)

pub overflow_add-next : goal.overflow_add-next
overflow_add-next c = let w = (more c.size_after-size.ensures c.loop-from.invariant.1.rest c.loop-from-test.true).whole in search rules

pub overflow_sub-length : goal.overflow_sub-length
overflow_sub-length c = let t = turn _ _ _ _ _ _ _ c.loop-from.invariant.1.so _ _ _ (more c.size_after-size.ensures c.loop-from.invariant.1.rest c.loop-from-test.true) c.requires in omega arith

pub overflow_sub-end : goal.overflow_sub-end
overflow_sub-end c = let t = turn _ _ _ _ _ _ _ c.loop-from.invariant.1.so _ _ _ (more c.size_after-size.ensures c.loop-from.invariant.1.rest c.loop-from-test.true) c.requires in omega arith

pub key_at-requires : goal.key_at-requires
key_at-requires c = let w = (more c.size_after-size.ensures c.loop-from.invariant.1.rest c.loop-from-test.true).whole in omega arith

pub overflow_sub-end-in-loop-from : goal.overflow_sub-end-in-loop-from
overflow_sub-end-in-loop-from c = let t = turn _ _ _ _ _ _ _ c.loop-from.invariant.1.so _ _ _ (more c.size_after-size.ensures c.loop-from.invariant.1.rest c.loop-from-test.true) c.requires in omega arith

pub put_item_header-requires : goal.put_item_header-requires
put_item_header-requires c =
    let t = turn _ _ _ _ _ _ _ c.loop-from.invariant.1.so _ _ _ (more c.size_after-size.ensures c.loop-from.invariant.1.rest c.loop-from-test.true) c.requires in
    let l = c.loop-from.invariant.1.so.long in
    (omega (arith, t, c.args.leaf.fits.3), omega (arith, t), omega (arith, t, l, c.requires))

pub append-requires : goal.append-requires
append-requires c =
    let w = (more c.size_after-size.ensures c.loop-from.invariant.1.rest c.loop-from-test.true).whole in
    let t = turn _ _ _ _ _ _ _ c.loop-from.invariant.1.so _ _ _ (more c.size_after-size.ensures c.loop-from.invariant.1.rest c.loop-from-test.true) c.requires in
    let l = c.loop-from.invariant.1.so.long in
    (omega (arith, t), w.within, omega (arith, t), omega (arith, t, l, c.requires))

pub loop-from-smaller : goal.loop-from-smaller
loop-from-smaller c = let w = (more c.size_after-size.ensures c.loop-from.invariant.1.rest c.loop-from-test.true).whole in omega arith

pub loop-from-preserved : goal.loop-from-preserved
loop-from-preserved c =
    let m = more c.size_after-size.ensures c.loop-from.invariant.1.rest c.loop-from-test.true in
    let i = c.loop-from.invariant.1 in (
      past_next m.whole,
      record {
        items = m.others;
        rest = m.rest;
        so = placed-next _ _ _ _ _ _ _ i.so _ _ _ m c.requires _ _ _ c.key_at.ensures c.put_item_header.ensures c.append.ensures.1;
      },
    )

pub returns : goal.returns
returns c = let i = c.loop-from.invariant.1 in placing-all _ _ _ _ _ _ _ i.so (rest_end _ _ _ i.rest c.loop-from-test.false)
