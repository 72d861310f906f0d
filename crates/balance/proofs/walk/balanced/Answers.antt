use mathlib.Core.Path.{◌≡◌, sym, ◌∙◌, subst}
use mathlib.Core.List.{List}
use Prim.Native.Nat.{ℕ, ◌+◌, ◌<◌}
use native.Mathlib.Omega.{arith}
use lib.ListN.{length}
use borrow.Author.Rules.{rules}
use Rattle.fields.proofs.Numbers.{are_bytes-in}
use Rattle.format.specs.Items.{Item}
use Rattle.item_list.specs.Steps.{item_size_at}
use Rattle.item_list.proofs.Steps.{past_first, past_next}
use Rattle.item_list.proofs.Reading.{list-some}
use Rattle.item_list.proofs.Walks.{Rest, More, rest_all, rest_end, rest-item}
use Rattle.balance.proofs.Turns.{empty-kept, item-whole, sheet-short, pass_all, pass-end, pass_on, pass-off, turned-on, turned-off}
use Rattle.balance.proofs.walk.balanced.Goals as goal

pub loop-at-init : goal.loop-at-init
loop-at-init c =
    let bytes = are_bytes-in c.args.sheet.now (λ i. (c.shared_slice_known-1.given i).fits) in
    (past_first _ (list-some _ c.requires), record { items = _; rest = rest_all _ c.requires; so = pass_all _ _ bytes c.requires c.new-g.ensures }, empty-kept _ _ _ _ c.new-g.ensures)

-- an item is at hand
more : (s : List ℕ) (at size : ℕ) (items : List Item) → size ≡ item_size_at s at → Rest s at items → at < length s → More s at (at + size) items
more s at size items e rest inside = subst (λ (k : ℕ). More s at (at + k) items) (sym e) (rest-item s at items rest inside)

pub overflow_add-next : goal.overflow_add-next
overflow_add-next c = let w = (more _ _ _ _ c.size_after-size.ensures c.loop-at.invariant.1.rest c.loop-at-test.true).whole in search rules

pub turn-requires : goal.turn-requires
turn-requires c =
    let bytes = are_bytes-in c.args.sheet.now (λ i. (c.shared_slice_known-1.given i).fits) in
    let w = (more _ _ _ _ c.size_after-size.ensures c.loop-at.invariant.1.rest c.loop-at-test.true).whole in
    record { item_stands = record { head = omega arith; inside = w.within; small = omega arith; short = omega (arith, sheet-short _ bytes c.requires) }; at_value = (item-whole _ _ _ w, c.loop-at.invariant.2) }

pub loop-at-smaller : goal.loop-at-smaller
loop-at-smaller c =
    let w = (more _ _ _ _ c.size_after-size.ensures c.loop-at.invariant.1.rest c.loop-at-test.true).whole in omega arith

pub loop-at-preserved : goal.loop-at-preserved
loop-at-preserved c =
    let i = c.loop-at.invariant in
    let m = more _ _ _ _ c.size_after-size.ensures i.1.rest c.loop-at-test.true in
    let t = turned-on _ _ _ _ _ _ c.turn.ensures _ c.in-Some.is in
    (past_next m.whole, record { items = m.others; rest = m.rest; so = pass_on _ _ _ _ _ _ m.is t.0 ∙ i.1.so }, t.1)

pub returns-in_default : goal.returns-in_default
returns-in_default c =
    let i = c.loop-at.invariant in
    let m = more _ _ _ _ c.size_after-size.ensures i.1.rest c.loop-at-test.true in
    pass-off _ _ _ _ _ m.is (turned-off _ _ _ _ _ _ c.turn.ensures c.in_default.is) ∙ i.1.so

pub returns : goal.returns
returns c =
    let i = c.loop-at.invariant.1 in
    c.is_closed.ensures ∙ sym (pass-end _ _ _ (rest_end _ _ _ i.rest c.loop-at-test.false)) ∙ i.so
