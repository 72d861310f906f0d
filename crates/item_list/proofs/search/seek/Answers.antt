use borrow.Author.Rules.{rules}
use mathlib.Core.Path.{◌≡◌, refl, sym, ap, ◌∙◌, subst}
use Prim.Native.Nat.{ℕ, ◌+◌}
use native.Mathlib.Omega.{arith}
use Rattle.std.proofs.Common.{Ordering}
use Rattle.std.specs.Ordering.{is_lt, is_gt}
use Rattle.format.specs.declared.Key.{Key}
use Rattle.format.specs.Items.{key_below}
use Rattle.format.proofs.Keys.{key_cmp, key_cmp_back}
use Rattle.item_list.specs.Steps.{item_at}
use Rattle.item_list.proofs.Walks.{More, rest_end, rest-item, seek-end, seek-later, seek-past, seek-here}
use Rattle.item_list.proofs.search.seek.Goals as goal
use Rattle.item_list.proofs.search.seek.Goals.{After-size_at-size, After-cmp}

pub loop-at-init : goal.loop-at-init
loop-at-init c = record { items = _; rest = record { most = 4096; reads = c.requires.reads }; so = refl }

-- an item is at hand
more : (c : After-size_at-size) → More c.args.s.now c.loop-at.at (c.loop-at.at + c.size_at-size.result) c.loop-at.invariant.items
more c =
    subst (λ (k : ℕ). More c.args.s.now c.loop-at.at (c.loop-at.at + k) c.loop-at.invariant.items)
    (sym c.size_at-size.ensures) (rest-item _ _ _ c.loop-at.invariant.rest c.loop-at-test.true)

pub key_at-here-requires : goal.key_at-here-requires
key_at-here-requires c = let w = (more (goal.at.key_at-here-requires c).After-size_at-size).whole in omega arith

pub overflow_add-at : goal.overflow_add-at
overflow_add-at c = let w = (more (goal.at.overflow_add-at c).After-size_at-size).whole in search rules

pub loop-at-smaller : goal.loop-at-smaller
loop-at-smaller c = let w = (more (goal.at.loop-at-smaller c).After-size_at-size).whole in omega arith

-- what the comparison says of the key at the position and of the key that is sought
lower : (c : After-cmp) (o : Ordering) → c.cmp.result ≡ o → key_below (item_at c.args.s.now c.loop-at.at).key c.args.key ≡ is_lt o
lower c o e =
    ap (λ (k : Key). key_below k c.args.key) (sym c.key_at-here.ensures) ∙ sym (key_cmp _ _) ∙ ap is_lt (sym c.cmp.ensures ∙ e)

higher : (c : After-cmp) (o : Ordering) → c.cmp.result ≡ o → key_below c.args.key (item_at c.args.s.now c.loop-at.at).key ≡ is_gt o
higher c o e =
    ap (λ (k : Key). key_below c.args.key k) (sym c.key_at-here.ensures) ∙ sym (key_cmp_back _ _) ∙ ap is_gt (sym c.cmp.ensures ∙ e)

pub loop-at-preserved : goal.loop-at-preserved
loop-at-preserved c =
    let at = goal.at.loop-at-preserved c in
    let m = more at.After-size_at-size in
    record { items = m.others; rest = m.rest; so = c.loop-at.invariant.so ∙ seek-later _ _ _ _ m _ (lower at.After-cmp _ c.in-Less.is) }

pub overflow_add-result : goal.overflow_add-result
overflow_add-result c = let w = (more (goal.at.overflow_add-result c).After-size_at-size).whole in search rules

pub returns-in-Equal : goal.returns-in-Equal
returns-in-Equal c =
    let at = goal.at.returns-in-Equal c in
    sym (c.loop-at.invariant.so ∙ seek-here _ _ _ _ (more at.After-size_at-size) _ (lower at.After-cmp _ c.in-Equal.is) (higher at.After-cmp _ c.in-Equal.is))

pub returns-in-Greater : goal.returns-in-Greater
returns-in-Greater c =
    let at = goal.at.returns-in-Greater c in
    sym (c.loop-at.invariant.so ∙ seek-past _ _ _ _ (more at.After-size_at-size) _ (lower at.After-cmp _ c.in-Greater.is) (higher at.After-cmp _ c.in-Greater.is))

pub returns : goal.returns
returns c = let i = c.loop-at.invariant in sym (i.so ∙ seek-end _ _ _ (rest_end _ _ _ i.rest c.loop-at-test.false))
