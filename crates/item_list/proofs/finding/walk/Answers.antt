use borrow.Author.Rules.{rules}
use mathlib.Core.Path.{◌≡◌, refl, sym, ap, ◌∙◌}
use mathlib.Core.Bool.{Bool, true, false, cond}
use Prim.Native.Nat.{ℕ, ◌+◌, ◌-◌}
use native.Mathlib.Omega.{arith}
use lib.ListN.{drop}
use borrow.Author.Tests.{le-leb, lt-leb}
use Rattle.std.specs.Prelude.{Some, None, Result, Ok}
use Rattle.std.proofs.lemmas.Result.{err_from_is_err_and}
use Rattle.format.specs.declared.Refusal.{Refusal}
use Rattle.format.specs.Questions.{accepted, ask, bind, denied}
use Rattle.format.specs.Items.{read_items, rising}
use Rattle.item_list.specs.Steps.{item_at, items_in}
use Rattle.item_list.specs.Seeks.{place_at, passing, position_in, listing_of, verdict_of, listed_with}
use Rattle.item_list.proofs.Steps.{WholeAt, whole-size, past_first, past_next}
use Rattle.item_list.proofs.Reading.{behind, search-first, search-end, search-broken, search-step, passes-by-key}
use Rattle.item_list.proofs.finding.walk.Goals as goal
use Rattle.item_list.proofs.finding.walk.Goals.{Else-size-eq0, After-passes, After-loop-at}

pub loop-at-init : goal.loop-at-init
loop-at-init c = (past_first _ c.requires, omega arith, search-first c.args.s.now _ _)

pub returns-then-size-eq0 : goal.returns-then-size-eq0
returns-then-size-eq0 c = sym (c.loop-at.invariant.2 ∙ search-broken _ _ _ _ _ _ c.loop-at-test.true (sym c.size_after-size.ensures ∙ c.if-size-eq0.true))

-- the item at hand
here : (c : Else-size-eq0) → WholeAt c.args.s.now c.loop-at.at (c.loop-at.at + c.size_after-size.result)
here c = whole-size _ _ _ c.size_after-size.ensures c.if-size-eq0.false c.loop-at.invariant.0.inside

pub key_at-here-requires : goal.key_at-here-requires
key_at-here-requires c = let w = here (goal.at.key_at-here-requires c).Else-size-eq0 in omega arith

pub overflow_add-end : goal.overflow_add-end
overflow_add-end c = let w = here (goal.at.overflow_add-end c).Else-size-eq0 in search rules

pub overflow_add-at : goal.overflow_add-at
overflow_add-at c = let w = here (goal.at.overflow_add-at c).Else-size-eq0 in search rules

pub check_behind-requires : goal.check_behind-requires
check_behind-requires c =
    let w = here (goal.at.check_behind-requires c).Else-size-eq0 in
    let p = past_next w in
    let few = c.loop-at.invariant.1 in
    (omega arith, p.inside, p.low, p.high)

-- the answer, once it is known whether the item is wanted
told : (c : After-passes) (b : Bool) → c.passes.result ≡ b
    → let l = c.loop-at in
    let s = c.args.s.now in
    let query = c.args.query in
    let next = l.at + c.size_after-size.result in
    listing_of (passing query) (bind (read_items 4096 (drop 1 s)) (λ items. ask (rising items) 2 (accepted items)))
    ≡ listed_with (behind (l.n + 1) c.follows-ordered.result c.key_at-here.result s next) (cond b (Some (place_at l.n l.at next)) (position_in (passing query) (l.n + 1) next (items_in (read_items (4096 - (l.n + 1)) (drop next s)))))
told c b e =
    c.loop-at.invariant.2
    ∙ search-step _ _ _ _ _ _ _ _ c.loop-at-test.true c.size_after-size.ensures c.if-size-eq0.false c.key_at-here.ensures c.follows-ordered.ensures _ b
    (sym (passes-by-key _ _ _ (item_at c.args.s.now c.loop-at.at) c.key_at-here.ensures) ∙ sym c.passes.ensures ∙ e)

-- with what the items behind it are answered
wanted : (c : After-passes) → c.passes.result ≡ true → (x : Result ℕ Refusal) → x ≡ behind (c.loop-at.n + 1) c.follows-ordered.result c.key_at-here.result c.args.s.now (c.loop-at.at + c.size_after-size.result)
    → listed_with x (Some (place_at c.loop-at.n c.loop-at.at (c.loop-at.at + c.size_after-size.result)))
    ≡ listing_of (passing c.args.query) (bind (read_items 4096 (drop 1 c.args.s.now)) (λ items. ask (rising items) 2 (accepted items)))
wanted c h x e = ap (λ (y : Result ℕ Refusal). listed_with y (Some (place_at c.loop-at.n c.loop-at.at (c.loop-at.at + c.size_after-size.result)))) e ∙ sym (told c true h)

pub returns-in_err-count : goal.returns-in_err-count
unfolding listed_with
returns-in_err-count c =
    let p = err_from_is_err_and c.from_residual.result c.from_residual.ensures.1 in
    rw (p.1, p.2) (wanted (goal.at.returns-in_err-count c).After-passes c.if-passes.true _ c.in_err-count.ensures)

pub returns-then-passes : goal.returns-then-passes
unfolding listed_with
returns-then-passes c = wanted (goal.at.returns-then-passes c).After-passes c.if-passes.true _ c.in_ok-count.ensures

pub loop-at-preserved : goal.loop-at-preserved
loop-at-preserved c =
    let w = here (goal.at.loop-at-preserved c).Else-size-eq0 in
    let few = c.loop-at.invariant.1 in
    (past_next w, omega arith, told (goal.at.loop-at-preserved c).After-passes false c.if-passes.false)

-- none is wanted
none-wanted : (c : After-loop-at) → (x : Result ℕ Refusal) → x ≡ verdict_of c.loop-at.n c.loop-at.ordered
    → listed_with x None ≡ listing_of (passing c.args.query) (bind (read_items 4096 (drop 1 c.args.s.now)) (λ items. ask (rising items) 2 (accepted items)))
none-wanted c x e = ap (λ (y : Result ℕ Refusal). listed_with y None) e ∙ sym (c.loop-at.invariant.2 ∙ search-end _ _ _ _ _ _ c.loop-at-test.false)

pub returns-then-n-gt-MOST_ITEMS : goal.returns-then-n-gt-MOST_ITEMS
unfolding listed_with verdict_of
returns-then-n-gt-MOST_ITEMS c =
    none-wanted (goal.at.returns-then-n-gt-MOST_ITEMS c).After-loop-at (denied 1) (sym (rw (lt-leb _ _ c.if-n-gt-MOST_ITEMS.true) refl))

pub returns-then-not-ordered : goal.returns-then-not-ordered
unfolding listed_with verdict_of
returns-then-not-ordered c =
    none-wanted (goal.at.returns-then-not-ordered c).After-loop-at (denied 2) (sym (rw (le-leb _ _ c.if-n-gt-MOST_ITEMS.false, c.if-not-ordered.true) refl))

pub returns : goal.returns
unfolding listed_with verdict_of
returns c = none-wanted (goal.at.returns c).After-loop-at (Ok _) (sym (rw (le-leb _ _ c.if-n-gt-MOST_ITEMS.false, c.if-not-ordered.false) refl))
