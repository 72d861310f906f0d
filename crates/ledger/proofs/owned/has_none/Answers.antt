use mathlib.Core.Path.{sym, ◌∙◌}
use native.Mathlib.Omega.{arith}
use Rattle.transaction.proofs.BehindRecord.{listed-behind}
use Rattle.ledger.proofs.OwnItems.{found, Seat, no-seat, seat}
use Rattle.ledger.proofs.owned.has_none.Goals as goal
use Rattle.ledger.proofs.owned.has_none.Goals.{In-Present}

pub seek-requires : goal.seek-requires
seek-requires c = listed-behind (found c.type_inv.sheet c.requires.stands_for)

pub returns-in-Absent : goal.returns-in-Absent
returns-in-Absent c =
    no-seat c.type_inv.sheet c.requires.stands_for c.requires.t _ _ _ c.kind_of.ensures c.requires.rank_value _ (sym c.seek.ensures ∙ c.in-Absent.is)

-- an item stands at the key
there : (c : In-Present) → Seat c.args.sheet.now c.args.extent c.args.wanted c.in-Present.start c.in-Present.end
there c =
    seat c.type_inv.sheet c.requires.stands_for c.requires.t _ _ _ c.kind_of.ensures c.requires.rank_value _ _ (sym c.seek.ensures ∙ c.in-Present.is)

pub overflow_add-start : goal.overflow_add-start
overflow_add-start c = let s = there (goal.at.overflow_add-start c).In-Present in let p = s.ordered in let q = s.within in omega arith

pub slice_bounds-is_own-count : goal.slice_bounds-is_own-count
slice_bounds-is_own-count c = (there (goal.at.slice_bounds-is_own-count c).In-Present).ordered

pub slice_bounds-is_own-start : goal.slice_bounds-is_own-start
slice_bounds-is_own-start c = let s = there (goal.at.slice_bounds-is_own-start c).In-Present in let p = s.ordered in let q = s.within in omega arith

pub slice_bounds-is_own-end : goal.slice_bounds-is_own-end
slice_bounds-is_own-end c = (there (goal.at.slice_bounds-is_own-end c).In-Present).within

pub is_own-requires : goal.is_own-requires
is_own-requires c = (there (goal.at.is_own-requires c).In-Present).long

pub returns-in-Present : goal.returns-in-Present
returns-in-Present c = (there (goal.at.returns-in-Present c).In-Present).own _ c.is_own.ensures
