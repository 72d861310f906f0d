-- What one accepted posting does to a balanced sheet and to the tally of every name. Assumes nothing.
use mathlib.Core.Path.{◌≡◌, refl, sym, ap, ◌∙◌, subst}
use mathlib.Core.Logic.{◌≢◌}
use Prim.Native.Nat.{ℕ, ◌+◌, ◌≤◌}
use native.Mathlib.Omega.{arith}
use mathlib.Core.Bool.{Bool, true, false, not, cond}
use mathlib.Core.List.{List}
use lib.ListN.{length}
use lib.Dec.{T}
use Rattle.fields.specs.Lists.{all}
use Rattle.fields.specs.Numbers.{are_bytes}
use Rattle.fields.proofs.Lists.{cond_yes, cond_no, all_map, all_two}
use Rattle.format.specs.declared.BlockRef.{BlockRef}
use Rattle.format.specs.declared.DataRef.{DataRef}
use Rattle.format.specs.declared.SharedRef.{SharedRef}
use Rattle.format.specs.declared.Change.{Change}
use Rattle.format.specs.declared.Change.TheVariants.{AddBlock, AddData, AddShared, DropBlock, DropData, DropShared}
use Rattle.format.specs.Questions.{Answer, refused, absent, remove, accepted}
use Rattle.format.specs.Bodies.{shared_kind}
use Rattle.format.specs.Items.{Item, rising, read_sheet, sheet_bytes, data_fits, sheet_holds}
use Rattle.format.specs.Names.{Name, same_name, count, balanced}
use Rattle.format.specs.Ledger.{name_of, kind_fits, changed, posted}
use Rattle.format.specs.History.{Posting, answer_to, Tally, gave, took, enter, items_of, items_in, sheet_items, passes, balanced_sheet}
use Rattle.format.proofs.Answers.{accepted-inj}
use Rattle.format.proofs.Items.{sane, sheet-sane, read-sheet_bytes, are_bytes-sheet_bytes}
use Rattle.theorems.specs.Demand.{Wide}
use Rattle.theorems.proofs.Naming.{formed}
use Rattle.theorems.proofs.Edit.{worth, Balanced, balanced-out, balanced-in, balanced-edit, count-edit}
use Rattle.theorems.proofs.Steps.{tidy, sane-tidy, tidy-sane, NameOk, Step}
use Rattle.theorems.proofs.OneDrop.{block_drop, data_drop, shared_drop, block-changes, data-changes, shared-changes}
use Rattle.theorems.proofs.Adds.{add-block, add-data, add-shared}
use Rattle.theorems.proofs.DropCalls.{drop-step, block-proper, data-proper, shared-proper}
use Rattle.theorems.proofs.Posting.{posts-out, posts-give, posts-writes, sheet-size, holds-out, SheetFacts}

-- ---- the names of changes

pub name-ok : (c : Change) → Wide c → T (kind_fits c) → NameOk (name_of c)
name-ok c w k = let f = formed c k in record { naming = f.naming; size = f.size; small = w.fields }

-- ---- a step and the tally

-- the tally of a name fits its count
abbrev pub Fit : ℕ → Tally → Type 0
Fit k t = k + t.taken ≡ t.opening + t.given

pub moved : (m : Name) (given out : ℕ) (items after : List Item) → Step m given out items after → (n : Name)
    → T (same_name n m)
    → count n after + out ≡ count n items + given
moved m given out items after s n t =
    let e = count-edit m s.old s.new items after s.edit n in
    let v₁ = cond_yes (same_name n m) (worth s.old) 0 t in
    let v₂ = cond_yes (same_name n m) (worth s.new) 0 t in
    let v₃ = s.moves in
    omega arith

stayed : (m : Name) (given out : ℕ) (items after : List Item) → Step m given out items after → (n : Name)
    → T (not (same_name n m))
    → count n after ≡ count n items
stayed m given out items after s n t =
    let e = count-edit m s.old s.new items after s.edit n in
    let v₁ = cond_no (same_name n m) (worth s.old) 0 t in
    let v₂ = cond_no (same_name n m) (worth s.new) 0 t in
    omega arith

-- what a change does to items, for the sheet and for the tally
pub record Moved (c : Change) (items after : List Item) : Type 0 where
  pub counts : (n : Name) (t : Tally) → Fit (count n items) t → Fit (count n after) (cond (same_name n (name_of c)) (enter c t) t)
  pub rise : T (rising items) → T (rising after)
  pub others : (x : ℕ) → x ≢ (name_of c).extent → items_of x after ≡ items_of x items
  pub balance : Balanced after
  pub tidied : T (all tidy after)

from_step : (c : Change) (given out : ℕ) (items after : List Item) → Balanced items
    → Step (name_of c) given out items after
    → ((n : Name) (t : Tally) → T (same_name n (name_of c)) → Fit (count n items) t → Fit (count n after) (enter c t))
    → Moved c items after
from_step c given out items after b s f =
    record {
      counts = λ n t h. go n t h (same_name n (name_of c)) refl;
      rise = s.edit.rise;
      others = s.edit.others;
      balance = balanced-edit (name_of c) s.old s.new items after s.edit b s.nonempty s.free;
      tidied = s.tidied;
    }
  where
    go : (n : Name) (t : Tally) → Fit (count n items) t → (x : Bool) → same_name n (name_of c) ≡ x
        → Fit (count n after) (cond x (enter c t) t)
    go n t h true q = f n t (subst T (sym q) tt) h
    go n t h false q =
        let e = stayed (name_of c) given out items after s n (subst (λ (y : Bool). T (not y)) (sym q) tt) in omega arith

add_fit : (c : Change) (given : ℕ) (items after : List Item) → Step (name_of c) given 0 items after
    → (n : Name) (t : Tally)
    → T (same_name n (name_of c)) → Fit (count n items) t → Fit (count n after) (gave t given)
add_fit c given items after s n t q h = let e = moved (name_of c) given 0 items after s n q in omega arith

drop-fit : (c : Change) (out : ℕ) (items after : List Item) → Step (name_of c) 0 out items after → (n : Name) (t : Tally)
    → T (same_name n (name_of c)) → Fit (count n items) t → Fit (count n after) (took t out)
drop-fit c out items after s n t q h = let e = moved (name_of c) 0 out items after s n q in omega arith

-- ---- one change

pub block-step : (nodesize extent : ℕ) (name : BlockRef) (items after : List Item) → Balanced items → T (all tidy items)
    → changed nodesize (DropBlock extent name) items ≡ accepted after → Step (name_of (DropBlock extent name)) 0 1 items after
block-step nodesize extent name items after b t e =
    drop-step (block_drop extent name) (block-proper extent name) items after b t (sym (block-changes nodesize extent name items) ∙ e)

pub data-step : (nodesize extent : ℕ) (name : DataRef) (items after : List Item) → Balanced items → T (all tidy items)
    → changed nodesize (DropData extent name) items ≡ accepted after → Step (name_of (DropData extent name)) 0 1 items after
data-step nodesize extent name items after b t e =
    drop-step (data_drop extent name) (data-proper extent name) items after b t (sym (data-changes nodesize extent name items) ∙ e)

pub shared_step : (nodesize extent : ℕ) (name : SharedRef) (amount : ℕ) (items after : List Item) → T (shared_kind name.kind) → Balanced items
    → T (all tidy items)
    → changed nodesize (DropShared extent name amount) items ≡ accepted after → Step (name_of (DropShared extent name amount)) 0 amount items after
shared_step nodesize extent name amount items after k b t e =
    drop-step (shared_drop extent name amount) (shared-proper extent name amount k) items after b t
    (sym (shared-changes nodesize extent name amount items) ∙ e)

change-step : (nodesize : ℕ) (c : Change) (items after : List Item) → Wide c → T (kind_fits c) → Balanced items
    → T (all tidy items)
    → changed nodesize c items ≡ accepted after → Moved c items after
unfolding changed enter
change-step nodesize (AddBlock extent name) items after w k b t e =
    let c : Change = AddBlock extent name in
    let s = add-block nodesize extent name items after (name-ok c w k) b t e in
    from_step c 1 0 items after b s (add_fit c 1 items after s)
change-step nodesize (AddData extent name amount) items after w k b t e =
    let c : Change = AddData extent name amount in
    let s = add-data nodesize extent name amount items after (name-ok c w k) b t e in
    from_step c amount 0 items after b s (add_fit c amount items after s)
change-step nodesize (AddShared extent name amount) items after w k b t e =
    let c : Change = AddShared extent name amount in
    let s = add-shared nodesize extent name amount items after k (name-ok c w k) b t e in
    from_step c amount 0 items after b s (add_fit c amount items after s)
change-step nodesize (DropBlock extent name) items after w k b t e =
    let c : Change = DropBlock extent name in
    let s = block-step nodesize extent name items after b t e in
    from_step c 0 1 items after b s (drop-fit c 1 items after s)
change-step nodesize (DropData extent name) items after w k b t e =
    let c : Change = DropData extent name in
    let s = data-step nodesize extent name items after b t e in
    from_step c 0 1 items after b s (drop-fit c 1 items after s)
change-step nodesize (DropShared extent name amount) items after w k b t e =
    let c : Change = DropShared extent name amount in
    let s = shared_step nodesize extent name amount items after k b t e in
    from_step c 0 amount items after b s (drop-fit c amount items after s)

-- ---- one posting

-- a balanced sheet and its items
pub record On (s : List ℕ) (items : List Item) : Type 0 where
  pub raw : T (are_bytes s)
  pub reads : read_sheet s ≡ accepted items
  pub balance : T (balanced items)

pub on-items : (s : List ℕ) (items : List Item) → On s items → sheet_items s ≡ items
unfolding items_in
on-items s items o = ap items_in o.reads

pub on_of : (s : List ℕ) → T (are_bytes s) → T (balanced_sheet s) → (items : List Item) × On s items
on_of s b t = go (read_sheet s) refl t
  where
    go : (r : Answer (List Item)) → read_sheet s ≡ r → T (passes r) → (items : List Item) × On s items
    go (refused n) q t = absurd t
    go absent q t = absurd t
    go remove q t = absurd t
    go (accepted items) q t = (items, record { raw = b; reads = q; balance = t })

-- a list in order that a lent output holds is read back
pub read-after : (after : List Item) (room : ℕ) → T (rising after) → T (all tidy after) → T (sheet_holds room after)
    → T (are_bytes (sheet_bytes after)) × (read_sheet (sheet_bytes after) ≡ accepted after)
read-after after room rise tidied holds =
    let f = holds-out room after holds in
    let sanes : T (all sane after) = all_two tidy (λ i. data_fits i.bytes) sane tidy-sane after tidied f.3 in
    let short : length (sheet_bytes after) ≤ 262144 = rw (sheet-size after) f.1 in
    (are_bytes-sheet_bytes after sanes, read-sheet_bytes after sanes rise short f.2)

on-after : (after : List Item) (room : ℕ) → T (rising after) → Balanced after → T (all tidy after) → T (sheet_holds room after)
    → On (sheet_bytes after) after
on-after after room rise balance tidied holds =
    let (raw, reads) = read-after after room rise tidied holds in
    record { raw = raw; reads = reads; balance = balanced-in after balance }

pub step-on : (m : Name) (given out : ℕ) (sheet : List ℕ) (items after : List Item) (room : ℕ) → SheetFacts sheet items
    → Step m given out items after → T (sheet_holds room after) → On (sheet_bytes after) after
step-on m given out sheet items after room S s holds =
    on-after after room (s.edit.rise S.rise) (balanced-edit m s.old s.new items after s.edit S.balance s.nonempty s.free)
    s.tidied holds

-- a posting to a sheet with those items
pub post-on : (nodesize : ℕ) (sheet : List ℕ) (items after : List Item) (c : Change) (room : ℕ) → On sheet items → 501 ≤ nodesize
    → nodesize ≤ 65536
    → T (kind_fits c) → changed nodesize c items ≡ accepted after → T (sheet_holds room after)
    → posted nodesize sheet c room ≡ accepted (sheet_bytes after)
post-on nodesize sheet items after c room o least most kind done holds =
    posts-give nodesize sheet c room
    (record {
      items = items;
      after = after;
      reads = o.reads;
      least = least;
      most = most;
      kind = kind;
      balance = o.balance;
      done = done;
      holds = holds;
    })

pub record Posted (p : Posting) (items : List Item) (t : List ℕ) : Type 0 where
  pub now : List Item
  pub on : On t now
  pub moved : Moved p.change items now

pub post-step : (s : List ℕ) (items : List Item) (p : Posting) (t : List ℕ) → On s items → Wide p.change
    → answer_to s p ≡ accepted t → Posted p items t
unfolding answer_to
post-step s items p t o w e =
    let P = posts-out p.nodesize s p.change p.room (t, e) in
    let q : items ≡ P.items = accepted-inj (sym o.reads ∙ P.reads) in
    let sa = sheet-sane s P.items o.raw P.reads in
    let M : Moved p.change P.items P.after =
    change-step p.nodesize p.change P.items P.after w P.kind (balanced-out P.items P.balance)
    (all_map sane tidy sane-tidy P.items sa.0) P.done in
    record {
      now = P.after;
      on = subst (λ (z : List ℕ). On z P.after) (sym (posts-writes p.nodesize s p.change p.room t e P))
          (on-after P.after p.room (M.rise sa.2) M.balance M.tidied P.holds);
      moved = subst (λ (z : List Item). Moved p.change z P.after) (sym q) M;
    }
