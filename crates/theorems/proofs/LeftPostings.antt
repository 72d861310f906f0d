-- How many are left in the books (document 02, ticket 5): what the name counts in the written sheet, as much less than before as the
-- history takes; and on a balanced list a record has at most one reference of a name. Assumes nothing.
use mathlib.Core.Path.{◌≡◌, sym, ap, ◌∙◌, subst}
use mathlib.Core.Bool.{false, not}
use mathlib.Core.List.{List}
use Prim.Native.Nat.{ℕ}
use native.Mathlib.Omega.{arith}
use native.Mathlib.Nat.{zero-add}
use borrow.Author.Tests.{ne_eqb}
use lib.Dec.{T, eqb}
use lib.ListN.{length}
use Rattle.fields.specs.Lists.{sum, all}
use Rattle.fields.specs.Numbers.{are_bytes}
use Rattle.fields.proofs.Lists.{cond_yes, cond_no}
use Rattle.format.specs.declared.Change.{Change}
use Rattle.format.specs.declared.Change.TheVariants.{AddBlock, AddData, AddShared, DropBlock, DropData, DropShared}
use Rattle.format.specs.Questions.{Answer, accepted, result_or}
use Rattle.format.specs.Items.{Item, sheet_bytes}
use Rattle.format.specs.Names.{Name, entries, count, stands}
use Rattle.format.specs.Ledger.{name_of, kind_fits, changed, post, posted}
use Rattle.format.specs.History.{enter, sheet_items}
use Rattle.format.specs.Left.{is_drop, changed_left, post_left}
use Rattle.theorems.proofs.Sums.{same_name-refl, sum-mid}
use Rattle.theorems.proofs.Edit.{Balanced, balanced-out, record-entries}
use Rattle.theorems.proofs.Facts.{view-record}
use Rattle.theorems.proofs.Steps.{tidy, Step}
use Rattle.theorems.proofs.Posting.{Posts, posts-out, posts-writes, post_is, sheet-facts}
use Rattle.theorems.proofs.Counts.{stood}
use Rattle.theorems.proofs.Changes.{moved, block-step, data-step, shared_step, On, on-items, step-on}
use Rattle.theorems.proofs.LeftCounts.{stands-refs}
use Rattle.theorems.proofs.LeftBodies.{wrote-out}
use Rattle.theorems.specs.Left.{takes, LeftByPosting, PostingLeft, OneSummand}

-- ---- the books

-- a drop takes from its name what the history says
drop-takes : (nodesize : ℕ) (c : Change) (items after : List Item) → T (is_drop c) → T (kind_fits c) → Balanced items → T (all tidy items)
    → changed nodesize c items ≡ accepted after → Step (name_of c) 0 (takes c) items after
unfolding enter
drop-takes nodesize (AddBlock extent name) items after d k b t e = absurd d
drop-takes nodesize (AddData extent name amount) items after d k b t e = absurd d
drop-takes nodesize (AddShared extent name amount) items after d k b t e = absurd d
drop-takes nodesize (DropBlock extent name) items after d k b t e = block-step nodesize extent name items after b t e
drop-takes nodesize (DropData extent name) items after d k b t e = data-step nodesize extent name items after b t e
drop-takes nodesize (DropShared extent name amount) items after d k b t e =
    subst (λ (n : ℕ). Step (name_of (DropShared extent name amount)) 0 n items after) (sym (zero-add amount))
    (shared_step nodesize extent name amount items after k b t e)

-- what is reported, by what the posting makes
drop-reports : (c : Change) (after : List Item) (a : Answer (List Item)) → a ≡ accepted after → T (is_drop c) → changed_left c a ≡ count (name_of c) after
unfolding changed_left
drop-reports c after a e d = cond_yes (is_drop c) _ 0 d ∙ ap (result_or 0 (count (name_of c))) e

add-reports : (c : Change) (a : Answer (List Item)) → T (not (is_drop c)) → changed_left c a ≡ 0
unfolding changed_left
add-reports c a d = cond_no (is_drop c) _ 0 d

module _ (nodesize : ℕ) (sheet : List ℕ) (c : Change) (room : ℕ) (result : List ℕ) (raw : T (are_bytes sheet))
    (e : posted nodesize sheet c room ≡ accepted result) where
  P : Posts nodesize sheet c room
  P = posts-out nodesize sheet c room (result, e)

  writes : result ≡ sheet_bytes P.after
  writes = posts-writes nodesize sheet c room result e P

  made : post nodesize sheet c ≡ accepted P.after
  made = post_is nodesize sheet c P.items P.reads P.least P.most P.kind P.balance ∙ P.done

  on : On sheet P.items
  on = record { raw = raw; reads = P.reads; balance = P.balance }

  steps : T (is_drop c) → Step (name_of c) 0 (takes c) P.items P.after
  steps d =
      let S = sheet-facts sheet P.items raw P.reads P.balance in
      drop-takes nodesize c P.items P.after d P.kind S.balance S.tidied P.done

  on-result : T (is_drop c) → On result P.after
  on-result d =
      subst (λ (l : List ℕ). On l P.after) (sym writes)
      (step-on (name_of c) 0 (takes c) sheet P.items P.after room (sheet-facts sheet P.items raw P.reads P.balance) (steps d) P.holds)

  left-by-posting : (n : ℕ) → n ≡ post_left nodesize sheet c → LeftByPosting sheet c result n
  unfolding post_left
  left-by-posting n q =
      record {
        counts = λ d. counts d;
        less = λ d. (let e₁ = moved m 0 (takes c) P.items P.after (steps d) m (same_name-refl m) in
            let e₂ = ap (count m) (on-items sheet P.items on) in
            let e₃ = here d in
            omega arith);
        gone = λ d z. (let e₁ = stood m (entries P.after) (balanced-out P.after (on-result d).balance).nonempty in
            let e₂ = here d in
            let e₃ = ap (λ (l : List Item). sum (stands m) (entries l)) (on-items result P.after (on-result d)) in
            omega arith);
        adds = λ d. q ∙ add-reports c (post nodesize sheet c) d;
      }
    where
      m : Name
      m = name_of c

      here : T (is_drop c) → n ≡ count m P.after
      here d = q ∙ drop-reports c P.after (post nodesize sheet c) made d

      counts : T (is_drop c) → n ≡ count m (sheet_items result)
      counts d = here d ∙ ap (count m) (sym (on-items result P.after (on-result d)))

pub posting-left : PostingLeft
posting-left nodesize sheet c old new size n raw k =
    let o = wrote-out (posted nodesize sheet c (length old)) (post_left nodesize sheet c) old new size n k in
    subst (λ (l : List ℕ). LeftByPosting sheet c l n) (sym o.writes)
    (left-by-posting nodesize sheet c (length old) o.result raw o.answers n o.reports)

-- ---- one summand

pub one-summand : OneSummand
one-summand items at b kind fields t e is_rec reads ne =
    let m : Name = record { extent = at.hit.key.objectid; kind = kind; fields = fields } in
    let no172 : eqb kind 172 ≡ false = ne_eqb kind 172 ne in
    let e₁ = (balanced-out items t).names m in
    let e₂ = ap (λ (l : List Item). sum (stands m) (entries l)) e ∙ sum-mid (stands m) at.front at.hit at.back in
    let e₃ = ap (sum (stands m)) (record-entries at.hit b (view-record at.hit b is_rec reads)) ∙ stands-refs m no172 b.refs in
    omega arith
