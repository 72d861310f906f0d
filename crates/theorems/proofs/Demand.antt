-- Demand 3: from what one accepted posting does to any list of postings on any balanced sheet. Assumes nothing.
use mathlib.Core.Path.{◌≡◌, refl, sym, ap, ◌∙◌, subst}
use Prim.Native.Nat.{ℕ}
use native.Mathlib.Omega.{arith}
use mathlib.Core.Bool.{Bool, true, false, not, ◌&&◌, cond}
use mathlib.Core.List.{List, [], ◌∷◌}
use lib.Dec.{T, eqb}
use mir.Facts.{or_no, T_not, yes_eqb}
use Rattle.fields.specs.Numbers.{are_bytes}
use Rattle.format.specs.declared.Change.{Change}
use Rattle.format.specs.declared.Change.TheVariants.{AddBlock, AddData, AddShared, DropBlock, DropData, DropShared}
use Rattle.format.specs.Questions.{Answer, refused, absent, remove, accepted}
use Rattle.format.specs.Items.{Item}
use Rattle.format.specs.Names.{Name, same_name, count}
use Rattle.format.specs.Ledger.{name_of}
use Rattle.format.specs.History.{Posting, answer_to, sheet_after, is_accepted, run, Seen, all_seen, Tally, enter, tally_from, touched, items_of, sheet_items, passes, balanced_sheet}
use Rattle.theorems.specs.Acceptance.{Made}
use Rattle.theorems.specs.Demand.{Wide, Wides, Correct, AllCorrect, Demand3}
use Rattle.theorems.proofs.Decided.{decided}
use Rattle.theorems.proofs.Posting.{posts-made}
use Rattle.theorems.proofs.Changes.{Fit, On, on-items, on_of, post-step}
use Rattle.theorems.proofs.Acceptance.{acceptance}

-- ---- one posting

-- a posting to any sheet of bytes is answered as document 01 says
pub correct : (sheet : List ℕ) (p : Posting) → T (are_bytes sheet)
    → Correct sheet p (is_accepted (answer_to sheet p)) (sheet_after sheet (answer_to sheet p))
unfolding answer_to
correct sheet p raw =
    let e = acceptance p.nodesize sheet p.change p.room raw in
    record {
      exactly = record { only = λ t. e.only (result (answer_to sheet p) refl t); enough = λ y. taken (answer_to sheet p) (e.enough y) };
      made = λ t. (let r = result (answer_to sheet p) refl t in
          subst (Made p.nodesize sheet p.change) (sym (ap (sheet_after sheet) r.1))
          (posts-made p.nodesize sheet p.change p.room r.0 r.1));
      same = unmoved-by (answer_to sheet p);
    }
  where
    result : (a : Answer (List ℕ)) → answer_to sheet p ≡ a → T (is_accepted a) → (t : List ℕ) × (answer_to sheet p ≡ accepted t)
    result (refused n) q t = absurd t
    result absent q t = absurd t
    result remove q t = absurd t
    result (accepted r) q t = (r, q)

    taken : (a : Answer (List ℕ)) → (t : List ℕ) × (a ≡ accepted t) → T (is_accepted a)
    taken a (t, q) = subst (λ (x : Answer (List ℕ)). T (is_accepted x)) (sym q) tt

    unmoved-by : (a : Answer (List ℕ)) → T (not (is_accepted a)) → sheet_after sheet a ≡ sheet
    unmoved-by (refused n) t = refl
    unmoved-by absent t = refl
    unmoved-by remove t = refl
    unmoved-by (accepted r) t = absurd t

-- ---- the whole list

-- from a sheet with these items, and whatever the tallies stand at
record WholeList (s : List ℕ) (items : List Item) (postings : List Posting) : Type 0 where
  all-correct : AllCorrect s postings
  last : List Item
  on : On (run s postings) last
  counts : (n : Name) (t : Tally) → Fit (count n items) t → Fit (count n last) (tally_from n t (all_seen s postings))
  others : (x : ℕ) → T (not (touched x (all_seen s postings))) → items_of x last ≡ items_of x items

-- the same, with the first posting's answer at hand
abbrev seen_at : Posting → Answer (List ℕ) → Seen
seen_at p a = record { change = p.change; accepted = is_accepted a }

record After (s : List ℕ) (items : List Item) (p : Posting) (postings : List Posting) (a : Answer (List ℕ)) : Type 0 where
  all-correct : AllCorrect (sheet_after s a) postings
  last : List Item
  on : On (run (sheet_after s a) postings) last
  counts : (n : Name) (t : Tally) → Fit (count n items) t
      → Fit (count n last) (tally_from n t (seen_at p a ∷ all_seen (sheet_after s a) postings))
  others : (x : ℕ) → T (not (touched x (seen_at p a ∷ all_seen (sheet_after s a) postings))) → items_of x last ≡ items_of x items

-- an answer that moves nothing
unmoved : (s : List ℕ) (items : List Item) (p : Posting) (postings : List Posting) (a : Answer (List ℕ)) → is_accepted a ≡ false
    → sheet_after s a ≡ s
    → WholeList s items postings → After s items p postings a
unmoved s items p postings (refused n) q r W = record { all-correct = W.all-correct; last = W.last; on = W.on; counts = W.counts; others = W.others }
unmoved s items p postings absent q r W = record { all-correct = W.all-correct; last = W.last; on = W.on; counts = W.counts; others = W.others }
unmoved s items p postings remove q r W = record { all-correct = W.all-correct; last = W.last; on = W.on; counts = W.counts; others = W.others }
unmoved s items p postings (accepted t) q r W = absurd (subst T q tt)

after_one : (s : List ℕ) (items : List Item) (p : Posting) (postings : List Posting) → On s items → Wide p.change
    → ((t : List ℕ) (js : List Item) → On t js → WholeList t js postings) → (a : Answer (List ℕ)) → answer_to s p ≡ a
    → After s items p postings a
after_one s items p postings o w ih (refused n) q = unmoved s items p postings (refused n) refl refl (ih s items o)
after_one s items p postings o w ih absent q = unmoved s items p postings absent refl refl (ih s items o)
after_one s items p postings o w ih remove q = unmoved s items p postings remove refl refl (ih s items o)
after_one s items p postings o w ih (accepted t) q =
    let P = post-step s items p t o w q in
    let W = ih t P.now P.on in
    record {
      all-correct = W.all-correct;
      last = W.last;
      on = W.on;
      counts = λ n u h. W.counts n (cond (same_name n (name_of p.change)) (enter p.change u) u) (P.moved.counts n u h);
      others = λ x h.
          (let k = or_no (eqb (name_of p.change).extent x) (touched x (all_seen t postings)) h in
          W.others x k.1 ∙ P.moved.others x (λ e. T_not (eqb (name_of p.change).extent x) (yes_eqb (sym e)) k.0));
    }

whole-list : (s : List ℕ) (items : List Item) (postings : List Posting) → On s items → Wides postings
    → WholeList s items postings
whole-list s items [] o w = record { all-correct = tt; last = items; on = o; counts = λ n t h. h; others = λ x h. refl }
whole-list s items (p ∷ postings) o (w, ws) =
    let A = after_one s items p postings o w (λ t js o'. whole-list t js postings o' ws) (answer_to s p) refl in
    record { all-correct = (correct s p o.raw, A.all-correct); last = A.last; on = A.on; counts = A.counts; others = A.others }

-- ---- demand 3

-- the tally never moves its opening
opens : (n : Name) (t : Tally) (list : List Seen) → (tally_from n t list).opening ≡ t.opening
unfolding enter
opens n t [] = refl
opens n t (v ∷ list) =
    opens n (cond (v.accepted && same_name n (name_of v.change)) (enter v.change t) t) list
    ∙ go (v.accepted && same_name n (name_of v.change)) v.change
  where
    go : (x : Bool) (c : Change) → (cond x (enter c t) t).opening ≡ t.opening
    go true (AddBlock extent name) = refl
    go true (AddData extent name amount) = refl
    go true (AddShared extent name amount) = refl
    go true (DropBlock extent name) = refl
    go true (DropData extent name) = refl
    go true (DropShared extent name amount) = refl
    go false c = refl

on-balanced : (s : List ℕ) (items : List Item) → On s items → T (balanced_sheet s)
on-balanced s items o = subst (λ (r : Answer (List Item)). T (passes r)) (sym o.reads) o.balance

pub demand-3 : (sheet : List ℕ) (postings : List Posting) → T (are_bytes sheet) → T (balanced_sheet sheet) → Wides postings
    → Demand3 sheet postings
demand-3 sheet postings b t w =
    let (items, o) = on_of sheet b t in
    let W = whole-list sheet items postings o w in
    let e₁ : sheet_items sheet ≡ items = on-items sheet items o in
    let e₂ : sheet_items (run sheet postings) ≡ W.last = on-items (run sheet postings) W.last W.on in
    record {
      correct = W.all-correct;
      counts = λ n.
          (let t₀ : Tally = record { opening = count n (sheet_items sheet); given = 0; taken = 0 } in
          let c₁ : count n (sheet_items sheet) ≡ count n items = ap (count n) e₁ in
          let c₂ : count n (sheet_items (run sheet postings)) ≡ count n W.last = ap (count n) e₂ in
          let f = W.counts n t₀ (omega arith) in
          let k = opens n t₀ (all_seen sheet postings) in
          omega arith);
      balance = on-balanced (run sheet postings) W.last W.on;
      untouched = λ x h. ap (items_of x) e₂ ∙ W.others x h ∙ sym (ap (items_of x) e₁);
      decided = decided;
    }
