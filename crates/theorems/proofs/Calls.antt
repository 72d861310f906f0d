-- A list of calls of `post` is the list of demand 3. Assumes nothing.
use mathlib.Core.Path.{◌≡◌, refl, sym, ap, ap₂, ◌∙◌, subst}
use mathlib.Core.Bool.{Bool}
use mathlib.Core.List.{List, [], ◌∷◌}
use Prim.Native.Nat.{ℕ}
use lib.Dec.{T}
use lib.ListN.{length, take, drop}
use lib.Seq.{take-append_seam}
use mir.Facts.{yes_and}
use Rattle.fields.specs.Lists.{all}
use Rattle.fields.specs.Numbers.{are_bytes}
use Rattle.std.specs.Prelude.{Result}
use Rattle.format.specs.declared.Edited.{Edited}
use Rattle.format.specs.declared.Refusal.{Refusal}
use Rattle.format.specs.Questions.{Answer, refused, absent, remove, accepted, edited_of, lent, Answered}
use Rattle.format.specs.History.{Posting, Seen, answer_to, sheet_after, is_accepted, run, all_seen, balanced_sheet}
use Rattle.theorems.specs.Demand.{Wides, Decided, no, yes, Correct, AllCorrect, Demand3}
use Rattle.theorems.proofs.Demand.{demand-3}
use Rattle.theorems.specs.Calls.{Call, CallsKept, was_written, was_decided, next_sheet, last_sheet, seen_by, posting_of, postings_of, CallsCorrect, CallsDemand3}

-- what an answer says, the caller sees
told : (a : Answer (List ℕ)) {r : Result Edited Refusal} {old new : List ℕ} → Answered a r old new → was_written r ≡ is_accepted a
unfolding edited_of
told (refused k) w = ap was_written w.result
told absent w = ap was_written w.result
told remove w = ap was_written w.result
told (accepted result) w = ap was_written w.result

wrote : (sheet : List ℕ) (a : Answer (List ℕ)) {r : Result Edited Refusal} {old new : List ℕ} → Answered a r old new → next_sheet sheet r new ≡ sheet_after sheet a
unfolding edited_of lent
wrote sheet (refused k) {new = new} w = ap (λ (r : Result Edited Refusal). next_sheet sheet r new) w.result
wrote sheet absent {new = new} w = ap (λ (r : Result Edited Refusal). next_sheet sheet r new) w.result
wrote sheet remove {new = new} w = ap (λ (r : Result Edited Refusal). next_sheet sheet r new) w.result
wrote sheet (accepted result) {old = old} {new = new} w =
    ap (λ (r : Result Edited Refusal). next_sheet sheet r new) w.result ∙ ap (take (length result)) w.output
    ∙ take-append_seam result (drop (length result) old)

pub same-run : (sheet : List ℕ) (calls : List Call) → CallsKept sheet calls → last_sheet sheet calls ≡ run sheet (postings_of calls)
unfolding answer_to
same-run sheet [] k = refl
same-run sheet (c ∷ calls) (k, ks) =
    same-run (next_sheet sheet c.result c.new) calls ks
    ∙ ap (λ (s : List ℕ). run s (postings_of calls)) (wrote sheet (answer_to sheet (posting_of c)) k)

pub same_seen : (sheet : List ℕ) (calls : List Call) → CallsKept sheet calls → seen_by calls ≡ all_seen sheet (postings_of calls)
unfolding answer_to
same_seen sheet [] k = refl
same_seen sheet (c ∷ calls) (k, ks) =
    ap₂ (λ (b : Bool) (l : List Seen). record { change = c.change; accepted = b } ∷ l) (told (answer_to sheet (posting_of c)) k)
    (same_seen (next_sheet sheet c.result c.new) calls ks
    ∙ ap (λ (s : List ℕ). all_seen s (postings_of calls)) (wrote sheet (answer_to sheet (posting_of c)) k))

-- no call says absent or remove
decided-so : (a : Answer (List ℕ)) {r : Result Edited Refusal} {old new : List ℕ} → Decided a → Answered a r old new → T (was_decided r)
unfolding edited_of
decided-so a {r} (no k n e) w = subst (λ (x : Result Edited Refusal). T (was_decided x)) (sym (w.result ∙ ap edited_of e)) n
decided-so a {r} (yes s e) w = subst (λ (x : Result Edited Refusal). T (was_decided x)) (sym (w.result ∙ ap edited_of e)) tt

all-decided : ((s : List ℕ) (p : Posting) → Decided (answer_to s p)) → (sheet : List ℕ) (calls : List Call) → CallsKept sheet calls
    → T (all (λ (c : Call). was_decided c.result) calls)
unfolding answer_to
all-decided d sheet [] k = tt
all-decided d sheet (c ∷ calls) (k, ks) =
    yes_and (was_decided c.result) _ (decided-so (answer_to sheet (posting_of c)) (d sheet (posting_of c)) k)
    (all-decided d (next_sheet sheet c.result c.new) calls ks)

-- what is so of each posting is so of each call
all-correct : (sheet : List ℕ) (calls : List Call) → CallsKept sheet calls → AllCorrect sheet (postings_of calls) → CallsCorrect sheet calls
unfolding answer_to
all-correct sheet [] k p = tt
all-correct sheet (c ∷ calls) (k, ks) (p, ps) =
    let a : Answer (List ℕ) = answer_to sheet (posting_of c) in
    let w = wrote sheet a k in (
      subst (λ (b : Bool). Correct sheet (posting_of c) b (next_sheet sheet c.result c.new)) (sym (told a k))
          (subst (Correct sheet (posting_of c) (is_accepted a)) (sym w) p),
      all-correct (next_sheet sheet c.result c.new) calls ks (subst (λ (s : List ℕ). AllCorrect s (postings_of calls)) (sym w) ps),
    )

pub calls-demand-3 : (sheet : List ℕ) (calls : List Call) → T (are_bytes sheet) → T (balanced_sheet sheet) → Wides (postings_of calls)
    → CallsKept sheet calls → CallsDemand3 sheet calls
calls-demand-3 sheet calls bytes balance wide kept =
    let d : Demand3 sheet (postings_of calls) = demand-3 sheet (postings_of calls) bytes balance wide in
    let r = same-run sheet calls kept in
    let v = same_seen sheet calls kept in
    record {
      correct = all-correct sheet calls kept d.correct;
      counts = rw (r, v) d.counts;
      balance = rw r d.balance;
      untouched = rw (r, v) d.untouched;
      decided = all-decided d.decided sheet calls kept;
    }
