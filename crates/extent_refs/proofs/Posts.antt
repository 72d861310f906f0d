-- A list of calls of the exported `ledger_post` is a list of calls of `post`, so demand 3 is so of it. Assumes nothing.
use mathlib.Core.Path.{◌≡◌, sym, ap, ◌∙◌, subst}
use mathlib.Core.Bool.{Bool, true, false, cond}
use mathlib.Core.List.{List, [], ◌∷◌}
use mathlib.Core.Option.{none, some}
use Prim.Native.Nat.{ℕ, ◌^◌}
use native.Mathlib.Omega.{arith}
use lib.Dec.{T, leb, ltb, eqb, leb→le}
use lib.ListN.{length}
use borrow.Author.Tests.{ne_eqb}
use mir.Facts.{and_yes, yes_and}
use Rattle.fields.specs.Lists.{all}
use Rattle.fields.specs.Numbers.{are_bytes}
use Rattle.format.specs.declared.Change.TheVariants.{AddBlock, AddData, AddShared, DropBlock, DropData, DropShared}
use Rattle.std.specs.Prelude.{Ok}
use Rattle.format.specs.declared.Edited.TheVariants.{Written}
use Rattle.format.specs.Questions.{Answer, code_of, lent_part, denied, edited_of, Answered}
use Rattle.format.specs.History.{answer_to, balanced_sheet}
use Rattle.theorems.specs.Demand.{Wide, Wides, Decided, no, yes}
use Rattle.theorems.proofs.Decided.{decided}
use Rattle.theorems.specs.Calls.{CallKept, CallsKept, next_sheet, posting_of, postings_of, CallsDemand3}
use Rattle.theorems.proofs.Calls.{calls-demand-3}
use Rattle.extent_refs.specs.Exports.{Coded}
use Rattle.extent_refs.specs.Posts.{change_of, stand_in, PostCall, asked, PostKept, is_wide, answer_by, call_of, PostsKept, calls_of}
use Rattle.extent_refs.proofs.Postings.{stands-in}

-- ---- one call

-- code and length say what the answer says
answered : (answer : Answer (List ℕ)) {code size : ℕ} {old new : List ℕ} → Decided answer → Coded answer code size old new
    → Answered answer (answer_by code size) old new
unfolding code_of lent_part edited_of
answered answer {code} {size} (no n r e) k =
    let c : code ≡ n = k.code ∙ ap code_of e in
    let above = leb→le 1 n (and_yes (leb 1 n) (ltb n 100) r).0 in
    let zero : eqb code 0 ≡ false = ne_eqb code 0 (λ z. omega arith) in
    record {
      result = ap (λ (x : Bool). cond x (Ok (Written size)) (denied code)) zero ∙ ap denied c ∙ sym (ap edited_of e);
      output = k.output;
    }
answered answer {code} {size} (yes s e) k =
    let c : code ≡ 0 = k.code ∙ ap code_of e in
    let l : size ≡ length s = k.size ∙ ap (λ (x : Answer (List ℕ)). length (lent_part x)) e in
    record {
      result = ap (λ (x : ℕ). answer_by x size) c ∙ ap (λ (n : ℕ). Ok (Written n)) l ∙ sym (ap edited_of e);
      output = k.output;
    }

kept : (sheet : List ℕ) (p : PostCall) → PostKept sheet p → CallKept sheet (call_of p)
unfolding answer_to
kept sheet p k =
    answered (answer_to sheet (posting_of (call_of p))) (decided sheet (posting_of (call_of p)))
    (subst (λ (x : Answer (List ℕ)). Coded x p.code p.size p.old p.new)
    (sym (stands-in p.nodesize sheet (asked p) (length p.old))) k)

wide : (p : PostCall) → T (is_wide p) → Wide (stand_in (asked p))
unfolding change_of stand_in
wide p t = go (eqb p.number 1) (eqb p.number 2) (eqb p.number 3) (eqb p.number 4) (eqb p.number 5) (eqb p.number 6)
  where
    h₁ : T (ltb p.a (2 ^ 64))
    h₁ = (and_yes (ltb p.a (2 ^ 64)) _ t).0

    h₂ : T (ltb p.b (2 ^ 64))
    h₂ = (and_yes (ltb p.b (2 ^ 64)) _ (and_yes (ltb p.a (2 ^ 64)) _ t).1).0

    one_field : (x : ℕ) → T (ltb x (2 ^ 64)) → T (all (λ w. ltb w (2 ^ 64)) (x ∷ []))
    one_field x h = yes_and (ltb x (2 ^ 64)) true h tt

    three-fields : T (all (λ w. ltb w (2 ^ 64)) (p.a ∷ p.b ∷ p.c ∷ []))
    three-fields =
        yes_and (ltb p.a (2 ^ 64)) _ h₁
        (yes_and (ltb p.b (2 ^ 64)) _ h₂ (one_field p.c (and_yes (ltb p.b (2 ^ 64)) _ (and_yes (ltb p.a (2 ^ 64)) _ t).1).1))

    go : (is1 is2 is3 is4 is5 is6 : Bool)
        → Wide
        (stand_in
        (cond is1 (some (AddBlock p.extent (record { tree = p.a })))
        (cond is2 (some (AddData p.extent (record { tree = p.a; objectid = p.b; offset = p.c }) p.amount))
        (cond is3 (some (AddShared p.extent (record { kind = p.a; parent = p.b }) p.amount))
        (cond is4 (some (DropBlock p.extent (record { tree = p.a })))
        (cond is5 (some (DropData p.extent (record { tree = p.a; objectid = p.b; offset = p.c })))
        (cond is6 (some (DropShared p.extent (record { kind = p.a; parent = p.b }) p.amount))
        none)))))))
    go true is2 is3 is4 is5 is6 = record { fields = one_field p.a h₁ }
    go false true is3 is4 is5 is6 = record { fields = three-fields }
    go false false true is4 is5 is6 = record { fields = one_field p.b h₂ }
    go false false false true is5 is6 = record { fields = one_field p.a h₁ }
    go false false false false true is6 = record { fields = three-fields }
    go false false false false false true = record { fields = one_field p.b h₂ }
    go false false false false false false = record { fields = tt }

-- ---- a list of calls

pub all-kept : (sheet : List ℕ) (posts : List PostCall) → PostsKept sheet posts → CallsKept sheet (calls_of posts)
all-kept sheet [] k = tt
all-kept sheet (p ∷ posts) (k, ks) = (kept sheet p k, all-kept (next_sheet sheet (call_of p).result p.new) posts ks)

wides : (posts : List PostCall) → T (all is_wide posts) → Wides (postings_of (calls_of posts))
wides [] t = tt
wides (p ∷ posts) t = let h = and_yes (is_wide p) (all is_wide posts) t in (wide p h.0, wides posts h.1)

pub posts-demand-3 : (sheet : List ℕ) (posts : List PostCall) → T (are_bytes sheet) → T (balanced_sheet sheet) → T (all is_wide posts)
    → PostsKept sheet posts → CallsDemand3 sheet (calls_of posts)
posts-demand-3 sheet posts bytes balance wide kept =
    calls-demand-3 sheet (calls_of posts) bytes balance (wides posts wide) (all-kept sheet posts kept)
