-- Laws of a count of references: one reference further, the ways out, and what a count says of the reading. Assumes nothing.
use mathlib.Core.Path.{◌≡◌, refl, sym, ap, ◌∙◌}
use mathlib.Core.List.{List, [], ◌∷◌}
use Prim.Native.Nat.{ℕ, ◌+◌}
use native.Mathlib.Omega.{arith}
use lib.ListN.{length, drop}
use Rattle.format.specs.Questions.{Answer, refused, absent, remove, accepted, bind, denied}
use Rattle.format.specs.References.{Ref, ref_at}
use Rattle.format.proofs.Refs.{Reads as Decided, read, strange, cut_off}
use Rattle.std.specs.Prelude.{Result, Ok, Err}
use Rattle.format.specs.declared.Refusal.{Refusal}
use Rattle.inline_refs.specs.Steps.{read_from}
use Rattle.inline_refs.specs.Scans.{ref_count_of}
use Rattle.inline_refs.proofs.Steps.{At}

-- ---- the count of what is left, with n references before it

abbrev pub plus : ℕ → Result ℕ Refusal → Result ℕ Refusal
plus n (Ok m) = Ok (n + m)
plus n (Err refusal) = Err refusal

pub plus-zero : (c : Result ℕ Refusal) → plus 0 c ≡ c
plus-zero (Ok m) = ap Ok (omega arith)
plus-zero (Err refusal) = refl

pub counts-none : (x : Answer (List Ref)) → plus 0 (ref_count_of x) ≡ ref_count_of x
counts-none x = plus-zero (ref_count_of x)

counts-cons : (n : ℕ) (r : Ref) (x : Answer (List Ref)) → plus (n + 1) (ref_count_of x) ≡ plus n (ref_count_of (bind x (λ refs. accepted (r ∷ refs))))
unfolding ref_count_of bind
counts-cons n r (refused refusal) = refl
counts-cons n r absent = refl
counts-cons n r remove = refl
counts-cons n r (accepted refs) = ap Ok (omega arith)

pub counts_step : (s : List ℕ) (at k p n q next m : ℕ) → At s at k p n q next
    → plus (m + 1) (ref_count_of (read_from s next)) ≡ plus m (ref_count_of (read_from s at))
counts_step s at k p n q next m h =
    counts-cons m (ref_at k (drop p s)) (read_from s next) ∙ ap (λ (x : Answer (List Ref)). plus m (ref_count_of x)) (sym h.reads)

pub counts_end : (x : Answer (List Ref)) (n : ℕ) → x ≡ accepted [] → Ok n ≡ plus n (ref_count_of x)
unfolding ref_count_of
counts_end x n e = ap Ok (omega arith) ∙ ap (λ (y : Answer (List Ref)). plus n (ref_count_of y)) (sym e)

pub counts-fault : (x : Answer (List Ref)) (n refusal : ℕ) → x ≡ refused refusal → denied refusal ≡ plus n (ref_count_of x)
unfolding ref_count_of
counts-fault x n number e = ap (λ (y : Answer (List Ref)). plus n (ref_count_of y)) (sym e)

-- ---- what a count says

pub record Reads (x : Answer (List Ref)) (count : ℕ) : Type 0 where
  pub refs : List Ref
  pub is : x ≡ accepted refs
  pub many : count ≡ length refs

count-inj : {m n : ℕ} → ◌≡◌ {A = Result ℕ Refusal} (Ok m) (Ok n) → m ≡ n
count-inj e = cc

count-not : {X : Type 0} {m n : ℕ} → ◌≡◌ {A = Result ℕ Refusal} (Ok m) (denied n) → X
count-not e = let z : ◌≡◌ {A = ℕ} 0 1 = cc in absurd (omega arith)

refused-inj : {m n : ℕ} → ◌≡◌ {A = Result ℕ Refusal} (denied m) (denied n) → n ≡ m
refused-inj {m} {n} e = sym (ap number_in e)
  where
    number_in : Result ℕ Refusal → ℕ
    number_in (Ok k) = 0
    number_in (Err refusal) = refusal.number

pub count-reads : (x : Answer (List Ref)) (count : ℕ) → Ok count ≡ ref_count_of x → Reads x count
unfolding ref_count_of
count-reads (refused refusal) count e = count-not e
count-reads absent count e = count-not e
count-reads remove count e = count-not e
count-reads (accepted refs) count e = record { refs = refs; is = refl; many = count-inj e }

pub fault-reads : (x : Answer (List Ref)) (n : ℕ) → Decided x → denied n ≡ ref_count_of x → x ≡ refused n
unfolding ref_count_of
fault-reads x n (read l q) e = count-not (sym (e ∙ ap ref_count_of q))
fault-reads x n (strange q) e = q ∙ ap refused (refused-inj (e ∙ ap ref_count_of q))
fault-reads x n (cut_off q) e = q ∙ ap refused (refused-inj (e ∙ ap ref_count_of q))
