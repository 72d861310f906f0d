-- Laws of the scan of a drop: what the wanted references count, one reference further and at the ways out; and the walk to the
-- first of them. Assumes nothing.
use mathlib.Core.Path.{◌≡◌, refl, sym, ap, ap₂, ◌∙◌}
use mathlib.Core.Bool.{Bool, true, false}
use mathlib.Core.List.{List, [], ◌∷◌}
use Prim.Native.Nat.{ℕ, ◌+◌}
use native.Mathlib.Omega.{arith}
use lib.Dec.{T}
use lib.ListN.{drop}
use Rattle.format.specs.Questions.{Answer, refused, absent, remove, accepted, bind, denied}
use Rattle.format.specs.References.{known, payload_length, count_position, Ref, ref_at, start_of}
use Rattle.format.specs.Left.{weight_under}
use Rattle.inline_refs.specs.declared.ref_name.RefName.{RefName}
use Rattle.std.specs.Prelude.{Option, Some, None, Result, Ok, Err}
use Rattle.format.specs.declared.Refusal.{Refusal}
use Rattle.inline_refs.specs.declared.noted.Found.{Found}
use Rattle.inline_refs.specs.declared.drop_scan.First.{First}
use Rattle.inline_refs.specs.Steps.{read_from, open_of}
use Rattle.inline_refs.specs.Scans.{kind_of, fields_of, is_wanted, ref_size_of, found_at, behind_of, drop_walk, drop_scan_of, refs_in}
use Rattle.inline_refs.proofs.Steps.{At}
use Rattle.inline_refs.proofs.Counts.{plus, plus-zero}
use Rattle.inline_refs.proofs.Tests.{wanted-known}
use Rattle.inline_refs.proofs.Notes.{opens}

-- ---- the wanted kind

-- its lengths, by another word for it
pub own_row : (w : RefName) (k size count : ℕ) → k ≡ kind_of w → size ≡ payload_length (kind_of w) → count ≡ count_position (kind_of w)
    → T (known k) × (size ≡ payload_length k) × (count ≡ count_position k)
own_row w k size count e long at = rw e (wanted-known w, long, at)

-- a test of a reference of that kind
pub of-kind : (w : RefName) (k : ℕ) (l : List ℕ) (b : Bool) → k ≡ kind_of w → b ≡ is_wanted w (ref_at (kind_of w) l) → b ≡ is_wanted w (ref_at k l)
of-kind w k l b e q = rw e q

-- ---- what the references from here on count, with n before it (`plus`)

pub sums_none : (w : RefName) (x : Answer (List Ref)) → plus 0 (behind_of w x) ≡ behind_of w x
sums_none w x = plus-zero (behind_of w x)

sums-cons : (w : RefName) (m n : ℕ) (r : Ref) (x : Answer (List Ref)) → n ≡ m + weight_under (kind_of w) (fields_of w) r
    → plus n (behind_of w x) ≡ plus m (behind_of w (bind x (λ refs. accepted (r ∷ refs))))
unfolding behind_of bind
sums-cons w m n r (refused refusal) e = refl
sums-cons w m n r absent e = refl
sums-cons w m n r remove e = refl
sums-cons w m n r (accepted refs) e = ap Ok (omega arith)

module _ (w : RefName) (s : List ℕ) (at k p n q next m : ℕ) (h : At s at k p n q next) where
  sums-step : (m' : ℕ) → m' ≡ m + weight_under (kind_of w) (fields_of w) (ref_at k (drop p s)) → plus m' (behind_of w (read_from s next)) ≡ plus m (behind_of w (read_from s at))
  sums-step m' e =
      sums-cons w m m' (ref_at k (drop p s)) (read_from s next) e ∙ ap (λ (x : Answer (List Ref)). plus m (behind_of w x)) (sym h.reads)

  module _ (b : Bool) (is : b ≡ is_wanted w (ref_at k (drop p s))) where
    pub sums-wanted : (x : ℕ) → b ≡ true → x ≡ (ref_at k (drop p s)).weight → plus (m + x) (behind_of w (read_from s next)) ≡ plus m (behind_of w (read_from s at))
    sums-wanted x t e = sums-step (m + x) (rw (sym is ∙ t, e) refl)

    pub sums-other : b ≡ false → plus m (behind_of w (read_from s next)) ≡ plus m (behind_of w (read_from s at))
    sums-other f = sums-step m (rw (sym is ∙ f) (omega arith))

pub sums-end : (w : RefName) (n : ℕ) (x : Answer (List Ref)) → x ≡ accepted [] → Ok n ≡ plus n (behind_of w x)
unfolding behind_of
sums-end w n x e = ap Ok (omega arith) ∙ ap (λ (y : Answer (List Ref)). plus n (behind_of w y)) (sym e)

pub sums-fault : (w : RefName) (n refusal : ℕ) (x : Answer (List Ref)) → x ≡ refused refusal → denied refusal ≡ plus n (behind_of w x)
unfolding behind_of
sums-fault w n refusal x e = ap (λ (y : Answer (List Ref)). plus n (behind_of w y)) (sym e)

-- ---- up to the first wanted one

-- a scan that found it, by what those behind it count
abbrev pub first_of : Found → Result ℕ Refusal → Result (Option First) Refusal
first_of found (Ok behind) = Ok (Some (record { found = found; behind = behind }))
first_of found (Err refusal) = Err refusal

module _ (w : RefName) (at : ℕ) (r : Ref) where
  other-cons : (x : Answer (List Ref)) → is_wanted w r ≡ false → drop_scan_of w (at + ref_size_of r) x ≡ drop_scan_of w at (bind x (λ refs. accepted (r ∷ refs)))
  unfolding drop_scan_of bind drop_walk
  other-cons (refused refusal) f = refl
  other-cons absent f = refl
  other-cons remove f = refl
  other-cons (accepted refs) f = rw f refl

  first-cons : (x : Answer (List Ref)) → is_wanted w r ≡ true
      → first_of (found_at at (at + ref_size_of r) r) (behind_of w x) ≡ drop_scan_of w at (bind x (λ refs. accepted (r ∷ refs)))
  unfolding drop_scan_of bind drop_walk behind_of
  first-cons (refused refusal) t = refl
  first-cons absent t = refl
  first-cons remove t = refl
  first-cons (accepted refs) t = rw t refl

module _ (w : RefName) (s : List ℕ) (at k p n q next : ℕ) (h : At s at k p n q next) (b : Bool) (is : b ≡ is_wanted w (ref_at k (drop p s))) where
  behind-it : at + ref_size_of (ref_at k (drop p s)) ≡ next
  unfolding ref_size_of ref_at
  behind-it = omega (arith, h.further, h.long)

  pub drop-other : b ≡ false → drop_scan_of w next (read_from s next) ≡ drop_scan_of w at (read_from s at)
  drop-other f =
      ap (λ (m : ℕ). drop_scan_of w m (read_from s next)) (sym behind-it)
      ∙ other-cons w at (ref_at k (drop p s)) (read_from s next) (sym is ∙ f)
      ∙ ap (drop_scan_of w at) (sym h.reads)

  pub drop-first : (f : Found) (r : Result ℕ Refusal) → b ≡ true → f ≡ found_at at next (ref_at k (drop p s)) → r ≡ behind_of w (read_from s next)
      → first_of f r ≡ drop_scan_of w at (read_from s at)
  drop-first f r t e q =
      ap₂ first_of e q
      ∙ ap (λ (m : ℕ). first_of (found_at at m (ref_at k (drop p s))) (behind_of w (read_from s next))) (sym behind-it)
      ∙ first-cons w at (ref_at k (drop p s)) (read_from s next) (sym is ∙ t)
      ∙ ap (drop_scan_of w at) (sym h.reads)

pub drop-end : (w : RefName) (at : ℕ) (x : Answer (List Ref)) → x ≡ accepted [] → Ok None ≡ drop_scan_of w at x
unfolding drop_scan_of drop_walk
drop-end w at x e = rw e refl

pub drop-fault : (w : RefName) (at n : ℕ) (x : Answer (List Ref)) → x ≡ refused n → denied n ≡ drop_scan_of w at x
unfolding drop_scan_of
drop-fault w at n x e = rw e refl

-- ---- from where the references start

module _ (type : ℕ) (s : List ℕ) (w : RefName) where
  pub drop-opened : (start : ℕ) {scan : Result (Option First) Refusal} → Ok start ≡ open_of type s → scan ≡ drop_scan_of w start (read_from s start)
      → scan ≡ drop_scan_of w (start_of type s) (refs_in type s)
  drop-opened start o e = let b = opens type s _ o in e ∙ ap₂ (drop_scan_of w) b.at (sym b.reads)

  pub drop-shut : (n : ℕ) → denied n ≡ open_of type s → denied n ≡ drop_scan_of w (start_of type s) (refs_in type s)
  drop-shut n o = drop-fault w _ n _ (opens type s _ o)
