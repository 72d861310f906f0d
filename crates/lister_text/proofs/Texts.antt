-- Laws of the lines, each from its parts. Assumes nothing.
use mathlib.Core.Path.{◌≡◌, refl, sym, ap, ◌∙◌}
use mathlib.Core.Bool.{cond}
use mathlib.Core.List.{List, [], ◌∷◌, ◌++◌, append_assoc}
use Prim.Native.Nat.{ℕ, ◌+◌, ◌*◌, ◌/◌, ◌≤◌, ◌<◌}
use native.Mathlib.Omega.{arith}
use lib.Dec.{T}
use lib.ListN.{length, drop, length-append}
use borrow.Author.Tests.{le-leb, lt-leb}
use Rattle.std.specs.Prelude.{Option, Result, Ok, Err, IsOk}
use Rattle.fields.proofs.Lists.{by-test}
use Rattle.fields.specs.Numbers.{le, words}
use Rattle.fields.specs.Parts.{part}
use Rattle.fields.proofs.Numbers.{length-words}
use Rattle.format.specs.declared.Refusal.{Refusal}
use Rattle.format.specs.Questions.{Answer, refused, accepted, bind}
use Rattle.format.specs.References.{known, payload_length, count_position, counted, field_count, Ref, ref_at, total_of, flags_of}
use Rattle.format.specs.Lister.{digits, line, ref_line, ref_lines, printed}
use Rattle.format.proofs.Answers.{refused-not, bind_ok}
use Rattle.format.proofs.Rows.{payload-fields, some-field}
use Rattle.inline_refs.specs.declared.step.RefAt.{RefAt}
use Rattle.inline_refs.specs.Steps.{ref_step_at, read_from}
use Rattle.inline_refs.proofs.Steps.{At, stopped}
use Rattle.text.specs.Numbers.{spaced}
use Rattle.text.specs.Puts.{Put}
use Rattle.lister_text.specs.Refs.{ReadIn, ReadsOn, refs_of}
use Rattle.text.proofs.Numbers.{digits-short, spaced-append, spaced-short, line-is}
use Rattle.text.proofs.Writes.{put_is, put_then}

-- ---- the line of a refusal

pub put-refusal : (n : ℕ) {a b next : ℕ} {old half third new : List ℕ}
    → Put (114 ∷ 101 ∷ 102 ∷ 117 ∷ 115 ∷ 101 ∷ 100 ∷ 32 ∷ []) 0 old a half
    → Put (digits 20 n) a half b third
    → Put (10 ∷ []) b third next new
    → Put (printed (refused n)) 0 old next new
unfolding printed line
put-refusal n p q s = put_then p (put_then q s)

-- ---- the first line

-- a number, then others
spaced-then : (n : ℕ) (a more : List ℕ) → spaced (n ∷ []) ++ (spaced a ++ more) ≡ spaced (n ∷ a) ++ more
spaced-then n a more =
    sym (append_assoc (spaced (n ∷ [])) (spaced a) more) ∙ ap (λ (l : List ℕ). l ++ more) (sym (spaced-append (n ∷ []) a))

head-is : (s t f n : ℕ)
    → digits 20 s ++ (spaced (t ∷ []) ++ (spaced (f ∷ []) ++ (spaced (n ∷ []) ++ 10 ∷ []))) ≡ line (s ∷ t ∷ f ∷ n ∷ [])
head-is s t f n =
    ap (λ (l : List ℕ). digits 20 s ++ (spaced (t ∷ []) ++ l)) (spaced-then f (n ∷ []) (10 ∷ []))
    ∙ ap (λ (l : List ℕ). digits 20 s ++ l) (spaced-then t (f ∷ n ∷ []) (10 ∷ []))
    ∙ sym (line-is s (t ∷ f ∷ n ∷ []))

module _ (s t f n : ℕ) (body : List ℕ) {a b d e next : ℕ} {old o₁ o₂ o₃ o₄ new : List ℕ} where
  pub put-head : f ≡ le (part 16 8 body) → t ≡ le (part 0 8 body)
      → Put (digits 20 s) 0 old a o₁
      → Put (spaced (t ∷ [])) a o₁ b o₂
      → Put (spaced (f ∷ [])) b o₂ d o₃
      → Put (spaced (n ∷ [])) d o₃ e o₄
      → Put (10 ∷ []) e o₄ next new
      → Put (line (s ∷ total_of body ∷ flags_of body ∷ n ∷ [])) 0 old next new
  unfolding total_of flags_of
  put-head ef et p₁ p₂ p₃ p₄ p₅ =
      put_is (head-is s t f n ∙ ap (λ (x : ℕ). line (s ∷ x ∷ f ∷ n ∷ [])) et ∙ ap (λ (x : ℕ). line (s ∷ le (part 0 8 body) ∷ x ∷ n ∷ [])) ef)
      (put_then p₁ (put_then p₂ (put_then p₃ (put_then p₄ p₅))))

-- ---- the line of a reference

module _ (k : ℕ) where
  pub fields-before : (count : ℕ) → count ≡ count_position k → 0 < count → count / 8 ≡ field_count k
  unfolding field_count counted
  fields-before count e h =
      let c : 1 ≤ count_position k = omega arith in
      ap (λ (n : ℕ). n / 8) e ∙ simp (le-leb _ _ c)

  pub fields-all : (size count : ℕ) → size ≡ payload_length k → count ≡ count_position k → (0 < count → ⊥) → size / 8 ≡ field_count k
  unfolding field_count counted
  fields-all size count s e h =
      let c : count_position k < 1 = omega arith in
      ap (λ (n : ℕ). n / 8) s ∙ simp (lt-leb _ _ c)

  pub no-count : (count : ℕ) (a : List ℕ) → count ≡ count_position k → count ≡ 0 → [] ≡ spaced (cond (counted k) a [])
  unfolding counted spaced
  no-count count a e z =
      let c : count_position k < 1 = omega arith in
      simp (lt-leb _ _ c)

  pub some-count : (count : ℕ) (a : List ℕ) → count ≡ count_position k → (count ≡ 0 → ⊥) → spaced a ≡ spaced (cond (counted k) a [])
  unfolding counted
  some-count count a e z =
      let c : 1 ≤ count_position k = omega arith in
      simp (le-leb _ _ c)

  count-one : (w : ℕ) → length (cond (counted k) (w ∷ []) []) ≤ 1
  count-one w = by-test (counted k) (λ y. rw y (omega arith)) (λ y. rw y (omega arith))

  count-four : (w : ℕ) → 4 * length (cond (counted k) (w ∷ []) []) ≡ cond (counted k) 4 0
  count-four w = by-test (counted k) (λ y. rw y refl) (λ y. rw y refl)

ref-is : (r : Ref)
    → digits 20 r.kind ++ (spaced r.fields ++ (spaced (cond (counted r.kind) (r.weight ∷ []) []) ++ 10 ∷ [])) ≡ ref_line r
unfolding ref_line
ref-is r =
    let c : List ℕ = cond (counted r.kind) (r.weight ∷ []) [] in
    ap (λ (l : List ℕ). digits 20 r.kind ++ l) (sym (append_assoc (spaced r.fields) (spaced c) (10 ∷ [])))
    ∙ ap (λ (l : List ℕ). digits 20 r.kind ++ (l ++ 10 ∷ [])) (sym (spaced-append r.fields c))
    ∙ sym (line-is r.kind (r.fields ++ c))

module _ (k many : ℕ) (l : List ℕ) {at a b d next : ℕ} {old o₁ o₂ o₃ new : List ℕ} where
  pub put-line : many ≡ field_count k
      → Put (digits 20 k) at old a o₁
      → Put (spaced (words many l)) a o₁ b o₂
      → Put (spaced (cond (counted k) ((ref_at k l).weight ∷ []) [])) b o₂ d o₃
      → Put (10 ∷ []) d o₃ next new
      → Put (ref_line (ref_at k l)) at old next new
  unfolding ref_at
  put-line e p₁ p₂ p₃ p₄ =
      put_is (ref-is (ref_at k l)) (put_then p₁ (put_then (put_is (ap (λ (n : ℕ). spaced (words n l)) e) p₂) (put_then p₃ p₄)))

-- at most five bytes of text for a byte of the body
pub ref-short : (k : ℕ) (l : List ℕ) → T (known k) → length (ref_line (ref_at k l)) ≤ 5 * (1 + payload_length k)
unfolding ref_at
ref-short k l t =
    let r : Ref = ref_at k l in
    let c : List ℕ = cond (counted k) (r.weight ∷ []) [] in
    omega (
      arith,
      ap length (sym (ref-is r)),
      length-append (digits 20 k) (spaced r.fields ++ (spaced c ++ 10 ∷ [])),
      length-append (spaced r.fields) (spaced c ++ 10 ∷ []),
      length-append (spaced c) (10 ∷ []),
      digits-short 20 k,
      spaced-short r.fields,
      spaced-short c,
      length-words (field_count k) l,
      count-one k r.weight,
      count-four k r.weight,
      payload-fields k t,
      some-field k t,
    )

-- ---- one reference further

-- so no step refuses
pub no-fault : (s : List ℕ) (at : ℕ) (r : Result (Option RefAt) Refusal) → r ≡ ref_step_at s at → ReadsOn s at → IsOk r
no-fault s at (Ok step) e h = refl
no-fault s at (Err refusal) e h = refused-not (sym (stopped s at e refl) ∙ h)

pub read-in : (s : List ℕ) (at next : ℕ) (r : RefAt) → At s at r.kind r.start r.size r.count next → ReadIn s r
read-in s at next r h = record { kind_known = h.kind_known; long = h.long; count_at = h.count_at; inside = omega (arith, h.start, h.further, h.within) }

pub readable : (x : Answer (List Ref)) (refs : List Ref) → x ≡ accepted refs → x ≡ accepted (refs_of x)
unfolding refs_of
readable x refs e = e ∙ ap accepted (sym (ap refs_of e))

module _ (s : List ℕ) (at k p n q next : ℕ) (h : At s at k p n q next) (r : ReadsOn s at) where
  pub readable-next : ReadsOn s next
  readable-next = let w = bind_ok (read_from s next) _ (sym h.reads ∙ r) in readable (read_from s next) w.0 w.1

  pub lines_next : ref_lines (refs_of (read_from s at)) ≡ ref_line (ref_at k (drop p s)) ++ ref_lines (refs_of (read_from s next))
  unfolding refs_of ref_lines bind
  lines_next = ap (λ (x : Answer (List Ref)). ref_lines (refs_of x)) (h.reads ∙ ap (λ (x : Answer (List Ref)). bind x (λ refs. accepted (ref_at k (drop p s) ∷ refs))) readable-next)

pub lines_end : (x : Answer (List Ref)) → x ≡ accepted [] → ref_lines (refs_of x) ≡ []
unfolding refs_of ref_lines
lines_end x e = ap (λ (y : Answer (List Ref)). ref_lines (refs_of y)) e
