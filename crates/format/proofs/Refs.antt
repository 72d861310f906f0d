-- References as bytes: what is written is read back, what is read is written as it stood, and the steps of the reading.
-- Assumes nothing.
use mathlib.Core.Path.{◌≡◌, refl, sym, ap, ◌∙◌, subst}
use mathlib.Core.Logic.{◌⊎◌, inl, inr}
use mathlib.Core.Bool.{Bool, true, false, not, ◌&&◌, cond}
use mathlib.Core.List.{List, [], ◌∷◌, ◌++◌, append_assoc}
use Prim.Native.Nat.{ℕ, zero, suc, ◌+◌, ◌-◌, ◌*◌, ◌≤◌, ◌<◌}
use native.Mathlib.Omega.{arith}
use lib.Dec.{T, leb, ltb, eqb, eqb→eq, leb→le, le→leb, ltb→lt, lt→ltb}
use lib.ListN.{length, take, drop, length-append, length-drop, take-append-drop}
use lib.Seq.{take_at, drop_at, drop-drop}
use mir.Facts.{and_yes, yes_and, yes_eqb}
use Rattle.fields.specs.Lists.{all}
use Rattle.fields.specs.Numbers.{le, le_bytes, words, word_bytes, are_bytes}
use Rattle.fields.specs.Parts.{part}
use Rattle.fields.proofs.Lists.{cond_yes, cond_no}
use Rattle.fields.proofs.Numbers.{are_bytes-drop, are_bytes-part, are_bytes-append, are_bytes-le_bytes, are_bytes-word_bytes, length-le_bytes, length-word_bytes, le-bound, le-le_bytes, le_bytes-le-at, length-words, words-word_bytes, word_bytes-words, words-bound}
use Rattle.fields.proofs.Parts.{length_part}
use Rattle.format.specs.Questions.{Answer, refused, accepted, ask, bind}
use Rattle.format.specs.References.{known, payload_length, count_position, counted, field_count, Ref, weight_of, ref_at, read_refs, ref_bytes, refs_bytes}
use Rattle.format.specs.Bodies.{weighed}
use Rattle.format.proofs.Answers.{accepted-inj, ask-ok, ask-yes, bind_ok}
use Rattle.format.proofs.Rows.{payload-fields, count-after-fields, kind-small}

pub yes_or_no : (b : Bool) → T b ⊎ T (not b)
yes_or_no true = inl tt
yes_or_no false = inr tt

-- ---- whole references: those that a run of bytes can hold

unfoldable pub whole : Ref → Bool
whole r =
    known r.kind && eqb (length r.fields) (field_count r.kind) && all (λ w. ltb w 18446744073709551616) r.fields
    && cond (counted r.kind) (ltb r.weight 4294967296) (eqb r.weight (weight_of r.kind 0))

pub record Whole (r : Ref) : Type 0 where
  pub kind_known : T (known r.kind)
  pub fields_long : length r.fields ≡ field_count r.kind
  pub fields_small : T (all (λ w. ltb w 18446744073709551616) r.fields)
  pub weighs : T (counted r.kind) → r.weight < 4294967296
  pub weight_fixed : T (not (counted r.kind)) → r.weight ≡ weight_of r.kind 0

pub whole_out : (r : Ref) → T (whole r) → Whole r
unfolding whole
whole_out r t =
    let b₁ : Bool = known r.kind in
    let b₂ : Bool = b₁ && eqb (length r.fields) (field_count r.kind) in
    let b₃ : Bool = b₂ && all (λ w. ltb w 18446744073709551616) r.fields in
    let h₃ = and_yes b₃ _ t in
    let h₂ = and_yes b₂ (all (λ w. ltb w 18446744073709551616) r.fields) h₃.0 in
    let h₁ = and_yes b₁ (eqb (length r.fields) (field_count r.kind)) h₂.0 in
    record {
      kind_known = h₁.0;
      fields_long = eqb→eq _ _ h₁.1;
      fields_small = h₂.1;
      weighs = λ c. ltb→lt r.weight 4294967296
          (subst T (cond_yes (counted r.kind) (ltb r.weight 4294967296) (eqb r.weight (weight_of r.kind 0)) c) h₃.1);
      weight_fixed = λ c. eqb→eq r.weight (weight_of r.kind 0)
          (subst T (cond_no (counted r.kind) (ltb r.weight 4294967296) (eqb r.weight (weight_of r.kind 0)) c) h₃.1);
    }

pub whole_in : (r : Ref) → Whole r → T (whole r)
unfolding whole
whole_in r w =
    let b₁ : Bool = known r.kind in
    let b₂ : Bool = b₁ && eqb (length r.fields) (field_count r.kind) in
    let b₃ : Bool = b₂ && all (λ w. ltb w 18446744073709551616) r.fields in
    yes_and b₃ _ (yes_and b₂ _ (yes_and b₁ _ w.kind_known (yes_eqb w.fields_long)) w.fields_small)
    (go (counted r.kind) w.weighs w.weight_fixed)
  where
    go : (c : Bool) → (T c → r.weight < 4294967296) → (T (not c) → r.weight ≡ weight_of r.kind 0)
        → T (cond c (ltb r.weight 4294967296) (eqb r.weight (weight_of r.kind 0)))
    go true h k = lt→ltb r.weight 4294967296 (h tt)
    go false h k = yes_eqb (k tt)

-- ---- weights

pub weight_of-counted : (k n : ℕ) → T (counted k) → weight_of k n ≡ n
unfolding weight_of
weight_of-counted k n t = cond_yes (counted k) n _ t

pub weight_of-fixed : (k n m : ℕ) → T (not (counted k)) → weight_of k n ≡ weight_of k m
unfolding weight_of
weight_of-fixed k n m t = cond_no (counted k) n _ t ∙ sym (cond_no (counted k) m _ t)

-- without a count it is 1 at most
pub weight_of-least : (k n : ℕ) → T (not (counted k)) → weight_of k n ≤ 1
unfolding weight_of
weight_of-least k n t = rw (cond_no (counted k) n _ t) (go (eqb k 172))
  where
    go : (b : Bool) → cond b 0 1 ≤ 1
    go true = omega arith
    go false = omega arith

-- a whole reference's weight takes four bytes
pub weight-small : (r : Ref) → T (whole r) → r.weight < 4294967296
weight-small r t = go (yes_or_no (counted r.kind))
  where
    go : T (counted r.kind) ⊎ T (not (counted r.kind)) → r.weight < 4294967296
    go (inl u) = (whole_out r t).weighs u
    go (inr u) = omega (arith, (whole_out r t).weight_fixed u, weight_of-least r.kind 0 u)

-- with another weight a whole reference stays one
pub whole-weighed : (r : Ref) (v : ℕ) → T (whole r) → (T (counted r.kind) → v < 4294967296)
    → (T (not (counted r.kind)) → v ≡ r.weight) → T (whole (weighed r v))
whole-weighed r v t small fixed =
    let w = whole_out r t in
    whole_in (weighed r v)
    (record {
      kind_known = w.kind_known;
      fields_long = w.fields_long;
      fields_small = w.fields_small;
      weighs = small;
      weight_fixed = λ u. fixed u ∙ w.weight_fixed u;
    })

-- and with so much off its own: a type without a count has nothing to spare
pub whole-less : (r : Ref) (n : ℕ) → T (whole r) → n < r.weight → T (whole (weighed r (r.weight - n)))
whole-less r n t less =
    let w = whole_out r t in
    whole-weighed r (r.weight - n) t (λ u. omega (arith, w.weighs u))
    (λ u. omega (arith, w.weight_fixed u, weight_of-least r.kind 0 u))

-- ---- lengths

-- the count's bytes
abbrev pub count_bytes : Ref → List ℕ
count_bytes r = cond (counted r.kind) (le_bytes 4 r.weight) []

pub length-count_bytes : (r : Ref) → length (count_bytes r) ≡ cond (counted r.kind) 4 0
length-count_bytes r = go (counted r.kind)
  where
    go : (b : Bool) → length (cond b (le_bytes 4 r.weight) []) ≡ cond b 4 0
    go true = length-le_bytes 4 r.weight
    go false = refl

pub length-ref_bytes : (r : Ref) → T (whole r) → length (ref_bytes r) ≡ 1 + payload_length r.kind
unfolding ref_bytes
length-ref_bytes r t =
    let w : Whole r = whole_out r t in
    omega (
      arith,
      length-append (word_bytes r.fields) (count_bytes r),
      length-word_bytes r.fields,
      w.fields_long,
      length-count_bytes r,
      payload-fields r.kind w.kind_known,
    )

pub refs_bytes-append : (a b : List Ref) → refs_bytes (a ++ b) ≡ refs_bytes a ++ refs_bytes b
unfolding refs_bytes
refs_bytes-append [] b = refl
refs_bytes-append (r ∷ a) b =
    ap (λ (l : List ℕ). ref_bytes r ++ l) (refs_bytes-append a b) ∙ sym (append_assoc (ref_bytes r) (refs_bytes a) (refs_bytes b))

-- the bytes of references, grouped for reading
pub refs_bytes-cons : (r : Ref) (refs : List Ref)
    → refs_bytes (r ∷ refs) ≡ r.kind ∷ (word_bytes r.fields ++ (count_bytes r ++ refs_bytes refs))
unfolding refs_bytes ref_bytes
refs_bytes-cons r refs = ap (λ (l : List ℕ). r.kind ∷ l) (append_assoc (word_bytes r.fields) (count_bytes r) (refs_bytes refs))

pub are_bytes-count_bytes : (c : Bool) (n : ℕ) → T (are_bytes (cond c (le_bytes 4 n) []))
are_bytes-count_bytes true n = are_bytes-le_bytes 4 n
are_bytes-count_bytes false n = tt

pub are_bytes-ref_bytes : (r : Ref) → T (whole r) → T (are_bytes (ref_bytes r))
unfolding ref_bytes
are_bytes-ref_bytes r t =
    yes_and (ltb r.kind 256) _ (lt→ltb r.kind 256 (kind-small r.kind (whole_out r t).kind_known))
    (are_bytes-append (word_bytes r.fields) (count_bytes r) (are_bytes-word_bytes r.fields)
    (are_bytes-count_bytes (counted r.kind) r.weight))

pub are_bytes-refs_bytes : (refs : List Ref) → T (all whole refs) → T (are_bytes (refs_bytes refs))
unfolding refs_bytes
are_bytes-refs_bytes [] t = tt
are_bytes-refs_bytes (r ∷ refs) t =
    let h = and_yes (whole r) _ t in
    are_bytes-append (ref_bytes r) (refs_bytes refs) (are_bytes-ref_bytes r h.0) (are_bytes-refs_bytes refs h.1)

-- ---- the steps of the reading

pub read_refs-nil : (n : ℕ) → read_refs n [] ≡ accepted []
unfolding read_refs
read_refs-nil zero = refl
read_refs-nil (suc n) = refl

-- any number that is large enough gives the same
pub read_refs-enough : (n m : ℕ) (l : List ℕ) → length l ≤ n → length l ≤ m → read_refs n l ≡ read_refs m l
unfolding read_refs
read_refs-enough zero zero l h k = refl
read_refs-enough zero (suc m) [] h k = refl
read_refs-enough zero (suc m) (kind ∷ l) h k = absurd (omega arith)
read_refs-enough (suc n) zero [] h k = refl
read_refs-enough (suc n) zero (kind ∷ l) h k = absurd (omega arith)
read_refs-enough (suc n) (suc m) [] h k = refl
read_refs-enough (suc n) (suc m) (kind ∷ l) h k =
    let e = length-drop (payload_length kind) l in
    ap (λ (x : Answer (List Ref)). ask (known kind) 7 (ask (leb (payload_length kind) (length l)) 8
    (bind x (λ refs. accepted (ref_at kind l ∷ refs)))))
    (read_refs-enough n m (drop (payload_length kind) l) (omega arith) (omega arith))

pub read_refs-cons : (kind : ℕ) (bytes : List ℕ)
    → read_refs (suc (length bytes)) (kind ∷ bytes)
    ≡ ask (known kind) 7 (ask (leb (payload_length kind) (length bytes)) 8
    (bind (read_refs (length (drop (payload_length kind) bytes)) (drop (payload_length kind) bytes)) (λ refs. accepted (ref_at kind bytes ∷ refs))))
unfolding read_refs
read_refs-cons kind bytes =
    let e = length-drop (payload_length kind) bytes in
    let d : List ℕ = drop (payload_length kind) bytes in
    let s : length d ≤ length bytes = omega arith in
    let z : length d ≤ length d = omega arith in
    ap (λ (x : Answer (List Ref)). ask (known kind) 7 (ask (leb (payload_length kind) (length bytes)) 8
    (bind x (λ refs. accepted (ref_at kind bytes ∷ refs)))))
    (read_refs-enough (length bytes) (length d) d s z)

-- a known type and a whole payload, then the rest
pub read_refs-yes : (n kind : ℕ) (bytes : List ℕ) (refs : List Ref) → T (known kind) → payload_length kind ≤ length bytes
    → read_refs n (drop (payload_length kind) bytes) ≡ accepted refs
    → read_refs (suc n) (kind ∷ bytes) ≡ accepted (ref_at kind bytes ∷ refs)
unfolding read_refs bind
read_refs-yes n kind bytes refs t h e =
    ask-yes (known kind) 7 _ t
    ∙ ask-yes (leb (payload_length kind) (length bytes)) 8 _ (le→leb (payload_length kind) (length bytes) h)
    ∙ ap (λ (x : Answer (List Ref)). bind x (λ (y : List Ref). accepted (ref_at kind bytes ∷ y))) e

pub bind-refused : {A B : Type 0} (r : Answer A) (next : A → Answer B) (n : ℕ) → r ≡ refused n → bind r next ≡ refused n
unfolding bind
bind-refused r next n e = ap (λ x. bind x next) e

-- references, or 7 or 8
pub data Reads (answer : Answer (List Ref)) : Type 0 where
  read : (refs : List Ref) → answer ≡ accepted refs → Reads answer
  strange : answer ≡ refused 7 → Reads answer
  cut_off : answer ≡ refused 8 → Reads answer

pub read_refs-decides : (n : ℕ) (l : List ℕ) → Reads (read_refs n l)
unfolding read_refs ask bind
read_refs-decides zero l = read [] refl
read_refs-decides (suc n) [] = read [] refl
read_refs-decides (suc n) (kind ∷ bytes) =
    go (known kind) (leb (payload_length kind) (length bytes)) (read_refs n (drop (payload_length kind) bytes))
    (read_refs-decides n (drop (payload_length kind) bytes))
  where
    next : List Ref → Answer (List Ref)
    next refs = accepted (ref_at kind bytes ∷ refs)

    go : (b c : Bool) (r : Answer (List Ref)) → Reads r → Reads (ask b 7 (ask c 8 (bind r next)))
    go false c r h = strange refl
    go true false r h = cut_off refl
    go true true r (read refs e) = read (ref_at kind bytes ∷ refs) (ap (λ x. bind x next) e)
    go true true r (strange e) = strange (bind-refused r next 7 e)
    go true true r (cut_off e) = cut_off (bind-refused r next 8 e)

-- ---- written and read back

module _ (r : Ref) (w : Whole r) (more : List ℕ) where
  back_fields : words (field_count r.kind) (word_bytes r.fields ++ (count_bytes r ++ more)) ≡ r.fields
  back_fields =
      ap (λ (n : ℕ). words n (word_bytes r.fields ++ (count_bytes r ++ more))) (sym w.fields_long)
      ∙ words-word_bytes r.fields (count_bytes r ++ more) w.fields_small

  back_count : T (counted r.kind) → part (count_position r.kind) 4 (word_bytes r.fields ++ (count_bytes r ++ more)) ≡ le_bytes 4 r.weight
  back_count t =
      let at : length (word_bytes r.fields) ≡ count_position r.kind =
      omega (arith, length-word_bytes r.fields, w.fields_long, count-after-fields r.kind t) in
      ap (take 4) (drop_at (word_bytes r.fields) (count_bytes r ++ more) (count_position r.kind) at)
      ∙ ap (λ (l : List ℕ). take 4 (l ++ more)) (cond_yes (counted r.kind) (le_bytes 4 r.weight) [] t)
      ∙ take_at (le_bytes 4 r.weight) more 4 (length-le_bytes 4 r.weight)

  back-weight : T (counted r.kind) ⊎ T (not (counted r.kind))
      → weight_of r.kind (le (part (count_position r.kind) 4 (word_bytes r.fields ++ (count_bytes r ++ more)))) ≡ r.weight
  back-weight (inl t) =
      weight_of-counted r.kind _ t ∙ ap le (back_count t) ∙ le-le_bytes 4 r.weight (w.weighs t)
  back-weight (inr t) = weight_of-fixed r.kind _ 0 t ∙ sym (w.weight_fixed t)

  back-ref : ref_at r.kind (word_bytes r.fields ++ (count_bytes r ++ more)) ≡ r
  unfolding ref_at
  back-ref =
      let e₁ = back_fields in
      let e₂ = back-weight (yes_or_no (counted r.kind)) in
      λ i. record { kind = r.kind; fields = e₁ i; weight = e₂ i }

  back-length : length (word_bytes r.fields ++ count_bytes r) ≡ payload_length r.kind
  back-length =
      omega (
        arith,
        length-append (word_bytes r.fields) (count_bytes r),
        length-word_bytes r.fields,
        w.fields_long,
        length-count_bytes r,
        payload-fields r.kind w.kind_known,
      )

  back-drop : drop (payload_length r.kind) (word_bytes r.fields ++ (count_bytes r ++ more)) ≡ more
  back-drop =
      rw (← append_assoc (word_bytes r.fields) (count_bytes r) more)
      (drop_at (word_bytes r.fields ++ count_bytes r) more (payload_length r.kind) back-length)

  back-room : payload_length r.kind ≤ length (word_bytes r.fields ++ (count_bytes r ++ more))
  back-room =
      omega (
        arith,
        back-length,
        length-append (word_bytes r.fields) (count_bytes r),
        length-append (word_bytes r.fields) (count_bytes r ++ more),
        length-append (count_bytes r) more,
      )

pub read-refs_bytes : (n : ℕ) (refs : List Ref) → T (all whole refs) → length (refs_bytes refs) ≤ n
    → read_refs n (refs_bytes refs) ≡ accepted refs
unfolding read_refs refs_bytes
read-refs_bytes zero [] t h = refl
read-refs_bytes (suc n) [] t h = refl
read-refs_bytes zero (r ∷ refs) t h = absurd (let e = ap length (refs_bytes-cons r refs) in omega arith)
read-refs_bytes (suc n) (r ∷ refs) t h =
    let k = and_yes (whole r) _ t in
    let w : Whole r = whole_out r k.0 in
    let more : List ℕ = refs_bytes refs in
    let e = ap length (refs_bytes-cons r refs) in
    let e₁ = length-append (word_bytes r.fields) (count_bytes r ++ more) in
    let e₂ = length-append (count_bytes r) more in
    let ih : read_refs n more ≡ accepted refs = read-refs_bytes n refs k.1 (omega arith) in
    ap (read_refs (suc n)) (refs_bytes-cons r refs)
    ∙ read_refs-yes n r.kind (word_bytes r.fields ++ (count_bytes r ++ more)) refs w.kind_known (back-room r w more)
    (ap (read_refs n) (back-drop r w more) ∙ ih)
    ∙ ap (λ (x : Ref). accepted (x ∷ refs)) (back-ref r w more)

-- ---- read and written again

-- the bytes of the fields, and of the count where there is one, are inside the payload
pub fields-inside : (kind : ℕ) (l : List ℕ) → T (known kind) → payload_length kind ≤ length l → 8 * field_count kind ≤ length l
fields-inside kind l t h = omega (arith, payload-fields kind t)

pub count-inside : (kind : ℕ) (l : List ℕ) → T (known kind) → T (counted kind) → payload_length kind ≤ length l
    → count_position kind + 4 ≤ length l
count-inside kind l t c h =
    let e : ◌≡◌ {A = ℕ} (cond (counted kind) 4 0) 4 = cond_yes (counted kind) 4 0 c in
    omega (arith, payload-fields kind t, count-after-fields kind c)

pub ref_at-whole : (kind : ℕ) (l : List ℕ) → T (are_bytes l) → T (known kind) → payload_length kind ≤ length l → T (whole (ref_at kind l))
unfolding ref_at
ref_at-whole kind l b t h =
    whole_in (ref_at kind l)
    (record {
      kind_known = t;
      fields_long = length-words (field_count kind) l;
      fields_small = words-bound (field_count kind) l (fields-inside kind l t h) b;
      weighs = λ c.
          let e : length (part (count_position kind) 4 l) ≡ 4 = length_part 4 (count_position kind) l (count-inside kind l t c h) in
          rw (weight_of-counted kind (le (part (count_position kind) 4 l)) c)
          (rw e at (le-bound (part (count_position kind) 4 l) (are_bytes-part (count_position kind) 4 l b)));
      weight_fixed = λ c. weight_of-fixed kind _ 0 c;
    })

pub read_refs-whole : (n : ℕ) (l : List ℕ) (refs : List Ref) → T (are_bytes l) → read_refs n l ≡ accepted refs → T (all whole refs)
unfolding read_refs
read_refs-whole zero l refs t e = rw (← accepted-inj e) tt
read_refs-whole (suc n) [] refs t e = rw (← accepted-inj e) tt
read_refs-whole (suc n) (kind ∷ l) refs t e =
    let b = and_yes (ltb kind 256) _ t in
    let d : List ℕ = drop (payload_length kind) l in
    let h₁ = ask-ok (known kind) 7 _ e in
    let h₂ = ask-ok (leb (payload_length kind) (length l)) 8 _ h₁.1 in
    let h₃ = bind_ok (read_refs n d) _ h₂.1 in
    let ih = read_refs-whole n d h₃.0 (are_bytes-drop (payload_length kind) l b.1) h₃.1 in
    rw (← accepted-inj h₃.2)
    (yes_and (whole (ref_at kind l)) _ (ref_at-whole kind l b.1 h₁.0 (leb→le _ _ h₂.0)) ih)

-- the count's bytes and what follows the payload are what follows the fields
pub count-again : (kind : ℕ) (l : List ℕ) → T (are_bytes l) → T (known kind) → payload_length kind ≤ length l
    → T (counted kind) ⊎ T (not (counted kind))
    → count_bytes (ref_at kind l) ++ drop (payload_length kind) l ≡ drop (8 * field_count kind) l
unfolding ref_at
count-again kind l b t h (inl c) =
    let p : List ℕ = part (count_position kind) 4 l in
    let e : ◌≡◌ {A = ℕ} (cond (counted kind) 4 0) 4 = cond_yes (counted kind) 4 0 c in
    let long : payload_length kind ≡ count_position kind + 4 = omega (arith, payload-fields kind t, count-after-fields kind c) in
    let four : length p ≡ 4 = length_part 4 (count_position kind) l (count-inside kind l t c h) in
    let x : count_bytes (ref_at kind l) ≡ p =
    cond_yes (counted kind) (le_bytes 4 (weight_of kind (le p))) [] c
    ∙ ap (le_bytes 4) (weight_of-counted kind (le p) c) ∙ le_bytes-le-at 4 p four (are_bytes-part (count_position kind) 4 l b) in
    ap (λ (z : List ℕ). z ++ drop (payload_length kind) l) x
    ∙ ap (λ (n : ℕ). p ++ drop n l) long
    ∙ ap (λ (z : List ℕ). p ++ z) (sym (drop-drop 4 (count_position kind) l))
    ∙ take-append-drop 4 (drop (count_position kind) l)
    ∙ ap (λ (n : ℕ). drop n l) (count-after-fields kind c)
count-again kind l b t h (inr c) =
    let e : ◌≡◌ {A = ℕ} (cond (counted kind) 4 0) 0 = cond_no (counted kind) 4 0 c in
    let long : payload_length kind ≡ 8 * field_count kind = omega (arith, payload-fields kind t) in
    ap (λ (z : List ℕ). z ++ drop (payload_length kind) l) (cond_no (counted kind) (le_bytes 4 (ref_at kind l).weight) [] c)
    ∙ ap (λ (n : ℕ). drop n l) long

pub refs_bytes-read : (n : ℕ) (l : List ℕ) (refs : List Ref) → T (are_bytes l) → length l ≤ n → read_refs n l ≡ accepted refs
    → refs_bytes refs ≡ l
unfolding read_refs refs_bytes ref_at
refs_bytes-read zero [] refs t h e = ap refs_bytes (sym (accepted-inj e))
refs_bytes-read zero (kind ∷ l) refs t h e = absurd (omega arith)
refs_bytes-read (suc n) [] refs t h e = ap refs_bytes (sym (accepted-inj e))
refs_bytes-read (suc n) (kind ∷ l) refs t h e =
    let b = and_yes (ltb kind 256) _ t in
    let d : List ℕ = drop (payload_length kind) l in
    let s : length d ≤ n = omega (arith, length-drop (payload_length kind) l) in
    let h₁ = ask-ok (known kind) 7 _ e in
    let h₂ = ask-ok (leb (payload_length kind) (length l)) 8 _ h₁.1 in
    let h₃ = bind_ok (read_refs n d) _ h₂.1 in
    let room : payload_length kind ≤ length l = leb→le _ _ h₂.0 in
    let ih : refs_bytes h₃.0 ≡ d = refs_bytes-read n d h₃.0 (are_bytes-drop (payload_length kind) l b.1) s h₃.1 in
    ap refs_bytes (sym (accepted-inj h₃.2))
    ∙ again h₃.0 b.1 h₁.0 room ih
  where
    again : (rest : List Ref) → T (are_bytes l) → T (known kind) → payload_length kind ≤ length l
        → refs_bytes rest ≡ drop (payload_length kind) l
        → refs_bytes (ref_at kind l ∷ rest) ≡ kind ∷ l
    again rest b t room ih =
        refs_bytes-cons (ref_at kind l) rest
        ∙ ap (λ (z : List ℕ). kind ∷ (word_bytes (words (field_count kind) l) ++ (count_bytes (ref_at kind l) ++ z))) ih
        ∙ ap (λ (z : List ℕ). kind ∷ (word_bytes (words (field_count kind) l) ++ z))
        (count-again kind l b t room (yes_or_no (counted kind)))
        ∙ ap (λ (z : List ℕ). kind ∷ (z ++ drop (8 * field_count kind) l))
        (word_bytes-words (field_count kind) l (fields-inside kind l t room) b)
        ∙ ap (λ (z : List ℕ). kind ∷ z) (take-append-drop (8 * field_count kind) l)
