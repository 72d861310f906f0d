-- Laws of a reference by its number: one reference further, the ways out of the pass, and of the call. Assumes nothing.
use mathlib.Core.Path.{◌≡◌, refl, sym, ap, ap₂, subst, ◌∙◌}
use mathlib.Core.List.{List, [], ◌∷◌}
use Prim.Native.Nat.{ℕ, zero, suc, ◌+◌, ◌-◌, ◌≤◌}
use native.Mathlib.Omega.{arith}
use lib.Dec.{T}
use lib.ListN.{length, drop, get_or, get_elem?}
use Rattle.std.specs.Prelude.{Result, Ok, Err}
use Rattle.format.specs.declared.Refusal.{Refusal}
use Rattle.fields.specs.Numbers.{le}
use Rattle.fields.specs.Parts.{part}
use Rattle.fields.proofs.Numbers.{words-at}
use Rattle.format.specs.declared.InlineRef.{InlineRef}
use Rattle.format.specs.Questions.{Answer, refused, absent, remove, accepted, bind, needed, decides, told_of, denied}
use Rattle.format.specs.References.{payload_length, field_count, Ref, ref_at, start_of}
use Rattle.format.specs.Bodies.{positions, ref_numbered, inline_ref, inline_payload}
use Rattle.format.proofs.Answers.{accepted-inj, refused-not}
use Rattle.format.proofs.Refs.{read_refs-decides}
use Rattle.format.proofs.Decisions.{inline-ref-decides}
use Rattle.format.proofs.Rows.{payload-fields, some-field}
use Rattle.inline_refs.specs.Steps.{read_from}
use Rattle.inline_refs.specs.Scans.{refs_in, ref_count_of}
use Rattle.inline_refs.proofs.Steps.{At, ends-within}
use Rattle.inline_refs.proofs.Counts.{count-reads, fault-reads}
use Rattle.inline_refs.proofs.Notes.{Opens, on-refs}
use Rattle.backref.specs.Reads.{pick_in, Inside, start_in}
use Rattle.backref.proofs.RefPositions.{further}

-- a payload holds a field
pub field-inside : (s : List ℕ) (at k p n q next : ℕ) → At s at k p n q next → p + 8 ≤ length s
field-inside s at k p n q next h =
    omega (arith, ends-within s at k p n q next h, payload-fields k h.kind_known, some-field k h.kind_known)

-- the reference of that number, where the references stand at these positions
abbrev by : List ℕ → ℕ → List Ref → Answer InlineRef
by places index refs =
    bind (needed 5 (get_elem? refs index)) (λ r.
    accepted (record { kind = r.kind; offset = get_or r.fields 0 0; start = get_or places index 0 + 1; len = payload_length r.kind }))

by_next : (at : ℕ) (places : List ℕ) (r : Ref) (refs : List Ref) (left : ℕ) → (left ≡ 0 → ⊥) → by places (left - 1) refs ≡ by (at ∷ places) left (r ∷ refs)
by_next at places r refs zero h = absurd (h refl)
by_next at places r refs (suc left) h = let e : suc left - 1 ≡ left = omega arith in ap (λ (m : ℕ). by places m refs) e

-- ---- the pass

pub record Going (s : List ℕ) (start index at left : ℕ) : Type 0 where
  pub rest : List Ref
  pub reads : read_from s at ≡ accepted rest
  pub same : ref_numbered at left rest ≡ pick_in start index (read_from s start)

module _ (s : List ℕ) (start index : ℕ) where
  pub going-none : (count : ℕ) → Ok count ≡ ref_count_of (read_from s start) → Going s start index start index
  unfolding pick_in bind
  going-none count e =
      let w = count-reads (read_from s start) count e in
      record { rest = w.refs; reads = w.is; same = sym (ap (pick_in start index) w.is) }

  module _ (at left : ℕ) (g : Going s start index at left) where
    pub pick-ended : read_from s at ≡ accepted [] → denied 5 ≡ told_of (pick_in start index (read_from s start))
    unfolding ref_numbered bind needed told_of
    pick-ended e = ap (λ (l : List Ref). told_of (ref_numbered at left l)) (accepted-inj (sym e ∙ g.reads)) ∙ ap told_of g.same

    pub pick-fault : (m : ℕ) {X : Type 0} → read_from s at ≡ refused m → X
    pick-fault m e = refused-not (sym e ∙ g.reads)

    module _ (k p n q next : ℕ) (h : At s at k p n q next) where
      pub going_next : (left ≡ 0 → ⊥) → Going s start index next (left - 1)
      unfolding ref_numbered
      going_next more =
          let f = further s at k p n q next h g.rest g.reads in
          record {
            rest = f.others;
            reads = f.reads;
            same =
                by_next at (positions next f.others) (ref_at k (drop p s)) f.others left more
                ∙ sym (ap₂ (λ (a : List ℕ) (b : List Ref). by a left b) f.places f.is) ∙ g.same;
          }

      pub pick-found : (offset : ℕ) → left ≡ 0 → offset ≡ le (part p 8 s)
          → Ok (record { kind = k; offset = offset; start = p; len = n }) ≡ told_of (pick_in start index (read_from s start))
      unfolding ref_numbered bind needed told_of ref_at
      pick-found offset z e =
          let f = further s at k p n q next h g.rest g.reads in
          let first : offset ≡ get_or (ref_at k (drop p s)).fields 0 0 = e ∙ sym (words-at (field_count k) 0 (drop p s) (some-field k h.kind_known)) in
          let is : by (at ∷ positions next f.others) 0 (ref_at k (drop p s) ∷ f.others) ≡ ref_numbered at left g.rest =
          sym (ap₂ (λ (a : List ℕ) (b : List Ref). by a 0 b) f.places f.is) ∙ ap (λ (m : ℕ). ref_numbered at m g.rest) (sym z) in
          (λ i. Ok (record { kind = k; offset = first i; start = h.start i; len = h.long i })) ∙ ap told_of (is ∙ g.same)

-- ---- the call

-- a refusal has no payload
pub pick-denied : {p told : Result InlineRef Refusal} {x : Refusal} (size : ℕ) → p ≡ Err x → Err x ≡ told → (p ≡ told) × Inside p size
pick-denied size e h = (e ∙ h, subst (λ (q : Result InlineRef Refusal). Inside q size) (sym e) tt)

module _ (type : ℕ) (s : List ℕ) (index : ℕ) where
  calls : inline_ref type s index ≡ pick_in (start_of type s) index (refs_in type s)
  unfolding inline_ref pick_in
  calls = on-refs type s (ref_numbered (start_of type s) index)

  pub pick-shut : (m : ℕ) → refs_in type s ≡ refused m → denied m ≡ told_of (inline_ref type s index)
  unfolding pick_in bind told_of
  pick-shut m e = sym (ap told_of (calls ∙ ap (pick_in (start_of type s) index) e))

  module _ (start : ℕ) (o : Opens type s start) where
    pub pick-refused : (m : ℕ) → denied m ≡ ref_count_of (read_from s start) → denied m ≡ told_of (inline_ref type s index)
    unfolding read_from
    pick-refused m e = pick-shut m (o.reads ∙ fault-reads (read_from s start) m (read_refs-decides (length (drop start s)) (drop start s)) e)

    pub pick_is : told_of (pick_in start index (read_from s start)) ≡ told_of (inline_ref type s index)
    pick_is = ap told_of (ap₂ (λ (a : ℕ) (b : Answer (List Ref)). pick_in a index b) o.at (sym o.reads) ∙ sym calls)

-- ---- the payload

reference-not : {X : Type 0} {m : ℕ} {r : InlineRef} → ◌≡◌ {A = Result InlineRef Refusal} (denied m) (Ok r) → X
reference-not e = let z : ◌≡◌ {A = ℕ} 0 1 = cc in absurd (omega arith)

unpicked-inj : {m n : ℕ} → ◌≡◌ {A = Result InlineRef Refusal} (denied m) (denied n) → m ≡ n
unpicked-inj e = ap number_in e
  where
    number_in : Result InlineRef Refusal → ℕ
    number_in (Ok r) = 0
    number_in (Err refusal) = refusal.number

abbrev payload_in : List ℕ → Answer InlineRef → Answer (List ℕ)
payload_in s x = bind x (λ r. accepted (part r.start r.len s))

module _ (s : List ℕ) where
  nothing-in : (x : Answer InlineRef) (m : ℕ) → T (decides x) → denied m ≡ told_of x → payload_in s x ≡ refused m
  unfolding told_of bind
  nothing-in (refused n) m t e = ap refused (sym (unpicked-inj e))
  nothing-in absent m t e = absurd t
  nothing-in remove m t e = absurd t
  nothing-in (accepted r) m t e = reference-not e

  is-in : (x : Answer InlineRef) (r : InlineRef) → Ok r ≡ told_of x → x ≡ accepted r
  unfolding told_of
  is-in (refused n) r e = reference-not (sym e)
  is-in absent r e = reference-not (sym e)
  is-in remove r e = reference-not (sym e)
  is-in (accepted r') r e = let z : r ≡ r' = cc in ap accepted (sym z)

  module _ (type index : ℕ) where
    pub no_payload : (x : Refusal) → Err x ≡ told_of (inline_ref type s index) → inline_payload type s index ≡ refused x.number
    unfolding inline_payload
    no_payload x e = nothing-in (inline_ref type s index) x.number (inline-ref-decides type s index) e

    pub a-payload : (r : InlineRef) → Ok r ≡ told_of (inline_ref type s index)
        → (inline_payload type s index ≡ accepted (part r.start r.len s)) × (r.start ≡ start_in (inline_ref type s index))
    unfolding inline_payload bind
    a-payload r e =
        let x = is-in (inline_ref type s index) r e in
        (ap (payload_in s) x, sym (ap start_in x))
