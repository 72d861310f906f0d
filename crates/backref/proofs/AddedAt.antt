-- Laws of a scanned body: what the scan says of the reading, and an edit of the references as a splice of the bytes.
-- Assumes nothing.
use mathlib.Core.Path.{◌≡◌, refl, sym, ap, subst, ◌∙◌}
use mathlib.Core.Bool.{true, false, ◌&&◌}
use mathlib.Core.List.{List, [], ◌∷◌, ◌++◌}
use Prim.Native.Nat.{ℕ, ◌+◌, ◌≤◌}
use native.Mathlib.Omega.{arith}
use lib.Dec.{T, eqb, leb, eqb→eq}
use lib.ListN.{length, take, length-append}
use mir.Facts.{and_yes}
use Rattle.std.specs.Prelude.{Result, Ok, Err}
use Rattle.format.specs.declared.Refusal.{Refusal}
use Rattle.fields.specs.Lists.{sum, all, same, first_cut}
use Rattle.fields.specs.Numbers.{le, le_bytes, are_bytes}
use Rattle.fields.specs.Parts.{part, written, spliced}
use Rattle.fields.proofs.Lists.{by-test, all_left, all_right, same-yes}
use Rattle.format.specs.Questions.{Answer, refused, accepted, ask, bind, denied}
use Rattle.format.specs.References.{Ref, make_ref, ref_bytes, refs_bytes, start_of, Body, body_with, read_body, body_bytes, total_of}
use Rattle.format.specs.Bodies.{body_fits, on_body, named}
use Rattle.format.proofs.Refs.{whole, length-ref_bytes, refs_bytes-append}
use Rattle.format.proofs.Bodies.{on-body, read-start, read-total, read-sound, body_bytes-read, length-body_bytes, start-least, ReadsBody, body, short, strange, cut_off, read_body-decides}
use Rattle.format.proofs.Splices.{body-edit}
use Rattle.inline_refs.specs.declared.ref_name.RefName.{RefName}
use Rattle.inline_refs.specs.declared.scan.Seen.{Seen}
use Rattle.inline_refs.specs.declared.scan.Seen.TheVariants.{Open}
use Rattle.inline_refs.specs.Scans.{kind_of, fields_of, is_wanted, ref_size_of, scan_of, refs_in}
use borrow.Author.Tests.{le-leb, leb-true}
use Rattle.inline_refs.proofs.Views.{Between, View, viewed}
use Rattle.backref.specs.declared.plan.Plan.{Plan}
use Rattle.backref.specs.declared.plan.Plan.TheVariants.{Edit}
use Rattle.backref.specs.Plans.{edited, Planned}
use Rattle.backref.proofs.Outcomes.{plan-edit}

-- ---- a body is read, or a question is answered "no"

pub data Decided (type : ℕ) (d : List ℕ) : Type 1 where
  readable : (b : Body) → length d ≤ 65535 → read_body type d ≡ accepted b → Decided type d
  faulty : (n : ℕ) → ((A : Type 0) (next : Body → Answer A) → on_body type d next ≡ refused n) → Decided type d

pub decide : (type : ℕ) (d : List ℕ) → Decided type d
unfolding on_body ask bind body_fits
decide type d =
    by-test (leb (length d) 65535)
    (λ y. go (leb-true _ _ y) (read_body-decides type d))
    (λ y. faulty 3 (λ A next. rw y refl))
  where
    go : length d ≤ 65535 → ReadsBody (read_body type d) → Decided type d
    go h (body b e) = readable b h e
    go h (short e) = faulty 6 (λ A next. simp (le-leb _ _ h, e))
    go h (strange e) = faulty 7 (λ A next. simp (le-leb _ _ h, e))
    go h (cut_off e) = faulty 8 (λ A next. simp (le-leb _ _ h, e))

-- ---- what a scan says

pub record ReadIn (type : ℕ) (d : List ℕ) (w : RefName) (place : ℕ) (seen : Seen) : Type 0 where
  pub from : Body
  pub fits : length d ≤ 65535
  pub read : read_body type d ≡ accepted from
  pub view : View w place (start_of type d) from.refs false seen

-- the total of the body that was read
pub total-read : (type : ℕ) (d : List ℕ) {w : RefName} {place : ℕ} {seen : Seen} (r : ReadIn type d w place seen) (t : ℕ) → t ≡ le (part 0 8 d) → r.from.total ≡ t
unfolding total_of
total-read type d r t e = sym (e ∙ read-total type d r.from r.read)

module _ (type : ℕ) (d : List ℕ) (w : RefName) (place : ℕ) where
  scan-other : {X : Type 0} (seen : Seen) (n : ℕ) → ◌≡◌ {A = Result Seen Refusal} (Ok seen) (denied n) → X
  scan-other seen n e = let z : ◌≡◌ {A = ℕ} 0 1 = cc in absurd (omega arith)

  pub scan-reads : (seen : Seen) → Ok seen ≡ scan_of w place (start_of type d) (Open false) (refs_in type d) → ReadIn type d w place seen
  unfolding scan_of refs_in
  scan-reads seen e = go (decide type d)
    where
      inner : {s t : Seen} → ◌≡◌ {A = Result Seen Refusal} (Ok s) (Ok t) → s ≡ t
      inner q = cc

      go : Decided type d → ReadIn type d w place seen
      go (readable b h q) = record {
        from = b;
        fits = h;
        read = q;
        view = viewed w place (start_of type d) b.refs seen (inner (rw (on-body type d b (λ x. accepted x.refs) h q) at e));
      }
      go (faulty n f) = scan-other seen n (rw (f (List Ref) (λ x. accepted x.refs)) at e)

  pub scan-faults : {A : Type 0} (n : ℕ) (next : Body → Answer A) → denied n ≡ scan_of w place (start_of type d) (Open false) (refs_in type d)
      → on_body type d next ≡ refused n
  unfolding scan_of refs_in
  scan-faults n next e = go (decide type d)
    where
      number_in : Result Seen Refusal → ℕ
      number_in (Ok seen) = 0
      number_in (Err refusal) = refusal.number

      inner : {s t : ℕ} → ◌≡◌ {A = Result Seen Refusal} (denied s) (denied t) → t ≡ s
      inner q = sym (ap number_in q)

      go : Decided type d → on_body type d next ≡ refused n
      go (readable b h q) = scan-other _ n (sym (rw (on-body type d b (λ x. accepted x.refs) h q) at e))
      go (faulty m f) = let z : m ≡ n = inner (rw (f (List Ref) (λ x. accepted x.refs)) at e) in f _ next ∙ ap refused z

-- ---- a part of the references, as bytes

span : (refs : List Ref) → T (all whole refs) → sum ref_size_of refs ≡ length (refs_bytes refs)
unfolding ref_size_of refs_bytes
span [] t = refl
span (r ∷ refs) t =
    let h = and_yes (whole r) _ t in
    omega (arith, span refs h.1, length-ref_bytes r h.0, length-append (ref_bytes r) (refs_bytes refs))

pub record Place (d : List ℕ) (b : Body) (front old back : List Ref) (p q : ℕ) : Type 0 where
  pub low : 8 ≤ p
  pub order : p ≤ q
  pub high : q ≤ length d
  pub edits : (t : ℕ) (new : List Ref) → body_bytes (body_with b t (front ++ (new ++ back))) ≡ written 0 (le_bytes 8 t) (spliced p q (refs_bytes new) d)

module _ (type : ℕ) (d : List ℕ) (b : Body) (bytes : T (are_bytes d)) (e : read_body type d ≡ accepted b) where
  pub ends : length d ≡ start_of type d + sum ref_size_of b.refs
  ends =
      omega (
        arith,
        ap length (body_bytes-read type d b bytes e),
        length-body_bytes b,
        read-start type d b e,
        span b.refs (read-sound type d b bytes e).wholes,
      )

  pub placed : (front old back : List Ref) (p q : ℕ) → Between (start_of type d) b.refs front old back p q → Place d b front old back p q
  placed front old back p q h =
      let w : T (all whole (front ++ (old ++ back))) = subst (λ (l : List Ref). T (all whole l)) h.same (read-sound type d b bytes e).wholes in
      let wr : T (all whole (old ++ back)) = all_right whole front (old ++ back) w in
      let sf : sum ref_size_of front ≡ length (refs_bytes front) = span front (all_left whole front (old ++ back) w) in
      let so : sum ref_size_of old ≡ length (refs_bytes old) = span old (all_left whole old back wr) in
      let st : start_of type d ≡ 8 + length b.fixed = read-start type d b e in
      let at : 8 + length b.fixed + length (refs_bytes front) ≡ p = omega (arith, h.from) in
      let to : p + length (refs_bytes old) ≡ q = omega (arith, h.to) in
      let long : length (refs_bytes b.refs) ≡ length (refs_bytes front) + (length (refs_bytes old) + length (refs_bytes back)) =
      ap length (ap refs_bytes h.same ∙ refs_bytes-append front (old ++ back))
      ∙ length-append (refs_bytes front) (refs_bytes (old ++ back))
      ∙ ap (λ (n : ℕ). length (refs_bytes front) + n) (ap length (refs_bytes-append old back) ∙ length-append (refs_bytes old) (refs_bytes back)) in
      record {
        low = omega (arith, start-least type d);
        order = omega arith;
        high = omega (arith, ap length (body_bytes-read type d b bytes e), length-body_bytes b);
        edits = λ t new. body-edit b t front old new back p q h.same at to
            ∙ ap (λ (l : List ℕ). written 0 (le_bytes 8 t) (spliced p q (refs_bytes new) l)) (body_bytes-read type d b bytes e);
      }

-- ---- a plan that edits there

abbrev pub plan_of : ℕ → ℕ → List ℕ → ℕ → ℕ → ℕ → Result Plan Refusal
plan_of p q new size t count = Ok (Edit (record { from = p; to = q; new = new; size = size; total = t; count = count }))

pub adding-plan : (plan : Result Plan Refusal) (d : List ℕ) (b : Body) (front old back : List Ref) (p q : ℕ) (bytes : List ℕ) (size t count : ℕ) (new : List Ref)
    (answer : Answer (List ℕ)) → Place d b front old back p q → length d ≤ 65535
    → plan ≡ plan_of p q bytes size t count
    → take size bytes ≡ refs_bytes new → length bytes ≡ 32 → size ≤ 29
    → answer ≡ accepted (body_bytes (body_with b t (front ++ (new ++ back))))
    → Planned plan d answer
unfolding edited
adding-plan plan d b front old back p q bytes size t count new answer h fits e first_cut full small is =
    plan-edit plan d answer _ (body_bytes (body_with b t (front ++ (new ++ back)))) e
    (record { low = h.low; order = h.order; high = h.high; fits = fits; small = small; full = full })
    is
    (h.edits t new ∙ ap (λ (l : List ℕ). written 0 (le_bytes 8 t) (spliced p q l d)) (sym first_cut))

-- ---- the wanted reference

pub wanted-is : (w : RefName) (r : Ref) (n : ℕ) → is_wanted w r ≡ true → make_ref r.kind r.fields n ≡ make_ref (kind_of w) (fields_of w) n
unfolding named
wanted-is w r n e =
    let t : T (eqb r.kind (kind_of w) && same r.fields (fields_of w)) = subst T (sym e) tt in
    let h = and_yes (eqb r.kind (kind_of w)) _ t in
    let k : r.kind ≡ kind_of w = eqb→eq _ _ h.0 in
    let f : r.fields ≡ fields_of w = same-yes r.fields (fields_of w) h.1 in
    λ i. make_ref (k i) (f i) n
