-- Laws of the calls that add references, one for each way out. Assumes nothing.
use mathlib.Core.Path.{◌≡◌, refl, sym, ap, subst, ◌∙◌}
use mathlib.Core.Logic.{◌⊎◌, inl, inr}
use mathlib.Core.Bool.{Bool, true, false, not, ◌&&◌, ◌||◌}
use mathlib.Core.List.{List, [], ◌∷◌}
use Prim.Native.Nat.{ℕ, ◌+◌, ◌-◌, ◌^◌, ◌≤◌, ◌<◌}
use native.Mathlib.Omega.{arith}
use lib.Dec.{T, eqb, ltb}
use lib.ListN.{length, take}
use borrow.Author.Tests.{le-ltb, lt-ltb, ltb-true, ltb-false}
use Rattle.std.specs.Prelude.{Result, Ok, Err}
use Rattle.format.specs.declared.Refusal.{Refusal}
use Rattle.fields.specs.Lists.{all}
use Rattle.fields.specs.Numbers.{le, are_bytes}
use Rattle.fields.specs.Parts.{part}
use Rattle.fields.proofs.Lists.{by-test, lt-or}
use Rattle.format.specs.Questions.{Answer, refused, accepted, ask, bind, denied}
use Rattle.format.specs.References.{payload_length, counted, Ref, ref_bytes, start_of, rank_of, Body, body_with, read_body, body_bytes}
use Rattle.format.specs.Bodies.{on_body, shared_kind, weighed, raised_by, RefPosition, gap, standing, position_anywhere, is_gap, standing_weight, added_at, add_at, add_inline_data, add_inline_shared, keyed_at}
use Rattle.format.proofs.Bodies.{on-body}
use Rattle.format.proofs.Splices.{refs_bytes-one}
use Rattle.inline_refs.specs.declared.ref_name.RefName.{RefName}
use Rattle.inline_refs.specs.declared.ref_name.RefName.TheVariants.{Block, Data, SharedBlock, SharedData}
use Rattle.inline_refs.specs.declared.scan.Seen.{Seen}
use Rattle.inline_refs.specs.declared.scan.Seen.TheVariants.{Open, Gap, Hit, Late}
use Rattle.inline_refs.specs.declared.noted.Found.{Found}
use Rattle.inline_refs.specs.declared.noted.AddAt.{AddAt}
use Rattle.inline_refs.specs.declared.noted.AddAt.TheVariants.{Gap as NewAt, Standing}
use Rattle.inline_refs.specs.Scans.{kind_of, fields_of, scan_of, refs_in, add_anywhere, others_in}
use Rattle.inline_refs.proofs.Views.{View, any_others}
use Rattle.inline_refs.proofs.RefPositions.{PositionView, position-anywhere, position-by-scan}
use Rattle.backref.specs.declared.plan.Plan.{Plan}
use Rattle.backref.specs.Plans.{Planned}
use Rattle.backref.specs.ByName.{new_ref, own_rank, by_scan, position_of, add_at_of, PutsRef, Raised, raised_count, add_inline, add_keyed}
use Rattle.backref.proofs.NewBytes.{Holds, wanted-small}
use Rattle.backref.proofs.Outcomes.{plan-refused}
use Rattle.backref.proofs.PlannedTotals.{raised-yes, raised-no}
use Rattle.backref.proofs.AddedAt.{ReadIn, total-read, scan-faults, ends, placed, plan_of, adding-plan, wanted-is}

or-true : (b : Bool) → b || true ≡ true
or-true true = refl
or-true false = refl

-- ---- the count of a reference that stands, with the amount added

abbrev count-in : Result ℕ Refusal → ℕ
count-in (Ok n) = n
count-in (Err x) = x.number

abbrev pub NoCount : RefName → ℕ → ℕ → Refusal → Type 0
NoCount w x amount y =
    ((counted (kind_of w) ≡ false) × (y ≡ record { number = 9 })) ⊎ ((counted (kind_of w) ≡ true) × (4294967295 - amount < x) × (y ≡ record { number = 11 }))

module _ (w : RefName) (x amount : ℕ) (small : amount < 4294967296) where
  pub count-no : {y : Refusal} → Err y ≡ raised_count w x amount → NoCount w x amount y
  unfolding raised_count
  count-no {y} e =
      by-test (counted (kind_of w))
      (λ t. by-test (ltb (x + amount) (2 ^ 32))
      (λ l. let z : Err y ≡ Ok (x + amount) = rw (t, l) at e in let q : ◌≡◌ {A = ℕ} 0 1 = cc in absurd (omega arith))
      (λ l. let z : Err y ≡ denied {A = ℕ} 11 = rw (t, l) at e in let g : 2 ^ 32 ≤ x + amount = ltb-false _ _ l in inr (t, omega arith, ap (λ (n : ℕ). record { number = n }) (ap count-in z))))
      (λ f. let z : Err y ≡ denied {A = ℕ} 9 = rw f at e in inl (f, ap (λ (n : ℕ). record { number = n }) (ap count-in z)))

  pub count-to : {n : ℕ} → Ok n ≡ raised_count w x amount → (counted (kind_of w) ≡ true) × (x ≤ 4294967295 - amount) × (n ≡ x + amount)
  unfolding raised_count
  count-to {n} e =
      by-test (counted (kind_of w))
      (λ t. by-test (ltb (x + amount) (2 ^ 32))
      (λ l. let z : Ok n ≡ Ok (x + amount) = rw (t, l) at e in let g : x + amount < 2 ^ 32 = ltb-true _ _ l in (t, omega arith, ap count-in z))
      (λ l. let z : Ok n ≡ denied {A = ℕ} 11 = rw (t, l) at e in let q : ◌≡◌ {A = ℕ} 0 1 = cc in absurd (omega arith)))
      (λ f. let z : Ok n ≡ denied {A = ℕ} 9 = rw f at e in let q : ◌≡◌ {A = ℕ} 0 1 = cc in absurd (omega arith))

-- ---- the position

pub own-position : (type : ℕ) (d : List ℕ) (w : RefName) (rank : ℕ) (seen : Seen) (scans : Bool) (i : AddAt) → T (are_bytes d) → rank ≡ own_rank w
    → (r : ReadIn type d w rank seen) → i ≡ add_at_of scans (length d) seen
    → PositionView w (start_of type d) r.from.refs i (position_of scans w r.from.refs)
unfolding position_of add_at_of own_rank
own-position type d w rank seen true i b p r e =
    position-by-scan w rank (start_of type d) (length d) r.from.refs (ends type d r.from b r.read) p seen i e r.view
own-position type d w rank seen false i b p r e =
    subst (λ (n : ℕ). PositionView w (start_of type d) r.from.refs i (position_anywhere (kind_of w) (fields_of w) n r.from.refs)) p
    (position-anywhere w rank (start_of type d) (length d) r.from.refs (ends type d r.from b r.read) seen i e r.view)

pub any-position : (type : ℕ) (d : List ℕ) (w : RefName) (rank : ℕ) (seen : Seen) (i : AddAt) → T (are_bytes d)
    → (r : ReadIn type d w rank seen) → i ≡ add_anywhere (length d) seen
    → PositionView w (start_of type d) r.from.refs i (position_anywhere (kind_of w) (fields_of w) rank r.from.refs)
any-position type d w rank seen i b r e =
    position-anywhere w rank (start_of type d) (length d) r.from.refs (ends type d r.from b r.read) seen i e r.view

-- ---- the edit at a position

module _ (type : ℕ) (d : List ℕ) (w : RefName) (amount : ℕ) (plan : Result Plan Refusal) (b : Body) (fits : length d ≤ 65535) (read : read_body type d ≡ accepted b)
    (bytes : T (are_bytes d)) (t size : ℕ) (new : List ℕ) (s : size ≡ 1 + payload_length (kind_of w)) (answer : Answer (List ℕ)) where
  pub put-new : (p : ℕ) (position : RefPosition) → PositionView w (start_of type d) b.refs (NewAt p) position → Holds w amount new → plan ≡ plan_of p p new size t 0
      → answer ≡ accepted (body_bytes (body_with b t (added_at (new_ref w amount) position))) → Planned plan d answer
  put-new p (gap front back) v n o e =
      adding-plan plan d b front [] back p p new size t 0 (new_ref w amount ∷ []) answer (placed type d b bytes read front [] back p p v) fits o
      (ap (λ (m : ℕ). take m new) s ∙ n.front ∙ sym (refs_bytes-one (new_ref w amount))) n.long (wanted-small w size s) e
  put-new p (standing c) v n o e = absurd v

  pub put-more : (f : Found) (position : RefPosition) → PositionView w (start_of type d) b.refs (Standing f) position → Holds w (f.weight + amount) new
      → plan ≡ plan_of f.at f.next new size t 0
      → answer ≡ accepted (body_bytes (body_with b t (added_at (new_ref w amount) position))) → Planned plan d answer
  put-more f (gap front back) v n o e = absurd v
  put-more f (standing c) v n o e =
      let left : Ref = weighed c.hit (c.hit.weight + amount) in
      let same : left ≡ new_ref w (f.weight + amount) =
      wanted-is w c.hit (c.hit.weight + amount) v.wanted ∙ ap (λ (m : ℕ). new_ref w (m + amount)) (sym v.weighs) in
      adding-plan plan d b c.front (c.hit ∷ []) c.back f.at f.next new size t 0 (left ∷ []) answer
      (placed type d b bytes read c.front (c.hit ∷ []) c.back f.at f.next v.between) fits o
      (ap (λ (m : ℕ). take m new) s ∙ n.front ∙ sym (ap ref_bytes same) ∙ sym (refs_bytes-one left)) n.long (wanted-small w size s) e

-- ---- the questions of an added reference

module _ (start : ℕ) (refs : List Ref) (w : RefName) (amount : ℕ) (b : Body) where
  pub add-ten : (p : ℕ) (position : RefPosition) → PositionView w start refs (NewAt p) position → counted (kind_of w) || eqb amount 1 ≡ false
      → add_at b (new_ref w amount) position ≡ refused 10
  unfolding add_at ask is_gap
  add-ten p (gap front back) v h = simp (or-true, h)
  add-ten p (standing c) v h = absurd v

  pub add-gap : (p : ℕ) (position : RefPosition) → PositionView w start refs (NewAt p) position → counted (kind_of w) || eqb amount 1 ≡ true → amount < 4294967296
      → (a : Answer ℕ) → raised_by amount b.total ≡ a
      → add_at b (new_ref w amount) position ≡ bind a (λ total. accepted (body_bytes (body_with b total (added_at (new_ref w amount) position))))
  unfolding add_at ask is_gap standing_weight
  add-gap p (gap front back) v h k a e =
      let z : 0 + amount < 2 ^ 32 = omega arith in
      simp (or-true, h, lt-ltb _ _ z, e)
  add-gap p (standing c) v h k a e = absurd v

  pub add-nine : (f : Found) (position : RefPosition) → PositionView w start refs (Standing f) position → counted (kind_of w) ≡ false
      → add_at b (new_ref w amount) position ≡ refused 9
  unfolding add_at ask is_gap
  add-nine f (gap front back) v h = absurd v
  add-nine f (standing c) v h = simp h

  pub add-eleven : (f : Found) (position : RefPosition) → PositionView w start refs (Standing f) position → counted (kind_of w) ≡ true → 4294967295 - amount < f.weight
      → add_at b (new_ref w amount) position ≡ refused 11
  unfolding add_at ask is_gap standing_weight
  add-eleven f (gap front back) v h k = absurd v
  add-eleven f (standing c) v h k =
      let z : 2 ^ 32 ≤ c.hit.weight + amount = omega (arith, v.weighs) in
      simp (h, le-ltb _ _ z)

  pub add-standing : (f : Found) (position : RefPosition) → PositionView w start refs (Standing f) position → counted (kind_of w) ≡ true → f.weight ≤ 4294967295 - amount
      → amount < 4294967296 → (a : Answer ℕ) → raised_by amount b.total ≡ a
      → add_at b (new_ref w amount) position ≡ bind a (λ total. accepted (body_bytes (body_with b total (added_at (new_ref w amount) position))))
  unfolding add_at ask is_gap standing_weight
  add-standing f (gap front back) v h k l a e = absurd v
  add-standing f (standing c) v h k l a e =
      let z : c.hit.weight + amount < 2 ^ 32 = omega (arith, v.weighs) in
      simp (h, lt-ltb _ _ z, e)

-- the definition without cases
pub add_is : (type : ℕ) (d : List ℕ) (w : RefName) (amount : ℕ)
    → add_inline type d w amount ≡ on_body type d (λ b. add_at b (new_ref w amount) (position_of (by_scan w) w b.refs))
unfolding add_inline_data add_inline_shared shared_kind ask position_of own_rank rank_of kind_of fields_of
add_is type d (Block name) amount = refl
add_is type d (Data name) amount = refl
add_is type d (SharedBlock parent) amount = refl
add_is type d (SharedData parent) amount = refl

-- ---- the ways out of an add, from what the scan and its position say

module _ (type : ℕ) (d : List ℕ) (w : RefName) (rank amount : ℕ) (plan : Result Plan Refusal) (seen : Seen) (r : ReadIn type d w rank seen)
    (bytes : T (are_bytes d)) (own : rank ≡ own_rank w) where
  abbrev position : RefPosition
  position = position_of (by_scan w) w r.from.refs

  abbrev given : Answer (List ℕ)
  given = add_inline type d w amount

  given_is : given ≡ add_at r.from (new_ref w amount) position
  given_is = add_is type d w amount ∙ on-body type d r.from _ r.fits r.read

  abbrev adds_to : AddAt → Type 0
  adds_to i = PositionView w (start_of type d) r.from.refs i position

  view-of : (i : AddAt) → i ≡ add_at_of (by_scan w) (length d) seen → adds_to i
  view-of i e = own-position type d w rank seen (by_scan w) i bytes own r e

  module _ (p : ℕ) (i : NewAt p ≡ add_at_of (by_scan w) (length d) seen) where
    pub give-ten : counted (kind_of w) || eqb amount 1 ≡ false → plan ≡ denied 10 → Planned plan d given
    give-ten h o = plan-refused plan d given 10 o (given_is ∙ add-ten (start_of type d) r.from.refs w amount r.from p position (view-of (NewAt p) i) h)

    module _ (h : counted (kind_of w) || eqb amount 1 ≡ true) (small : amount < 4294967296) (t : ℕ) (is : t ≡ le (part 0 8 d)) where
      give-full : 18446744073709551615 - amount < t → plan ≡ denied 12 → Planned plan d given
      unfolding bind
      give-full k o =
          plan-refused plan d given 12 o
          (given_is ∙ add-gap (start_of type d) r.from.refs w amount r.from p position (view-of (NewAt p) i) h small (refused 12)
          (ap (raised_by amount) (total-read type d r t is) ∙ raised-no t amount k))

      give-new : (size : ℕ) (new : List ℕ) → t ≤ 18446744073709551615 - amount → size ≡ 1 + payload_length (kind_of w) → Holds w amount new
          → plan ≡ plan_of p p new size (t + amount) 0 → Planned plan d given
      unfolding bind
      give-new size new k s n o =
          put-new type d w amount plan r.from r.fits r.read bytes (t + amount) size new s given p position (view-of (NewAt p) i) n o
          (given_is ∙ add-gap (start_of type d) r.from.refs w amount r.from p position (view-of (NewAt p) i) h small (accepted (t + amount))
          (ap (raised_by amount) (total-read type d r t is) ∙ raised-yes t amount k (omega arith)))

      pub give-gap : Raised p p w amount t amount plan → Planned plan d given
      give-gap u = go (lt-or (18446744073709551615 - amount) t)
        where
          go : (18446744073709551615 - amount < t) ⊎ (t ≤ 18446744073709551615 - amount) → Planned plan d given
          go (inl k) = give-full k (u.full k)
          go (inr k) = let x = u.puts k in give-new _ _ k refl (record { front = x.2.front; long = x.2.long }) (x.1 ∙ ap Ok x.2.is)

  module _ (f : Found) (i : Standing f ≡ add_at_of (by_scan w) (length d) seen) where
    pub give-nine : counted (kind_of w) ≡ false → plan ≡ denied 9 → Planned plan d given
    give-nine h o = plan-refused plan d given 9 o (given_is ∙ add-nine (start_of type d) r.from.refs w amount r.from f position (view-of (Standing f) i) h)

    module _ (h : counted (kind_of w) ≡ true) where
      pub give-eleven : 4294967295 - amount < f.weight → plan ≡ denied 11 → Planned plan d given
      give-eleven k o =
          plan-refused plan d given 11 o
          (given_is ∙ add-eleven (start_of type d) r.from.refs w amount r.from f position (view-of (Standing f) i) h k)

      module _ (l : f.weight ≤ 4294967295 - amount) (small : amount < 4294967296) (t : ℕ) (is : t ≡ le (part 0 8 d)) where
        give-full-more : 18446744073709551615 - amount < t → plan ≡ denied 12 → Planned plan d given
        unfolding bind
        give-full-more k o =
            plan-refused plan d given 12 o
            (given_is ∙ add-standing (start_of type d) r.from.refs w amount r.from f position (view-of (Standing f) i) h l small (refused 12)
            (ap (raised_by amount) (total-read type d r t is) ∙ raised-no t amount k))

        give-more : (size : ℕ) (new : List ℕ) → t ≤ 18446744073709551615 - amount → size ≡ 1 + payload_length (kind_of w) → Holds w (f.weight + amount) new
            → plan ≡ plan_of f.at f.next new size (t + amount) 0 → Planned plan d given
        unfolding bind
        give-more size new k s n o =
            put-more type d w amount plan r.from r.fits r.read bytes (t + amount) size new s given f position (view-of (Standing f) i) n o
            (given_is ∙ add-standing (start_of type d) r.from.refs w amount r.from f position (view-of (Standing f) i) h l small (accepted (t + amount))
            (ap (raised_by amount) (total-read type d r t is) ∙ raised-yes t amount k (omega arith)))

        pub give-standing : Raised f.at f.next w (f.weight + amount) t amount plan → Planned plan d given
        give-standing u = go (lt-or (18446744073709551615 - amount) t)
          where
            go : (18446744073709551615 - amount < t) ⊎ (t ≤ 18446744073709551615 - amount) → Planned plan d given
            go (inl k) = give-full-more k (u.full k)
            go (inr k) = let x = u.puts k in give-more _ _ k refl (record { front = x.2.front; long = x.2.long }) (x.1 ∙ ap Ok x.2.is)

    pub give-no : {y : Refusal} → amount < 4294967296 → Err y ≡ raised_count w f.weight amount → plan ≡ Err y → Planned plan d given
    give-no {y} small e o = go (count-no w f.weight amount small e)
      where
        go : NoCount w f.weight amount y → Planned plan d given
        go (inl h) = give-nine h.0 (o ∙ ap Err h.1)
        go (inr h) = give-eleven h.0 h.1 (o ∙ ap Err h.2)

    pub give-count : (n t : ℕ) → Ok n ≡ raised_count w f.weight amount → amount < 4294967296 → t ≡ le (part 0 8 d)
        → Raised f.at f.next w n t amount plan → Planned plan d given
    give-count n t e small is u =
        let h = count-to w f.weight amount small e in
        give-standing h.0 h.1 small t is (subst (λ (m : ℕ). Raised f.at f.next w m t amount plan) h.2 u)

-- ---- the edit where the total holds the sum, and where it does not

module _ {from to : ℕ} {w : RefName} {count total amount : ℕ} {p : Result Plan Refusal} where
  pub raise-full : 18446744073709551615 - amount < total → p ≡ denied 12 → Raised from to w count total amount p
  raise-full h o = record { full = λ k. o; puts = λ k. absurd (omega arith) }

  pub raise-edit : (plan : Plan) → total ≤ 18446744073709551615 - amount → p ≡ Ok plan → PutsRef from to w count (total + amount) plan
      → Raised from to w count total amount p
  raise-edit plan h e q = record { full = λ k. absurd (omega arith); puts = λ k. (plan, e, q) }

pub give-fault : (type : ℕ) (d : List ℕ) (w : RefName) (rank amount n : ℕ) (plan : Result Plan Refusal)
    → denied n ≡ scan_of w rank (start_of type d) (Open false) (refs_in type d) → plan ≡ denied n → Planned plan d (add_inline type d w amount)
give-fault type d w rank amount n plan e o =
    plan-refused plan d (add_inline type d w amount) n o (add_is type d w amount ∙ scan-faults type d w rank n _ e)

-- ---- keyed references

all-not : (w : RefName) (rank : ℕ) (refs : List Ref) → all (λ s. not (eqb s.kind (kind_of w))) refs ≡ not (any_others w rank refs)
all-not w rank [] = refl
all-not w rank (r ∷ refs) = both (eqb r.kind (kind_of w)) _ _ (all-not w rank refs)
  where
    both : (a b c : Bool) → b ≡ not c → not a && b ≡ not (a || c)
    both true b c e = refl
    both false b c e = e

others-are : (w : RefName) (rank start end p : ℕ) (refs : List Ref) (seen : Seen) → View w rank start refs false seen → NewAt p ≡ add_anywhere end seen
    → others_in seen ≡ any_others w rank refs
unfolding others_in add_anywhere
others-are w rank start end p refs (Open others) v e = v.2
others-are w rank start end p refs (Gap at others) v e = v.2
others-are w rank start end p refs (Hit f) v e = let z : ◌≡◌ {A = ℕ} 0 1 = cc in absurd (omega arith)
others-are w rank start end p refs (Late g f) v e = let z : ◌≡◌ {A = ℕ} 0 1 = cc in absurd (omega arith)

ten : (c others al : Bool) → al ≡ not others → not c || not true || al ≡ not c || not others
ten true others al e = e
ten false others al e = refl

module _ (type : ℕ) (d : List ℕ) (w : RefName) (rank amount : ℕ) (plan : Result Plan Refusal) (seen : Seen) (r : ReadIn type d w rank seen)
    (bytes : T (are_bytes d)) where
  abbrev key_position : RefPosition
  key_position = position_anywhere (kind_of w) (fields_of w) rank r.from.refs

  abbrev keyed : Answer (List ℕ)
  keyed = add_keyed type d w rank amount

  abbrev key_answer : RefPosition → Answer (List ℕ)
  key_answer position = keyed_at r.from (new_ref w amount) position

  keyed-is : keyed ≡ key_answer key_position
  unfolding add_keyed
  keyed-is = on-body type d r.from _ r.fits r.read

  abbrev key_added : AddAt → RefPosition → Type 0
  key_added i position = PositionView w (start_of type d) r.from.refs i position

  key-view : (i : AddAt) → i ≡ add_anywhere (length d) seen → key_added i key_position
  key-view i e = any-position type d w rank seen i bytes r e

  done : RefPosition → Answer (List ℕ)
  done position = accepted (body_bytes (body_with r.from r.from.total (added_at (new_ref w amount) position)))

  gap-no : (p : ℕ) (position : RefPosition) → key_added (NewAt p) position → not (counted (kind_of w)) || not (any_others w rank r.from.refs) ≡ false → key_answer position ≡ refused 10
  unfolding keyed_at ask is_gap
  gap-no p (gap front back) v h = simp (or-true, ten (counted (kind_of w)) (any_others w rank r.from.refs) (all (λ s. not (eqb s.kind (kind_of w))) r.from.refs) (all-not w rank r.from.refs) ∙ h)
  gap-no p (standing c) v h = absurd v

  gap-yes : (p : ℕ) (position : RefPosition) → key_added (NewAt p) position → not (counted (kind_of w)) || not (any_others w rank r.from.refs) ≡ true → amount < 4294967296
      → key_answer position ≡ done position
  unfolding keyed_at ask is_gap standing_weight done
  gap-yes p (gap front back) v h k =
      let z : 0 + amount < 2 ^ 32 = omega arith in
      simp (or-true, ten (counted (kind_of w)) (any_others w rank r.from.refs) (all (λ s. not (eqb s.kind (kind_of w))) r.from.refs) (all-not w rank r.from.refs) ∙ h, lt-ltb _ _ z)
  gap-yes p (standing c) v h k = absurd v

  stands-nine : (f : Found) (position : RefPosition) → key_added (Standing f) position → counted (kind_of w) ≡ false → key_answer position ≡ refused 9
  unfolding keyed_at ask is_gap
  stands-nine f (gap front back) v h = absurd v
  stands-nine f (standing c) v h = simp h

  stands-eleven : (f : Found) (position : RefPosition) → key_added (Standing f) position → counted (kind_of w) ≡ true → 4294967295 - amount < f.weight → key_answer position ≡ refused 11
  unfolding keyed_at ask is_gap standing_weight
  stands-eleven f (gap front back) v h k = absurd v
  stands-eleven f (standing c) v h k =
      let z : 2 ^ 32 ≤ c.hit.weight + amount = omega (arith, v.weighs) in
      simp (h, le-ltb _ _ z)

  stands-yes : (f : Found) (position : RefPosition) → key_added (Standing f) position → counted (kind_of w) ≡ true → f.weight ≤ 4294967295 - amount → amount < 4294967296
      → key_answer position ≡ done position
  unfolding keyed_at ask is_gap standing_weight done
  stands-yes f (gap front back) v h k l = absurd v
  stands-yes f (standing c) v h k l =
      let z : c.hit.weight + amount < 2 ^ 32 = omega (arith, v.weighs) in
      simp (h, lt-ltb _ _ z)

  done_at : (t : ℕ) → t ≡ le (part 0 8 d) → (position : RefPosition) → done position ≡ accepted (body_bytes (body_with r.from t (added_at (new_ref w amount) position)))
  unfolding done
  done_at t e position = ap (λ (n : ℕ). accepted (body_bytes (body_with r.from n (added_at (new_ref w amount) position)))) (total-read type d r t e)

  module _ (p : ℕ) (i : NewAt p ≡ add_anywhere (length d) seen) (others : Bool) (k : others ≡ others_in seen) where
    others-here : others ≡ any_others w rank r.from.refs
    others-here = k ∙ others-are w rank (start_of type d) (length d) p r.from.refs seen r.view i

    pub key-ten : not (counted (kind_of w)) || not others ≡ false → plan ≡ denied 10 → Planned plan d keyed
    key-ten h o = plan-refused plan d keyed 10 o (keyed-is ∙ gap-no p key_position (key-view (NewAt p) i) (rw others-here at h))

    pub key-new : (t size : ℕ) (new : List ℕ) → not (counted (kind_of w)) || not others ≡ true → amount < 4294967296 → t ≡ le (part 0 8 d)
        → size ≡ 1 + payload_length (kind_of w) → Holds w amount new → plan ≡ plan_of p p new size t 0 → Planned plan d keyed
    key-new t size new h small e s n o =
        put-new type d w amount plan r.from r.fits r.read bytes t size new s keyed p key_position (key-view (NewAt p) i) n o
        (keyed-is ∙ gap-yes p key_position (key-view (NewAt p) i) (rw others-here at h) small ∙ done_at t e key_position)

  module _ (f : Found) (i : Standing f ≡ add_anywhere (length d) seen) where
    pub key-nine : counted (kind_of w) ≡ false → plan ≡ denied 9 → Planned plan d keyed
    key-nine h o = plan-refused plan d keyed 9 o (keyed-is ∙ stands-nine f key_position (key-view (Standing f) i) h)

    pub key-eleven : counted (kind_of w) ≡ true → 4294967295 - amount < f.weight → plan ≡ denied 11 → Planned plan d keyed
    key-eleven h k o = plan-refused plan d keyed 11 o (keyed-is ∙ stands-eleven f key_position (key-view (Standing f) i) h k)

    pub key_more : (t size : ℕ) (new : List ℕ) → counted (kind_of w) ≡ true → f.weight ≤ 4294967295 - amount → amount < 4294967296 → t ≡ le (part 0 8 d)
        → size ≡ 1 + payload_length (kind_of w) → Holds w (f.weight + amount) new → plan ≡ plan_of f.at f.next new size t 0 → Planned plan d keyed
    key_more t size new h k small e s n o =
        put-more type d w amount plan r.from r.fits r.read bytes t size new s keyed f key_position (key-view (Standing f) i) n o
        (keyed-is ∙ stands-yes f key_position (key-view (Standing f) i) h k small ∙ done_at t e key_position)

    pub key-no : {y : Refusal} → amount < 4294967296 → Err y ≡ raised_count w f.weight amount → plan ≡ Err y → Planned plan d keyed
    key-no {y} small e o = go (count-no w f.weight amount small e)
      where
        go : NoCount w f.weight amount y → Planned plan d keyed
        go (inl h) = key-nine h.0 (o ∙ ap Err h.1)
        go (inr h) = key-eleven h.0 h.1 (o ∙ ap Err h.2)

    pub key-count : (n t : ℕ) (put : Plan) → Ok n ≡ raised_count w f.weight amount → amount < 4294967296 → t ≡ le (part 0 8 d)
        → plan ≡ Ok put → PutsRef f.at f.next w n t put → Planned plan d keyed
    key-count n t put e small is o q =
        let h = count-to w f.weight amount small e in
        let p = subst (λ (m : ℕ). PutsRef f.at f.next w m t put) h.2 q in
        key_more t _ p.new h.0 h.1 small is refl (record { front = p.front; long = p.long }) (o ∙ ap Ok p.is)

pub key-fault : (type : ℕ) (d : List ℕ) (w : RefName) (rank amount n : ℕ) (plan : Result Plan Refusal)
    → denied n ≡ scan_of w rank (start_of type d) (Open false) (refs_in type d) → plan ≡ denied n → Planned plan d (add_keyed type d w rank amount)
unfolding add_keyed
key-fault type d w rank amount n plan e o = plan-refused plan d (add_keyed type d w rank amount) n o (scan-faults type d w rank n _ e)
