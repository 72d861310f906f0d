-- Laws of the plans that take so much off a reference and say how many are left, one for each way out. Assumes nothing.
use mathlib.Core.Path.{◌≡◌, refl, sym, ap, ◌∙◌, subst}
use mathlib.Core.Bool.{Bool, true, false, cond}
use mathlib.Core.List.{List, [], ◌∷◌, ◌++◌}
use mathlib.Core.Option.{some}
use Prim.Native.Nat.{ℕ, ◌+◌, ◌-◌, ◌*◌, ◌≤◌, ◌<◌}
use native.Mathlib.Omega.{arith}
use lib.Dec.{T}
use lib.ListN.{length, take, replicate}
use borrow.Author.Tests.{lt-ltb, le-ltb}
use mir.Facts.{and_yes}
use Rattle.std.specs.Prelude.{Option, Some, None, Result, Ok, Err}
use Rattle.format.specs.declared.Refusal.{Refusal}
use Rattle.fields.specs.Lists.{sum, all, Cut, first_cut}
use Rattle.fields.specs.Numbers.{le, are_bytes}
use Rattle.fields.specs.Parts.{part}
use Rattle.fields.proofs.Lists.{some_inj, sum-append, all_right, all-mid, cut-some}
use Rattle.format.specs.Questions.{Answer, refused, accepted, bind, found, denied}
use Rattle.format.specs.References.{payload_length, Ref, make_ref, ref_bytes, refs_bytes, start_of, Body, body_with, read_body, body_bytes, total_of}
use Rattle.format.specs.Bodies.{on_body, named, less, weighed, drop_inline, drop_inline_tree_ref, drop_inline_data_ref}
use Rattle.format.specs.Left.{left_among, left_in}
use Rattle.format.proofs.Answers.{accepted-inj}
use Rattle.format.proofs.Refs.{whole, weight-small}
use Rattle.format.proofs.Bodies.{on-body, read-total, read-sound}
use Rattle.format.proofs.Left.{left_less}
use Rattle.format.proofs.Splices.{refs_bytes-one}
use Rattle.inline_refs.specs.declared.ref_name.RefName.{RefName}
use Rattle.inline_refs.specs.declared.ref_name.RefName.TheVariants.{Block, Data, SharedBlock, SharedData}
use Rattle.inline_refs.specs.Scans.{kind_of, fields_of, is_wanted, ref_size_of, refs_in, drop_scan_of}
use Rattle.inline_refs.proofs.Views.{CutAt, DropView, drop-viewed}
use Rattle.inline_refs.proofs.RefPositions.{cut-between, cut-passed}
use Rattle.backref.specs.declared.plan.Plan.TheVariants.{Edit, Absent, Remove}
use Rattle.backref.specs.declared.plan.Plan.{Plan}
use Rattle.inline_refs.specs.declared.drop_scan.First.{First}
use Rattle.backref.specs.declared.plan.BodyEdit.{BodyEdit}
use Rattle.backref.specs.declared.plan.DropPlan.{DropPlan}
use Rattle.backref.specs.declared.offs.Off.{Off}
use Rattle.backref.specs.declared.offs.Off.TheVariants.{One, Part, Whole}
use Rattle.backref.specs.Plans.{PlannedDrop}
use Rattle.backref.specs.ByName.{drop_named}
use Rattle.backref.specs.Offs.{off_of, off_asked, amount_off, total_off, lowered_off, drop_off, PlannedOff}
use Rattle.backref.proofs.NewBytes.{Holds, wanted-small}
use Rattle.backref.proofs.Outcomes.{drop-refused, drop-absent, drop-edit}
use Rattle.backref.proofs.PlannedTotals.{Asked, asked-yes, asked-by, one-asks, part-asks}
use Rattle.backref.proofs.AddedAt.{Decided, readable, faulty, decide, ends, placed, plan_of, adding-plan, wanted-is}

-- the total of the body that was read
total-at : (type : ℕ) (d : List ℕ) (b : Body) → read_body type d ≡ accepted b → (t : ℕ) → t ≡ le (part 0 8 d) → b.total ≡ t
unfolding total_of
total-at type d b r t e = sym (e ∙ read-total type d b r)

-- ---- what goes off

-- what code asks is the question of the new total
off-asks : (off : Off) (standing t : ℕ) → Asked (off_asked off standing t) (lowered_off off standing t) (total_off off t)
unfolding off_asked lowered_off total_off
off-asks One standing t = one-asks 1 t refl
off-asks (Part amount) standing t = part-asks amount standing t
off-asks Whole standing t = asked-yes t

off-least : (off : Off) (t : ℕ) → total_off off t ≤ t
unfolding total_off
off-least One t = omega arith
off-least (Part amount) t = omega arith
off-least Whole t = omega arith

-- a drop by its name
named-off : (type : ℕ) (d : List ℕ) (w : RefName) (amount : ℕ) → drop_off type d w (off_of w amount) ≡ drop_named type d w amount
unfolding off_of amount_off lowered_off drop_inline_tree_ref drop_inline_data_ref kind_of fields_of
named-off type d (Block name) amount = refl
named-off type d (Data name) amount = refl
named-off type d (SharedBlock parent) amount = refl
named-off type d (SharedData parent) amount = refl

pub off-named : {p : DropPlan} (type : ℕ) (d : List ℕ) (w : RefName) (amount : ℕ) {off : Off} → off ≡ off_of w amount → PlannedOff p type d w off
    → PlannedDrop p d (drop_named type d w amount) (left_in type (kind_of w) (fields_of w))
off-named {p} type d w amount e h =
    subst (λ (a : Answer (List ℕ)). PlannedDrop p d a (left_in type (kind_of w) (fields_of w)))
    (ap (drop_off type d w) e ∙ named-off type d w amount) h.drops

-- what references count, by how many bytes they take
left-bound : (kind : ℕ) (fields : List ℕ) (refs : List Ref) → T (all whole refs) → left_among kind fields refs ≤ 4294967295 * sum ref_size_of refs
unfolding ref_size_of
left-bound kind fields [] t = omega arith
left-bound kind fields (r ∷ refs) t =
    let h = and_yes (whole r) _ t in
    go (named kind fields r) (weight-small r h.0) (left-bound kind fields refs h.1)
  where
    go : (b : Bool) → r.weight < 4294967296 → left_among kind fields refs ≤ 4294967295 * sum ref_size_of refs
        → cond b r.weight 0 + left_among kind fields refs ≤ 4294967295 * (ref_size_of r + sum ref_size_of refs)
    go true h k = omega arith
    go false h k = omega arith

-- ---- what the scan says of the body

pub record DropIn (type : ℕ) (d : List ℕ) (w : RefName) (s : Option First) : Type 0 where
  pub from : Body
  pub fits : length d ≤ 65535
  pub read : read_body type d ≡ accepted from
  pub view : DropView w (start_of type d) from.refs s

module _ (type : ℕ) (d : List ℕ) (w : RefName) where
  abbrev pub ScanSays : Result (Option First) Refusal → Type 0
  ScanSays (Err x) = (next : Body → Answer (List ℕ)) → on_body type d next ≡ refused x.number
  ScanSays (Ok first) = DropIn type d w first

  pub scan-says : (s : Result (Option First) Refusal) → s ≡ drop_scan_of w (start_of type d) (refs_in type d) → ScanSays s
  unfolding drop_scan_of refs_in
  scan-says s e = subst ScanSays (sym e) (go (decide type d))
    where
      go : Decided type d → ScanSays (drop_scan_of w (start_of type d) (refs_in type d))
      go (readable b h q) =
          rw (on-body type d b (λ x. accepted x.refs) h q)
          (record { from = b; fits = h; read = q; view = drop-viewed w (start_of type d) b.refs _ refl })
      go (faulty n f) = rw (f (List Ref) (λ x. accepted x.refs)) (f (List ℕ))

  -- the sum of what is left does not wrap
  pub scan-small : {f : First} → DropIn type d w (Some f) → T (are_bytes d) → f.behind + f.found.weight < 18446744073709551616
  scan-small {f} r bytes =
      let hit : CutAt (is_wanted w) (start_of type d) r.from.refs f.found.at f.found.next f.found.weight = r.view.hit in
      let c : Cut Ref = hit.parts in
      let same : r.from.refs ≡ c.front ++ c.hit ∷ c.back = (cut-some (is_wanted w) r.from.refs hit.cuts).same in
      let wholes : T (all whole (c.front ++ c.hit ∷ c.back)) = rw same at (read-sound type d r.from bytes r.read).wholes in
      let long : length d ≡ start_of type d + sum ref_size_of (c.front ++ c.hit ∷ c.back) = rw same at (ends type d r.from bytes r.read) in
      omega (
        arith,
        r.fits,
        r.view.sums,
        hit.weighs,
        long,
        sum-append ref_size_of c.front (c.hit ∷ c.back),
        weight-small c.hit (all-mid whole c.front c.hit c.back wholes),
        left-bound (kind_of w) (fields_of w) c.back (and_yes (whole c.hit) _ (all_right whole c.front (c.hit ∷ c.back) wholes)).1,
      )

-- ---- the plan

count-of : {a b : BodyEdit} → ◌≡◌ {A = Result Plan Refusal} (Ok (Edit a)) (Ok (Edit b)) → a.count ≡ b.count
count-of e = ap count_in e
  where
    count_in : Result Plan Refusal → ℕ
    count_in (Ok (Edit x)) = x.count
    count_in (Ok Absent) = 0
    count_in (Ok Remove) = 0
    count_in (Err x) = 0

other-outcome : {X : Type 0} {p : Result Plan Refusal} {x : Refusal} {e : BodyEdit} → p ≡ Err x → p ≡ Ok (Edit e) → X
other-outcome k h = let z : ◌≡◌ {A = ℕ} 0 1 = cc in absurd (omega arith)

absent-outcome : {X : Type 0} {p : Result Plan Refusal} {e : BodyEdit} → p ≡ Ok Absent → p ≡ Ok (Edit e) → X
absent-outcome k h = let z : ◌≡◌ {A = ℕ} 0 1 = cc in absurd (omega arith)

module _ (type : ℕ) (d : List ℕ) (w : RefName) (off : Off) (p : DropPlan) where
  abbrev dropped : Answer (List ℕ)
  dropped = drop_off type d w off

  abbrev leaves : List ℕ → ℕ
  leaves = left_in type (kind_of w) (fields_of w)

  off-refused : (n : ℕ) → dropped ≡ refused n → p.plan ≡ denied n → PlannedOff p type d w off
  off-refused n e o = record { drops = drop-refused p d dropped leaves n o e; counted = λ b c r k edit h. other-outcome o h }

  pub off-fault : {x : Refusal} → ScanSays type d w (Err x) → p.plan ≡ Err x → PlannedOff p type d w off
  unfolding drop_inline
  off-fault {x} e o = off-refused x.number (e _) o

  pub off-absent : DropIn type d w None → p.plan ≡ Ok Absent → PlannedOff p type d w off
  unfolding drop_inline found bind
  off-absent r o = record {
    drops = drop-absent p d dropped leaves o (on-body type d r.from _ r.fits r.read ∙ rw r.view refl);
    counted = λ b c q k edit h. absent-outcome o h;
  }

  module _ {f : First} (r : DropIn type d w (Some f)) (t : ℕ) (is : t ≡ le (part 0 8 d)) (said : Result (Unit {0}) Refusal) (asks : said ≡ off_asked off f.found.weight t) where
    hit : CutAt (is_wanted w) (start_of type d) r.from.refs f.found.at f.found.next f.found.weight
    hit = r.view.hit

    abbrev c : Cut Ref
    c = hit.parts

    abbrev made : List Ref → ℕ → List ℕ
    made new total = body_bytes (body_with r.from total (c.front ++ (new ++ c.back)))

    off-found : (a : Answer ℕ) → lowered_off off f.found.weight t ≡ a → dropped ≡ bind a (λ total. accepted (made (less c.hit (amount_off off)) total))
    unfolding drop_inline found bind
    off-found a h =
        on-body type d r.from _ r.fits r.read ∙ rw hit.cuts refl
        ∙ ap (λ (b : Answer ℕ). bind b (λ total. accepted (made (less c.hit (amount_off off)) total)))
        (ap (λ (m : ℕ). lowered_off off m r.from.total) (sym hit.weighs) ∙ ap (lowered_off off f.found.weight) (total-at type d r.from r.read t is) ∙ h)

    asked : Asked said (lowered_off off f.found.weight t) (total_off off t)
    asked = asked-by asks (off-asks off f.found.weight t)

    pub off-stopped : {x : Refusal} → said ≡ Err x → p.plan ≡ Err x → PlannedOff p type d w off
    unfolding bind
    off-stopped {x} z o = off-refused x.number (off-found (refused x.number) (asked.refuses z)) o

    module _ (bytes : T (are_bytes d)) {ok : Unit {0}} (z : said ≡ Ok ok) (u : ℕ) (rest : u ≡ total_off off t) where
      off-done : dropped ≡ accepted (made (less c.hit (amount_off off)) u)
      unfolding bind
      off-done =
          off-found (accepted u) (asked.passes z ∙ ap accepted (sym rest))

      small : u < 18446744073709551616
      small = omega (arith, rest, off-least off t, total-at type d r.from r.read t is, (read-sound type d r.from bytes r.read).fits)

      off-left : leaves (made (less c.hit (amount_off off)) u) ≡ (f.found.weight - amount_off off) + f.behind
      unfolding hit
      off-left =
          left_less type (kind_of w) (fields_of w) d r.from r.read bytes c hit.cuts u small (amount_off off)
          ∙ (λ i. (sym hit.weighs i - amount_off off) + sym r.view.sums i)

      off-counted : (b : Body) (k : Cut Ref) → read_body type d ≡ accepted b → first_cut (named (kind_of w) (fields_of w)) b.refs ≡ some k → f.found.weight ≡ k.hit.weight
      off-counted b k e c₂ =
          let same : r.from ≡ b = accepted-inj (sym r.read ∙ e) in
          let cut : c ≡ k = some_inj (sym hit.cuts ∙ ap (λ (y : Body). first_cut (named (kind_of w) (fields_of w)) y.refs) same ∙ c₂) in
          hit.weighs ∙ ap (λ (y : Cut Ref). y.hit.weight) cut

      off-edit : (new : List Ref) (word : List ℕ) (size : ℕ) → less c.hit (amount_off off) ≡ new → p.plan ≡ plan_of f.found.at f.found.next word size u f.found.weight
          → p.left ≡ (f.found.weight - amount_off off) + f.behind → take size word ≡ refs_bytes new → length word ≡ 32 → size ≤ 29 → PlannedOff p type d w off
      off-edit new word size k o l front long low = record {
        drops = drop-edit p d dropped leaves (made (less c.hit (amount_off off)) u)
            (adding-plan p.plan d r.from c.front (c.hit ∷ []) c.back f.found.at f.found.next word size u f.found.weight new dropped
            (placed type d r.from bytes r.read c.front (c.hit ∷ []) c.back f.found.at f.found.next (cut-between (is_wanted w) (start_of type d) r.from.refs f.found.at f.found.next f.found.weight hit))
            r.fits o front long low (off-done ∙ ap (λ (m : List Ref). accepted (made m u)) k))
            off-done (l ∙ sym off-left);
        counted = λ b q e c₂ edit h. count-of (sym h ∙ o) ∙ off-counted b q e c₂;
      }

      module _ (amount : ℕ) (by : amount ≡ amount_off off) where
        pub off-gone : f.found.weight ≤ amount → p.plan ≡ plan_of f.found.at f.found.next (replicate 32 0) 0 u f.found.weight → p.left ≡ f.behind → PlannedOff p type d w off
        unfolding less refs_bytes
        off-gone k o l =
            let low : c.hit.weight ≤ amount_off off = omega (arith, hit.weighs) in
            off-edit [] (replicate 32 0) 0 (simp (le-ltb _ _ low)) o (omega (arith, l)) refl refl (omega arith)

        pub off-kept : (word : List ℕ) (size : ℕ) → amount < f.found.weight → Holds w (f.found.weight - amount) word → size ≡ 1 + payload_length (kind_of w)
            → p.plan ≡ plan_of f.found.at f.found.next word size u f.found.weight → p.left ≡ f.behind + (f.found.weight - amount) → PlannedOff p type d w off
        unfolding less
        off-kept word size k h s o l =
            let high : amount_off off < c.hit.weight = omega (arith, hit.weighs) in
            let fewer : Ref = weighed c.hit (c.hit.weight - amount_off off) in
            let same : fewer ≡ make_ref (kind_of w) (fields_of w) (f.found.weight - amount) =
            wanted-is w c.hit (c.hit.weight - amount_off off) (cut-passed (is_wanted w) (start_of type d) r.from.refs f.found.at f.found.next f.found.weight hit)
            ∙ (λ i. make_ref (kind_of w) (fields_of w) (sym hit.weighs i - sym by i)) in
            off-edit (fewer ∷ []) word size (simp (lt-ltb _ _ high)) o (omega (arith, l))
            (ap (λ (m : ℕ). take m word) s ∙ h.front ∙ sym (ap ref_bytes same) ∙ sym (refs_bytes-one fewer))
            h.long (wanted-small w size s)
