-- What an accepted shared add of an amount gave is taken back by the drop of that amount: the sheet is the old one again, byte for
-- byte. Assumes nothing.
use mathlib.Core.Path.{◌≡◌, refl, sym, ap, ap₂, ◌∙◌, subst}
use mathlib.Core.Bool.{not}
use mathlib.Core.List.{List, [], ◌∷◌, ◌++◌}
use mathlib.Core.Option.{some}
use Prim.Native.Nat.{ℕ, ◌+◌, ◌-◌, ◌≤◌}
use native.Mathlib.Omega.{arith}
use lib.Dec.{T, leb}
use lib.ListN.{length}
use Rattle.fields.specs.Lists.{all, Cut, first_cut}
use Rattle.fields.proofs.Lists.{all_left, Found, cut-some}
use Rattle.format.specs.declared.SharedRef.{SharedRef}
use Rattle.format.specs.declared.Change.{Change}
use Rattle.format.specs.declared.Change.TheVariants.{AddShared, DropShared}
use Rattle.format.specs.Questions.{accepted}
use Rattle.format.specs.References.{field_count, Ref, make_ref, Body, body_with, body_bytes}
use Rattle.format.specs.Bodies.{named, one, weighed, shared_kind, less, RefPosition, gap, standing, added_at, position_anywhere, add_inline_shared}
use Rattle.format.specs.Items.{Item, sheet_bytes, data_fits, put_back}
use Rattle.format.specs.Apply.{inline_limit, record_of, shared_body, apply_shared_add}
use Rattle.format.specs.Names.{Name}
use Rattle.format.specs.Ledger.{name_of, changed, posted}
use Rattle.format.proofs.Answers.{ask-ok, bind_ok, accepted-inj}
use Rattle.format.proofs.Bodies.{Sound, sound-with, body_bytes-read}
use Rattle.format.proofs.Items.{sheet_bytes-read}
use Rattle.format.proofs.Keys.{cut-here}
use Rattle.theorems.specs.PartDrops.{GivenBack}
use Rattle.theorems.proofs.Naming.{Naming, shared-rank}
use Rattle.theorems.proofs.Order.{yes-named, PositionOk, at_gap, at-standing, position-anywhere}
use Rattle.theorems.proofs.Steps.{NameOk, on-body, ordered_at, long-at}
use Rattle.theorems.proofs.Adds.{added_out, added-whole, added-questions, add-shared}
use Rattle.theorems.proofs.Drops.{weight-at}
use Rattle.theorems.proofs.Posting.{posts-out, posts-writes, holds-out, holds-in, SheetFacts, sheet-facts, record-out}
use Rattle.theorems.proofs.Changes.{name-ok, step-on, post-on}
use Rattle.theorems.proofs.Places.{left-some, left-none, made_in, lessened, drop-inline, recorded-again}

-- ---- a reference added, and as much off it again

record Undone (kind : ℕ) (fields : List ℕ) (n : ℕ) (refs more : List Ref) : Type 0 where
  at : Cut Ref
  found : first_cut (named kind fields) more ≡ some at
  most : n ≤ at.hit.weight
  back : at.front ++ (less at.hit n ++ at.back) ≡ refs

undone : (kind : ℕ) (fields : List ℕ) (n : ℕ) (naming : Naming kind) (size : length fields ≡ field_count kind) (refs : List Ref)
    (position : RefPosition) → PositionOk kind fields n naming size refs position
    → ((x : Cut Ref) → Found (named kind fields) refs x → 1 ≤ x.hit.weight)
    → Undone kind fields n refs (added_at (make_ref kind fields n) position)
unfolding named less
undone kind fields n naming size refs (gap p q) (at_gap e o t) counts =
    let r : Ref = make_ref kind fields n in
    record {
      at = record { front = p; hit = r; back = q };
      found = cut-here (named kind fields) p r q (all_left (λ x. not (named kind fields x)) p q (rw e at t)) (yes-named kind fields r refl refl);
      most = omega arith;
      back = ap (λ (l : List Ref). p ++ (l ++ q)) (left-none (weighed r) n n (omega arith)) ∙ sym e;
    }
undone kind fields n naming size refs (standing x) (at-standing f) counts =
    let w : ℕ = x.hit.weight in
    let one≤ = counts x f in
    let r : Ref = weighed x.hit (w + n) in
    let again : w + n - n ≡ w = omega arith in
    record {
      at = record { front = x.front; hit = r; back = x.back };
      found = cut-here (named kind fields) x.front r x.back f.miss f.hit;
      most = omega arith;
      back = ap (λ (l : List Ref). x.front ++ (l ++ x.back))
          (left-some (weighed r) (w + n) n (omega arith) ∙ ap (λ (v : ℕ). weighed r v ∷ []) again)
          ∙ sym f.same;
    }

-- ---- the change of the items undone

undo : (nodesize extent : ℕ) (name : SharedRef) (n : ℕ) (items : List Item) (c : Cut Item) (b : Body) (more : List Ref) (after : List Item)
    → first_cut (record_of extent) items ≡ some c → body_bytes b ≡ c.hit.bytes
    → Sound c.hit.key.kind (body_with b (b.total + n) more)
    → put_back c (body_bytes (body_with b (b.total + n) more)) ≡ after → T (all (λ i. data_fits i.bytes) after) → 1 ≤ n
    → Undone name.kind (one name.parent) n b.refs more
    → changed nodesize (DropShared extent name n) after ≡ accepted items
undo nodesize extent name n items c b more after stands bytes sound made fit one≤ u =
    let b' : Body = body_with b (b.total + n) more in
    let f = cut-some (record_of extent) items stands in
    let R = recorded-again extent c.front c.hit c.back b' f.miss f.hit sound (rw (← made) at fit) in
    let total : b.total + n - n ≡ b.total = omega arith in
    ap (changed nodesize (DropShared extent name n)) (sym made)
    ∙ drop-inline extent name nodesize (put_back c (body_bytes b')) _ b' R u.at u.found n
    ∙ made_in n u.at.hit.weight b'.total (λ rest. put_back c (body_bytes (lessened b' u.at n rest))) one≤ u.most
    ∙ ap₂ (λ (t : ℕ) (l : List Ref). accepted (put_back c (body_bytes (body_with b t l)))) total u.back
    ∙ ap (λ (d : List ℕ). accepted (put_back c d)) bytes ∙ ap accepted (sym f.same)

restored : (nodesize extent : ℕ) (name : SharedRef) (amount : ℕ) (sheet : List ℕ) (items after : List Item) → SheetFacts sheet items
    → T (shared_kind name.kind) → NameOk (name_of (AddShared extent name amount)) → T (all (λ i. data_fits i.bytes) after)
    → changed nodesize (AddShared extent name amount) items ≡ accepted after
    → changed nodesize (DropShared extent name amount) after ≡ accepted items
unfolding changed apply_shared_add shared_body add_inline_shared
restored nodesize extent name amount sheet items after S sk name_ok fit e =
    let m : Name = name_of (AddShared extent name amount) in
    let f : List ℕ = one name.parent in
    let (own, one≤, e₁) = added-questions m amount items _ after e in
    let R = record-out sheet m items after _ S e₁ in
    let c : Cut Item = R.at in
    let b : Body = R.body in
    let H = R.here in
    let type : ℕ = c.hit.key.kind in
    let h = bind_ok (add_inline_shared type c.hit.bytes name amount) _ R.then in
    let h₃ = ask-ok (shared_kind name.kind) 3 _ h.1 in
    let h₁₇ = ask-ok (leb (length h.0) (inline_limit nodesize)) 17 _ h.2 in
    let position : RefPosition = position_anywhere name.kind f name.parent b.refs in
    let ok : PositionOk name.kind f amount name_ok.naming name_ok.size b.refs position =
    subst (λ (n : ℕ). PositionOk name.kind f amount name_ok.naming name_ok.size b.refs (position_anywhere name.kind f n b.refs))
    (shared-rank name.kind name.parent sk)
    (position-anywhere name.kind f amount name_ok.naming name_ok.size b.refs (ordered_at m items c b H S.balance S.tidied)
    (long-at m items c b H S.balance S.tidied)) in
    let more : List Ref = added_at (make_ref name.kind f amount) position in
    let A = added_out b (make_ref name.kind f amount) position h.0 (on-body type c.hit.bytes b _ H.reads h₃.1) in
    undo nodesize extent name amount items c b more after R.stands (body_bytes-read type c.hit.bytes b H.bytes H.reads)
    (sound-with type b (b.total + amount) more H.sound A.twelve
    (added-whole m name_ok amount items c b H S.balance S.tidied own one≤ position ok A.nine A.ten A.eleven))
    (ap (put_back c) A.made ∙ accepted-inj h₁₇.1) fit one≤
    (undone name.kind f amount name_ok.naming name_ok.size b.refs position ok
    (λ x g. weight-at m name_ok.naming items c b H S.balance S.tidied x g.same g.hit))

-- ---- the sheet

pub given_back : GivenBack
unfolding changed
given_back nodesize sheet after extent name amount room enough raw wide e roomy =
    let c : Change = AddShared extent name amount in
    let P = posts-out nodesize sheet c room (after, e) in
    let items : List Item = P.items in
    let now : List Item = P.after in
    let S = sheet-facts sheet items raw P.reads P.balance in
    let ok = name-ok c wide P.kind in
    let s = add-shared nodesize extent name amount items now P.kind ok S.balance S.tidied P.done in
    let size = S.size in
    let short = S.short in
    ap (λ (z : List ℕ). posted nodesize z (DropShared extent name amount) enough) (posts-writes nodesize sheet c room after e P)
    ∙ post-on nodesize (sheet_bytes now) now items (DropShared extent name amount) enough
    (step-on (name_of c) amount 0 sheet items now room S s P.holds) P.least P.most P.kind
    (restored nodesize extent name amount sheet items now S P.kind ok (holds-out room now P.holds).3 P.done)
    (holds-in enough items (omega arith) (omega arith) S.few S.fit)
    ∙ ap accepted (sheet_bytes-read sheet items raw P.reads)
