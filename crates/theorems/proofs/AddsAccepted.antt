-- The three adds are accepted exactly if their questions are answered yes. Assumes nothing.
use mathlib.Core.Path.{◌≡◌, refl, sym, ap, ◌∙◌, subst}
use mathlib.Core.Logic.{◌≢◌, ◌⊎◌, inl, inr}
use mathlib.Core.Bool.{Bool, true, false, ◌||◌, cond}
use mathlib.Core.List.{List, [], ◌∷◌, ◌++◌}
use Prim.Native.Nat.{ℕ, zero, suc, ◌+◌, ◌*◌, ◌^◌, ◌≤◌, ◌<◌}
use native.Mathlib.Omega.{arith}
use lib.Dec.{T, leb, ltb, eqb, eqb→eq, leb→le, le→leb, lt→ltb}
use lib.ListN.{length, length-append}
use borrow.Author.Tests.{ne_eqb}
use mir.Facts.{or_yes, yes_eqb, no_eqb}
use Rattle.fields.specs.Lists.{sum, all, Cut}
use Rattle.fields.specs.Numbers.{word_bytes, are_bytes}
use Rattle.fields.proofs.Lists.{or_left, or_right, cond_yes, cond_no, T-eq, all-mid}
use Rattle.fields.proofs.Numbers.{length-word_bytes}
use Rattle.format.specs.declared.BlockRef.{BlockRef}
use Rattle.format.specs.declared.DataRef.{DataRef}
use Rattle.format.specs.declared.SharedRef.{SharedRef}
use Rattle.format.specs.declared.Keyed.TheVariants.{Data}
use Rattle.format.specs.declared.Change.{Change}
use Rattle.format.specs.declared.Change.TheVariants.{AddBlock, AddData, AddShared}
use Rattle.format.specs.Questions.{Answer, accepted, ask, bind}
use Rattle.format.specs.References.{known, payload_length, count_position, counted, field_count, row_in, Ref, make_ref, ref_bytes, refs_bytes, Body, body_with, read_body, body_bytes, rank_of, ordered}
use Rattle.format.specs.Bodies.{one, triple, weighed, shared_kind, raised_by, RefPosition, gap, standing, is_gap, standing_weight, added_at, add_at, position_anywhere, position_by_scan, add_inline_tree_ref, add_inline_data, add_inline_shared}
use Rattle.format.specs.Items.{Item, data_fits, sheet_holds, put_back}
use Rattle.format.specs.Apply.{inline_limit, on_record, keyed_body, apply_keyed_add, shared_body, apply_shared_add}
use Rattle.format.specs.Names.{Name}
use Rattle.format.specs.Ledger.{name_of, not_its_own, kind_fits, added, changed}
use Rattle.format.proofs.Answers.{ask-ok, ask-yes, bind_ok, bind-yes, also-ok, also-yes, accepted-inj}
use Rattle.format.proofs.Refs.{count_bytes, length-count_bytes, refs_bytes-append}
use Rattle.format.proofs.Rows.{payload-fields}
use Rattle.format.proofs.Bodies.{on-body, length-body_bytes, body_bytes-read}
use Rattle.theorems.proofs.Naming.{naming-known, shared-rank, Formed, formed}
use Rattle.theorems.proofs.Order.{long, named-yes, PositionOk, at_gap, at-standing, position-anywhere, position-by-scan}
use Rattle.theorems.proofs.Edit.{Balanced}
use Rattle.theorems.proofs.Steps.{tidy, Here, here_of, ordered_at, long-at}
use Rattle.theorems.proofs.Adds.{added_out}
use Rattle.theorems.specs.Acceptance.{Accepts, Exactly, UpToFive, inline, apart, grown, shared_size, AddsBlock, AddsData, AddsShared}
use Rattle.theorems.proofs.Posting.{Posts, posts-out, posts-in, item_size, holds-out, holds-in, size-put, few-put, fit-put, limit-small, SheetFacts, sheet-facts, AtRecord, record-out, record-in}
use Rattle.theorems.proofs.Counts.{inline-and-apart, inline-none, inline-one, own_out, own_in}

-- ---- lengths of references and bodies

pub length-ref : (r : Ref) → T (known r.kind) → length r.fields ≡ field_count r.kind
    → length (refs_bytes (r ∷ [])) ≡ 1 + payload_length r.kind
unfolding ref_bytes refs_bytes
length-ref r k l =
    let e₁ = length-append (word_bytes r.fields) (count_bytes r) in
    let e₂ = length-word_bytes r.fields in
    let e₃ = length-count_bytes r in
    let e₄ = payload-fields r.kind k in
    let e₅ = length-append (ref_bytes r) [] in
    omega arith

pub length_none : length (refs_bytes []) ≡ 0
unfolding refs_bytes
length_none = refl

-- some references out, others in
pub length-edit : (b : Body) (total : ℕ) (p o o' q : List Ref) → b.refs ≡ p ++ (o ++ q)
    → length (body_bytes (body_with b total (p ++ (o' ++ q)))) + length (refs_bytes o) ≡ length (body_bytes b) + length (refs_bytes o')
length-edit b total p o o' q e =
    let part : (l : List Ref) → length (refs_bytes (p ++ (l ++ q))) ≡ length
    (refs_bytes p) + (length (refs_bytes l) + length (refs_bytes q)) =
    (λ l. ap length (refs_bytes-append p (l ++ q)) ∙ length-append (refs_bytes p) (refs_bytes (l ++ q))
    ∙ ap (λ (n : ℕ). length (refs_bytes p) + n) (ap length (refs_bytes-append l q) ∙ length-append (refs_bytes l) (refs_bytes q))) in
    let e₁ = length-body_bytes b in
    let e₂ = length-body_bytes (body_with b total (p ++ (o' ++ q))) in
    let e₃ = ap (λ (l : List Ref). length (refs_bytes l)) e ∙ part o in
    let e₄ = part o' in
    omega arith

-- ---- an addition at a good position

module _ (m : Name) (nm : Formed m) (n : ℕ) (items : List Item) (c : Cut Item) (b : Body) (H : Here m items c b)
    (bal : Balanced items)
    (td : T (all tidy items)) (light : b.total ≤ 4294967296 * 262144) where
  -- what a position says: the weight that stands there, whether it is a gap, and how long the body becomes
  record At (position : RefPosition) : Type 0 where
    weight : standing_weight position ≡ inline m c
    free : is_gap position ≡ eqb (inline m c) 0
    sized : (total : ℕ) → length (body_bytes (body_with b total (added_at (make_ref m.kind m.fields n) position)))
        ≡ length c.hit.bytes + grown m c (1 + payload_length m.kind)

  at_position : (position : RefPosition) → PositionOk m.kind m.fields n nm.naming nm.size b.refs position → At position
  unfolding is_gap standing_weight
  at_position (gap p q) (at_gap e o t) =
      let z : inline m c ≡ 0 = inline-none m items c b H bal td t in
      let y : eqb (inline m c) 0 ≡ true = T-eq (eqb (inline m c) 0) (yes_eqb z) in
      let r : Ref = make_ref m.kind m.fields n in
      let g : grown m c (1 + payload_length m.kind) ≡ 1 + payload_length m.kind =
      cond_yes (eqb (inline m c) 0) (1 + payload_length m.kind) 0 (yes_eqb z) in
      record {
        weight = sym z;
        free = sym y;
        sized = λ total.
            (let e₁ = length-edit b total p [] (r ∷ []) q e in
            let e₂ = length-ref r (naming-known m.kind nm.naming) nm.size in
            let e₃ = ap length (body_bytes-read c.hit.key.kind c.hit.bytes b H.bytes H.reads) in
            let e₄ = length_none in
            omega arith);
      }
  at_position (standing x) (at-standing f) =
      let e = f.same in
      let t = f.hit in
      let h = inline-one m items c b H bal td nm.naming x e t in
      let i : inline m c ≡ x.hit.weight = h.0 in
      let w : 1 ≤ x.hit.weight = h.2 in
      let ne : inline m c ≢ 0 = (λ (z : inline m c ≡ 0). omega arith) in
      let k = named-yes m.kind m.fields x.hit t in
      let x' : Ref = weighed x.hit (x.hit.weight + n) in
      let kn : T (known x.hit.kind) = subst (λ (z : ℕ). T (known z)) (sym k.0) (naming-known m.kind nm.naming) in
      let sz : length x.hit.fields ≡ field_count x.hit.kind = ap length k.1 ∙ nm.size ∙ ap field_count (sym k.0) in
      let g : grown m c (1 + payload_length m.kind) ≡ 0 =
      cond_no (eqb (inline m c) 0) (1 + payload_length m.kind) 0 (no_eqb ne) in
      record {
        weight = sym i;
        free = sym (ne_eqb (inline m c) 0 ne);
        sized = λ total.
            (let e₁ = length-edit b total x.front (x.hit ∷ []) (x' ∷ []) x.back e in
            let e₂ = length-ref x.hit kn sz in
            let e₃ = length-ref x' kn sz in
            let e₄ = ap length (body_bytes-read c.hit.key.kind c.hit.bytes b H.bytes H.reads) in
            omega arith);
      }

  -- an accepted addition, and one that is
  record Adds (body : List ℕ) : Type 0 where
    nine : T (counted m.kind || eqb (inline m c) 0)
    ten : T (counted m.kind || eqb n 1)
    eleven : inline m c + n < 4294967296
    sized : length body ≡ length c.hit.bytes + grown m c (1 + payload_length m.kind)

  adds-out : (position : RefPosition) → PositionOk m.kind m.fields n nm.naming nm.size b.refs position → (body : List ℕ)
      → add_at b (make_ref m.kind m.fields n) position ≡ accepted body → Adds body
  adds-out position ok body e =
      let A = added_out b (make_ref m.kind m.fields n) position body e in
      let S = at_position position ok in
      record {
        nine = subst (λ (z : Bool). T (counted m.kind || z)) S.free A.nine;
        ten = A.ten;
        eleven = subst (λ (z : ℕ). z + n < 4294967296) S.weight A.eleven;
        sized = sym (ap length A.made) ∙ S.sized (b.total + n);
      }

  adds-in : (position : RefPosition) → PositionOk m.kind m.fields n nm.naming nm.size b.refs position
      → T (counted m.kind || eqb (inline m c) 0) → T (counted m.kind || eqb n 1) → inline m c + n < 4294967296
      → (body : List ℕ) × (add_at b (make_ref m.kind m.fields n) position ≡ accepted body)
      × (length body ≡ length c.hit.bytes + grown m c (1 + payload_length m.kind))
  unfolding add_at raised_by
  adds-in position ok nine ten eleven =
      let S = at_position position ok in
      let sw = S.weight in
      let k₁₁ : standing_weight position + n < 4294967296 = omega arith in
      let k₁₂ : b.total + n < 18446744073709551616 = omega arith in
      let t₁₂ : T (ltb (b.total + n) (2 ^ 64)) = lt→ltb (b.total + n) 18446744073709551616 k₁₂ in (
        body_bytes (body_with b (b.total + n) (added_at (make_ref m.kind m.fields n) position)),
        ask-yes (counted m.kind || is_gap position) 9 _ (subst (λ (z : Bool). T (counted m.kind || z)) (sym S.free) nine)
            ∙ ask-yes (counted m.kind || eqb n 1) 10 _ ten
            ∙ ask-yes (ltb (standing_weight position + n) (2 ^ 32)) 11 _ (lt→ltb (standing_weight position + n) 4294967296 k₁₁)
            ∙ bind-yes (ask (ltb (b.total + n) (2 ^ 64)) 12 (accepted (b.total + n))) _
            (ask-yes (ltb (b.total + n) (2 ^ 64)) 12 _ t₁₂),
        S.sized (b.total + n),
      )

-- ---- what the three adds share

-- the ledger's own questions
questions-out : (m : Name) (amount : ℕ) (items after : List Item) (answer : Answer (List Item))
    → added m amount items answer ≡ accepted after
    → T (all (not_its_own m) items) × (1 ≤ amount) × (answer ≡ accepted after)
unfolding added
questions-out m amount items after answer e =
    let h₉ = also-ok (all (not_its_own m) items) 9 _ e in
    let h₁₀ = also-ok (leb 1 amount) 10 _ h₉.1 in
    (h₉.0, leb→le _ _ h₁₀.0, h₁₀.1)

questions-in : (m : Name) (amount : ℕ) (items : List Item) (answer : Answer (List Item)) → T (all (not_its_own m) items) → 1 ≤ amount
    → added m amount items answer ≡ answer
unfolding added
questions-in m amount items answer t h =
    also-yes (all (not_its_own m) items) 9 _ t ∙ also-yes (leb 1 amount) 10 _ (le→leb 1 amount h)

-- question 17 where the body grew
limit-out : (x y z : ℕ) → T (leb x y || leb x z) → y < x → x ≤ z
limit-out x y z t h = go (or_yes (leb x y) (leb x z) t)
  where
    go : T (leb x y) ⊎ T (leb x z) → x ≤ z
    go (inl u) = let k : x ≤ y = leb→le x y u in absurd (omega arith)
    go (inr u) = leb→le x z u

module _ (sheet : List ℕ) (items : List Item) (S : SheetFacts sheet items) (m : Name) (c : Cut Item) (b : Body)
    (H : Here m items c b) where
  pub length_at : length c.hit.bytes ≤ 65535
  unfolding data_fits
  length_at = leb→le _ _ (all-mid (λ i. data_fits i.bytes) c.front c.hit c.back (rw H.found.same at S.fit))

  -- question 21 of the record's new body
  pub room_out : (room more : ℕ) (body : List ℕ) → length body ≡ length c.hit.bytes + more
      → T (sheet_holds room (put_back c body))
      → (length sheet + more ≤ room) × (length sheet + more ≤ 262144)
  room_out room more body e t =
      let h = holds-out room (put_back c body) t in
      let h₁ = h.0 in
      let h₂ = h.1 in
      let s₁ = size-put c body in
      let s₂ = ap (sum item_size) H.found.same in
      let s₃ = S.size in
      (omega arith, omega arith)

  pub room_in : (room more : ℕ) (body : List ℕ) → length body ≡ length c.hit.bytes + more → length body ≤ 65535
      → length sheet + more ≤ room → length sheet + more ≤ 262144 → T (sheet_holds room (put_back c body))
  room_in room more body e l h₁ h₂ =
      let s₁ = size-put c body in
      let s₂ = ap (sum item_size) H.found.same in
      let s₃ = S.size in
      let f₁ = few-put c body in
      let f₂ = ap length H.found.same in
      let f₃ = S.few in
      holds-in room (put_back c body) (omega arith) (omega arith) (omega arith) (fit-put c body (rw H.found.same at S.fit) l)

-- ---- an add as its questions, for whatever call makes the new body and whatever 17 tests of the two lengths

record AddFacts (nodesize : ℕ) (sheet : List ℕ) (m : Name) (amount room : ℕ) (test : ℕ → ℕ → Bool) : Type 0 where
  items : List Item
  at : Cut Item
  up_to_five : UpToFive nodesize sheet m.extent items at
  own : apart m at ≡ 0
  nine : T (counted m.kind || eqb (inline m at) 0)
  positive : 1 ≤ amount
  ten : T (counted m.kind || eqb amount 1)
  eleven : inline m at + amount < 4294967296
  seventeen : T (test (length at.hit.bytes) (length at.hit.bytes + grown m at (1 + payload_length m.kind)))
  roomy : length sheet + grown m at (1 + payload_length m.kind) ≤ room
  small : length sheet + grown m at (1 + payload_length m.kind) ≤ 262144

module _ (nodesize : ℕ) (sheet : List ℕ) (room : ℕ) (raw : T (are_bytes sheet)) (change : Change) (kind : T (kind_fits change))
    (amount : ℕ) (call : Item → Answer (List ℕ)) (test : ℕ → ℕ → Bool) (position : Body → RefPosition)
    (changes : (items : List Item) → changed nodesize change items ≡ added (name_of change) amount items
    (on_record (name_of change).extent items (λ c.
    bind (call c.hit) (λ body. ask (test (length c.hit.bytes) (length body)) 17 (accepted (put_back c body))))))
    (calls : (i : Item) (b : Body) → 1 ≤ amount → length i.bytes ≤ 65535 → read_body i.key.kind i.bytes ≡ accepted b
    → call i ≡ add_at b (make_ref (name_of change).kind (name_of change).fields amount) (position b))
    (positions : (nm : Formed (name_of change)) (b : Body) → T (ordered b.refs) → T (all long b.refs)
    → PositionOk (name_of change).kind (name_of change).fields amount nm.naming nm.size b.refs (position b))
    (bounded : (x y : ℕ) → nodesize ≤ 65536 → x ≤ 65535 → T (test x y) → y ≤ 65535) where
  abbrev m : Name
  m = name_of change

  nm : Formed m
  nm = formed change kind

  abbrev next : Cut Item → Answer (List Item)
  next c = bind (call c.hit) (λ body. ask (test (length c.hit.bytes) (length body)) 17 (accepted (put_back c body)))

  ok-position : (items : List Item) → SheetFacts sheet items → (c : Cut Item) (b : Body) → Here m items c b
      → PositionOk m.kind m.fields amount nm.naming nm.size b.refs (position b)
  ok-position items S c b H = positions nm b (ordered_at m items c b H S.balance S.tidied) (long-at m items c b H S.balance S.tidied)

  from-body : (P : Posts nodesize sheet change room) → SheetFacts sheet P.items → T (all (not_its_own m) P.items) → 1 ≤ amount
      → (F : AtRecord m P.items next P.after) (body : List ℕ) → call F.at.hit ≡ accepted body
      → T (test (length F.at.hit.bytes) (length body)) → put_back F.at body ≡ P.after
      → AddFacts nodesize sheet m amount room test
  from-body P S own positive F body e t q =
      let A = adds-out m nm amount P.items F.at F.body F.here S.balance S.tidied (S.light m F.at F.body F.here)
      (position F.body)
      (ok-position P.items S F.at F.body F.here) body
      (sym (calls F.at.hit F.body positive (length_at sheet P.items S m F.at F.body F.here) F.here.reads) ∙ e) in
      let r = room_out sheet P.items S m F.at F.body F.here room (grown m F.at (1 + payload_length m.kind)) body
      A.sized
      (subst (λ (x : List Item). T (sheet_holds room x)) (sym q) P.holds) in
      record {
        items = P.items;
        at = F.at;
        up_to_five = record { reads = P.reads; least = P.least; most = P.most; balance = P.balance; stands = F.stands };
        own = own_out m P.items F.at F.body F.here S.balance S.tidied own;
        nine = A.nine;
        positive = positive;
        ten = A.ten;
        eleven = A.eleven;
        seventeen = subst (λ (x : ℕ). T (test (length F.at.hit.bytes) x)) A.sized t;
        roomy = r.0;
        small = r.1;
      }

  from-record : (P : Posts nodesize sheet change room) → SheetFacts sheet P.items → T (all (not_its_own m) P.items) → 1 ≤ amount
      → AtRecord m P.items next P.after → AddFacts nodesize sheet m amount room test
  from-record P S own positive F =
      let h = bind_ok (call F.at.hit) _ F.then in
      let h₁₇ = ask-ok (test (length F.at.hit.bytes) (length h.0)) 17 _ h.2 in
      from-body P S own positive F h.0 h.1 h₁₇.0 (accepted-inj h₁₇.1)

  add-only : Accepts nodesize sheet change room → AddFacts nodesize sheet m amount room test
  add-only acc =
      let P = posts-out nodesize sheet change room acc in
      let S = sheet-facts sheet P.items raw P.reads P.balance in
      let (own, positive, e) = questions-out m amount P.items P.after _ (sym (changes P.items) ∙ P.done) in
      from-record P S own positive (record-out sheet m P.items P.after next S e)

  to-body : (f : AddFacts nodesize sheet m amount room test) → SheetFacts sheet f.items → (b : Body) → Here m f.items f.at b
      → (body : List ℕ)
      → add_at b (make_ref m.kind m.fields amount) (position b) ≡ accepted body
      → length body ≡ length f.at.hit.bytes + grown m f.at (1 + payload_length m.kind)
      → Accepts nodesize sheet change room
  to-body f S b H body e long' =
      let l₀ = length_at sheet f.items S m f.at b H in
      let t : T (test (length f.at.hit.bytes) (length body)) =
      subst (λ (x : ℕ). T (test (length f.at.hit.bytes) x)) (sym long') f.seventeen in
      posts-in nodesize sheet change room
      (record {
        items = f.items;
        after = put_back f.at body;
        reads = f.up_to_five.reads;
        least = f.up_to_five.least;
        most = f.up_to_five.most;
        kind = kind;
        balance = f.up_to_five.balance;
        done = changes f.items
            ∙ questions-in m amount f.items _ (own_in m f.items f.at b H S.balance S.tidied f.own) f.positive
            ∙ record-in m.extent f.items next f.at f.up_to_five.stands
            ∙ bind-yes (call f.at.hit) _ (calls f.at.hit b f.positive l₀ H.reads ∙ e)
            ∙ ask-yes (test (length f.at.hit.bytes) (length body)) 17 _ t;
        holds = room_in sheet f.items S m f.at b H room (grown m f.at (1 + payload_length m.kind)) body long'
            (bounded (length f.at.hit.bytes) (length body) f.up_to_five.most l₀ t) f.roomy f.small;
      })

  add-enough : AddFacts nodesize sheet m amount room test → Accepts nodesize sheet change room
  add-enough f =
      let S = sheet-facts sheet f.items raw f.up_to_five.reads f.up_to_five.balance in
      let (b, H) = here_of m f.items f.at S.balance S.tidied f.up_to_five.stands in
      let (body, e, long') = adds-in m nm amount f.items f.at b H S.balance S.tidied (S.light m f.at b H) (position b)
      (ok-position f.items S f.at b H)
      f.nine f.ten f.eleven in
      to-body f S b H body e long'

-- ---- question 17: where the body grew, or always

abbrev if_grown : ℕ → ℕ → ℕ → Bool
if_grown nodesize old new = leb new old || leb new (inline_limit nodesize)

abbrev always : ℕ → ℕ → ℕ → Bool
always nodesize old new = leb new (inline_limit nodesize)

grown-bounded : (nodesize x y : ℕ) → nodesize ≤ 65536 → x ≤ 65535 → T (if_grown nodesize x y) → y ≤ 65535
grown-bounded nodesize x y n h t = go (or_yes (leb y x) (leb y (inline_limit nodesize)) t)
  where
    go : T (leb y x) ⊎ T (leb y (inline_limit nodesize)) → y ≤ 65535
    go (inl u) = let k : y ≤ x = leb→le y x u in omega arith
    go (inr u) = let k : y ≤ inline_limit nodesize = leb→le y (inline_limit nodesize) u in omega (arith, limit-small nodesize n)

always-bounded : (nodesize x y : ℕ) → nodesize ≤ 65536 → x ≤ 65535 → T (always nodesize x y) → y ≤ 65535
always-bounded nodesize x y n h t =
    let k : y ≤ inline_limit nodesize = leb→le y (inline_limit nodesize) t in omega (arith, limit-small nodesize n)

-- ---- a block reference

pub add-block : (nodesize : ℕ) (sheet : List ℕ) (extent : ℕ) (name : BlockRef) (room : ℕ) → T (are_bytes sheet)
    → Exactly (Accepts nodesize sheet (AddBlock extent name) room) (AddsBlock nodesize sheet (name_of (AddBlock extent name)) room)
unfolding changed apply_keyed_add keyed_body add_inline_tree_ref rank_of counted count_position payload_length row_in
add-block nodesize sheet extent name room raw =
    record {
      only = λ acc. plain (add-only nodesize sheet room raw (AddBlock extent name) tt 1 call
          (if_grown nodesize) position changes calls positions (grown-bounded nodesize) acc);
      enough = λ f. add-enough nodesize sheet room raw (AddBlock extent name) tt 1 call (if_grown nodesize) position changes calls positions
          (grown-bounded nodesize) (facts f);
    }
  where
    m : Name
    m = name_of (AddBlock extent name)

    call : Item → Answer (List ℕ)
    call i = add_inline_tree_ref i.key.kind i.bytes name

    position : Body → RefPosition
    position b = position_anywhere 176 (one name.tree) name.tree b.refs

    changes : (items : List Item) → changed nodesize (AddBlock extent name) items ≡ added m 1 items (on_record extent items (λ c.
        bind (call c.hit) (λ body. ask (if_grown nodesize (length c.hit.bytes) (length body)) 17
        (accepted (put_back c body)))))
    changes items = refl

    calls : (i : Item) (b : Body) → 1 ≤ 1 → length i.bytes ≤ 65535 → read_body i.key.kind i.bytes ≡ accepted b
        → call i ≡ add_at b (make_ref 176 (one name.tree) 1) (position b)
    calls i b h l r = on-body i.key.kind i.bytes b _ l r

    positions : (nm : Formed m) (b : Body) → T (ordered b.refs) → T (all long b.refs)
        → PositionOk 176 (one name.tree) 1 nm.naming nm.size b.refs (position b)
    positions nm b o l = position-anywhere 176 (one name.tree) 1 nm.naming nm.size b.refs o l

    plain : AddFacts nodesize sheet m 1 room (if_grown nodesize) → AddsBlock nodesize sheet m room
    plain f =
        let z : inline m f.at ≡ 0 = eqb→eq _ 0 f.nine in
        let o = f.own in
        let g : grown m f.at 9 ≡ 9 = cond_yes {A = ℕ} (eqb (inline m f.at) 0) 9 0 (yes_eqb z) in
        let s = (inline-and-apart nodesize sheet m f.items f.at raw f.up_to_five).0 in
        let l : ℕ = length f.at.hit.bytes in
        let t = limit-out (l + grown m f.at 9) l (inline_limit nodesize) f.seventeen (omega arith) in
        let r₁ : length sheet + grown m f.at 9 ≤ room = f.roomy in
        let r₂ : length sheet + grown m f.at 9 ≤ 262144 = f.small in
        record { items = f.items; at = f.at; up_to_five = f.up_to_five; free = omega arith; short = omega arith; roomy = omega arith; small = omega arith }

    facts : AddsBlock nodesize sheet m room → AddFacts nodesize sheet m 1 room (if_grown nodesize)
    facts f =
        let s = (inline-and-apart nodesize sheet m f.items f.at raw f.up_to_five).0 in
        let fr = f.free in
        let z : inline m f.at ≡ 0 = omega arith in
        let g : grown m f.at 9 ≡ 9 = cond_yes {A = ℕ} (eqb (inline m f.at) 0) 9 0 (yes_eqb z) in
        let l : ℕ = length f.at.hit.bytes in
        let sh = f.short in
        let r₁ = f.roomy in
        let r₂ = f.small in
        let k : l + grown m f.at 9 ≤ inline_limit nodesize = omega arith in
        record {
          items = f.items;
          at = f.at;
          up_to_five = f.up_to_five;
          own = omega arith;
          nine = yes_eqb z;
          positive = omega arith;
          ten = tt;
          eleven = omega arith;
          seventeen = or_right (leb (l + grown m f.at 9) l) _ (le→leb (l + grown m f.at 9) (inline_limit nodesize) k);
          roomy = omega arith;
          small = omega arith;
        }

-- ---- a data reference

pub add-data : (nodesize : ℕ) (sheet : List ℕ) (extent : ℕ) (name : DataRef) (amount room : ℕ) → T (are_bytes sheet)
    → Exactly (Accepts nodesize sheet (AddData extent name amount) room)
    (AddsData nodesize sheet (name_of (AddData extent name amount)) amount room)
unfolding changed apply_keyed_add keyed_body add_inline_data counted count_position payload_length row_in
add-data nodesize sheet extent name amount room raw =
    record {
      only = λ acc. plain (add-only nodesize sheet room raw (AddData extent name amount) tt amount call
          (if_grown nodesize) position changes (calls amount) positions (grown-bounded nodesize) acc);
      enough = λ f. add-enough nodesize sheet room raw (AddData extent name amount) tt amount call (if_grown nodesize) position changes
          (calls amount) positions (grown-bounded nodesize) (facts f);
    }
  where
    m : Name
    m = name_of (AddData extent name amount)

    call : Item → Answer (List ℕ)
    call i = keyed_body i (Data name) amount false

    position : Body → RefPosition
    position b = position_by_scan 178 (triple name) b.refs

    changes : (items : List Item)
        → changed nodesize (AddData extent name amount) items ≡ added m amount items (on_record extent items (λ c.
        bind (call c.hit) (λ body. ask (if_grown nodesize (length c.hit.bytes) (length body)) 17
        (accepted (put_back c body)))))
    changes items = refl

    calls : (n : ℕ) (i : Item) (b : Body) → 1 ≤ n → length i.bytes ≤ 65535 → read_body i.key.kind i.bytes ≡ accepted b
        → keyed_body i (Data name) n false ≡ add_at b (make_ref 178 (triple name) n) (position b)
    calls zero i b h l r = absurd (omega arith)
    calls (suc n) i b h l r = on-body i.key.kind i.bytes b _ l r

    positions : (nm : Formed m) (b : Body) → T (ordered b.refs) → T (all long b.refs)
        → PositionOk 178 (triple name) amount nm.naming nm.size b.refs (position b)
    positions nm b o l = position-by-scan 178 (triple name) amount nm.naming nm.size b.refs o l

    plain : AddFacts nodesize sheet m amount room (if_grown nodesize) → AddsData nodesize sheet m amount room
    plain f =
        record {
          items = f.items;
          at = f.at;
          up_to_five = f.up_to_five;
          free = f.own;
          positive = f.positive;
          holds = f.eleven;
          short = λ z.
              (let g : grown m f.at 29 ≡ 29 = cond_yes {A = ℕ} (eqb (inline m f.at) 0) 29 0 (yes_eqb z) in
              let l : ℕ = length f.at.hit.bytes in
              let t = limit-out (l + grown m f.at 29) l (inline_limit nodesize) f.seventeen (omega arith) in
              omega arith);
          roomy = f.roomy;
          small = f.small;
        }

    facts : AddsData nodesize sheet m amount room → AddFacts nodesize sheet m amount room (if_grown nodesize)
    facts f =
        record {
          items = f.items;
          at = f.at;
          up_to_five = f.up_to_five;
          own = f.free;
          nine = tt;
          positive = f.positive;
          ten = tt;
          eleven = f.holds;
          seventeen = limit (eqb (inline m f.at) 0) refl;
          roomy = f.roomy;
          small = f.small;
        }
      where
        limit : (z : Bool) → eqb (inline m f.at) 0 ≡ z
            → T (if_grown nodesize (length f.at.hit.bytes) (length f.at.hit.bytes + cond z 29 0))
        limit true q =
            or_right (leb (length f.at.hit.bytes + 29) (length f.at.hit.bytes)) _
            (le→leb (length f.at.hit.bytes + 29) (inline_limit nodesize) (f.short (eqb→eq _ 0 (subst T (sym q) tt))))
        limit false q =
            or_left (leb (length f.at.hit.bytes + 0) (length f.at.hit.bytes)) _
            (le→leb (length f.at.hit.bytes + 0) (length f.at.hit.bytes) (omega arith))

-- ---- a shared reference

-- its size, and what the two kinds say of counts
pub shared-size : (kind : ℕ) → T (shared_kind kind) → 1 + payload_length kind ≡ shared_size kind
unfolding shared_kind payload_length row_in
shared-size kind t = go (or_yes (eqb kind 182) (eqb kind 184) t)
  where
    go : T (eqb kind 182) ⊎ T (eqb kind 184) → 1 + payload_length kind ≡ shared_size kind
    go (inl h) = let e : kind ≡ 182 = eqb→eq _ _ h in rw e refl
    go (inr h) = let e : kind ≡ 184 = eqb→eq _ _ h in rw e refl

-- a question that is put to 182 only
only-182 : (kind n k : ℕ) → T (shared_kind kind) → (kind ≡ 182 → n ≡ k) → T (counted kind || eqb n k)
unfolding shared_kind counted count_position row_in
only-182 kind n k t f = go (or_yes (eqb kind 182) (eqb kind 184) t)
  where
    go : T (eqb kind 182) ⊎ T (eqb kind 184) → T (counted kind || eqb n k)
    go (inl h) = let e : kind ≡ 182 = eqb→eq _ _ h in or_right (counted kind) _ (yes_eqb (f e))
    go (inr h) = let e : kind ≡ 184 = eqb→eq _ _ h in rw e tt

of-182 : (kind n k : ℕ) → T (counted kind || eqb n k) → kind ≡ 182 → n ≡ k
unfolding counted count_position row_in
of-182 kind n k t e = eqb→eq n k (subst (λ (x : ℕ). T (counted x || eqb n k)) e t)

pub add-shared : (nodesize : ℕ) (sheet : List ℕ) (extent : ℕ) (name : SharedRef) (amount room : ℕ) → T (are_bytes sheet)
    → Exactly (Accepts nodesize sheet (AddShared extent name amount) room)
    (AddsShared nodesize sheet (name_of (AddShared extent name amount)) amount room)
unfolding changed apply_shared_add shared_body add_inline_shared
add-shared nodesize sheet extent name amount room raw =
    record {
      only = λ acc.
          (let k = (posts-out nodesize sheet (AddShared extent name amount) room acc).kind in
          plain k (add-only nodesize sheet room raw (AddShared extent name amount) k amount call (always nodesize) position changes
          (calls k) (positions k) (always-bounded nodesize) acc));
      enough = λ f.
          add-enough nodesize sheet room raw (AddShared extent name amount) f.kind amount call (always nodesize) position changes
          (calls f.kind) (positions f.kind)
          (always-bounded nodesize) (facts f);
    }
  where
    m : Name
    m = name_of (AddShared extent name amount)

    call : Item → Answer (List ℕ)
    call i = add_inline_shared i.key.kind i.bytes name amount

    position : Body → RefPosition
    position b = position_anywhere name.kind (one name.parent) name.parent b.refs

    changes : (items : List Item)
        → changed nodesize (AddShared extent name amount) items ≡ added m amount items (on_record extent items (λ c.
        bind (call c.hit) (λ body. ask (always nodesize (length c.hit.bytes) (length body)) 17 (accepted (put_back c body)))))
    changes items = refl

    calls : T (shared_kind name.kind) → (i : Item) (b : Body) → 1 ≤ amount → length i.bytes ≤ 65535
        → read_body i.key.kind i.bytes ≡ accepted b
        → call i ≡ add_at b (make_ref name.kind (one name.parent) amount) (position b)
    calls k i b h l r = ask-yes (shared_kind name.kind) 3 _ k ∙ on-body i.key.kind i.bytes b _ l r

    positions : T (shared_kind name.kind) → (nm : Formed m) (b : Body) → T (ordered b.refs) → T (all long b.refs)
        → PositionOk name.kind (one name.parent) amount nm.naming nm.size b.refs (position b)
    positions k nm b o l =
        subst (λ (at : ℕ). PositionOk name.kind (one name.parent) amount nm.naming nm.size b.refs
        (position_anywhere name.kind (one name.parent) at b.refs))
        (shared-rank name.kind name.parent k)
        (position-anywhere name.kind (one name.parent) amount nm.naming nm.size b.refs o l)

    plain : T (shared_kind name.kind) → AddFacts nodesize sheet m amount room (always nodesize)
        → AddsShared nodesize sheet m amount room
    plain k f =
        let e : grown m f.at (1 + payload_length name.kind) ≡ grown m f.at (shared_size name.kind) =
        ap (grown m f.at) (shared-size name.kind k) in
        let s : length f.at.hit.bytes + grown m f.at (1 + payload_length name.kind) ≤ inline_limit nodesize =
        leb→le _ _ f.seventeen in
        record {
          items = f.items;
          at = f.at;
          kind = k;
          up_to_five = f.up_to_five;
          free = f.own;
          new = of-182 name.kind (inline m f.at) 0 f.nine;
          positive = f.positive;
          single = of-182 name.kind amount 1 f.ten;
          holds = f.eleven;
          short = subst (λ (x : ℕ). length f.at.hit.bytes + x ≤ inline_limit nodesize) e s;
          roomy = subst (λ (x : ℕ). length sheet + x ≤ room) e f.roomy;
          small = subst (λ (x : ℕ). length sheet + x ≤ 262144) e f.small;
        }

    facts : AddsShared nodesize sheet m amount room → AddFacts nodesize sheet m amount room (always nodesize)
    facts f =
        let k = f.kind in
        let e : grown m f.at (shared_size name.kind) ≡ grown m f.at (1 + payload_length name.kind) =
        ap (grown m f.at) (sym (shared-size name.kind k)) in
        let l : ℕ = length f.at.hit.bytes in
        record {
          items = f.items;
          at = f.at;
          up_to_five = f.up_to_five;
          own = f.free;
          nine = only-182 name.kind (inline m f.at) 0 k f.new;
          positive = f.positive;
          ten = only-182 name.kind amount 1 k f.single;
          eleven = f.holds;
          seventeen = le→leb (l + grown m f.at (1 + payload_length name.kind)) (inline_limit nodesize)
              (subst (λ (x : ℕ). length f.at.hit.bytes + x ≤ inline_limit nodesize) e f.short);
          roomy = subst (λ (x : ℕ). length sheet + x ≤ room) e f.roomy;
          small = subst (λ (x : ℕ). length sheet + x ≤ 262144) e f.small;
        }
