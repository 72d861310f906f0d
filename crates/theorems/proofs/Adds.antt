-- The three adds: an accepted one is a step that brings its amount under its name. Assumes nothing.
use mathlib.Core.Path.{◌≡◌, refl, sym, ap, ◌∙◌, subst}
use mathlib.Core.Logic.{◌⊎◌, inl, inr}
use Prim.Native.Nat.{ℕ, zero, suc, ◌+◌, ◌^◌, ◌≤◌, ◌<◌}
use native.Mathlib.Omega.{arith}
use mathlib.Core.Bool.{false, not, ◌||◌}
use mathlib.Core.Option.{none, some}
use mathlib.Core.List.{List, [], ◌∷◌, ◌++◌}
use lib.ListN.{length}
use lib.Dec.{T, leb, ltb, eqb, eqb→eq, leb→le, ltb→lt}
use mir.Facts.{or_yes, T_not}
use Rattle.std.proofs.Math.Bool.{or-false}
use Rattle.fields.specs.Lists.{all, Cut}
use Rattle.fields.proofs.Lists.{all-mid, all_rest, all-put}
use Rattle.format.specs.declared.BlockRef.{BlockRef}
use Rattle.format.specs.declared.DataRef.{DataRef}
use Rattle.format.specs.declared.SharedRef.{SharedRef}
use Rattle.format.specs.declared.Keyed.TheVariants.{Block, Data}
use Rattle.format.specs.declared.Change.TheVariants.{AddBlock, AddData, AddShared}
use Rattle.format.specs.Questions.{Answer, accepted, ask}
use Rattle.format.specs.References.{counted, weight_of, Ref, make_ref, Body, body_with, body_bytes, rank_of}
use Rattle.format.specs.Bodies.{one, triple, weighed, shared_kind, raised_by, RefPosition, gap, standing, is_gap, standing_weight, added_at, add_at, position_anywhere, position_by_scan, add_inline_tree_ref, add_inline_data, add_inline_shared}
use Rattle.format.specs.Items.{Item, put_back}
use Rattle.format.specs.Apply.{inline_limit, keyed_body, apply_keyed_add, shared_body, apply_shared_add}
use Rattle.format.specs.Names.{Name, ref_entries}
use Rattle.format.specs.Ledger.{name_of, not_its_own, added}
use Rattle.format.proofs.Answers.{ask-ok, bind_ok, also-ok, accepted-inj}
use Rattle.format.proofs.Refs.{whole, whole_in, whole-weighed}
use Rattle.format.proofs.Bodies.{sound-with}
use Rattle.theorems.proofs.Naming.{not-172, naming-known, weighs-one, shared-rank}
use Rattle.theorems.proofs.Order.{named-yes, PositionOk, at_gap, at-standing, position-anywhere, position-by-scan, ordered-weighed}
use Rattle.theorems.proofs.Edit.{Balanced}
use Rattle.theorems.proofs.Facts.{named-entries, not-empty}
use Rattle.theorems.proofs.Steps.{tidy, NameOk, Step, Here, on-record, on-body, ordered_at, long-at, inline-step, nowhere}

-- what an accepted addition says, and the body that it makes
pub record Added (b : Body) (r : Ref) (position : RefPosition) (body : List ℕ) : Type 0 where
  pub nine : T (counted r.kind || is_gap position)
  pub ten : T (counted r.kind || eqb r.weight 1)
  pub eleven : standing_weight position + r.weight < 4294967296
  pub twelve : b.total + r.weight < 18446744073709551616
  pub made : body_bytes (body_with b (b.total + r.weight) (added_at r position)) ≡ body

pub added_out : (b : Body) (r : Ref) (position : RefPosition) (body : List ℕ) → add_at b r position ≡ accepted body → Added b r position body
unfolding add_at raised_by
added_out b r position body e =
    let h₉ = ask-ok (counted r.kind || is_gap position) 9 _ e in
    let h₁₀ = ask-ok (counted r.kind || eqb r.weight 1) 10 _ h₉.1 in
    let h₁₁ = ask-ok (ltb (standing_weight position + r.weight) (2 ^ 32)) 11 _ h₁₀.1 in
    let h = bind_ok (ask (ltb (b.total + r.weight) (2 ^ 64)) 12 (accepted (b.total + r.weight))) _ h₁₁.1 in
    let h₁₂ = ask-ok (ltb (b.total + r.weight) (2 ^ 64)) 12 _ h.1 in
    record {
      nine = h₉.0;
      ten = h₁₀.0;
      eleven = ltb→lt _ _ h₁₁.0;
      twelve = ltb→lt _ _ h₁₂.0;
      made = ap (λ (t : ℕ). body_bytes (body_with b t (added_at r position))) (accepted-inj h₁₂.1) ∙ accepted-inj h.2;
    }

-- the new reference is whole
whole-new : (m : Name) (n : ℕ) → NameOk m → T (counted m.kind || eqb n 1) → n < 4294967296
    → T (whole (make_ref m.kind m.fields n))
whole-new m n name_ok t l =
    whole_in (make_ref m.kind m.fields n)
    (record {
      kind_known = naming-known m.kind name_ok.naming;
      fields_long = name_ok.size;
      fields_small = name_ok.small;
      weighs = λ _. l;
      weight_fixed = λ u. go u (or_yes (counted m.kind) (eqb n 1) t);
    })
  where
    go : T (not (counted m.kind)) → T (counted m.kind) ⊎ T (eqb n 1) → n ≡ weight_of m.kind 0
    go u (inl h) = absurd (T_not (counted m.kind) h u)
    go u (inr h) = eqb→eq n 1 h ∙ sym (weighs-one m.kind name_ok.naming 0 u)

-- ---- an accepted addition at a good position is a step

module _ (m : Name) (name_ok : NameOk m) (n : ℕ) (items : List Item) (c : Cut Item) (b : Body) (H : Here m items c b)
    (balance : Balanced items)
    (tidies : T (all tidy items)) (own : T (all (not_its_own m) items)) (one≤ : 1 ≤ n) where
  -- the references after it are whole
  pub added-whole : (position : RefPosition) → PositionOk m.kind m.fields n name_ok.naming name_ok.size b.refs position
      → T (counted m.kind || is_gap position) → T (counted m.kind || eqb n 1) → standing_weight position + n < 4294967296
      → T (all whole (added_at (make_ref m.kind m.fields n) position))
  unfolding is_gap standing_weight
  added-whole (gap p q) (at_gap e o t) nine ten eleven =
      let lt : n < 4294967296 = omega arith in
      all-put whole p (make_ref m.kind m.fields n) q (rw e at H.sound.wholes) (whole-new m n name_ok ten lt)
  added-whole (standing x) (at-standing f) nine ten eleven =
      let ws : T (all whole (x.front ++ x.hit ∷ x.back)) = rw f.same at H.sound.wholes in
      let k : x.hit.kind ≡ m.kind = (named-yes m.kind m.fields x.hit f.hit).0 in
      let cn : T (counted x.hit.kind) = rw k (subst T (or-false (counted m.kind)) nine) in
      all-put whole x.front (weighed x.hit (x.hit.weight + n)) x.back (all_rest whole x.front x.hit x.back ws)
      (whole-weighed x.hit (x.hit.weight + n) (all-mid whole x.front x.hit x.back ws) (λ _. eleven)
      (λ u. absurd (T_not (counted x.hit.kind) cn u)))

  add-position : (position : RefPosition) → PositionOk m.kind m.fields n name_ok.naming name_ok.size b.refs position
      → T (counted m.kind || is_gap position) → T (counted m.kind || eqb n 1)
      → standing_weight position + n < 4294967296 → b.total + n < 18446744073709551616
      → Step m n 0 items (put_back c (body_bytes (body_with b (b.total + n) (added_at (make_ref m.kind m.fields n) position))))
  unfolding ref_entries is_gap standing_weight
  add-position (gap p q) (at_gap e o t) nine ten eleven twelve =
      let r : Ref = make_ref m.kind m.fields n in
      inline-step m items c b H balance tidies none (some n) (body_with b (b.total + n) (p ++ r ∷ q))
      (record {
        front = p;
        leaves = [];
        enters = r ∷ [];
        back = q;
        was = e;
        now = refl;
        leaving = refl;
        entering = named-entries m r (not-172 m.kind name_ok.naming) refl refl;
      })
      o (omega arith)
      (sound-with c.hit.key.kind b (b.total + n) (p ++ r ∷ q) H.sound twelve (added-whole (gap p q) (at_gap e o t) nine ten eleven))
      0 n (omega arith) (not-empty m n one≤) (nowhere m items c b H balance tidies t own)
  add-position (standing x) (at-standing found) nine ten eleven twelve =
      let e = found.same in
      let w : ℕ = x.hit.weight in
      let x' : Ref = weighed x.hit (w + n) in
      let (k, f) = named-yes m.kind m.fields x.hit found.hit in
      let q : eqb m.kind 172 ≡ false = not-172 m.kind name_ok.naming in
      inline-step m items c b H balance tidies (some w) (some (w + n)) (body_with b (b.total + n) (x.front ++ x' ∷ x.back))
      (record {
        front = x.front;
        leaves = x.hit ∷ [];
        enters = x' ∷ [];
        back = x.back;
        was = e;
        now = refl;
        leaving = named-entries m x.hit q k f;
        entering = named-entries m x' q k f;
      })
      (ordered-weighed x.front x.hit (w + n) x.back (rw e at (ordered_at m items c b H balance tidies))) (omega arith)
      (sound-with c.hit.key.kind b (b.total + n) (x.front ++ x' ∷ x.back) H.sound twelve
      (added-whole (standing x) (at-standing found) nine ten eleven))
      0 n (omega arith) (not-empty m (w + n) (omega arith)) tt

  add-at : (position : RefPosition) → PositionOk m.kind m.fields n name_ok.naming name_ok.size b.refs position → (body : List ℕ)
      → add_at b (make_ref m.kind m.fields n) position ≡ accepted body → Step m n 0 items (put_back c body)
  add-at position ok body e =
      let A = added_out b (make_ref m.kind m.fields n) position body e in
      subst (λ (d : List ℕ). Step m n 0 items (put_back c d)) A.made
      (add-position position ok A.nine A.ten A.eleven A.twelve)

-- ---- the questions of the ledger around an add

pub added-questions : (m : Name) (amount : ℕ) (items : List Item) (answer : Answer (List Item)) (after : List Item)
    → added m amount items answer ≡ accepted after → T (all (not_its_own m) items) × (1 ≤ amount) × (answer ≡ accepted after)
unfolding added
added-questions m amount items answer after e =
    let h₉ = also-ok (all (not_its_own m) items) 9 _ e in
    let h₁₀ = also-ok (leb 1 amount) 10 _ h₉.1 in
    (h₉.0, leb→le _ _ h₁₀.0, h₁₀.1)

-- ---- the three adds

pub add-block : (nodesize extent : ℕ) (name : BlockRef) (items after : List Item) → NameOk (name_of (AddBlock extent name))
    → Balanced items → T (all tidy items)
    → added (name_of (AddBlock extent name)) 1 items (apply_keyed_add nodesize extent (Block name) 1 false items) ≡ accepted after
    → Step (name_of (AddBlock extent name)) 1 0 items after
unfolding apply_keyed_add keyed_body add_inline_tree_ref rank_of
add-block nodesize extent name items after name_ok balance tidies e =
    let m : Name = name_of (AddBlock extent name) in
    let (own, one≤, e₁) = added-questions m 1 items _ after e in
    let (c, b, H, e₂) = on-record m items after _ balance tidies e₁ in
    let h = bind_ok (add_inline_tree_ref c.hit.key.kind c.hit.bytes name) _ e₂ in
    let h₁₇ = ask-ok (leb (length h.0) (length c.hit.bytes) || leb (length h.0) (inline_limit nodesize)) 17 _ h.2 in
    subst (Step m 1 0 items) (accepted-inj h₁₇.1)
    (add-at m name_ok 1 items c b H balance tidies own one≤ (position_anywhere 176 (one name.tree) name.tree b.refs)
    (position-anywhere 176 (one name.tree) 1 name_ok.naming name_ok.size b.refs (ordered_at m items c b H balance tidies) (long-at m items c b H balance tidies))
    h.0 (on-body c.hit.key.kind c.hit.bytes b _ H.reads h.1))

pub add-data : (nodesize extent : ℕ) (name : DataRef) (amount : ℕ) (items after : List Item)
    → NameOk (name_of (AddData extent name amount)) → Balanced items
    → T (all tidy items)
    → added (name_of (AddData extent name amount)) amount items (apply_keyed_add nodesize extent (Data name) amount false items) ≡ accepted after
    → Step (name_of (AddData extent name amount)) amount 0 items after
unfolding apply_keyed_add keyed_body add_inline_data
add-data nodesize extent name zero items after name_ok balance tidies e =
    let z = (added-questions (name_of (AddData extent name 0)) 0 items _ after e).1 in absurd (omega arith)
add-data nodesize extent name (suc amount) items after name_ok balance tidies e =
    let m : Name = name_of (AddData extent name (suc amount)) in
    let n : ℕ = suc amount in
    let (own, one≤, e₁) = added-questions m n items _ after e in
    let (c, b, H, e₂) = on-record m items after _ balance tidies e₁ in
    let h = bind_ok (add_inline_data c.hit.key.kind c.hit.bytes name n) _ e₂ in
    let h₁₇ = ask-ok (leb (length h.0) (length c.hit.bytes) || leb (length h.0) (inline_limit nodesize)) 17 _ h.2 in
    subst (Step m n 0 items) (accepted-inj h₁₇.1)
    (add-at m name_ok n items c b H balance tidies own one≤ (position_by_scan 178 (triple name) b.refs)
    (position-by-scan 178 (triple name) n name_ok.naming name_ok.size b.refs (ordered_at m items c b H balance tidies) (long-at m items c b H balance tidies))
    h.0 (on-body c.hit.key.kind c.hit.bytes b _ H.reads h.1))

pub add-shared : (nodesize extent : ℕ) (name : SharedRef) (amount : ℕ) (items after : List Item) → T (shared_kind name.kind)
    → NameOk (name_of (AddShared extent name amount)) → Balanced items → T (all tidy items)
    → added (name_of (AddShared extent name amount)) amount items (apply_shared_add nodesize extent name amount false items) ≡ accepted after
    → Step (name_of (AddShared extent name amount)) amount 0 items after
unfolding apply_shared_add shared_body add_inline_shared
add-shared nodesize extent name amount items after sk name_ok balance tidies e =
    let m : Name = name_of (AddShared extent name amount) in
    let (own, one≤, e₁) = added-questions m amount items _ after e in
    let (c, b, H, e₂) = on-record m items after _ balance tidies e₁ in
    let h = bind_ok (add_inline_shared c.hit.key.kind c.hit.bytes name amount) _ e₂ in
    let h₃ = ask-ok (shared_kind name.kind) 3 _ h.1 in
    let h₁₇ = ask-ok (leb (length h.0) (inline_limit nodesize)) 17 _ h.2 in
    let f : List ℕ = one name.parent in
    subst (Step m amount 0 items) (accepted-inj h₁₇.1)
    (add-at m name_ok amount items c b H balance tidies own one≤ (position_anywhere name.kind f name.parent b.refs)
    (subst (λ (at : ℕ). PositionOk name.kind f amount name_ok.naming name_ok.size b.refs (position_anywhere name.kind f at b.refs))
    (shared-rank name.kind name.parent sk)
    (position-anywhere name.kind f amount name_ok.naming name_ok.size b.refs (ordered_at m items c b H balance tidies) (long-at m items c b H balance tidies)))
    h.0 (on-body c.hit.key.kind c.hit.bytes b _ H.reads h₃.1))
