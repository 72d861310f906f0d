-- On a balanced sheet no posting is refused with 6, 7, 8, 12, 14 or 16: bodies read, no total outgrows 64 bits, 14 is put to no
-- change, and no data item counts 0. Assumes nothing.
use mathlib.Core.Path.{◌≡◌, refl, sym, ap, subst}
use mathlib.Core.Logic.{◌≢◌}
use mathlib.Core.Bool.{Bool, true, false, not, ◌&&◌, ◌||◌, cond}
use mathlib.Core.List.{List, ◌∷◌, ◌++◌}
use mathlib.Core.Option.{Option, none, some}
use Prim.Native.Nat.{ℕ, zero, suc, ◌+◌, ◌-◌, ◌*◌, ◌^◌, ◌≤◌, ◌<◌}
use native.Mathlib.Omega.{arith}
use lib.Dec.{T, leb, ltb, eqb, le→leb, ltb→lt, lt→ltb}
use lib.ListN.{length}
use Rattle.fields.specs.Lists.{all, same, Cut, first_cut}
use Rattle.fields.specs.Numbers.{le_bytes, words, are_bytes}
use Rattle.fields.specs.Parts.{written}
use Rattle.fields.proofs.Lists.{all_map, all-mid}
use Rattle.format.specs.declared.DataRef.{DataRef}
use Rattle.format.specs.declared.SharedRef.{SharedRef}
use Rattle.format.specs.declared.Keyed.{Keyed}
use Rattle.format.specs.declared.Keyed.TheVariants.{Block, Data}
use Rattle.format.specs.declared.Key.{Key}
use Rattle.format.specs.declared.Change.{Change}
use Rattle.format.specs.declared.Change.TheVariants.{AddBlock, AddData, AddShared, DropBlock, DropData, DropShared}
use Rattle.format.specs.Questions.{Answer, refused, absent, remove, accepted, ask, bind, needed, found, if_absent, also, held}
use Rattle.format.specs.References.{counted, Ref, Body, total_of, read_body}
use Rattle.format.specs.Bodies.{named, triple, body_fits, shared_kind, on_body, on_head, raised_by, lowered_by_one, lowered_by_part, on_total, drop_inline, keyed_count, drop_keyed_data_ref, RefPosition, is_gap, standing_weight, add_at, add_inline_tree_ref, add_inline_data, add_inline_shared}
use Rattle.format.specs.Items.{Item, read_sheet, on_sheet, nodesize_fits, sheet_holds, held_sheet}
use Rattle.format.specs.Sheets.{has_key}
use Rattle.format.specs.Apply.{inline_limit, record_of, on_record, replaced, keyed_body, apply_keyed_add, shared_body, apply_shared_add}
use Rattle.format.specs.Names.{Name, good, balanced}
use Rattle.format.specs.Ledger.{name_of, not_its_own, kind_fits, added, dropped_at, shared_count, less_item, changed, post, posted}
use Rattle.format.specs.History.{Posting, answer_to, balanced_sheet}
use Rattle.format.proofs.Answers.{bind-yes, needed-ok}
use Rattle.format.proofs.Bodies.{read-long, read-total}
use Rattle.format.proofs.Items.{sane, sheet-sane}
use Rattle.theorems.proofs.Edit.{Balanced, balanced-out}
use Rattle.theorems.proofs.Facts.{data-entry}
use Rattle.theorems.proofs.Steps.{tidy, sane-tidy, Here, here_of}
use Rattle.theorems.proofs.OneDrop.{Drop, item_key, in_body, dropped, block_drop, data_drop, shared_drop, block-changes, data-changes, shared-changes}
use Rattle.theorems.proofs.Drops.{own_of}
use Rattle.theorems.proofs.DropCalls.{key-found}
use Rattle.theorems.proofs.Bounds.{total-bound}
use Rattle.theorems.proofs.Changes.{on_of}

-- ---- the refusals that are left

unfoldable allowed : ℕ → Bool
allowed n = not (eqb n 6) && (not (eqb n 7) && (not (eqb n 8) && (not (eqb n 12) && (not (eqb n 14) && not (eqb n 16)))))

pub record Possible (number : ℕ) : Type 0 where
  pub not-6 : number ≢ 6
  pub not-7 : number ≢ 7
  pub not-8 : number ≢ 8
  pub not-12 : number ≢ 12
  pub not-14 : number ≢ 14
  pub not_16 : number ≢ 16

possible : (n : ℕ) → T (allowed n) → Possible n
unfolding allowed
possible n t =
    record {
      not-6 = λ e. rw e at t;
      not-7 = λ e. rw e at t;
      not-8 = λ e. rw e at t;
      not-12 = λ e. rw e at t;
      not-14 = λ e. rw e at t;
      not_16 = λ e. rw e at t;
    }

abbrev clean : {A : Type 0} → Answer A → Bool
clean (refused n) = allowed n
clean absent = true
clean remove = true
clean (accepted a) = true

-- ---- questions: those that may be refused, and those that never are

clean-ask : {A : Type 0} (b : Bool) (n : ℕ) (next : Answer A) → T (allowed n) → (T b → T (clean next))
    → T (clean (ask b n next))
unfolding ask
clean-ask true n next t f = f tt
clean-ask false n next t f = t

clean-sure : {A : Type 0} (b : Bool) (n : ℕ) (next : Answer A) → T b → T (clean next) → T (clean (ask b n next))
unfolding ask
clean-sure true n next t u = u
clean-sure false n next t u = absurd t

clean-bind : {A B : Type 0} (r : Answer A) (next : A → Answer B) → T (clean r) → ((a : A) → r ≡ accepted a → T (clean (next a)))
    → T (clean (bind r next))
unfolding bind
clean-bind (refused n) next t f = t
clean-bind absent next t f = tt
clean-bind remove next t f = tt
clean-bind (accepted a) next t f = f a refl

clean-needed : {A : Type 0} (n : ℕ) (o : Option A) → T (allowed n) → T (clean (needed n o))
unfolding needed
clean-needed n none t = t
clean-needed n (some a) t = tt

clean_found : {A : Type 0} (o : Option A) → T (clean (found o))
unfolding found
clean_found none = tt
clean_found (some a) = tt

clean-if_absent : {A : Type 0} (r s : Answer A) → T (clean r) → T (clean s) → T (clean (if_absent r s))
unfolding if_absent
clean-if_absent (refused n) s t u = t
clean-if_absent absent s t u = u
clean-if_absent remove s t u = tt
clean-if_absent (accepted a) s t u = tt

clean-also : {A : Type 0} (b : Bool) (n : ℕ) (r : Answer A) → T (allowed n) → T (clean r) → T (clean (also b n r))
unfolding also
clean-also true n r t u = u
clean-also false n (refused m) t u = go (leb m n)
  where
    go : (c : Bool) → T (allowed (cond c m n))
    go true = u
    go false = t
clean-also false n absent t u = t
clean-also false n remove t u = t
clean-also false n (accepted a) t u = t

clean-held : {A : Type 0} (holds : A → Bool) (r : Answer A) → T (clean r) → T (clean (held holds r))
unfolding held allowed
clean-held holds r t = clean-bind r _ t (λ a _. clean-ask (holds a) 21 (accepted a) tt (λ _. tt))

-- ---- calls on a body that reads

clean-on_body : {A : Type 0} (type : ℕ) (d : List ℕ) (b : Body) (next : Body → Answer A) → read_body type d ≡ accepted b
    → T (clean (next b))
    → T (clean (on_body type d next))
unfolding on_body allowed
clean-on_body type d b next r t =
    clean-ask (body_fits d) 3 _ tt (λ _. subst (λ x. T (clean x)) (sym (bind-yes (read_body type d) next r)) t)

clean-on_total : (type : ℕ) (d : List ℕ) (b : Body) (next : ℕ → Answer ℕ) → read_body type d ≡ accepted b
    → T (clean (next b.total))
    → T (clean (on_total d next))
unfolding on_total on_head allowed
clean-on_total type d b next r t =
    clean-ask (body_fits d) 3 _ tt (λ _.
    clean-sure (leb 24 (length d)) 6 _ (le→leb 24 (length d) (read-long type d b r))
    (clean-bind (next (total_of d)) _ (subst (λ (n : ℕ). T (clean (next n))) (sym (read-total type d b r)) t) (λ n _. tt)))

clean-lowered : (total : ℕ) → T (clean (lowered_by_one total))
unfolding lowered_by_one allowed
clean-lowered total = clean-ask (leb 2 total) 13 _ tt (λ _. tt)

clean-part : (amount standing total : ℕ) → T (clean (lowered_by_part amount standing total))
unfolding lowered_by_part allowed
clean-part amount standing total =
    clean-ask (leb 1 amount) 10 _ tt (λ _. clean-ask (leb amount standing) 22 _ tt (λ _. tt))

-- 12: what passes 11 is small
clean-add_at : (b : Body) (r : Ref) (position : RefPosition) → b.total ≤ 4294967296 * 262144 → T (clean (add_at b r position))
unfolding add_at raised_by allowed
clean-add_at b r position h =
    clean-ask (counted r.kind || is_gap position) 9 _ tt (λ _.
    clean-ask (counted r.kind || eqb r.weight 1) 10 _ tt (λ _.
    clean-ask (ltb (standing_weight position + r.weight) (2 ^ 32)) 11 _ tt (λ e.
    clean-bind (ask (ltb (b.total + r.weight) (2 ^ 64)) 12 (accepted (b.total + r.weight))) _
    (let l : standing_weight position + r.weight < 4294967296 = ltb→lt _ _ e in
    let k : b.total + r.weight < 18446744073709551616 = omega arith in
    clean-sure (ltb (b.total + r.weight) (2 ^ 64)) 12 _
    (lt→ltb (b.total + r.weight) 18446744073709551616 k) tt) (λ t _. tt))))

-- 16: an item that counts
clean-drop_keyed : (d : List ℕ) (name : DataRef) → 1 ≤ keyed_count d → T (clean (drop_keyed_data_ref d name))
unfolding drop_keyed_data_ref allowed
clean-drop_keyed d name h =
    clean-ask (body_fits d) 3 _ tt (λ _.
    clean-ask (eqb (length d) 28 && same (words 3 d) (triple name)) 15 _ tt (λ _.
    clean-sure (leb 1 (keyed_count d)) 16 _ (le→leb 1 (keyed_count d) h) (go (eqb (keyed_count d) 1))))
  where
    go : (c : Bool) → T (clean (cond c remove (accepted (written 24 (le_bytes 4 (keyed_count d - 1)) d))))
    go true = tt
    go false = tt

clean-less_item : (standing amount : ℕ) → T (clean (less_item standing amount))
unfolding less_item
clean-less_item standing amount = go (ltb amount standing)
  where
    go : (c : Bool) → T (clean (cond c (accepted (le_bytes 4 (standing - amount))) remove))
    go true = tt
    go false = tt

clean-dropped_at : (k : Cut Item) (answer : Answer (List ℕ)) → T (clean answer) → T (clean (dropped_at k answer))
unfolding dropped_at
clean-dropped_at k (refused n) t = t
clean-dropped_at k absent t = tt
clean-dropped_at k remove t = tt
clean-dropped_at k (accepted d) t = tt

clean-replaced : (key : Key) (d : List ℕ) (items : List Item) → T (clean (replaced key d items))
unfolding replaced allowed
clean-replaced key d items =
    clean-bind (needed 5 (first_cut (has_key key) items)) _ (clean-needed 5 (first_cut (has_key key) items) tt) (λ c _. tt)

-- ---- the six changes

module _ (items : List Item) (balance : Balanced items) (tidies : T (all tidy items))
    (most : (m : Name) (c : Cut Item) (b : Body) → Here m items c b → b.total ≤ 4294967296 * 262144) where
  clean-on_record : {A : Type 0} (m : Name) (next : Cut Item → Answer A)
      → ((c : Cut Item) (b : Body) → Here m items c b → T (clean (next c)))
      → T (clean (on_record m.extent items next))
  unfolding on_record allowed
  clean-on_record m next f =
      clean-bind (needed 5 (first_cut (record_of m.extent) items)) next (clean-needed 5 (first_cut (record_of m.extent) items) tt)
      (λ c e.
      let (b, H) = here_of m items c balance tidies (needed-ok 5 (first_cut (record_of m.extent) items) e) in f c b H)

  clean-keyed_body : (m : Name) (c : Cut Item) (b : Body) → Here m items c b → (keyed : Keyed) (amount : ℕ)
      → T (clean (keyed_body c.hit keyed amount false))
  unfolding keyed_body add_inline_tree_ref add_inline_data
  clean-keyed_body m c b H (Block block) amount =
      clean-on_body c.hit.key.kind c.hit.bytes b _ H.reads (clean-add_at b _ _ (most m c b H))
  clean-keyed_body m c b H (Data d) zero = tt
  clean-keyed_body m c b H (Data d) (suc amount) =
      clean-on_body c.hit.key.kind c.hit.bytes b _ H.reads (clean-add_at b _ _ (most m c b H))

  clean-keyed_add : (nodesize : ℕ) (m : Name) (keyed : Keyed) (amount : ℕ)
      → T (clean (apply_keyed_add nodesize m.extent keyed amount false items))
  unfolding apply_keyed_add allowed
  clean-keyed_add nodesize m keyed amount =
      clean-on_record m _ (λ c b H.
      clean-bind (keyed_body c.hit keyed amount false) _ (clean-keyed_body m c b H keyed amount) (λ d _.
      clean-ask (leb (length d) (length c.hit.bytes) || leb (length d) (inline_limit nodesize)) 17 _ tt (λ _. tt)))

  clean-shared_add : (nodesize : ℕ) (m : Name) (s : SharedRef) (amount : ℕ)
      → T (clean (apply_shared_add nodesize m.extent s amount false items))
  unfolding apply_shared_add shared_body add_inline_shared allowed
  clean-shared_add nodesize m s amount =
      clean-on_record m _ (λ c b H.
      clean-bind (add_inline_shared c.hit.key.kind c.hit.bytes s amount) _
      (clean-ask (shared_kind s.kind) 3 _ tt (λ _.
      clean-on_body c.hit.key.kind c.hit.bytes b _ H.reads (clean-add_at b _ _ (most m c b H)))) (λ d _.
      clean-ask (leb (length d) (inline_limit nodesize)) 17 _ tt (λ _. tt)))

  clean-added : (m : Name) (amount : ℕ) (answer : Answer (List Item)) → T (clean answer)
      → T (clean (added m amount items answer))
  unfolding added allowed
  clean-added m amount answer t = clean-also (all (not_its_own m) items) 9 _ tt (clean-also (leb 1 amount) 10 answer tt t)

  clean-dropped : (p : Drop) → ((standing total : ℕ) → T (clean (p.lowered standing total)))
      → ((k : Cut Item) → items ≡ k.front ++ k.hit ∷ k.back → k.hit.key.kind ≡ p.name.kind → T (clean (p.left k.hit)))
      → (c : Cut Item) (b : Body) → Here p.name items c b → T (clean (dropped p items c))
  unfolding dropped drop_inline allowed
  clean-dropped p l f c b H =
      clean-if_absent _ _
      (clean-bind (in_body p c) _
      (clean-on_body c.hit.key.kind c.hit.bytes b _ H.reads
      (clean-bind (found (first_cut (named p.name.kind p.name.fields) b.refs)) _
      (clean_found (first_cut (named p.name.kind p.name.fields) b.refs)) (λ x _.
      clean-bind (p.lowered x.hit.weight b.total) _ (l x.hit.weight b.total) (λ t _. tt)))) (λ body _. tt))
      (clean-bind (needed 5 (first_cut (has_key (item_key p c.hit.key.objectid)) items)) _
      (clean-needed 5 (first_cut (has_key (item_key p c.hit.key.objectid)) items) tt) (λ k e.
      clean-bind (on_total c.hit.bytes (p.lowered (p.counts k.hit))) _
      (clean-on_total c.hit.key.kind c.hit.bytes b (p.lowered (p.counts k.hit)) H.reads (l (p.counts k.hit) b.total)) (λ body _.
      clean-bind (dropped_at k (p.left k.hit)) _
      (clean-dropped_at k (p.left k.hit)
      (let (same, key) = key-found (item_key p c.hit.key.objectid) items k e in f k same (ap (λ (z : Key). z.kind) key)))
      (λ others _. clean-replaced c.hit.key body others))))

  -- an item of a data reference counts something
  data-counts : (k : Cut Item) → items ≡ k.front ++ k.hit ∷ k.back → k.hit.key.kind ≡ 178 → 1 ≤ keyed_count k.hit.bytes
  data-counts k same kind =
      (own_of (record { extent = k.hit.key.objectid; kind = 178; fields = words 3 k.hit.bytes }) items k
      (keyed_count k.hit.bytes) balance same kind refl
      (data-entry k.hit kind (all-mid good k.front k.hit k.back (rw same at balance.goods)))).positive

  clean-changed : (nodesize : ℕ) (change : Change) → T (clean (changed nodesize change items))
  unfolding changed
  clean-changed nodesize (AddBlock extent name) =
      let m : Name = name_of (AddBlock extent name) in clean-added m 1 _ (clean-keyed_add nodesize m (Block name) 1)
  clean-changed nodesize (AddData extent name amount) =
      let m : Name =
      name_of (AddData extent name amount) in clean-added m amount _ (clean-keyed_add nodesize m (Data name) amount)
  clean-changed nodesize (AddShared extent name amount) =
      let m : Name = name_of (AddShared extent name amount) in clean-added m amount _ (clean-shared_add nodesize m name amount)
  clean-changed nodesize (DropBlock extent name) =
      let p : Drop = block_drop extent name in
      subst (λ r. T (clean r)) (sym (block-changes nodesize extent name items))
      (clean-on_record p.name _ (clean-dropped p (λ standing. clean-lowered) (λ k same kind. tt)))
  clean-changed nodesize (DropData extent name) =
      let p : Drop = data_drop extent name in
      subst (λ r. T (clean r)) (sym (data-changes nodesize extent name items))
      (clean-on_record p.name _
      (clean-dropped p (λ standing. clean-lowered) (λ k same kind. clean-drop_keyed k.hit.bytes name (data-counts k same kind))))
  clean-changed nodesize (DropShared extent name amount) =
      let p : Drop = shared_drop extent name amount in
      subst (λ r. T (clean r)) (sym (shared-changes nodesize extent name amount items))
      (clean-on_record p.name _ (clean-dropped p (clean-part amount) (λ k same kind. clean-less_item (shared_count k.hit) amount)))

-- ---- a posting

pub impossible : (sheet : List ℕ) (p : Posting) → T (are_bytes sheet) → T (balanced_sheet sheet) → (number : ℕ)
    → answer_to sheet p ≡ refused number
    → Possible number
unfolding answer_to posted held_sheet post on_sheet allowed
impossible sheet p b t number e =
    let (items, o) = on_of sheet b t in
    let balance = balanced-out items o.balance in
    let tidies = all_map sane tidy sane-tidy items (sheet-sane sheet items b o.reads).0 in
    let most : (m : Name) (c : Cut Item) (b' : Body) → Here m items c b' → b'.total ≤ 4294967296 * 262144 =
    (λ m c b' H. total-bound sheet m items c b' b o.reads H balance tidies) in
    let read : T (clean (bind (read_sheet sheet) (λ (js : List Item).
    ask (nodesize_fits p.nodesize && kind_fits p.change) 3 (ask (balanced js) 4 (changed p.nodesize p.change js))))) =
    subst (λ x. T (clean x)) (sym (bind-yes (read_sheet sheet) _ o.reads))
    (clean-ask (nodesize_fits p.nodesize && kind_fits p.change) 3 _ tt (λ _.
    clean-ask (balanced items) 4 _ tt (λ _.
    clean-changed items balance tidies most p.nodesize p.change))) in
    let c : T (clean (answer_to sheet p)) =
    clean-bind (held (sheet_holds p.room) (post p.nodesize sheet p.change)) _
    (clean-held (sheet_holds p.room) (post p.nodesize sheet p.change) read) (λ js _. tt) in
    possible number (subst (λ x. T (clean x)) e c)
