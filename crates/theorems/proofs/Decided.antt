-- A posting is refused or accepted: absent and remove, which the calls below it may say, never come out of it.
-- Assumes nothing.
use mathlib.Core.Path.{◌≡◌, refl, sym, subst}
use mathlib.Core.Bool.{Bool, true, false, ◌&&◌, ◌||◌, cond}
use mathlib.Core.List.{List}
use Prim.Native.Nat.{ℕ, zero, suc, ◌+◌, ◌-◌, ◌^◌}
use lib.Dec.{T, leb, ltb, eqb}
use lib.ListN.{length}
use Rattle.fields.specs.Lists.{all, same, Cut, first_cut}
use Rattle.fields.specs.Numbers.{le_bytes, words}
use Rattle.fields.specs.Parts.{written}
use Rattle.format.specs.declared.DataRef.{DataRef}
use Rattle.format.specs.declared.SharedRef.{SharedRef}
use Rattle.format.specs.declared.Keyed.{Keyed}
use Rattle.format.specs.declared.Keyed.TheVariants.{Block, Data}
use Rattle.format.specs.declared.Key.{Key}
use Rattle.format.specs.declared.Change.{Change}
use Rattle.format.specs.declared.Change.TheVariants.{AddBlock, AddData, AddShared, DropBlock, DropData, DropShared}
use Rattle.format.specs.Questions.{Answer, is_refusal, decides, keeps, refused, absent, remove, accepted, ask, needed, found, if_absent, also, held}
use Rattle.format.specs.References.{counted, Ref, Body, total_of, read_body}
use Rattle.format.specs.Bodies.{named, triple, body_fits, shared_kind, on_body, on_head, raised_by, on_total, drop_inline, keyed_count, drop_keyed_data_ref, RefPosition, is_gap, standing_weight, add_at, add_inline_tree_ref, add_inline_data, add_inline_shared}
use Rattle.format.specs.Items.{Item, read_sheet, on_sheet, nodesize_fits, sheet_holds, held_sheet}
use Rattle.format.specs.Sheets.{has_key}
use Rattle.format.specs.Apply.{inline_limit, record_of, on_record, replaced, keyed_body, apply_keyed_add, shared_body, apply_shared_add}
use Rattle.format.specs.Names.{Name, balanced}
use Rattle.format.specs.Ledger.{not_its_own, kind_fits, added, dropped_at, shared_count, less_item, changed, post, posted}
use Rattle.format.specs.History.{Posting, answer_to}
use Rattle.format.proofs.Decisions.{decides-ask, decides-bind, decides-needed, body-decides, sheet-decides, on-body-decides, keeps-ask, keeps-bind, decides-keeps, keeps-found}
use Rattle.theorems.proofs.Lowered.{Lowers, one-lowers, part-lowers}
use Rattle.theorems.proofs.OneDrop.{Drop, item_key, in_body, dropped, block_drop, data_drop, shared_drop, block-changes, data-changes, shared-changes}
use Rattle.theorems.specs.Demand.{Decided, no, yes}

-- ---- a refusal or a result; not remove; not absent

abbrev finds : {A : Type 0} → Answer A → Bool
finds (refused n) = is_refusal n
finds absent = false
finds remove = true
finds (accepted a) = true

found-ask : {A : Type 0} (b : Bool) (n : ℕ) → T (is_refusal n) → (next : Answer A) → T (finds next) → T (finds (ask b n next))
unfolding ask
found-ask true n r next t = t
found-ask false n r next t = r

decides-if_absent : {A : Type 0} (r s : Answer A) → T (keeps r) → T (decides s) → T (decides (if_absent r s))
unfolding if_absent
decides-if_absent (refused n) s t u = t
decides-if_absent absent s t u = u
decides-if_absent remove s t u = absurd t
decides-if_absent (accepted a) s t u = tt

decides-also : {A : Type 0} (b : Bool) (n : ℕ) → T (is_refusal n) → (a : Answer A) → T (decides a) → T (decides (also b n a))
unfolding also
decides-also true n r a t = t
decides-also false n r (refused m) t = lower (leb m n)
  where
    lower : (c : Bool) → T (is_refusal (cond c m n))
    lower true = t
    lower false = r
decides-also false n r absent t = r
decides-also false n r remove t = r
decides-also false n r (accepted a) t = r

decides-held : {A : Type 0} (holds : A → Bool) (r : Answer A) → T (decides r) → T (decides (held holds r))
unfolding held
decides-held holds r t = decides-bind r _ t (λ a. decides-ask (holds a) 21 tt (accepted a) tt)

-- ---- calls on bodies

keeps-on_body : {A : Type 0} (type : ℕ) (d : List ℕ) (next : Body → Answer A) → ((b : Body) → T (keeps (next b)))
    → T (keeps (on_body type d next))
unfolding on_body
keeps-on_body type d next f =
    keeps-ask (body_fits d) 3 tt _ (keeps-bind (read_body type d) next (decides-keeps (read_body type d) (body-decides type d)) f)

decides-on_total : (d : List ℕ) (next : ℕ → Answer ℕ) → ((n : ℕ) → T (decides (next n))) → T (decides (on_total d next))
unfolding on_total on_head
decides-on_total d next f =
    decides-ask (body_fits d) 3 tt _ (decides-ask (leb 24 (length d)) 6 tt _ (decides-bind (next (total_of d)) _ (f (total_of d)) (λ n. tt)))

decides-add_at : (b : Body) (r : Ref) (position : RefPosition) → T (decides (add_at b r position))
unfolding add_at raised_by
decides-add_at b r position =
    decides-ask (counted r.kind || is_gap position) 9 tt _
    (decides-ask (counted r.kind || eqb r.weight 1) 10 tt _
    (decides-ask (ltb (standing_weight position + r.weight) (2 ^ 32)) 11 tt _
    (decides-bind (ask (ltb (b.total + r.weight) (2 ^ 64)) 12 (accepted (b.total + r.weight))) _
    (decides-ask (ltb (b.total + r.weight) (2 ^ 64)) 12 tt _ tt) (λ t. tt))))

keeps-in_body : (p : Drop) → Lowers p.amount p.lowered → (c : Cut Item) → T (keeps (in_body p c))
unfolding drop_inline
keeps-in_body p L c =
    keeps-on_body c.hit.key.kind c.hit.bytes _ (λ b.
    keeps-bind (found (first_cut (named p.name.kind p.name.fields) b.refs)) _
    (keeps-found (first_cut (named p.name.kind p.name.fields) b.refs)) (λ x.
    keeps-bind (p.lowered x.hit.weight b.total) _
    (decides-keeps (p.lowered x.hit.weight b.total) (L.sure x.hit.weight b.total)) (λ t. tt)))

found-drop_keyed : (d : List ℕ) (name : DataRef) → T (finds (drop_keyed_data_ref d name))
unfolding drop_keyed_data_ref
found-drop_keyed d name =
    found-ask (body_fits d) 3 tt _
    (found-ask (eqb (length d) 28 && same (words 3 d) (triple name)) 15 tt _
    (found-ask (leb 1 (keyed_count d)) 16 tt _ (go (eqb (keyed_count d) 1))))
  where
    go : (c : Bool) → T (finds (cond c remove (accepted (written 24 (le_bytes 4 (keyed_count d - 1)) d))))
    go true = tt
    go false = tt

found-less_item : (standing amount : ℕ) → T (finds (less_item standing amount))
unfolding less_item
found-less_item standing amount = go (ltb amount standing)
  where
    go : (c : Bool) → T (finds (cond c (accepted (le_bytes 4 (standing - amount))) remove))
    go true = tt
    go false = tt

-- ---- calls on sheets

decides-on_record : {A : Type 0} (extent : ℕ) (items : List Item) (next : Cut Item → Answer A)
    → ((c : Cut Item) → T (decides (next c)))
    → T (decides (on_record extent items next))
unfolding on_record
decides-on_record extent items next f =
    decides-bind (needed 5 (first_cut (record_of extent) items)) next (decides-needed 5 tt (first_cut (record_of extent) items)) f

decides-replaced : (key : Key) (d : List ℕ) (items : List Item) → T (decides (replaced key d items))
unfolding replaced
decides-replaced key d items =
    decides-bind (needed 5 (first_cut (has_key key) items)) _ (decides-needed 5 tt (first_cut (has_key key) items)) (λ c. tt)

decides-keyed_body : (i : Item) (keyed : Keyed) (amount : ℕ) → T (decides (keyed_body i keyed amount false))
unfolding keyed_body add_inline_tree_ref add_inline_data
decides-keyed_body i (Block block) amount = on-body-decides i.key.kind i.bytes _ (λ b. decides-add_at b _ _)
decides-keyed_body i (Data d) zero = tt
decides-keyed_body i (Data d) (suc amount) = on-body-decides i.key.kind i.bytes _ (λ b. decides-add_at b _ _)

decides-apply_keyed_add : (nodesize extent : ℕ) (keyed : Keyed) (amount : ℕ) (items : List Item)
    → T (decides (apply_keyed_add nodesize extent keyed amount false items))
unfolding apply_keyed_add
decides-apply_keyed_add nodesize extent keyed amount items =
    decides-on_record extent items _ (λ c.
    decides-bind (keyed_body c.hit keyed amount false) _ (decides-keyed_body c.hit keyed amount) (λ d.
    decides-ask (leb (length d) (length c.hit.bytes) || leb (length d) (inline_limit nodesize)) 17 tt _ tt))

decides-apply_shared_add : (nodesize extent : ℕ) (s : SharedRef) (amount : ℕ) (items : List Item)
    → T (decides (apply_shared_add nodesize extent s amount false items))
unfolding apply_shared_add shared_body add_inline_shared
decides-apply_shared_add nodesize extent s amount items =
    decides-on_record extent items _ (λ c.
    decides-bind (add_inline_shared c.hit.key.kind c.hit.bytes s amount) _
    (decides-ask (shared_kind s.kind) 3 tt _ (on-body-decides c.hit.key.kind c.hit.bytes _ (λ b. decides-add_at b _ _)))
    (λ d.
    decides-ask (leb (length d) (inline_limit nodesize)) 17 tt _ tt))

decides-dropped_at : (k : Cut Item) (answer : Answer (List ℕ)) → T (finds answer) → T (decides (dropped_at k answer))
unfolding dropped_at
decides-dropped_at k (refused n) t = t
decides-dropped_at k absent t = absurd t
decides-dropped_at k remove t = tt
decides-dropped_at k (accepted d) t = tt

decides-dropped : (p : Drop) → Lowers p.amount p.lowered → ((i : Item) → T (finds (p.left i))) → (items : List Item) (c : Cut Item)
    → T (decides (dropped p items c))
unfolding dropped
decides-dropped p L f items c =
    decides-if_absent _ _ (keeps-bind (in_body p c) _ (keeps-in_body p L c) (λ body. tt))
    (decides-bind (needed 5 (first_cut (has_key (item_key p c.hit.key.objectid)) items)) _
    (decides-needed 5 tt (first_cut (has_key (item_key p c.hit.key.objectid)) items)) (λ k.
    decides-bind (on_total c.hit.bytes (p.lowered (p.counts k.hit))) _
    (decides-on_total c.hit.bytes (p.lowered (p.counts k.hit)) (L.sure (p.counts k.hit))) (λ body.
    decides-bind (dropped_at k (p.left k.hit)) _ (decides-dropped_at k (p.left k.hit) (f k.hit)) (λ others.
    decides-replaced c.hit.key body others))))

-- ---- changes and postings

decides-added : (n : Name) (amount : ℕ) (items : List Item) (answer : Answer (List Item)) → T (decides answer)
    → T (decides (added n amount items answer))
unfolding added
decides-added n amount items answer t = decides-also (all (not_its_own n) items) 9 tt _ (decides-also (leb 1 amount) 10 tt answer t)

decides-changed : (nodesize : ℕ) (change : Change) (items : List Item) → T (decides (changed nodesize change items))
unfolding changed
decides-changed nodesize (AddBlock extent name) items =
    decides-added _ 1 items _ (decides-apply_keyed_add nodesize extent (Block name) 1 items)
decides-changed nodesize (AddData extent name amount) items =
    decides-added _ amount items _ (decides-apply_keyed_add nodesize extent (Data name) amount items)
decides-changed nodesize (AddShared extent name amount) items =
    decides-added _ amount items _ (decides-apply_shared_add nodesize extent name amount items)
decides-changed nodesize (DropBlock extent name) items =
    subst (λ r. T (decides r)) (sym (block-changes nodesize extent name items))
    (decides-on_record extent items _ (decides-dropped (block_drop extent name) one-lowers (λ i. tt) items))
decides-changed nodesize (DropData extent name) items =
    subst (λ r. T (decides r)) (sym (data-changes nodesize extent name items))
    (decides-on_record extent items _ (decides-dropped (data_drop extent name) one-lowers (λ i. found-drop_keyed i.bytes name) items))
decides-changed nodesize (DropShared extent name amount) items =
    subst (λ r. T (decides r)) (sym (shared-changes nodesize extent name amount items))
    (decides-on_record extent items _
    (decides-dropped (shared_drop extent name amount) (part-lowers amount) (λ i. found-less_item (shared_count i) amount) items))

decides-posted : (nodesize : ℕ) (s : List ℕ) (change : Change) (room : ℕ) → T (decides (posted nodesize s change room))
unfolding posted held_sheet post on_sheet
decides-posted nodesize s change room =
    decides-bind (held (sheet_holds room) (post nodesize s change)) _
    (decides-held (sheet_holds room) (post nodesize s change)
    (decides-bind (read_sheet s) _ (sheet-decides s) (λ items.
    decides-ask (nodesize_fits nodesize && kind_fits change) 3 tt _
    (decides-ask (balanced items) 4 tt _ (decides-changed nodesize change items))))) (λ items. tt)

pub decided : (s : List ℕ) (p : Posting) → Decided (answer_to s p)
unfolding answer_to
decided s p = go (posted p.nodesize s p.change p.room) refl (decides-posted p.nodesize s p.change p.room)
  where
    go : (a : Answer (List ℕ)) → posted p.nodesize s p.change p.room ≡ a → T (decides a)
        → Decided (posted p.nodesize s p.change p.room)
    go (refused n) e t = no n t e
    go absent e t = absurd t
    go remove e t = absurd t
    go (accepted r) e t = yes r e
