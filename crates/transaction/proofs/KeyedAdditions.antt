-- apply_keyed_add, from the record's position and the planned body. Assumes nothing.
use mathlib.Core.Path.{◌≡◌, refl, sym, ap, ◌∙◌}
use mathlib.Core.Logic.{◌⊎◌, inl, inr}
use mathlib.Core.Bool.{Bool, true, false, ◌||◌}
use mathlib.Core.List.{List}
use Prim.Native.Nat.{ℕ, zero, suc, ◌≤◌, ◌<◌}
use native.Mathlib.Omega.{arith}
use lib.Dec.{leb, T}
use lib.ListN.{length}
use borrow.Author.Tests.{eqb-true, le-leb, lt-leb}
use Rattle.fields.proofs.Lists.{lt-or}
use Rattle.format.specs.declared.Keyed.{Keyed}
use Rattle.format.specs.declared.Keyed.TheVariants.{Block, Data}
use Rattle.std.specs.Prelude.{Result, max}
use Rattle.format.specs.declared.Edited.{Edited}
use Rattle.format.specs.declared.Refusal.{Refusal}
use Rattle.format.specs.Questions.{Answer, accepted, ask, bind, denied, Answered, refused}
use Rattle.format.specs.Items.{Item, nodesize_fits, held_sheet, put_back}
use Rattle.format.specs.Apply.{inline_limit, keyed_body, apply_keyed_add, apply_keyed_add_to}
use Rattle.item_list.specs.Steps.{list_items}
use Rattle.item_list.specs.ItemWrites.{held_bytes}
use Rattle.item_list.proofs.ItemWrites.{answered-no, answered-by}
use Rattle.backref.specs.declared.plan.Plan.{Plan}
use Rattle.backref.specs.Plans.{plan_answer, Planned}
use Rattle.record_edit.specs.Records.{data_of, held_edit, nothing, edited_sheet, asked_sheet, RecordMissing, RecordFound}
use Rattle.transaction.specs.Keyed.{unread, keyed_plan, limit_for}
use Rattle.fields.specs.Lists.{Cut}
use Rattle.fields.specs.Numbers.{are_bytes}
use Rattle.record_edit.specs.declared.RecordAt.{RecordAt}
use Rattle.record_edit.proofs.Stands.{Stands, stands}
use Rattle.record_edit.proofs.Searches.{on-refused, on-missing, on-found}
use Rattle.transaction.proofs.Records.{put-limited}

-- "only if the body grew" is one limit
pub either : (n a b : ℕ) → (leb n a || leb n b) ≡ leb n (max a b)
either n a b = go (lt-or a b) (lt-or a n) (lt-or b n)
  where
    go : (a < b) ⊎ (b ≤ a) → (a < n) ⊎ (n ≤ a) → (b < n) ⊎ (n ≤ b) → (leb n a || leb n b) ≡ leb n (max a b)
    go (inl h) (inl k) l = let m : max a b ≡ b = omega arith in rw (m, lt-leb n a k) refl
    go (inl h) (inr k) l = let m : max a b ≡ b = omega arith in let z : n ≤ b = omega arith in rw (m, le-leb n a k, le-leb n b z) refl
    go (inr h) (inl k) l = let m : max a b ≡ a = omega arith in let z : b < n = omega arith in rw (m, lt-leb n a k, lt-leb n b z) refl
    go (inr h) (inr k) l = let m : max a b ≡ a = omega arith in rw (m, le-leb n a k) refl

-- ---- the body

body-unread : (i : Item) (keyed : Keyed) (count : ℕ) (as_item : Bool) → unread keyed count as_item ≡ true → keyed_body i keyed count as_item ≡ accepted i.bytes
unfolding unread keyed_body
body-unread i keyed count true e = let z : ◌≡◌ {A = ℕ} 0 1 = cc in absurd (omega arith)
body-unread i (Block block) count false e = let z : ◌≡◌ {A = ℕ} 0 1 = cc in absurd (omega arith)
body-unread i (Data d) zero false e = refl
body-unread i (Data d) (suc count) false e = let z : suc count ≡ 0 = eqb-true (suc count) 0 e in absurd (omega arith)

body-read : (i : Item) (keyed : Keyed) (count : ℕ) (as_item : Bool) → unread keyed count as_item ≡ false → keyed_plan i keyed count as_item ≡ keyed_body i keyed count as_item
unfolding unread keyed_body keyed_plan
body-read i keyed count true e = refl
body-read i (Block block) count false e = refl
body-read i (Data d) zero false e = let z : ◌≡◌ {A = ℕ} 0 1 = cc in absurd (omega arith)
body-read i (Data d) (suc count) false e = refl

-- ---- the call

module _ (nodesize room : ℕ) (keyed : Keyed) (count : ℕ) (as_item : Bool) where
  abbrev keyed-next : Cut Item → Answer (List Item)
  keyed-next c =
      bind (keyed_body c.hit keyed count as_item) (λ body.
      ask (leb (length body) (length c.hit.bytes) || leb (length body) (inline_limit nodesize)) 17 (accepted (put_back c body)))

  pub keyed-add-refused : (s : List ℕ) (extent k : ℕ) (old : List ℕ) → asked_sheet s (nodesize_fits nodesize) ≡ refused k
      → Answered (held_sheet room (apply_keyed_add_to nodesize s extent keyed count as_item)) (denied k) old old
  unfolding apply_keyed_add_to
  keyed-add-refused s extent k old e = answered-no _ room k old (on-refused s (nodesize_fits nodesize) k (apply_keyed_add nodesize extent keyed count as_item) e)

  pub keyed-add-missing : {s : List ℕ} {extent : ℕ} → RecordMissing s extent (nodesize_fits nodesize) → (old : List ℕ)
      → Answered (held_sheet room (apply_keyed_add_to nodesize s extent keyed count as_item)) (denied 5) old old
  unfolding apply_keyed_add_to apply_keyed_add
  keyed-add-missing l old = answered-no _ room 5 old (on-missing l (λ items. keyed-next))

  module _ {s : List ℕ} {extent index : ℕ} {target : RecordAt} (bytes : T (are_bytes s)) (found : RecordFound s extent (nodesize_fits nodesize) index target) where
    abbrev c : Cut Item
    c = found.there.stands.at_cut

    abbrev hit : Item
    hit = c.hit

    st : Stands s c target
    st = stands bytes found.there.stands

    abbrev test : List ℕ → Bool
    test body = leb (length body) (length hit.bytes) || leb (length body) (inline_limit nodesize)

    keyed-is : apply_keyed_add_to nodesize s extent keyed count as_item
        ≡ bind (keyed_body hit keyed count as_item) (λ body. ask (test body) 17 (accepted (put_back c body)))
    unfolding apply_keyed_add_to apply_keyed_add
    keyed-is = on-found found (λ items. keyed-next)

    -- the same items
    pub keyed-add-kept : (r : Result Edited Refusal) (old new : List ℕ) → unread keyed count as_item ≡ true
        → Answered (held_bytes room target.item_count s) r old new
        → Answered (held_sheet room (apply_keyed_add_to nodesize s extent keyed count as_item)) r old new
    unfolding bind ask
    keyed-add-kept r old new e w =
        let fits : test hit.bytes ≡ true = rw (le-leb (length hit.bytes) (length hit.bytes) (omega arith)) refl in
        answered-by _ room target.item_count (list_items s) s r old new
        (keyed-is ∙ ap (λ (a : Answer (List ℕ)). bind a (λ body. ask (test body) 17 (accepted (put_back c body)))) (body-unread hit keyed count as_item e)
        ∙ ap (λ (b : Bool). ask b 17 (accepted (put_back c hit.bytes))) fits
        ∙ ap accepted (sym st.same))
        st.bytes-are st.count st.fit w

    pub keyed-add-answered : (limit : ℕ) (plan : Result Plan Refusal) (r : Result Edited Refusal) (old new : List ℕ)
        → unread keyed count as_item ≡ false
        → limit ≡ limit_for nodesize (length (data_of s target.start target.end)) true
        → Planned plan (data_of s target.start target.end) (keyed_plan (record { key = target.key; bytes = data_of s target.start target.end }) keyed count as_item)
        → Answered (bind (plan_answer plan (data_of s target.start target.end)) (held_edit room target.item_count limit (edited_sheet s target (nothing (length s))))) r old new
        → Answered (held_sheet room (apply_keyed_add_to nodesize s extent keyed count as_item)) r old new
    unfolding limit_for
    keyed-add-answered limit plan r old new e limit_is p w =
        let long : length hit.bytes ≡ length (data_of s target.start target.end) = ap (λ (i : Item). length i.bytes) st.hit-is in
        let limits : limit ≡ max (length hit.bytes) (inline_limit nodesize) = limit_is ∙ ap (λ (n : ℕ). max n (inline_limit nodesize)) (sym long) in
        put-limited st room limit plan (keyed_body hit keyed count as_item) test _ r old new
        (λ d f. either (length d) (length hit.bytes) (inline_limit nodesize) ∙ ap (leb (length d)) (sym limits)) keyed-is
        (p.says ∙ ap (λ (i : Item). keyed_plan i keyed count as_item) (sym st.hit-is) ∙ body-read hit keyed count as_item e) w
