-- A reference added to the record of an extent: from the record's position and the planned body to the change. Assumes nothing.
use mathlib.Core.Path.{◌≡◌, refl, sym, ap, ◌∙◌}
use mathlib.Core.Bool.{Bool, true, false, ◌||◌}
use mathlib.Core.List.{List}
use Prim.Native.Nat.{ℕ, zero, suc, ◌+◌, ◌-◌}
use native.Mathlib.Omega.{arith}
use lib.Dec.{leb, T}
use lib.ListN.{length}
use Rattle.fields.specs.Lists.{all, Cut}
use borrow.Author.Tests.{ne_eqb}
use Rattle.format.specs.declared.Keyed.{Keyed}
use Rattle.format.specs.declared.Keyed.TheVariants.{Block as KeyedBlock, Data as KeyedData}
use Rattle.format.specs.declared.SharedRef.{SharedRef}
use Rattle.std.specs.Prelude.{Result}
use Rattle.format.specs.declared.Edited.{Edited}
use Rattle.format.specs.declared.Refusal.{Refusal}
use Rattle.format.specs.Questions.{Answer, refused, absent, remove, accepted, ask, bind, also, denied, Answered}
use Rattle.format.specs.Bodies.{add_inline_tree_ref}
use Rattle.format.specs.Items.{Item, held_sheet, put_back}
use Rattle.format.specs.Apply.{inline_limit, keyed_body, apply_keyed_add, shared_body, apply_shared_add}
use Rattle.format.specs.Names.{Name}
use Rattle.format.specs.Ledger.{not_its_own, added, changed}
use Rattle.inline_refs.specs.declared.ref_name.RefName.{RefName}
use Rattle.inline_refs.specs.declared.ref_name.RefName.TheVariants.{Block, Data, SharedBlock, SharedData}
use Rattle.inline_refs.specs.Scans.{kind_of, fields_of}
use Rattle.item_list.specs.Steps.{list_items}
use Rattle.backref.specs.declared.plan.Plan.{Plan}
use Rattle.backref.specs.Plans.{plan_answer, PlanIn, Planned}
use Rattle.backref.specs.ByName.{add_inline}
use Rattle.record_edit.specs.Records.{data_of, held_edit, nothing, edited_sheet, StandsFor}
use Rattle.transaction.specs.Keyed.{limit_for}
use Rattle.transaction.proofs.KeyedAdditions.{either}
use Rattle.ledger.specs.Posting.{name_in, AskedAdd, add_change, left_unread, added_body, grown_only}
use Rattle.ledger.proofs.Alsos.{also_bind}
use Rattle.fields.specs.Numbers.{are_bytes}
use Rattle.record_edit.specs.declared.RecordAt.{RecordAt}
use Rattle.record_edit.proofs.Stands.{stands}
use Rattle.record_edit.proofs.Searches.{on-record}
use Rattle.transaction.proofs.Records.{put-limited}

-- ---- the body

module _ (i : Item) (w : RefName) (amount : ℕ) (b : Bool) (u : b ≡ left_unread w amount) where
  pub body-unread : b ≡ true → Planned (denied 10) i.bytes (added_body i w amount)
  unfolding added_body plan_answer PlanIn
  body-unread t = record { says = rw (← u, t) refl; inside = tt }

  pub body-read : (plan : Result Plan Refusal) → b ≡ false → Planned plan i.bytes (add_inline i.key.kind i.bytes w amount) → Planned plan i.bytes (added_body i w amount)
  unfolding added_body
  body-read plan f h = rw (← u, f) h

-- ---- the record

module _ {s : List ℕ} {extent : ℕ} {target : RecordAt} (there : StandsFor s extent target) where
  abbrev c : Cut Item
  c = there.stands.at_cut

  abbrev hit : Item
  hit = c.hit

  -- 9 and 10 come before 17
  asked-first : (m : Name) (amount : ℕ) (a : Answer (List ℕ)) (test : List ℕ → Bool)
      → added m amount (list_items s) (bind a (λ d. ask (test d) 17 (accepted (put_back c d))))
      ≡ bind (also (all (not_its_own m) (list_items s)) 9 (also (leb 1 amount) 10 a)) (λ d. ask (test d) 17 (accepted (put_back c d)))
  unfolding added ask also
  asked-first m amount a test =
      ap (also (all (not_its_own m) (list_items s)) 9) (also_bind (leb 1 amount) 10 a next (λ d. late (test d) 10 d refl))
      ∙ also_bind (all (not_its_own m) (list_items s)) 9 (also (leb 1 amount) 10 a) next (λ d. late (test d) 9 d refl)
    where
      next : List ℕ → Answer (List Item)
      next d = ask (test d) 17 (accepted (put_back c d))

      late : (b : Bool) (k : ℕ) (d : List ℕ) → leb 17 k ≡ false → also false k (ask b 17 (accepted (put_back c d))) ≡ refused k
      late true k d h = refl
      late false k d h = rw h refl

  -- a name that has a tree, and a shared one
  keyed-is : (nodesize amount : ℕ) (m : Name) (keyed : Keyed)
      → added m amount (list_items s) (apply_keyed_add nodesize extent keyed amount false (list_items s))
      ≡ bind (also (all (not_its_own m) (list_items s)) 9 (also (leb 1 amount) 10 (keyed_body hit keyed amount false)))
      (λ d. ask (leb (length d) (length hit.bytes) || leb (length d) (inline_limit nodesize)) 17 (accepted (put_back c d)))
  unfolding apply_keyed_add
  keyed-is nodesize amount m keyed =
      ap (added m amount (list_items s)) (on-record there (λ c.
      bind (keyed_body c.hit keyed amount false) (λ body.
      ask (leb (length body) (length c.hit.bytes) || leb (length body) (inline_limit nodesize)) 17 (accepted (put_back c body)))))
      ∙ asked-first m amount (keyed_body hit keyed amount false) (λ d. leb (length d) (length hit.bytes) || leb (length d) (inline_limit nodesize))

  shared-is : (nodesize amount : ℕ) (m : Name) (name : SharedRef)
      → added m amount (list_items s) (apply_shared_add nodesize extent name amount false (list_items s))
      ≡ bind (also (all (not_its_own m) (list_items s)) 9 (also (leb 1 amount) 10 (shared_body hit name amount false)))
      (λ d. ask (leb (length d) (inline_limit nodesize)) 17 (accepted (put_back c d)))
  unfolding apply_shared_add
  shared-is nodesize amount m name =
      ap (added m amount (list_items s)) (on-record there (λ c.
      bind (shared_body c.hit name amount false) (λ body. ask (leb (length body) (inline_limit nodesize)) 17 (accepted (put_back c body)))))
      ∙ asked-first m amount (shared_body hit name amount false) (λ d. leb (length d) (inline_limit nodesize))

  -- the limit that the change asks
  abbrev within : ℕ → RefName → List ℕ → Bool
  within nodesize w d = leb (length d) (limit_for nodesize (length hit.bytes) (grown_only w))

  within_grown : (nodesize : ℕ) (a : Answer (List ℕ))
      → bind a (λ d. ask (leb (length d) (length hit.bytes) || leb (length d) (inline_limit nodesize)) 17 (accepted (put_back c d)))
      ≡ bind a (λ d. ask (leb (length d) (limit_for nodesize (length hit.bytes) true)) 17 (accepted (put_back c d)))
  unfolding bind limit_for
  within_grown nodesize (refused k) = refl
  within_grown nodesize absent = refl
  within_grown nodesize remove = refl
  within_grown nodesize (accepted d) =
      ap (λ (b : Bool). ask b 17 (accepted (put_back c d))) (either (length d) (length hit.bytes) (inline_limit nodesize))

  -- a block reference's amount is 1
  add_is : (nodesize : ℕ) (w : RefName) (amount : ℕ) → (kind_of w ≡ 176 → amount ≡ 1)
      → changed nodesize (add_change extent w amount) (list_items s)
      ≡ bind (also (all (not_its_own (name_in extent w)) (list_items s)) 9 (also (leb 1 amount) 10 (added_body hit w amount)))
      (λ d. ask (within nodesize w d) 17 (accepted (put_back c d)))
  unfolding changed add_change added_body add_inline_tree_ref keyed_body shared_body kind_of fields_of grown_only limit_for also
  add_is nodesize (Block name) amount h =
      let e : amount ≡ 1 = h refl in
      keyed-is nodesize 1 (name_in extent (Block name)) (KeyedBlock name)
      ∙ within_grown nodesize _
      ∙ ap (λ (k : ℕ). bind (also (all (not_its_own (name_in extent (Block name))) (list_items s)) 9 (also (leb 1 k) 10 (added_body hit (Block name) k)))
      (λ d. ask (within nodesize (Block name) d) 17 (accepted (put_back c d)))) (sym e)
  add_is nodesize (Data name) zero h = keyed-is nodesize 0 (name_in extent (Data name)) (KeyedData name) ∙ within_grown nodesize _
  add_is nodesize (Data name) (suc amount) h =
      rw (ne_eqb (suc amount) 0 (λ z. absurd (omega arith))) (keyed-is nodesize (suc amount) (name_in extent (Data name)) (KeyedData name) ∙ within_grown nodesize _)
  add_is nodesize (SharedBlock parent) amount h = shared-is nodesize amount (name_in extent (SharedBlock parent)) (record { kind = 182; parent = parent })
  add_is nodesize (SharedData parent) amount h = shared-is nodesize amount (name_in extent (SharedData parent)) (record { kind = 184; parent = parent })

  pub add-answered : T (are_bytes s) → (nodesize : ℕ) (w : RefName) (amount room : ℕ) → (kind_of w ≡ 176 → amount ≡ 1)
      → (limit : ℕ) (grown : Bool) (plan asked : Result Plan Refusal) (r : Result Edited Refusal) (old new : List ℕ)
      → grown ≡ grown_only w
      → limit ≡ limit_for nodesize (target.end - (target.start + 21)) grown
      → Planned plan (data_of s target.start target.end) (added_body (record { key = target.key; bytes = data_of s target.start target.end }) w amount)
      → AskedAdd plan (all (not_its_own (name_in extent w)) (list_items s)) amount asked
      → Answered (bind (plan_answer asked (data_of s target.start target.end)) (held_edit room target.item_count limit (edited_sheet s target (nothing (length s))))) r old new
      → Answered (held_sheet room (changed nodesize (add_change extent w amount) (list_items s))) r old new
  add-answered bytes nodesize w amount room h limit grown plan asked r old new grown-is limit_is p q written =
      let st = stands bytes there.stands in
      let long : target.end - (target.start + 21) ≡ length hit.bytes = let a = st.starts in let b = st.ends in omega arith in
      let limits : limit ≡ limit_for nodesize (length hit.bytes) (grown_only w) = limit_is ∙ (λ j. limit_for nodesize (long j) (grown-is j)) in
      let own : Bool = all (not_its_own (name_in extent w)) (list_items s) in
      put-limited st room limit asked (also own 9 (also (leb 1 amount) 10 (added_body hit w amount))) (within nodesize w) _ r old new
      (λ d f. ap (leb (length d)) (sym limits)) (add_is nodesize w amount h)
      (q.says (data_of s target.start target.end)
      ∙ ap (λ (a : Answer (List ℕ)). also own 9 (also (leb 1 amount) 10 a)) (p.says ∙ ap (λ (i : Item). added_body i w amount) (sym st.hit-is)))
      written
