-- apply_shared_drop, from the record's position and the planned body. Assumes nothing.
use mathlib.Core.Path.{◌≡◌, sym, ap, ◌∙◌}
use mathlib.Core.Bool.{Bool, true, false}
use mathlib.Core.List.{List}
use Prim.Native.Nat.{ℕ, ◌+◌, ◌≤◌}
use native.Mathlib.Omega.{arith}
use lib.Dec.{T, leb, leb→le}
use lib.ListN.{length}
use borrow.Author.Tests.{le-leb}
use Rattle.fields.specs.Lists.{Cut}
use Rattle.fields.specs.Numbers.{le_bytes, are_bytes}
use Rattle.fields.proofs.Numbers.{length-le_bytes}
use Rattle.fields.proofs.Parts.{length-written}
use Rattle.format.specs.declared.SharedRef.{SharedRef}
use Rattle.std.specs.Prelude.{Result}
use Rattle.format.specs.declared.Edited.{Edited}
use Rattle.format.specs.declared.Refusal.{Refusal}
use Rattle.format.specs.Questions.{Answer, refused, accepted, ask, bind, denied, if_absent, bytes_of, Answered}
use Rattle.format.specs.References.{total_of}
use Rattle.format.specs.Bodies.{body_fits, on_head, shared_kind, reduced_by, on_total, reduce_total, take_inline_shared}
use Rattle.format.specs.Items.{Item, held_sheet, put_back}
use Rattle.format.specs.Apply.{shared_rest, apply_shared_drop, apply_shared_drop_to}
use Rattle.format.proofs.Answers.{ask-ok, bind_ok, bind-next, accepted-inj}
use Rattle.item_list.proofs.ItemWrites.{answered-no}
use Rattle.backref.specs.declared.plan.Plan.{Plan}
use Rattle.backref.specs.Plans.{plan_answer, Planned, PlannedTaken, Reduces, Needs}
use Rattle.backref.proofs.Reductions.{reduces-whole, needs-whole}
use Rattle.backref.proofs.Takings.{taken-says, taken-whole}
use Rattle.record_edit.specs.Records.{data_of, held_edit, nothing, edited_sheet, asked_sheet, RecordMissing, RecordFound}
use Rattle.record_edit.specs.declared.RecordAt.{RecordAt}
use Rattle.record_edit.proofs.Stands.{stands}
use Rattle.record_edit.proofs.Searches.{on-refused, on-missing, on-found}
use Rattle.transaction.proofs.Records.{put-limited}

-- ---- the planned body

abbrev pub dropped : Item → SharedRef → ℕ → Bool → Answer (List ℕ)
dropped i s count as_item = bind (shared_rest i s as_item) (λ rest. reduce_total rest count)

module _ (i : Item) (s : SharedRef) (count : ℕ) (as_item : Bool) (r : Result Plan Refusal) where
  -- a missing reference is 5, and then the total falls
  pub drop-inline : as_item ≡ false → T (are_bytes i.bytes) → (taken present : Result Plan Refusal)
      → PlannedTaken taken i.bytes (take_inline_shared i.key.kind i.bytes s) → Needs taken present → Reduces present count r
      → Planned r i.bytes (dropped i s count as_item)
  unfolding shared_rest
  drop-inline e bytes taken present p n d =
      let body : List ℕ = i.bytes in
      let rest-is : plan_answer present body ≡ if_absent (bytes_of (take_inline_shared i.key.kind body s)) (refused 5) =
      n.says body ∙ ap (λ (x : Answer (List ℕ)). if_absent x (refused 5)) (taken-says i.key.kind body s taken p) in
      let done =
      reduces-whole count body present d (needs-whole taken present body n (taken-whole i.key.kind body s taken p bytes)) (n.inside body p.inside) in
      rw e (record { says = done.says ∙ ap (λ (x : Answer (List ℕ)). bind x (λ rest. reduce_total rest count)) rest-is; inside = done.inside })

-- ---- the call

-- question 17 is not asked, and no body is longer than the limit that is passed
pub reduced-fits : (rest : List ℕ) (amount : ℕ) (d : List ℕ) → reduce_total rest amount ≡ accepted d → length d ≤ 65535
unfolding reduce_total on_total on_head body_fits
reduced-fits rest amount d e =
    let q₁ = ask-ok (leb (length rest) 65535) 3 _ e in
    let q₂ = ask-ok (leb 24 (length rest)) 6 _ q₁.1 in
    let t = bind_ok (reduced_by amount (total_of rest)) _ q₂.1 in
    let short = leb→le (length rest) 65535 q₁.0 in
    let long = leb→le 24 (length rest) q₂.0 in
    let room : 0 + length (le_bytes 8 t.0) ≤ length rest = omega (arith, length-le_bytes 8 t.0, long) in
    omega (arith, ap length (accepted-inj t.2), length-written 0 (le_bytes 8 t.0) rest room, short)

dropped-fits : (a : Answer (List ℕ)) (amount : ℕ) (d : List ℕ) → bind a (λ rest. reduce_total rest amount) ≡ accepted d → true ≡ leb (length d) 65564
dropped-fits a amount d e =
    let r = bind_ok a _ e in
    let h = reduced-fits r.0 amount d r.2 in
    let fits : length d ≤ 65564 = omega (arith, h) in
    sym (le-leb (length d) 65564 fits)

module _ (name : SharedRef) (count : ℕ) (as_item : Bool) (room : ℕ) where
  abbrev drop-next : Cut Item → Answer (List Item)
  drop-next c = bind (shared_rest c.hit name as_item) (λ rest. bind (reduce_total rest count) (λ body. accepted (put_back c body)))

  pub shared-drop-refused : (s : List ℕ) (extent k : ℕ) (old : List ℕ) → asked_sheet s (shared_kind name.kind) ≡ refused k
      → Answered (held_sheet room (apply_shared_drop_to s extent name count as_item)) (denied k) old old
  unfolding apply_shared_drop_to
  shared-drop-refused s extent k old e = answered-no _ room k old (on-refused s (shared_kind name.kind) k (apply_shared_drop extent name count as_item) e)

  pub shared-drop-missing : {s : List ℕ} {extent : ℕ} → RecordMissing s extent (shared_kind name.kind) → (old : List ℕ)
      → Answered (held_sheet room (apply_shared_drop_to s extent name count as_item)) (denied 5) old old
  unfolding apply_shared_drop_to apply_shared_drop
  shared-drop-missing l old = answered-no _ room 5 old (on-missing l (λ items. drop-next))

  pub shared-drop-answered : {s : List ℕ} {extent index : ℕ} {target : RecordAt} → T (are_bytes s) → RecordFound s extent (shared_kind name.kind) index target
      → (plan : Result Plan Refusal) (r : Result Edited Refusal) (old new : List ℕ)
      → Planned plan (data_of s target.start target.end) (dropped (record { key = target.key; bytes = data_of s target.start target.end }) name count as_item)
      → Answered (bind (plan_answer plan (data_of s target.start target.end)) (held_edit room target.item_count 65564 (edited_sheet s target (nothing (length s))))) r old new
      → Answered (held_sheet room (apply_shared_drop_to s extent name count as_item)) r old new
  unfolding apply_shared_drop_to apply_shared_drop ask
  shared-drop-answered bytes h plan r old new p w =
      let c : Cut Item = h.there.stands.at_cut in
      let st = stands bytes h.there.stands in
      put-limited st room 65564 plan (dropped c.hit name count as_item) (λ d. true) _ r old new
      (dropped-fits (shared_rest c.hit name as_item) count)
      (on-found h (λ items. drop-next) ∙ bind-next (shared_rest c.hit name as_item) (λ rest. reduce_total rest count) (λ body. accepted (put_back c body)))
      (p.says ∙ ap (λ (i : Item). dropped i name count as_item) (sym st.hit-is)) w
