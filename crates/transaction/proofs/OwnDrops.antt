-- The drop of a block reference with the own-flag, from the drop without it. Assumes nothing.
use mathlib.Core.Path.{◌≡◌, refl, sym, ap, ◌∙◌, subst}
use mathlib.Core.Bool.{Bool, true, false, cond}
use mathlib.Core.Option.{Option, none}
use mathlib.Core.List.{List, [], ◌∷◌, ◌++◌, append-nil}
use Prim.Native.Nat.{ℕ, ◌+◌, ◌-◌, ◌≤◌}
use native.Mathlib.Omega.{arith}
use lib.Dec.{T, leb, ltb, leb→le}
use lib.ListN.{length, length-append}
use Rattle.fields.specs.Lists.{Cut, first_cut}
use Rattle.fields.specs.Numbers.{le_bytes, word_bytes, are_bytes}
use Rattle.fields.proofs.Lists.{Found, cut-some}
use Rattle.fields.proofs.Numbers.{length-le_bytes, are_bytes-part}
use Rattle.fields.proofs.Parts.{length-written}
use Rattle.format.specs.declared.BlockRef.{BlockRef}
use Rattle.format.specs.declared.Key.{Key}
use Rattle.format.specs.Questions.{Answer, refused, absent, remove, accepted, bind, needed, found, held, if_absent}
use Rattle.format.specs.References.{counted, Ref, ref_bytes, refs_bytes, Body, body_with, read_body, body_bytes, total_of}
use Rattle.format.specs.Bodies.{body_fits, on_body, on_head, named, one, lowered_by_one, on_total, lower_total, with_flags, less, drop_inline, drop_inline_tree_ref}
use Rattle.format.specs.Items.{Item, key_of, held_sheet, with_bytes, put_back, without}
use Rattle.format.specs.Sheets.{has_key, deleted}
use Rattle.format.specs.Apply.{replaced, flagged, drop_tree_ref}
use Rattle.format.proofs.Answers.{ask-ok, bind_ok, found_ok, accepted-inj, refused-not, remove-not}
use Rattle.format.proofs.Refs.{refs_bytes-append}
use Rattle.format.proofs.Bodies.{fixed-long, length-body_bytes, read-sound, body_bytes-read}
use Rattle.inline_refs.specs.declared.ref_name.RefName.TheVariants.{Block}
use Rattle.item_list.specs.declared.Sought.{Sought}
use Rattle.item_list.specs.declared.Sought.TheVariants.{Present, Absent}
use Rattle.item_list.specs.Steps.{list_items}
use Rattle.item_list.specs.Seeks.{seek_in}
use Rattle.item_list.proofs.Positions.{no_cut}
use Rattle.record_edit.specs.declared.RecordAt.{RecordAt}
use Rattle.record_edit.specs.Records.{StandsAt, on_key}
use Rattle.transaction.specs.Drops.{drop_ref}
use Rattle.record_edit.proofs.Stands.{Stands, stands, on-key}
use Rattle.transaction.proofs.Turns.{accepted-absent, stays}
use Rattle.transaction.proofs.BehindRecord.{BehindAt, rises, stands_at}
use Rattle.transaction.proofs.Puts.{replaced-without}
use Rattle.transaction.proofs.Owned.{Owned, Headed, with-own, own-bind}

-- ---- what is left of a body keeps its head and is no longer

counted-long : (b : Bool) (v w : ℕ) → length (cond b (le_bytes 4 v) []) ≡ length (cond b (le_bytes 4 w) [])
counted-long true v w = length-le_bytes 4 v ∙ sym (length-le_bytes 4 w)
counted-long false v w = refl

less-long : (r : Ref) (n : ℕ) → length (refs_bytes (less r n)) ≤ length (ref_bytes r)
unfolding less refs_bytes ref_bytes
less-long r n = go (ltb n r.weight)
  where
    go : (b : Bool) → length (refs_bytes (cond b (record { kind = r.kind; fields = r.fields; weight = r.weight - n } ∷ []) [])) ≤ length (ref_bytes r)
    go false = omega arith
    go true =
        let x : List ℕ = word_bytes r.fields in
        let y : List ℕ = cond (counted r.kind) (le_bytes 4 (r.weight - n)) [] in
        let z : List ℕ = cond (counted r.kind) (le_bytes 4 r.weight) [] in
        let e₁ = ap length (append-nil (r.kind ∷ (x ++ y))) in
        let e₂ = length-append x y in
        let e₃ = length-append x z in
        let e₄ = counted-long (counted r.kind) (r.weight - n) r.weight in
        omega arith

drop-long : (type : ℕ) (d : List ℕ) → T (are_bytes d) → (b : Body) → read_body type d ≡ accepted b → (t : ℕ) (c : Cut Ref)
    → b.refs ≡ c.front ++ c.hit ∷ c.back
    → (24 ≤ length (body_bytes (body_with b t (c.front ++ (less c.hit 1 ++ c.back)))))
    × (length (body_bytes (body_with b t (c.front ++ (less c.hit 1 ++ c.back)))) ≤ length d)
unfolding refs_bytes
drop-long type d bytes b h t c same =
    let l : List Ref = less c.hit 1 in
    let n₁ = length-body_bytes (body_with b t (c.front ++ (l ++ c.back))) in
    let n₂ = ap length (sym (body_bytes-read type d b bytes h)) ∙ length-body_bytes b in
    let n₃ = ap (λ (l : List Ref). length (refs_bytes l)) same ∙ ap length (refs_bytes-append c.front (c.hit ∷ c.back))
    ∙ length-append (refs_bytes c.front) (ref_bytes c.hit ++ refs_bytes c.back) in
    let n₄ = length-append (ref_bytes c.hit) (refs_bytes c.back) in
    let n₅ = ap length (refs_bytes-append c.front (l ++ c.back)) ∙ length-append (refs_bytes c.front) (refs_bytes (l ++ c.back)) in
    let n₆ = ap length (refs_bytes-append l c.back) ∙ length-append (refs_bytes l) (refs_bytes c.back) in
    let n₇ = less-long c.hit 1 in
    let n₈ = fixed-long type b (read-sound type d b bytes h) in
    (omega (arith, n₁, n₈), omega (arith, n₁, n₂, n₃, n₄, n₅, n₆, n₇))

drop-headed : (type : ℕ) (d : List ℕ) (name : BlockRef) → T (are_bytes d) → (rest : List ℕ) → drop_inline_tree_ref type d name ≡ accepted rest → Headed rest
unfolding drop_inline_tree_ref drop_inline on_body body_fits
drop-headed type d name bytes rest e =
    let q = ask-ok (leb (length d) 65535) 3 _ e in
    let read = bind_ok (read_body type d) _ q.1 in
    let b : Body = read.0 in
    let hit = bind_ok (found (first_cut (named 176 (one name.tree)) b.refs)) _ read.2 in
    let c : Cut Ref = hit.0 in
    let k : Found (named 176 (one name.tree)) b.refs c = cut-some (named 176 (one name.tree)) b.refs (found_ok (first_cut (named 176 (one name.tree)) b.refs) hit.1) in
    let total = bind_ok (lowered_by_one b.total) _ hit.2 in
    let l = drop-long type d bytes b read.1 total.0 c k.same in
    let is = ap length (accepted-inj total.2) in
    let fits = leb→le (length d) 65535 q.0 in
    (omega (arith, is, l.0), omega (arith, is, l.1, fits))

lower-headed : (d rest : List ℕ) → lower_total d ≡ accepted rest → Headed rest
unfolding lower_total on_total on_head body_fits
lower-headed d rest e =
    let q₁ = ask-ok (leb (length d) 65535) 3 _ e in
    let q₂ = ask-ok (leb 24 (length d)) 6 _ q₁.1 in
    let t = bind_ok (lowered_by_one (total_of d)) _ q₂.1 in
    let short = leb→le (length d) 65535 q₁.0 in
    let long = leb→le 24 (length d) q₂.0 in
    let eight = length-le_bytes 8 t.0 in
    let room : 0 + length (le_bytes 8 t.0) ≤ length d = omega arith in
    let l = length-written 0 (le_bytes 8 t.0) d room in
    let is = ap length (accepted-inj t.2) in
    (omega arith, omega arith)

-- ---- the call

owned_by : {at : ℕ} {plain plain' own own' : Answer (List ℕ)} → plain ≡ plain' → own ≡ own' → Owned at plain' own' → Owned at plain own
owned_by {at} {plain} {plain'} {own} {own'} e f o =
    subst (λ (p : Answer (List ℕ)). Owned at p own) (sym e) (subst (λ (w : Answer (List ℕ)). Owned at plain' w) (sym f) o)

module _ {s : List ℕ} {c : Cut Item} {target : RecordAt} (st : Stands s c target) (bytes : T (are_bytes s)) (name : BlockRef) (room : ℕ) where
  abbrev key : Key
  key = key_of c.hit.key.objectid 176 name.tree

  abbrev after : Bool → List Item → Answer (List Item)
  after own others =
      bind (lower_total c.hit.bytes) (λ rest. bind (flagged own rest) (λ body. replaced c.hit.key body others))

  abbrev other : Bool → Answer (List Item)
  other own = bind (deleted key (list_items s)) (after own)

  other_none : (own : Bool) → first_cut (has_key key) (list_items s) ≡ none → other own ≡ refused 5
  unfolding deleted bind needed
  other_none own e = ap (λ (o : Option (Cut Item)). bind (bind (needed 5 o) (λ k. accepted (without k))) (after own)) e

  other_at : (own : Bool) {from to : ℕ} (k : BehindAt s c target.end key from to)
      → other own
      ≡ bind (lower_total c.hit.bytes) (λ rest.
      bind (flagged own rest) (λ d. accepted (c.front ++ with_bytes c.hit d ∷ (k.parts.mid ++ k.item.back))))
  unfolding deleted bind needed
  other_at own k =
      ap (λ (o : Option (Cut Item)). bind (bind (needed 5 o) (λ k. accepted (without k))) (after own)) k.finds
      ∙ ap (bind (lower_total c.hit.bytes)) (λ j rest. bind (flagged own rest) (λ d. replaced-without st k d j))

  other-owned : Owned (target.start + 37) (held_sheet room (other false)) (held_sheet room (other true))
  unfolding flagged bind held_sheet held
  other-owned = go (seek_in key 1 (list_items s)) refl
    where
      go : (f : Sought) → seek_in key 1 (list_items s) ≡ f → Owned (target.start + 37) (held_sheet room (other false)) (held_sheet room (other true))
      go (Absent at) e =
          let gone : first_cut (has_key key) (list_items s) ≡ none = no_cut key 1 (list_items s) at (rises st) e in
          owned_by (ap (held_sheet room) (other_none false gone)) (ap (held_sheet room) (other_none true gone))
          (record { same = refl; long = λ l f. refused-not f })
      go (Present from to) e =
          let k : BehindAt s c target.end key from to = stands_at st key refl (omega arith) from to e in
          owned_by (ap (held_sheet room) (other_at false k)) (ap (held_sheet room) (other_at true k))
          (own-bind st (k.parts.mid ++ k.item.back) room (lower_total c.hit.bytes) (lower-headed c.hit.bytes))

  abbrev call : Bool → Answer (List ℕ) → Answer (List Item)
  call own a = if_absent (bind a (λ rest. bind (flagged own rest) (λ body. accepted (put_back c body)))) (other own)

  drop-owned : Owned (target.start + 37) (held_sheet room (drop_tree_ref name false (list_items s) c)) (held_sheet room (drop_tree_ref name true (list_items s) c))
  unfolding drop_tree_ref if_absent bind flagged held_sheet held
  drop-owned =
      go (drop_inline_tree_ref c.hit.key.kind c.hit.bytes name)
      (drop-headed c.hit.key.kind c.hit.bytes name
      (subst (λ (i : Item). T (are_bytes i.bytes)) (sym st.hit-is) (are_bytes-part (target.start + 21) (target.end - (target.start + 21)) s bytes)))
    where
      go : (a : Answer (List ℕ)) → ((rest : List ℕ) → a ≡ accepted rest → Headed rest) → Owned (target.start + 37) (held_sheet room (call false a)) (held_sheet room (call true a))
      go (refused k) h = record { same = refl; long = λ l f. refused-not f }
      go absent h = other-owned
      go remove h = record { same = refl; long = λ l f. remove-not f }
      go (accepted rest) h =
          owned_by refl
          (ap (held_sheet room) (stays (with_flags rest 256) (put_back c) (other true) (λ e. accepted-absent (sym (with-own rest (h rest refl)) ∙ e))))
          (own-bind st c.back room (accepted rest) h)

-- at the record's key
pub key-owned : {s : List ℕ} {target : RecordAt} → T (are_bytes s) → StandsAt s target → (name : BlockRef) (room : ℕ)
    → Owned (target.start + 37) (held_sheet room (on_key target.key (list_items s) (drop_ref (Block name) 1 (list_items s))))
    (held_sheet room (on_key target.key (list_items s) (drop_tree_ref name true (list_items s))))
unfolding drop_ref
key-owned bytes h name room =
    owned_by (ap (held_sheet room) (on-key h _)) (ap (held_sheet room) (on-key h _)) (drop-owned (stands bytes h) bytes name room)
