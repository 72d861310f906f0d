-- Pieces written one after the other are the two splices, and questions 17 and 21 of them. Assumes nothing.
use mathlib.Core.Path.{◌≡◌, refl, sym, ap, ap₂, ◌∙◌, subst}
use mathlib.Core.Bool.{Bool, true, false, ◌&&◌}
use mathlib.Core.List.{List, ◌++◌, append_assoc}
use Prim.Native.Nat.{ℕ, ◌+◌, ◌-◌, ◌≤◌, ◌<◌}
use native.Mathlib.Omega.{arith}
use lib.ListN.{length, take, drop, length-append, length-drop}
use lib.Seq.{length-take-le, take-add, take-append-le, take-take, drop_at, drop-append-le}
use borrow.Author.Tests.{le-leb, lt-leb}
use Rattle.std.specs.Prelude.{Result, Ok, Err}
use Rattle.fields.proofs.Lists.{and-false}
use Rattle.fields.specs.Parts.{part, written, spliced}
use Rattle.fields.proofs.Parts.{part-rest, length_part, length-spliced}
use Rattle.format.specs.declared.Key.{Key}
use Rattle.format.specs.declared.Edited.{Edited}
use Rattle.format.specs.declared.Edited.TheVariants.{Written, Absent as NoMatch, Remove as Gone}
use Rattle.format.specs.declared.Refusal.{Refusal}
use Rattle.format.specs.Questions.{Answer, accepted, ask, bind, denied, lent, edited_of, Answered}
use Rattle.format.specs.Items.{Item, item_bytes}
use Rattle.format.proofs.Items.{length-item_bytes}
use Rattle.format.proofs.Outputs.{answered-refused, answered-written}
use Rattle.item_list.specs.ItemWrites.{head_bytes, room_for}
use Rattle.item_list.proofs.ItemWrites.{length-head, item-head}
use Rattle.backref.specs.declared.plan.BodyEdit.{BodyEdit}
use Rattle.backref.specs.declared.plan.Plan.{Plan}
use Rattle.backref.specs.declared.plan.Plan.TheVariants.{Edit, Absent, Remove}
use Rattle.backref.specs.Plans.{edited, plan_answer, EditIn}
use Rattle.backref.proofs.Writes.{front_of, written_then}
use Rattle.backref.proofs.Outcomes.{length-edited}
use Rattle.record_edit.specs.declared.SecondEdit.{SecondEdit}
use Rattle.record_edit.specs.declared.RecordAt.{RecordAt}
use Rattle.record_edit.specs.Records.{data_of, edit_length, SecondIn, rest_bytes, rest_length, sheet_length, edited_sheet, held_record, held_edit}

-- ---- a planned body

module _ (p : BodyEdit) (body : List ℕ) (h : EditIn p body) where
  abbrev item : Key → Item
  item key = record { key = key; bytes = edited p body }

  pub record-writes : (s : List ℕ) (start : ℕ) (key : Key) (out o₁ o₂ o₃ : List ℕ) (size r₁ r₂ r₃ : ℕ) → start ≤ length s
      → start + 21 + edit_length p (length body) ≤ length out
      → size ≡ edit_length p (length body)
      → (r₁ ≡ 0 + (start - 0)) × (o₁ ≡ written 0 (part 0 (start - 0) s) out)
      → (r₂ ≡ r₁ + 21) × (o₂ ≡ written r₁ (head_bytes key size) o₁)
      → (r₃ ≡ r₂ + edit_length p (length body)) × (o₃ ≡ written r₂ (edited p body) o₂)
      → (r₃ ≡ start + 21 + edit_length p (length body)) × (o₃ ≡ written 0 (take start s ++ item_bytes (item key)) out)
  record-writes s start key out o₁ o₂ o₃ size r₁ r₂ r₃ fits room is e₁ e₂ e₃ =
      let a : List ℕ = take start s in
      let d : List ℕ = edited p body in
      let b : List ℕ = head_bytes key (length d) in
      let ld : length d ≡ edit_length p (length body) = length-edited p body h in
      let la : length a ≡ start = length-take-le start s fits in
      let lb : length b ≡ 21 = length-head key (length d) in
      let lab : length (a ++ b) ≡ start + 21 = length-append a b ∙ omega (arith, la, lb) in
      let n₁ : r₁ ≡ 0 + length a = omega (arith, la, e₁.0) in
      let n₂ : r₂ ≡ 0 + length (a ++ b) = omega (arith, lab, e₁.0, e₂.0) in
      let h₁ : 0 + (length a + length b) ≤ length out = omega (arith, la, lb, room) in
      let h₂ : 0 + (length (a ++ b) + length d) ≤ length out = omega (arith, lab, ld, room) in
      let w₁ : o₁ ≡ written 0 a out = e₁.1 ∙ ap (λ (l : List ℕ). written 0 l out) (front_of start s) in
      let w₂ : o₂ ≡ written 0 (a ++ b) out =
      written_then a b out o₁ o₂ 0 r₁ n₁ h₁ w₁ (e₂.1 ∙ ap (λ (n : ℕ). written r₁ (head_bytes key n) o₁) (is ∙ sym ld)) in
      let w₃ : o₃ ≡ written 0 ((a ++ b) ++ d) out = written_then (a ++ b) d out o₂ o₃ 0 r₂ n₂ h₂ w₂ e₃.1 in (
        omega (arith, e₁.0, e₂.0, e₃.0),
        w₃ ∙ ap (λ (l : List ℕ). written 0 l out) (append_assoc a b d ∙ ap (λ (l : List ℕ). a ++ l) (sym (item-head (item key)))),
      )

-- ---- the second edit

module _ (b : SecondEdit) (end : ℕ) (s : List ℕ) (h : SecondIn b end s) where
  new_in : b.size ≤ length b.new
  new_in = subst (λ (k : ℕ). b.size ≤ k) (sym h.full) h.small

  pub rest-writes : (out o₁ o₂ o₃ : List ℕ) (at r₁ r₂ : ℕ) → at + rest_length b end (length s) ≤ length out
      → (r₁ ≡ at + (b.from - end)) × (o₁ ≡ written at (part end (b.from - end) s) out)
      → (r₂ ≡ r₁ + (b.size - 0)) × (o₂ ≡ written r₁ (part 0 (b.size - 0) b.new) o₁)
      → o₃ ≡ written r₂ (part b.to (length s - b.to) s) o₂
      → o₃ ≡ written at (rest_bytes b end s) out
  rest-writes out o₁ o₂ o₃ at r₁ r₂ room e₁ e₂ e₃ =
      let low = h.low in
      let order = h.order in
      let high = h.high in
      let x : List ℕ = part end (b.from - end) s in
      let y : List ℕ = take b.size b.new in
      let z : List ℕ = drop b.to s in
      let k : end + (b.from - end) ≤ length s = omega arith in
      let lx : length x ≡ b.from - end = length_part (b.from - end) end s k in
      let ly : length y ≡ b.size = length-take-le b.size b.new new_in in
      let lz : length z ≡ length s - b.to = length-drop b.to s in
      let lxy : length (x ++ y) ≡ b.from - end + b.size = length-append x y ∙ omega (arith, lx, ly) in
      let n₁ : r₁ ≡ at + length x = omega (arith, lx, e₁.0) in
      let n₂ : r₂ ≡ at + length (x ++ y) = omega (arith, lxy, e₁.0, e₂.0) in
      let h₁ : at + (length x + length y) ≤ length out = omega (arith, lx, ly, room) in
      let h₂ : at + (length (x ++ y) + length z) ≤ length out = omega (arith, lxy, lz, room) in
      let w₂ : o₂ ≡ written at (x ++ y) out =
      written_then x y out o₁ o₂ at r₁ n₁ h₁ e₁.1 (e₂.1 ∙ ap (λ (l : List ℕ). written r₁ l o₁) (front_of b.size b.new)) in
      written_then (x ++ y) z out o₂ o₃ at r₂ n₂ h₂ w₂ (e₃ ∙ ap (λ (l : List ℕ). written r₂ l o₂) (part-rest b.to s))

  abbrev inner : List ℕ
  inner = spliced b.from b.to (take b.size b.new) s

  inner-front : (start : ℕ) → start ≤ end → take start inner ≡ take start s
  inner-front start k =
      let low = h.low in
      let high = h.high in
      let order = h.order in
      let x : List ℕ = take b.from s in
      let y : List ℕ = take b.size b.new in
      let lx : length x ≡ b.from = length-take-le b.from s (omega arith) in
      let n₁ : start ≤ length x = omega (arith, lx) in
      let n₂ : start ≤ length (x ++ y) = omega (arith, lx, length-append x y) in
      take-append-le start (x ++ y) (drop b.to s) n₂ ∙ take-append-le start x y n₁ ∙ take-take start b.from s (omega arith)

  inner-rest : drop end inner ≡ rest_bytes b end s
  inner-rest =
      let low = h.low in
      let high = h.high in
      let order = h.order in
      let x : List ℕ = take b.from s in
      let y : List ℕ = take b.size b.new in
      let lx : length x ≡ b.from = length-take-le b.from s (omega arith) in
      let n₁ : end ≤ length x = omega (arith, lx) in
      let n₂ : end ≤ length (x ++ y) = omega (arith, lx, length-append x y) in
      let n₃ : end + (b.from - end) ≡ b.from = omega arith in
      let n₄ : end ≤ length s = omega arith in
      let between : drop end x ≡ part end (b.from - end) s =
      ap (λ (k : ℕ). drop end (take k s)) (sym n₃) ∙ ap (drop end) (take-add end (b.from - end) s)
      ∙ drop_at (take end s) (part end (b.from - end) s) end (length-take-le end s n₄) in
      drop-append-le end (x ++ y) (drop b.to s) n₂
      ∙ ap (λ (l : List ℕ). l ++ drop b.to s) (drop-append-le end x y n₁ ∙ ap (λ (l : List ℕ). l ++ y) between)

  pub length-inner : length inner ≡ b.from + b.size + (length s - b.to)
  length-inner =
      let order = h.order in
      let high = h.high in
      length-spliced b.from b.to (take b.size b.new) s (omega arith)
      ∙ ap (λ (n : ℕ). b.from + n + (length s - b.to)) (length-take-le b.size b.new new_in)

-- ---- the whole list

module _ (s : List ℕ) (r : RecordAt) (p : BodyEdit) (b : SecondEdit) (h : SecondIn b r.end s) (k : r.start + 21 ≤ r.end) where
  abbrev body : List ℕ
  body = data_of s r.start r.end

  length-body : length body ≡ r.end - (r.start + 21)
  length-body =
      let low = h.low in
      let order = h.order in
      let high = h.high in
      length_part (r.end - (r.start + 21)) (r.start + 21) s (omega arith)

  -- what the two pieces ask of an output of so many bytes, from the length that was asked about
  pub held_fits : (m size long : ℕ) → size ≡ edit_length p (r.end - (r.start + 21)) → size ≤ 65535
      → long ≡ r.start + 21 + size + rest_length b r.end (length s) → long ≤ m
      → (r.start + 21 ≤ r.end) × (edit_length p (r.end - (r.start + 21)) ≤ 65535) × (sheet_length r p b (length s) ≤ m)
  held_fits m size long is j long-is room = (
    k,
    subst (λ (n : ℕ). n ≤ 65535) is j,
    subst (λ (n : ℕ). n ≤ m) (long-is ∙ ap (λ (n : ℕ). r.start + 21 + n + rest_length b r.end (length s)) is) room,
  )

  module _ (e : EditIn p body) where
    abbrev new : List ℕ
    new = edited p body

    length-new : length new ≡ edit_length p (r.end - (r.start + 21))
    length-new = length-edited p body e ∙ ap (edit_length p) length-body

    pub length-sheet : length (edited_sheet s r b new) ≡ sheet_length r p b (length s)
    unfolding edited_sheet
    length-sheet =
        let low = h.low in
        let order = h.order in
        let high = h.high in
        let i : Item = record { key = r.key; bytes = new } in
        let li : length (item_bytes i) ≡ 21 + length new = length-item_bytes i in
        let ln = length-new in
        let l = length-inner b r.end s h in
        length-spliced r.start r.end (item_bytes i) (inner b r.end s h) (omega (arith, l)) ∙ omega (arith, l, li, ln)

    pub sheet-writes : (out o₁ o₂ : List ℕ) (at : ℕ) → sheet_length r p b (length s) ≤ length out
        → (at ≡ r.start + 21 + edit_length p (length body))
        × (o₁ ≡ written 0 (take r.start s ++ item_bytes (record { key = r.key; bytes = new })) out)
        → o₂ ≡ written at (rest_bytes b r.end s) o₁
        → o₂ ≡ written 0 (edited_sheet s r b new) out
    unfolding edited_sheet
    sheet-writes out o₁ o₂ at room e₁ e₂ =
        let low = h.low in
        let order = h.order in
        let high = h.high in
        let i : Item = record { key = r.key; bytes = new } in
        let a : List ℕ = take r.start s in
        let x : List ℕ = a ++ item_bytes i in
        let y : List ℕ = rest_bytes b r.end s in
        let ln = length-new in
        let lb = length-body in
        let la : length a ≡ r.start = length-take-le r.start s (omega arith) in
        let lx : length x ≡ r.start + (21 + length new) = length-append a (item_bytes i) ∙ omega (arith, la, length-item_bytes i) in
        let front : take r.start (inner b r.end s h) ≡ a = inner-front b r.end s h r.start (omega arith) in
        let back : drop r.end (inner b r.end s h) ≡ y = inner-rest b r.end s h in
        let ly : length y ≡ rest_length b r.end (length s) =
        sym (ap length back) ∙ length-drop r.end (inner b r.end s h) ∙ omega (arith, length-inner b r.end s h) in
        let n : at ≡ 0 + length x = e₁.0 ∙ ap (λ (m : ℕ). r.start + 21 + edit_length p m) lb ∙ omega (arith, lx, ln) in
        let fits : 0 + (length x + length y) ≤ length out = omega (arith, lx, ly, ln, room) in
        written_then x y out o₁ o₂ 0 at n fits e₁.1 e₂
        ∙ ap₂ (λ (f g : List ℕ). written 0 ((f ++ item_bytes i) ++ g) out) (sym front) (sym back)

    -- ---- questions 17 and 21

    module _ (room count limit size : ℕ) (is : size ≡ edit_length p (r.end - (r.start + 21))) (old : List ℕ) where
      length-is : length new ≡ size
      length-is = length-new ∙ sym is

      pub over-limit : limit < size → Answered (held_edit room count limit (edited_sheet s r b) new) (denied 17) old old
      unfolding held_edit ask
      over-limit j =
          let z : limit < length new = subst (λ (n : ℕ). limit < n) (sym length-is) j in
          answered-refused old (rw (lt-leb (length new) limit z))

      module _ (j : size ≤ limit) where
        under : held_edit room count limit (edited_sheet s r b) new ≡ held_record room count (length new) (edited_sheet s r b new)
        unfolding held_edit ask
        under =
            let z : length new ≤ limit = subst (λ (n : ℕ). n ≤ limit) (sym length-is) j in
            rw (le-leb (length new) limit z)

        pub body-long : 65535 < size → Answered (held_edit room count limit (edited_sheet s r b) new) (denied 21) old old
        unfolding held_record ask
        body-long l =
            let z : 65535 < length new = subst (λ (n : ℕ). 65535 < n) (sym length-is) l in
            answered-refused old (under ∙ rw (lt-leb (length new) 65535 z, and-false (room_for room (length (edited_sheet s r b new)) count)))

        module _ (l : size ≤ 65535) where
          asked : held_edit room count limit (edited_sheet s r b) new
              ≡ ask (room_for room (sheet_length r p b (length s)) count) 21 (accepted (edited_sheet s r b new))
          unfolding held_record
          asked =
              let z : length new ≤ 65535 = subst (λ (n : ℕ). n ≤ 65535) (sym length-is) l in
              under ∙ rw (le-leb (length new) 65535 z, length-sheet) (go (room_for room (sheet_length r p b (length s)) count))
            where
              go : (c : Bool) → ask (c && true) 21 (accepted (edited_sheet s r b new)) ≡ ask c 21 (accepted (edited_sheet s r b new))
              go true = refl
              go false = refl

          module _ (long : ℕ) (long-is : long ≡ r.start + 21 + size + rest_length b r.end (length s)) where
            all-long : long ≡ sheet_length r p b (length s)
            all-long = long-is ∙ ap (λ (n : ℕ). r.start + 21 + n + rest_length b r.end (length s)) is

            pub no_room : room_for room long count ≡ false → Answered (held_edit room count limit (edited_sheet s r b) new) (denied 21) old old
            unfolding ask
            no_room f = answered-refused old (asked ∙ rw (← all-long, f))

            pub all-written : (now : List ℕ) → room_for room long count ≡ true → now ≡ written 0 (edited_sheet s r b new) old
                → Answered (held_edit room count limit (edited_sheet s r b) new) (Ok (Written long)) old now
            unfolding ask
            all-written now t w =
                subst (λ (n : ℕ). Answered (held_edit room count limit (edited_sheet s r b) new) (Ok (Written n)) old now) (length-sheet ∙ sym all-long)
                (answered-written {body = edited_sheet s r b new} (asked ∙ rw (← all-long, t)) w)
