-- The search for an extent's record: what it has shown, and what a call on the record answers. Assumes nothing.
use mathlib.Core.Path.{◌≡◌, refl, sym, ap, ap₂, ◌∙◌, subst}
use mathlib.Core.Bool.{Bool, true, false}
use mathlib.Core.Option.{Option}
use mathlib.Core.List.{List}
use Prim.Native.Nat.{ℕ, ◌+◌, ◌≤◌}
use native.Mathlib.Omega.{arith}
use native.Mathlib.Nat.{zero-add}
use lib.Dec.{T, eqb}
use lib.ListN.{length}
use mir.Facts.{and_yes}
use Rattle.fields.specs.Lists.{all, Cut, first_cut}
use Rattle.fields.proofs.Lists.{all-mid, Found, cut-some}
use Rattle.std.specs.Prelude.{Option as Maybe, Result}
use Rattle.format.specs.declared.Key.{Key}
use Rattle.format.specs.declared.Refusal.{Refusal}
use Rattle.format.specs.Questions.{Answer, refused, absent, remove, accepted, ask, bind, needed}
use Rattle.format.specs.Items.{Item, rising, read_sheet, on_sheet}
use Rattle.format.specs.Sheets.{has_key}
use Rattle.format.specs.Apply.{is_record, record_of, on_record}
use Rattle.format.proofs.Items.{sane}
use Rattle.format.proofs.Keys.{cut-at-key}
use Rattle.item_list.specs.declared.ItemPlace.{ItemPlace}
use Rattle.item_list.specs.declared.ItemQuery.TheVariants.{Record}
use Rattle.item_list.specs.Steps.{item_at, list_items, IsList}
use Rattle.item_list.specs.Seeks.{passing}
use Rattle.item_list.proofs.Reading.{Counted, Located, Lacking}
use Rattle.item_list.proofs.Positions.{Positioned, positioned, record-missing, Inside, inside}
use Rattle.record_edit.specs.declared.RecordAt.{RecordAt}
use Rattle.record_edit.specs.declared.FoundRecord.{FoundRecord}
use Rattle.record_edit.specs.Records.{StandsFor, asked_sheet, RecordMissing, RecordFound, Finds}
use Rattle.record_edit.proofs.Places.{item-there}
use Rattle.format.proofs.Answers.{ask-ok, bind_ok}

-- ---- as code finds it

module _ (s : List ℕ) (three : Bool) where
  pub sheet-refused : (k : ℕ) → read_sheet s ≡ refused k → asked_sheet s three ≡ refused k
  unfolding on_sheet bind
  sheet-refused k e = ap (λ (x : Answer (List Item)). bind x (λ items. ask three 3 (accepted items))) e

  pub three-refused : {n : ℕ} → Counted s n → three ≡ false → asked_sheet s three ≡ refused 3
  unfolding on_sheet bind ask
  three-refused c e =
      ap (λ (x : Answer (List Item)). bind x (λ items. ask three 3 (accepted items))) c.reads ∙ ap (λ (b : Bool). ask b 3 (accepted (list_items s))) e

  all-passed : {n : ℕ} → Counted s n → three ≡ true → asked_sheet s three ≡ accepted (list_items s)
  unfolding on_sheet bind ask
  all-passed c e =
      ap (λ (x : Answer (List Item)). bind x (λ items. ask three 3 (accepted items))) c.reads ∙ ap (λ (b : Bool). ask b 3 (accepted (list_items s))) e

  module _ (extent : ℕ) where
    pub lacks : {n : ℕ} → Lacking (passing (Record extent)) s n → three ≡ true → RecordMissing s extent three
    unfolding passing
    lacks l e = record { passed = all-passed l.list e; none-there = record-missing extent (list_items s) l.position }

    module _ {n : ℕ} {place : ItemPlace} (l : Located (passing (Record extent)) s n place) where
      first-positioned : Positioned (record_of extent) (list_items s) 0 1 place
      unfolding passing
      first-positioned = positioned (record_of extent) 0 1 (list_items s) place l.position

      abbrev d : Cut Item
      d = first-positioned.at_cut

      found : Found (record_of extent) (list_items s) d
      found = cut-some (record_of extent) (list_items s) first-positioned.is

      within : Inside s d.front d.hit place.start place.end
      within = inside s (list_items s) d.front d.hit d.back place.start place.end l.list.bytes-are found.same first-positioned.stands

      pub key-room : place.start + 21 ≤ length s
      key-room = let i = within in let p = i.ordered in let q = i.within in omega arith

      pub has : three ≡ true → (key : Key) → key ≡ (item_at s place.start).key
          → RecordFound s extent three place.index (record { key = key; start = place.start; end = place.end; item_count = n })
      has e key is =
          let hit-is =
          item-there s d.front d.hit d.back place.start place.end l.list.bytes-are found.same
          (all-mid sane d.front d.hit d.back (subst (λ (x : List Item). T (all sane x)) found.same l.list.sane-all)) within in
          let key-is : d.hit.key ≡ key = ap (λ (i : Item). i.key) hit-is ∙ sym is in
          let e₁ = within.starts in
          let e₂ = within.ends in
          record {
            passed = all-passed l.list e;
            there = record {
              stands = record {
                reads = l.list.reads;
                many = l.list.count;
                at_cut = d;
                finds = ap₂ (λ (k : Key) (x : List Item). first_cut (has_key k) x) (sym key-is) found.same
                    ∙ cut-at-key d.front d.hit d.back (subst (λ (x : List Item). T (rising x)) found.same l.list.rises);
                is-record = (and_yes (is_record d.hit) (eqb d.hit.key.objectid extent) found.hit).0;
                starts = e₁;
                ends = omega arith;
              };
              first = first-positioned.is;
            };
            index_is = first-positioned.index_is ∙ zero-add (length d.front);
          }

-- question 3 as it was asked, and the answer as it was told
pub finds-as : (s : List ℕ) (extent : ℕ) {a b : Bool} {r q : Result (Maybe FoundRecord) Refusal} → a ≡ b → r ≡ q → Finds s extent a r → Finds s extent b q
finds-as s extent {a} {b} {r} {q} e f h = subst (λ (x : Result (Maybe FoundRecord) Refusal). Finds s extent b x) f (subst (λ (x : Bool). Finds s extent x r) e h)

-- ---- what a call on the record answers

asked-next : {A : Type 0} (r : Answer (List Item)) (b : Bool) (next : List Item → Answer A)
    → bind r (λ items. ask b 3 (next items)) ≡ bind (bind r (λ items. ask b 3 (accepted items))) next
unfolding bind ask
asked-next (refused k) b next = refl
asked-next absent b next = refl
asked-next remove b next = refl
asked-next (accepted items) true next = refl
asked-next (accepted items) false next = refl

on-sheet : {A : Type 0} (s : List ℕ) (three : Bool) (next : List Item → Answer A) → on_sheet s three next ≡ bind (asked_sheet s three) next
unfolding on_sheet
on-sheet s three next = asked-next (read_sheet s) three next

pub on-refused : {A : Type 0} (s : List ℕ) (three : Bool) (k : ℕ) (next : List Item → Answer A) → asked_sheet s three ≡ refused k → on_sheet s three next ≡ refused k
unfolding bind
on-refused s three k next e = on-sheet s three next ∙ ap (λ (a : Answer (List Item)). bind a next) e

pub on-passed : {A : Type 0} (s : List ℕ) (three : Bool) (next : List Item → Answer A) → asked_sheet s three ≡ accepted (list_items s) → on_sheet s three next ≡ next (list_items s)
unfolding bind
on-passed s three next e = on-sheet s three next ∙ ap (λ (a : Answer (List Item)). bind a next) e

-- what the first questions have shown
pub passed-shows : (s : List ℕ) (three : Bool) → asked_sheet s three ≡ accepted (list_items s) → T three × IsList s
unfolding on_sheet
passed-shows s three e =
    let t = bind_ok (read_sheet s) _ e in
    let q = ask-ok three 3 _ t.2 in
    (q.0, record { reads = t.1 ∙ q.1 })

pub on-missing : {A : Type 0} {s : List ℕ} {extent : ℕ} {three : Bool} → RecordMissing s extent three → (next : List Item → Cut Item → Answer A)
    → on_sheet s three (λ items. on_record extent items (next items)) ≡ refused 5
unfolding bind on_record needed
on-missing {A} {s} {extent} {three} l next =
    on-sheet s three (λ items. on_record extent items (next items))
    ∙ ap (λ (a : Answer (List Item)). bind a (λ items. on_record extent items (next items))) l.passed
    ∙ ap (λ (o : Option (Cut Item)). bind (needed 5 o) (next (list_items s))) l.none-there

pub on-record : {A : Type 0} {s : List ℕ} {extent : ℕ} {target : RecordAt} (h : StandsFor s extent target) (next : Cut Item → Answer A)
    → on_record extent (list_items s) next ≡ next h.stands.at_cut
unfolding on_record bind needed
on-record h next = ap (λ (o : Option (Cut Item)). bind (needed 5 o) next) h.first

pub on-found : {A : Type 0} {s : List ℕ} {extent : ℕ} {three : Bool} {index : ℕ} {target : RecordAt} (h : RecordFound s extent three index target)
    (next : List Item → Cut Item → Answer A)
    → on_sheet s three (λ items. on_record extent items (next items)) ≡ next (list_items s) h.there.stands.at_cut
unfolding bind
on-found {A} {s} {extent} {three} h next =
    on-sheet s three (λ items. on_record extent items (next items))
    ∙ ap (λ (a : Answer (List Item)). bind a (λ items. on_record extent items (next items))) h.passed
    ∙ on-record h.there (next (list_items s))
