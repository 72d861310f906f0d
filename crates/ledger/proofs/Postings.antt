-- One change posted: from the answers of questions 1 to 5 and the change's own to the posting. Assumes nothing.
use mathlib.Core.Path.{◌≡◌, refl, sym, ap, ◌∙◌, subst}
use mathlib.Core.Bool.{Bool, true, false, ◌&&◌}
use mathlib.Core.Option.{Option, none}
use mathlib.Core.List.{List}
use Prim.Native.Nat.{ℕ}
use native.Mathlib.Omega.{arith}
use Rattle.std.specs.Prelude.{Option as Maybe, Some, None, Result, Ok, Err}
use lib.Dec.{T, leb}
use mir.Facts.{and_yes}
use Rattle.fields.specs.Lists.{all, Cut, first_cut}
use Rattle.format.specs.declared.Change.{Change}
use Rattle.format.specs.declared.Change.TheVariants.{AddBlock, AddData, AddShared, DropBlock, DropData, DropShared}
use Rattle.format.specs.declared.BlockRef.{BlockRef}
use Rattle.format.specs.declared.DataRef.{DataRef}
use Rattle.format.specs.declared.SharedRef.{SharedRef}
use Rattle.format.specs.declared.Edited.{Edited}
use Rattle.format.specs.declared.Refusal.{Refusal}
use Rattle.format.specs.Questions.{Answer, refused, ask, bind, needed, also, denied, Answered, accepted}
use Rattle.format.specs.Items.{Item, nodesize_fits, held_sheet}
use Rattle.format.specs.Apply.{record_of, on_record, apply_keyed_add, apply_shared_add}
use Rattle.format.specs.Names.{Name, balanced}
use Rattle.format.specs.Ledger.{name_of, kind_fits, not_its_own, added, drop_shared_ref, changed, post, posted}
use Rattle.inline_refs.specs.declared.ref_name.RefName.{RefName}
use Rattle.inline_refs.specs.declared.ref_name.RefName.TheVariants.{Block, Data, SharedBlock, SharedData}
use Rattle.inline_refs.specs.Scans.{kind_of}
use Rattle.item_list.specs.Steps.{list_items}
use Rattle.item_list.proofs.ItemWrites.{answered-no}
use Rattle.backref.specs.ByName.{SharedName}
use Rattle.transaction.specs.Drops.{drop_ref}
use Rattle.ledger.specs.Posting.{add_change, balance_asked}
use Rattle.record_edit.specs.declared.RecordAt.{RecordAt}
use Rattle.record_edit.specs.declared.FoundRecord.{FoundRecord}
use Rattle.record_edit.specs.Records.{StandsFor, asked_sheet, Finds, RecordMissing}
use Rattle.record_edit.proofs.Searches.{on-refused, on-passed, passed-shows, finds-as}

-- ---- the name of a shared reference

pub shared-add : (name : SharedRef) (w : RefName) → SharedName name w → (extent amount : ℕ) → AddShared extent name amount ≡ add_change extent w amount
unfolding add_change
shared-add name (Block n) h extent amount = absurd h
shared-add name (Data n) h extent amount = absurd h
shared-add name (SharedBlock parent) h extent amount = ap (λ (x : SharedRef). AddShared extent x amount) h
shared-add name (SharedData parent) h extent amount = ap (λ (x : SharedRef). AddShared extent x amount) h

shared-drop : (name : SharedRef) (w : RefName) → SharedName name w → (amount : ℕ) (items : List Item) (c : Cut Item)
    → drop_shared_ref name amount items c ≡ drop_ref w amount items c
unfolding drop_ref
shared-drop name (Block n) h amount items c = absurd h
shared-drop name (Data n) h amount items c = absurd h
shared-drop name (SharedBlock parent) h amount items c = ap (λ (x : SharedRef). drop_shared_ref x amount items c) h
shared-drop name (SharedData parent) h amount items c = ap (λ (x : SharedRef). drop_shared_ref x amount items c) h

-- ---- the change that it is

-- a drop of that change, by the name
module _ (nodesize extent : ℕ) (items : List Item) where
  pub drop_block : (name : BlockRef) → on_record extent items (drop_ref (Block name) 1 items) ≡ changed nodesize (DropBlock extent name) items
  unfolding changed drop_ref
  drop_block name = refl

  pub drop-data : (name : DataRef) → on_record extent items (drop_ref (Data name) 1 items) ≡ changed nodesize (DropData extent name) items
  unfolding changed drop_ref
  drop-data name = refl

  pub drop-shared : (name : SharedRef) (w : RefName) → SharedName name w → (amount : ℕ)
      → on_record extent items (drop_ref w amount items) ≡ changed nodesize (DropShared extent name amount) items
  unfolding changed
  drop-shared name w h amount = λ j. on_record extent items (λ c. sym (shared-drop name w h amount items c) j)

pub as-drop : (nodesize room : ℕ) (items : List Item) {r : Result Edited Refusal} {old new : List ℕ} (change other : Change) (a : Answer (List Item)) → change ≡ other
    → a ≡ changed nodesize other items → Answered (held_sheet room a) r old new → Answered (held_sheet room (changed nodesize change items)) r old new
as-drop nodesize room items {r} {old} {new} change other a e is h =
    subst (λ (x : Answer (List Item)). Answered (held_sheet room x) r old new) (is ∙ ap (λ (x : Change). changed nodesize x items) (sym e)) h

pub as-change : (nodesize room : ℕ) (items : List Item) {r : Result Edited Refusal} {old new : List ℕ} (change other : Change) → change ≡ other
    → Answered (held_sheet room (changed nodesize other items)) r old new → Answered (held_sheet room (changed nodesize change items)) r old new
as-change nodesize room items {r} {old} {new} change other e h =
    subst (λ (x : Change). Answered (held_sheet room (changed nodesize x items)) r old new) (sym e) h

pub entered-as : {s : List ℕ} {target : RecordAt} (change : Change) {other : Change} → change ≡ other → StandsFor s (name_of change).extent target
    → StandsFor s (name_of other).extent target
entered-as {s} {target} change e h = subst (λ (x : Change). StandsFor s (name_of x).extent target) e h

pub not-block : (name : SharedRef) (w : RefName) {amount : ℕ} → SharedName name w → kind_of w ≡ 176 → amount ≡ 1
unfolding kind_of
not-block name (Block n) h e = absurd h
not-block name (Data n) h e = absurd h
not-block name (SharedBlock parent) h e = absurd (omega (arith, e))
not-block name (SharedData parent) h e = absurd (omega (arith, e))

-- ---- question 5

no_record : {A : Type 0} (extent : ℕ) (items : List Item) (next : Cut Item → Answer A) → first_cut (record_of extent) items ≡ none
    → on_record extent items next ≡ refused 5
unfolding on_record bind needed
no_record extent items next e = ap (λ (o : Option (Cut Item)). bind (needed 5 o) next) e

add-missing : (m : Name) (amount : ℕ) (items : List Item) (a : Answer (List Item)) → a ≡ refused 5 → added m amount items a ≡ refused 5
unfolding added also
add-missing m amount items a e = ap (added m amount items) e ∙ go (leb 1 amount) (all (not_its_own m) items)
  where
    go : (b c : Bool) → ◌≡◌ {A = Answer (List Item)} (also c 9 (also b 10 (refused 5))) (refused 5)
    go true true = refl
    go true false = refl
    go false true = refl
    go false false = refl

missing-record : (nodesize : ℕ) (change : Change) (items : List Item) → first_cut (record_of (name_of change).extent) items ≡ none
    → changed nodesize change items ≡ refused 5
unfolding changed apply_keyed_add apply_shared_add
missing-record nodesize (AddBlock extent name) items e = add-missing _ 1 items _ (no_record extent items _ e)
missing-record nodesize (AddData extent name amount) items e = add-missing _ amount items _ (no_record extent items _ e)
missing-record nodesize (AddShared extent name amount) items e = add-missing _ amount items _ (no_record extent items _ e)
missing-record nodesize (DropBlock extent name) items e = no_record extent items _ e
missing-record nodesize (DropData extent name) items e = no_record extent items _ e
missing-record nodesize (DropShared extent name amount) items e = no_record extent items _ e

-- the search for the change's extent
pub finds-for : (s : List ℕ) (change : Change) {extent : ℕ} {a b : Bool} {r q : Result (Maybe FoundRecord) Refusal} → extent ≡ (name_of change).extent → a ≡ b → r ≡ q → Finds s extent a r
    → Finds s (name_of change).extent b q
finds-for s change {extent} {a} {b} {r} {q} e f g h = subst (λ (x : ℕ). Finds s x b q) e (finds-as s extent f g h)

-- ---- questions 1 to 4

list_read : (s : List ℕ) (extent : ℕ) (three : Bool) (found : Maybe FoundRecord) → Finds s extent three (Ok found)
    → asked_sheet s three ≡ accepted (list_items s)
list_read s extent three None h = h.passed
list_read s extent three (Some found) h = h.passed

-- there is a list, and where no record was found it has none
module _ (s : List ℕ) (change : Change) {extent : ℕ} {a b : Bool} (found : Maybe FoundRecord) (e : extent ≡ (name_of change).extent) (f : a ≡ b)
    (h : Finds s extent a (Ok found)) where
  pub read-for : asked_sheet s b ≡ accepted (list_items s)
  read-for = list_read s (name_of change).extent b found (finds-for s change {r = Ok found} e f refl h)

  pub none-for : found ≡ None → first_cut (record_of (name_of change).extent) (list_items s) ≡ none
  none-for g = let m : RecordMissing s (name_of change).extent b = finds-for s change e f (ap Ok g) h in m.none-there

four-yes : (b : Bool) {u : Unit {0}} → Ok u ≡ balance_asked b → b ≡ true
unfolding balance_asked
four-yes true e = refl
four-yes false e = let z : ◌≡◌ {A = ℕ} 0 1 = cc in absurd (omega arith)

four-no : (b : Bool) (refusal : Refusal) (next : Answer (List Item)) → Err refusal ≡ balance_asked b → ask b 4 next ≡ refused refusal.number
unfolding balance_asked ask
four-no true refusal next e = let z : ◌≡◌ {A = ℕ} 0 1 = cc in absurd (omega arith)
four-no false refusal next e = let z : record { number = 4 } ≡ refusal = cc in ap (λ (x : Refusal). refused x.number) z

module _ (s : List ℕ) (nodesize : ℕ) (change : Change) (room : ℕ) where
  abbrev three : Bool
  three = nodesize_fits nodesize && kind_fits change

  pub sheet-no : (refusal : Refusal) (old : List ℕ) → asked_sheet s three ≡ refused refusal.number → Answered (posted nodesize s change room) (Err refusal) old old
  unfolding posted post
  sheet-no refusal old e =
      answered-no _ room refusal.number old (on-refused s three refusal.number (λ items. ask (balanced items) 4 (changed nodesize change items)) e)

  module _ (passed : asked_sheet s three ≡ accepted (list_items s)) where
    asks : post nodesize s change ≡ ask (balanced (list_items s)) 4 (changed nodesize change (list_items s))
    unfolding post
    asks = on-passed s three (λ items. ask (balanced items) 4 (changed nodesize change items)) passed

    pub kind-yes : T (kind_fits change)
    kind-yes = (and_yes (nodesize_fits nodesize) (kind_fits change) (passed-shows s three passed).0).1

    pub unbalanced : (refusal : Refusal) (old : List ℕ) → Err refusal ≡ balance_asked (balanced (list_items s))
        → Answered (posted nodesize s change room) (Err refusal) old old
    unfolding posted
    unbalanced refusal old e = answered-no _ room refusal.number old (asks ∙ four-no (balanced (list_items s)) refusal _ e)

    module _ {u : Unit {0}} (four : Ok u ≡ balance_asked (balanced (list_items s))) where
      yes : balanced (list_items s) ≡ true
      yes = four-yes (balanced (list_items s)) four

      pub balanced-list : T (balanced (list_items s))
      balanced-list = subst T (sym yes) tt

      asks_change : post nodesize s change ≡ changed nodesize change (list_items s)
      unfolding ask
      asks_change = asks ∙ ap (λ (b : Bool). ask b 4 (changed nodesize change (list_items s))) yes

      pub missing-answered : (old : List ℕ) → first_cut (record_of (name_of change).extent) (list_items s) ≡ none
          → Answered (posted nodesize s change room) (denied 5) old old
      unfolding posted
      missing-answered old e = answered-no _ room 5 old (asks_change ∙ missing-record nodesize change (list_items s) e)

      pub post-answered : (r : Result Edited Refusal) (old new : List ℕ) → Answered (held_sheet room (changed nodesize change (list_items s))) r old new
          → Answered (posted nodesize s change room) r old new
      unfolding posted
      post-answered r old new h = subst (λ (a : Answer (List Item)). Answered (held_sheet room a) r old new) (sym asks_change) h
