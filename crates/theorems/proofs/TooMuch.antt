-- Document 02, ticket 1: a shared drop is refused with 22 exactly if the name stands with less than the amount. Assumes nothing.
use mathlib.Core.Path.{◌≡◌, refl, sym, ◌∙◌, subst}
use mathlib.Core.Bool.{Bool, true, false, not, ◌&&◌}
use mathlib.Core.List.{List}
use mathlib.Core.Option.{Option, none, some}
use Prim.Native.Nat.{ℕ, ◌-◌, ◌≤◌, ◌<◌}
use native.Mathlib.Omega.{arith}
use lib.Dec.{T, leb, eqb, nleb→lt}
use mir.Facts.{and_yes, T_not}
use Rattle.fields.specs.Lists.{Cut, first_cut}
use Rattle.format.specs.declared.SharedRef.{SharedRef}
use Rattle.format.specs.declared.Change.{Change}
use Rattle.format.specs.declared.Change.TheVariants.{DropShared}
use Rattle.format.specs.Questions.{Answer, decides, refused, absent, remove, accepted, ask, bind, needed, held}
use Rattle.format.specs.References.{Ref, Body, total_of}
use Rattle.format.specs.Bodies.{named, one, shared_kind, lowered_by_part}
use Rattle.format.specs.Items.{Item, read_sheet, nodesize_fits, on_sheet, sheet_holds, held_sheet}
use Rattle.format.specs.Sheets.{has_key}
use Rattle.format.specs.Apply.{record_of, on_record}
use Rattle.format.specs.Names.{Name, count, balanced}
use Rattle.format.specs.Ledger.{name_of, kind_fits, post, posted}
use Rattle.format.proofs.Answers.{needed-ok}
use Rattle.format.proofs.Items.{nodesize-out, ReadsSheet, sheet as reads, broken, unsorted, read_sheet-decides}
use Rattle.theorems.proofs.Naming.{shared-naming}
use Rattle.theorems.proofs.Steps.{Here, here_of}
use Rattle.theorems.proofs.Lowered.{part-more, part-lowers}
use Rattle.theorems.proofs.OneDrop.{Drop, item_key, at_item, dropped, shared_drop, shared-changes}
use Rattle.theorems.proofs.DropCalls.{Proper, keyed-own, not-178, shared-proper}
use Rattle.theorems.specs.Acceptance.{shared_size, shared_item}
use Rattle.theorems.specs.PartDrops.{StandsWithLess, TooMuch}
use Rattle.theorems.proofs.Posting.{post_is, SheetFacts, sheet-facts, record-in}
use Rattle.theorems.proofs.AddsAccepted.{shared-size}
use Rattle.theorems.proofs.DropsAccepted.{bind-no, inline-counts, by-item, key-item, Gives, gives}
use Rattle.theorems.proofs.DropCallsAccepted.{plain_size}

-- ---- an answer that is refused with 22, taken apart question by question

abbrev is22 : {A : Type 0} → Answer A → Bool
is22 (refused number) = eqb number 22
is22 absent = false
is22 remove = false
is22 (accepted result) = false

ask-22 : {A : Type 0} (b : Bool) (n : ℕ) (next : Answer A) → T (not (eqb n 22)) → T (is22 (ask b n next)) → T b × T (is22 next)
unfolding ask
ask-22 true n next ne t = (tt, t)
ask-22 false n next ne t = absurd (T_not (eqb n 22) t ne)

-- it is the first that says so, where the second never does; and the other way round
first-22 : {A B : Type 0} (r : Answer A) (next : A → Answer B) → ((a : A) → T (is22 (next a)) → ⊥) → T (is22 (bind r next)) → T (is22 r)
unfolding bind
first-22 (refused n) next f t = t
first-22 absent next f t = absurd t
first-22 remove next f t = absurd t
first-22 (accepted a) next f t = absurd (f a t)

second-22 : {A B : Type 0} (r : Answer A) (next : A → Answer B) → (T (is22 r) → ⊥) → T (is22 (bind r next))
    → (a : A) × (r ≡ accepted a) × T (is22 (next a))
unfolding bind
second-22 (refused n) next f t = absurd (f t)
second-22 absent next f t = absurd t
second-22 remove next f t = absurd t
second-22 (accepted a) next f t = (a, refl, t)

needed-22 : {A : Type 0} (o : Option A) → T (is22 (needed 5 o)) → ⊥
unfolding needed
needed-22 none t = t
needed-22 (some a) t = t

read-22 : (s : List ℕ) → T (is22 (read_sheet s)) → ⊥
read-22 s t = go (read_sheet-decides s)
  where
    go : ReadsSheet (read_sheet s) → ⊥
    go (reads items e) = subst (λ r. T (is22 r)) e t
    go (broken e) = subst (λ r. T (is22 r)) e t
    go (unsorted e) = subst (λ r. T (is22 r)) e t

part-22 : (amount standing total : ℕ) → T (is22 (lowered_by_part amount standing total)) → standing < amount
unfolding lowered_by_part ask
part-22 amount standing total t = go (leb amount standing) refl (ask-22 (leb 1 amount) 10 _ tt t).1
  where
    go : (b : Bool) → leb amount standing ≡ b → T (is22 (ask b 22 (accepted (total - amount)))) → standing < amount
    go true q t = absurd t
    go false q t = nleb→lt amount standing (subst (λ (z : Bool). T (not z)) (sym q) tt)

-- ---- at the record of the name

module _ (sheet : List ℕ) (extent : ℕ) (name : SharedRef) (amount : ℕ) (kind : T (shared_kind name.kind)) (items : List Item)
    (S : SheetFacts sheet items) (c : Cut Item) (b : Body) (H : Here (name_of (DropShared extent name amount)) items c b) where
  abbrev m : Name
  m = name_of (DropShared extent name amount)

  abbrev p : Drop
  p = shared_drop extent name amount

  P : Proper p
  P = shared-proper extent name amount kind

  given : 1 ≤ count m items
      → (gone : ℕ) × Gives sheet gone (lowered_by_part amount (count m items) (total_of c.hit.bytes)) (dropped p items c)
  given n = (
    _,
    gives sheet p P items S c b H (shared_size name.kind) (shared_item name.kind) (shared-size name.kind kind)
        (plain_size name.kind (shared-naming name.kind kind) (not-178 name.kind kind)) n,
  )

  -- a name that does not stand is refused with 5
  stands-22 : T (is22 (dropped p items c)) → 1 ≤ count m items
  stands-22 t = go (first_cut (named name.kind (one name.parent)) b.refs) refl
    where
      go : (o : Option (Cut Ref)) → first_cut (named name.kind (one name.parent)) b.refs ≡ o → 1 ≤ count m items
      go (some x) e = (inline-counts sheet p P items S c b H x e).2
      go none e =
          let (k, q, _) = second-22 (needed 5 (first_cut (has_key (item_key p c.hit.key.objectid)) items)) (at_item p c)
          (needed-22 (first_cut (has_key (item_key p c.hit.key.objectid)) items))
          (subst (λ r. T (is22 r)) (by-item sheet p P items S c b H e) t) in
          let (same, key) = key-item sheet p P items S c b H k q in
          let O = keyed-own extent name.kind name.parent (shared-naming name.kind kind) (not-178 name.kind kind) items
          S.balance k same key in
          omega (arith, O.counts, O.positive)

  less-22 : T (is22 (dropped p items c)) → count m items < amount
  less-22 t =
      go (lowered_by_part amount (count m items) (total_of c.hit.bytes)) refl
      ((part-lowers amount).sure (count m items) (total_of c.hit.bytes))
    where
      go : (a : Answer ℕ) → lowered_by_part amount (count m items) (total_of c.hit.bytes) ≡ a → T (decides a) → count m items < amount
      go (refused number) e _ =
          part-22 amount (count m items) (total_of c.hit.bytes)
          (subst (λ r. T (is22 r)) (sym e) (subst (λ r. T (is22 r)) ((given (stands-22 t)).1.no number e) t))
      go absent e u = absurd u
      go remove e u = absurd u
      go (accepted rest) e _ = absurd (subst (λ r. T (is22 r)) ((given (stands-22 t)).1.yes rest e).1 t)

-- ---- a posting

pub too_much : TooMuch
unfolding posted held_sheet held post on_sheet on_record
too_much nodesize sheet extent name amount room raw = record { only = λ e. only (subst (λ r. T (is22 r)) (sym e) tt); enough = enough }
  where
    change : Change
    change = DropShared extent name amount

    n : Name
    n = name_of change

    at-record : (items : List Item) → read_sheet sheet ≡ accepted items → 501 ≤ nodesize → nodesize ≤ 65536
        → (kind : T (shared_kind name.kind)) → T (balanced items)
        → (c : Cut Item) × (needed 5 (first_cut (record_of extent) items) ≡ accepted c) × T (is22 (dropped (shared_drop extent name amount) items c))
        → StandsWithLess nodesize sheet n amount
    at-record items read least most kind balance (c, e, t) =
        let stands = needed-ok 5 (first_cut (record_of extent) items) e in
        let S = sheet-facts sheet items raw read balance in
        let (b, H) = here_of n items c S.balance S.tidied stands in
        record {
          items = items;
          at = c;
          kind = kind;
          up_to_five = record { reads = read; least = least; most = most; balance = balance; stands = stands };
          named = stands-22 sheet extent name amount kind items S c b H t;
          less = less-22 sheet extent name amount kind items S c b H t;
        }

    only : T (is22 (posted nodesize sheet change room)) → StandsWithLess nodesize sheet n amount
    only t =
        let t₁ = first-22 (held (sheet_holds room) (post nodesize sheet change)) _ (λ items u. u) t in
        let t₂ = first-22 (post nodesize sheet change) _
        (λ items u. (ask-22 (sheet_holds room items) 21 (accepted items) tt u).1) t₁ in
        let (items, read, t₃) = second-22 (read_sheet sheet) _ (read-22 sheet) t₂ in
        let (three, t₄) = ask-22 (nodesize_fits nodesize && kind_fits change) 3 _ tt t₃ in
        let (four, t₅) = ask-22 (balanced items) 4 _ tt t₄ in
        let (fits, kind) = and_yes (nodesize_fits nodesize) (kind_fits change) three in
        let (least, most) = nodesize-out nodesize fits in
        at-record items read least most kind four
        (second-22 (needed 5 (first_cut (record_of extent) items)) (dropped (shared_drop extent name amount) items)
        (needed-22 (first_cut (record_of extent) items))
        (subst (λ r. T (is22 r)) (shared-changes nodesize extent name amount items) t₅))

    enough : StandsWithLess nodesize sheet n amount → posted nodesize sheet change room ≡ refused 22
    enough d =
        let u = d.up_to_five in
        let S = sheet-facts sheet d.items raw u.reads u.balance in
        let (b, H) = here_of n d.items d.at S.balance S.tidied u.stands in
        let e : post nodesize sheet change ≡ refused 22 =
        post_is nodesize sheet change d.items u.reads u.least u.most d.kind u.balance
        ∙ shared-changes nodesize extent name amount d.items
        ∙ record-in extent d.items (dropped (shared_drop extent name amount) d.items) d.at u.stands
        ∙ (given sheet extent name amount d.kind d.items S d.at b H d.named).1.no 22
        (part-more amount (count n d.items) (total_of d.at.hit.bytes) d.less) in
        bind-no (held (sheet_holds room) (post nodesize sheet change)) _ (bind-no (post nodesize sheet change) _ e)
