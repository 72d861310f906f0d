-- A posting of the change that stands in for numbers is the posting that those numbers ask for. Assumes nothing.
use mathlib.Core.Path.{◌≡◌, refl, sym, ap, ◌∙◌, subst}
use mathlib.Core.Bool.{Bool, false, ◌&&◌}
use mathlib.Core.List.{List}
use mathlib.Core.Option.{Option, none, some}
use Prim.Native.Nat.{ℕ, ◌≤◌, ◌<◌}
use native.Mathlib.Omega.{arith}
use lib.Dec.{ltb}
use borrow.Author.Tests.{ltb-true, ltb-false, lt-ltb, le-ltb, ne_eqb}
use Rattle.fields.proofs.Lists.{and-false, by-test}
use Rattle.std.specs.Prelude.{Result}
use Rattle.format.specs.declared.Edited.{Edited}
use Rattle.format.specs.declared.Refusal.{Refusal}
use Rattle.format.specs.declared.Change.{Change}
use Rattle.format.specs.declared.Change.TheVariants.{AddBlock, AddData, AddShared, DropBlock, DropData, DropShared}
use Rattle.format.specs.Questions.{Answer, refused, accepted, ask, bind, Answered}
use Rattle.format.specs.Bodies.{shared_kind}
use Rattle.format.specs.Items.{Item, read_sheet, on_sheet, nodesize_fits, held_sheet}
use Rattle.format.specs.Ledger.{kind_fits, post, posted}
use Rattle.extent_refs.specs.Posts.{posted_if, narrowed, stand_in}

-- ---- the change that stands in

-- question 3 answered with no: what would follow plays no part
on-no : {A : Type 0} (sheet : List ℕ) (three : Bool) (next : List Item → Answer A) → three ≡ false
    → on_sheet sheet three next ≡ bind (read_sheet sheet) (λ items. refused 3)
unfolding on_sheet ask
on-no sheet three next e = ap (λ (b : Bool). on_sheet sheet b next) e

post-no : (nodesize : ℕ) (sheet : List ℕ) (change : Change) → kind_fits change ≡ false
    → post nodesize sheet change ≡ bind (read_sheet sheet) (λ items. refused 3)
unfolding post
post-no nodesize sheet change e = on-no sheet (nodesize_fits nodesize && kind_fits change) _ (rw e (and-false (nodesize_fits nodesize)))

posted-no : (nodesize : ℕ) (sheet : List ℕ) (change other : Change) (room : ℕ) → kind_fits change ≡ false → kind_fits other ≡ false
    → posted nodesize sheet change room ≡ posted nodesize sheet other room
unfolding posted
posted-no nodesize sheet change other room e f = ap (held_sheet room) (post-no nodesize sheet change e ∙ sym (post-no nodesize sheet other f))

pub narrow : (kind : ℕ) → kind < 256 → narrowed kind ≡ kind
unfolding narrowed
narrow kind h = simp (lt-ltb _ _ h)

pub wide : (kind : ℕ) → 256 ≤ kind → narrowed kind ≡ 0
unfolding narrowed
wide kind h = simp (le-ltb _ _ h)

no_kind : (kind : ℕ) → 256 ≤ kind → shared_kind kind ≡ false
unfolding shared_kind
no_kind kind h =
    let n : kind ≡ 182 → ⊥ = λ e. omega arith in
    let m : kind ≡ 184 → ⊥ = λ e. omega arith in
    simp (ne_eqb _ _ n, ne_eqb _ _ m)

no_narrow : (kind : ℕ) → 256 ≤ kind → shared_kind (narrowed kind) ≡ false
unfolding shared_kind
no_narrow kind h = ap shared_kind (wide kind h)

pub stands-in : (nodesize : ℕ) (sheet : List ℕ) (o : Option Change) (room : ℕ)
    → posted nodesize sheet (stand_in o) room ≡ posted_if nodesize sheet o room
unfolding posted posted_if stand_in shared_kind
stands-in nodesize sheet none room = ap (held_sheet room) (post-no nodesize sheet _ refl ∙ sym (on-no sheet false (λ items. accepted items) refl))
stands-in nodesize sheet (some (AddBlock extent name)) room = refl
stands-in nodesize sheet (some (AddData extent name amount)) room = refl
stands-in nodesize sheet (some (AddShared extent name amount)) room =
    by-test (ltb name.kind 256)
    (λ y. ap (λ (k : ℕ). posted nodesize sheet (AddShared extent (record { kind = k; parent = name.parent }) amount) room) (narrow name.kind (ltb-true _ _ y)))
    (λ y. posted-no nodesize sheet _ _ room (no_narrow name.kind (ltb-false _ _ y)) (no_kind name.kind (ltb-false _ _ y)))
stands-in nodesize sheet (some (DropBlock extent name)) room = refl
stands-in nodesize sheet (some (DropData extent name)) room = refl
stands-in nodesize sheet (some (DropShared extent name amount)) room =
    by-test (ltb name.kind 256)
    (λ y. ap (λ (k : ℕ). posted nodesize sheet (DropShared extent (record { kind = k; parent = name.parent }) amount) room) (narrow name.kind (ltb-true _ _ y)))
    (λ y. posted-no nodesize sheet _ _ room (no_narrow name.kind (ltb-false _ _ y)) (no_kind name.kind (ltb-false _ _ y)))

pub answered-in : (nodesize : ℕ) (sheet : List ℕ) (o : Option Change) (room : ℕ) {change : Change} {r : Result Edited Refusal} {old new : List ℕ} → change ≡ stand_in o
    → Answered (posted nodesize sheet change room) r old new
    → Answered (posted_if nodesize sheet o room) r old new
answered-in nodesize sheet o room {change} {r} {old} {new} e h =
    subst (λ (a : Answer (List ℕ)). Answered a r old new) (ap (λ (x : Change). posted nodesize sheet x room) e ∙ stands-in nodesize sheet o room) h
