-- Items and their bytes under question 21: an answer of items with one body among them is held as their bytes are. Assumes nothing.
use mathlib.Core.Path.{◌≡◌, refl}
use mathlib.Core.Bool.{Bool, true, false, ◌&&◌}
use mathlib.Core.List.{List, [], ◌∷◌, ◌++◌}
use Prim.Native.Nat.{ℕ}
use lib.Dec.{T, leb}
use lib.ListN.{length}
use mir.Facts.{and_yes}
use Rattle.fields.specs.Lists.{all}
use Rattle.fields.proofs.Lists.{and-true, T-eq}
use Rattle.format.specs.Questions.{Answer, refused, absent, remove, accepted, ask, bind, held}
use Rattle.format.specs.Items.{Item, sheet_bytes, data_fits, sheet_holds, held_sheet}
use Rattle.item_list.specs.ItemWrites.{room_for}
use Rattle.record_edit.specs.Records.{held_record}

pub held_items : (room count size : ℕ) (items : List Item) (bytes : List ℕ) → sheet_bytes items ≡ bytes → length items ≡ count
    → all (λ i. data_fits i.bytes) items ≡ leb size 65535
    → held_sheet room (accepted items) ≡ held_record room count size bytes
unfolding held_sheet held sheet_holds held_record room_for bind ask
held_items room count size items bytes e n f =
    rw (← e, ← n, f)
    (go (leb (length (sheet_bytes items)) room && leb (length (sheet_bytes items)) 262144 && leb (length items) 4096 && leb size 65535))
  where
    go : (b : Bool) → bind (ask b 21 (accepted items)) (λ (l : List Item). accepted (sheet_bytes l)) ≡ ask b 21 (accepted (sheet_bytes items))
    go true = refl
    go false = refl

-- after the body's answer, the items are held as their bytes are
pub held-bind : (room : ℕ) (a : Answer (List ℕ)) (next : List ℕ → Answer (List Item)) (put : List ℕ → Answer (List ℕ))
    → ((d : List ℕ) → a ≡ accepted d → held_sheet room (next d) ≡ put d)
    → held_sheet room (bind a next) ≡ bind a put
unfolding held_sheet held bind
held-bind room (refused k) next put h = refl
held-bind room absent next put h = refl
held-bind room remove next put h = refl
held-bind room (accepted d) next put h = h d refl

-- a test of all items where all but one pass it

pub all_but : (p : Item → Bool) (a : List Item) (x : Item) (b : List Item) → T (all p (a ++ b)) → all p (a ++ x ∷ b) ≡ p x
all_but p [] x b t = rw (T-eq (all p b) t) (and-true (p x))
all_but p (w ∷ a) x b t = let h = and_yes (p w) _ t in rw (T-eq (p w) h.0) (all_but p a x b h.1)
