-- The questions of the writer of an image, as code asks them, and its answer. Assumes nothing.
use mathlib.Core.Path.{◌≡◌, sym, ap, ◌∙◌, subst}
use mathlib.Core.Bool.{true, false, ◌&&◌}
use mathlib.Core.List.{List}
use Prim.Native.Nat.{ℕ, ◌≤◌, ◌<◌}
use native.Mathlib.Omega.{arith}
use lib.Dec.{T, leb, eqb}
use lib.ListN.{length}
use borrow.Author.Tests.{le-leb, lt-leb, eq-eqb, ne_eqb}
use Rattle.std.specs.Prelude.{Result, Ok}
use Rattle.fields.specs.Numbers.{are_bytes}
use Rattle.fields.specs.Parts.{written}
use Rattle.fields.proofs.Lists.{and-false}
use Rattle.format.specs.declared.Edited.{Edited}
use Rattle.format.specs.declared.Refusal.{Refusal}
use Rattle.format.specs.declared.Edited.TheVariants.{Written}
use Rattle.format.specs.Questions.{Answer, refused, accepted, ask, bind, held, denied, Answered}
use Rattle.format.specs.Items.{Item, read_sheet, on_sheet, nodesize_fits}
use Rattle.format.specs.Sheets.{space_of}
use Rattle.format.specs.LeafImage.{image_bytes, write_image, held_image}
use Rattle.format.proofs.Outputs.{answered-refused, answered-written}
use Rattle.item_list.specs.Steps.{IsList, list_items, checked_of}
use Rattle.item_list.proofs.Reading.{Counted, counted}

-- what is known of an item list with so many items
pub counted-list : (s : List ℕ) (n : ℕ) → T (are_bytes s) → IsList s → n ≡ length (list_items s) → Counted s n
unfolding checked_of
counted-list s n t l e = counted s n t (ap checked_of l.reads ∙ ap Ok (sym e))

-- ---- questions 1 to 3 and 18

pub write-refused : (nodesize : ℕ) (header s : List ℕ) (k : ℕ) → read_sheet s ≡ refused k → write_image nodesize header s ≡ refused k
unfolding write_image on_sheet bind
write-refused nodesize header s k e = rw e

module _ (nodesize : ℕ) (header s : List ℕ) (l : IsList s) where
  read : (items : List Item) → read_sheet s ≡ accepted items
      → write_image nodesize header s
      ≡ ask (nodesize_fits nodesize && eqb (length header) 101) 3 (ask (leb (space_of items) nodesize) 18 (accepted (image_bytes nodesize header items)))
  unfolding write_image on_sheet bind
  read items e = rw e

  pub write-node : nodesize_fits nodesize ≡ false → write_image nodesize header s ≡ refused 3
  unfolding ask
  write-node h = read (list_items s) l.reads ∙ rw h

  pub write-header : (length header ≡ 101 → ⊥) → write_image nodesize header s ≡ refused 3
  unfolding ask
  write-header h = read (list_items s) l.reads ∙ rw (ne_eqb (length header) 101 h, and-false (nodesize_fits nodesize))

  module _ (node : nodesize_fits nodesize ≡ true) (long : length header ≡ 101) where
    pub write-large : nodesize < space_of (list_items s) → write_image nodesize header s ≡ refused 18
    unfolding ask
    write-large h = read (list_items s) l.reads ∙ rw (node, eq-eqb (length header) 101 long, lt-leb (space_of (list_items s)) nodesize h)

    pub write-accepted : space_of (list_items s) ≤ nodesize → write_image nodesize header s ≡ accepted (image_bytes nodesize header (list_items s))
    unfolding ask
    write-accepted h = read (list_items s) l.reads ∙ rw (node, eq-eqb (length header) 101 long, le-leb (space_of (list_items s)) nodesize h)

-- ---- question 21 and the answer

module _ (a : Answer (List ℕ)) (old : List ℕ) where
  pub image-refused : (k : ℕ) → a ≡ refused k → Answered (held_image (length old) a) (denied k) old old
  unfolding held_image held bind
  image-refused k e = answered-refused old (ap (held_image (length old)) e)

  module _ (image : List ℕ) (size : ℕ) (e : a ≡ accepted image) (long : length image ≡ size) where
    pub image-short : length old < size → Answered (held_image (length old) a) (denied 21) old old
    unfolding held_image held bind ask
    image-short h =
        let room : length old < length image = omega arith in
        answered-refused old (ap (held_image (length old)) e ∙ rw (lt-leb (length image) (length old) room))

    pub image-written : (new : List ℕ) → size ≤ length old → new ≡ written 0 image old → Answered (held_image (length old) a) (Ok (Written size)) old new
    unfolding held_image held bind ask
    image-written new h w =
        let room : length image ≤ length old = omega arith in
        let fits : held_image (length old) a ≡ accepted image = ap (held_image (length old)) e ∙ rw (le-leb (length image) (length old) room) in
        subst (λ (n : ℕ). Answered (held_image (length old) a) (Ok (Written n)) old new) long (answered-written fits w)

-- where a `?` hands a refusal on
pub handed : {a : Answer (List ℕ)} {r s : Result Edited Refusal} {old new : List ℕ} → r ≡ s → Answered a s old new → Answered a r old new
handed e w = record { result = e ∙ w.result; output = w.output }
