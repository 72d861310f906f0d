-- The two calls on leaf images taken apart and put together: question 1 never refuses a read, a write is accepted exactly if each
-- question is answered yes, and what it wrote is read back. Assumes nothing.
use mathlib.Core.Path.{◌≡◌, refl, sym, ap, ◌∙◌, subst}
use mathlib.Core.Bool.{Bool, true, false, not, ◌&&◌}
use mathlib.Core.List.{List}
use Prim.Native.Nat.{ℕ, zero, suc, ◌-◌, ◌*◌, ◌≤◌}
use native.Mathlib.Omega.{arith}
use lib.Dec.{T, leb, eqb, eqb→eq, leb→le, le→leb}
use lib.ListN.{length, drop}
use mir.Facts.{and_yes, yes_and, yes_eqb}
use Rattle.fields.specs.Lists.{all}
use Rattle.fields.specs.Numbers.{are_bytes}
use Rattle.format.specs.Questions.{Answer, refused, absent, remove, accepted, ask, bind, held}
use Rattle.format.specs.Items.{Item, rising, read_sheet, sheet_bytes, nodesize_fits, on_sheet, sheet_holds}
use Rattle.format.specs.Sheets.{space_of}
use Rattle.format.specs.LeafImage.{count_in, is_leaf, data_position, image_items, items_in_image, read_image, image_bytes, write_image, held_image}
use Rattle.format.proofs.Answers.{ask-ok, ask-yes, bind_ok, bind-yes, held-ok, accepted-inj}
use Rattle.format.proofs.Items.{sane, sane-fit, nodesize-out, nodesize-in, sheet-sane, sheet_bytes-read}
use Rattle.format.proofs.LeafImages.{leaf-out, image-listed}
use Rattle.format.proofs.LeafImagesWritten.{length-image_bytes, leaf-back, items_back}
use Rattle.theorems.specs.LeafImages.{NeverBroken, WritesImage, WriteAccepted, WrittenLength, ReadsBack}
use Rattle.theorems.proofs.Posting.{held-sheet-in, sheet-size, holds-in}

-- ---- a read

pub record ImageRead (nodesize : ℕ) (image : List ℕ) (items : List Item) : Type 0 where
  pub fits : T (nodesize_fits nodesize)
  pub leaf : T (is_leaf nodesize image)
  pub reads : items_in_image nodesize image ≡ accepted items
  pub rises : T (rising items)

module _ (nodesize : ℕ) (image : List ℕ) (t : T (are_bytes image)) where
  -- the sheet of what was read is asked question 2 alone
  pub read_out : (items : List Item) → read_image nodesize image ≡ accepted items → ImageRead nodesize image items
  unfolding read_image
  read_out items e =
      let h₁ = ask-ok (nodesize_fits nodesize) 3 _ e in
      let h₂ = ask-ok (is_leaf nodesize image) 23 _ h₁.1 in
      let h₃ = bind_ok (items_in_image nodesize image) _ h₂.1 in
      let l = leaf-out nodesize image h₂.0 in
      let h₄ = ask-ok (rising h₃.0) 2 _ (sym (image-listed nodesize image h₃.0 t l.whole h₁.0 h₃.1) ∙ h₃.2) in
      let same : h₃.0 ≡ items = accepted-inj h₄.1 in
      record {
        fits = h₁.0;
        leaf = h₂.0;
        reads = h₃.1 ∙ ap (λ (l : List Item). accepted l) same;
        rises = subst (λ (l : List Item). T (rising l)) same h₄.0;
      }

  pub read-in : (items : List Item) → ImageRead nodesize image items → read_image nodesize image ≡ accepted items
  unfolding read_image
  read-in items r =
      ask-yes (nodesize_fits nodesize) 3 _ r.fits
      ∙ ask-yes (is_leaf nodesize image) 23 _ r.leaf
      ∙ bind-yes (items_in_image nodesize image) _ r.reads
      ∙ image-listed nodesize image items t (leaf-out nodesize image r.leaf).whole r.fits r.reads
      ∙ ask-yes (rising items) 2 (accepted items) r.rises

-- ---- question 1 never refuses a read

abbrev unbroken : {A : Type 0} → Answer A → Bool
unbroken (refused number) = not (eqb number 1)
unbroken absent = true
unbroken remove = true
unbroken (accepted result) = true

unbroken-ask : {A : Type 0} (b : Bool) (number : ℕ) (next : Answer A) → T (not (eqb number 1)) → (T b → T (unbroken next)) → T (unbroken (ask b number next))
unfolding ask
unbroken-ask true number next t f = f tt
unbroken-ask false number next t f = t

unbroken-bind : {A B : Type 0} (r : Answer A) (next : A → Answer B) → T (unbroken r) → ((a : A) → r ≡ accepted a → T (unbroken (next a)))
    → T (unbroken (bind r next))
unfolding bind
unbroken-bind (refused number) next t f = t
unbroken-bind absent next t f = tt
unbroken-bind remove next t f = tt
unbroken-bind (accepted a) next t f = f a refl

unbroken-run : (least : ℕ) (area : List ℕ) (count end : ℕ) (headers : List ℕ) → T (unbroken (image_items least area count end headers))
unfolding image_items
unbroken-run least area zero end headers = tt
unbroken-run least area (suc count) end headers =
    unbroken-ask _ 24 _ tt (λ _. unbroken-bind (image_items least area count (data_position headers) (drop 25 headers)) _ (unbroken-run least area count (data_position headers) (drop 25 headers)) (λ items e. tt))

pub never-broken : NeverBroken
unfolding read_image
never-broken nodesize image t e =
    let h : T (unbroken (read_image nodesize image)) =
    unbroken-ask (nodesize_fits nodesize) 3 _ tt (λ fits.
    unbroken-ask (is_leaf nodesize image) 23 _ tt (λ leaf.
    unbroken-bind (items_in_image nodesize image) _
    (unbroken-run (25 * count_in image) (drop 101 image) (count_in image) (nodesize - 101) (drop 101 image))
    (λ items reads. subst (λ (r : Answer (List Item)). T (unbroken r))
    (sym (image-listed nodesize image items t (leaf-out nodesize image leaf).whole fits reads))
    (unbroken-ask (rising items) 2 (accepted items) tt (λ _. tt))))) in
    subst (λ (r : Answer (List Item)). T (unbroken r)) e h

-- ---- a write

module _ (nodesize : ℕ) (header sheet : List ℕ) (room : ℕ) (image : List ℕ) where
  pub write-only : held_image room (write_image nodesize header sheet) ≡ accepted image
      → (items : List Item) × WritesImage nodesize header sheet room items × (image ≡ image_bytes nodesize header items)
  unfolding held_image write_image on_sheet
  write-only e =
      let h₁ = held-ok (λ bytes. leb (length bytes) room) (write_image nodesize header sheet) e in
      let h₂ = bind_ok (read_sheet sheet) _ h₁.0 in
      let items : List Item = h₂.0 in
      let h₃ = ask-ok (nodesize_fits nodesize && eqb (length header) 101) 3 _ h₂.2 in
      let h₄ = ask-ok (leb (space_of items) nodesize) 18 _ h₃.1 in
      let k = and_yes (nodesize_fits nodesize) _ h₃.0 in
      let n = nodesize-out nodesize k.0 in
      let long : length header ≡ 101 = eqb→eq _ 101 k.1 in
      let fits : space_of items ≤ nodesize = leb→le _ _ h₄.0 in
      let is : image_bytes nodesize header items ≡ image = accepted-inj h₄.1 in
      let size : length image ≡ nodesize = ap length (sym is) ∙ length-image_bytes nodesize header items long fits in
      let roomy : length image ≤ room = leb→le _ _ h₁.1 in
      (items, record { reads = h₂.1; least = n.0; most = n.1; lent = long; fits = fits; roomy = omega arith }, sym is)

  pub write-enough : (items : List Item) → WritesImage nodesize header sheet room items → image ≡ image_bytes nodesize header items
      → held_image room (write_image nodesize header sheet) ≡ accepted image
  unfolding held_image held write_image on_sheet
  write-enough items w e =
      let size : length image ≡ nodesize = ap length e ∙ length-image_bytes nodesize header items w.lent w.fits in
      let roomy = w.roomy in
      let wrote : write_image nodesize header sheet ≡ accepted image =
      bind-yes (read_sheet sheet) _ w.reads
      ∙ ask-yes (nodesize_fits nodesize && eqb (length header) 101) 3 _
      (yes_and (nodesize_fits nodesize) _ (nodesize-in nodesize w.least w.most) (yes_eqb w.lent))
      ∙ ask-yes (leb (space_of items) nodesize) 18 _ (le→leb (space_of items) nodesize w.fits)
      ∙ ap (λ (l : List ℕ). accepted l) (sym e) in
      bind-yes (write_image nodesize header sheet) _ wrote ∙ ask-yes (leb (length image) room) 21 (accepted image) (le→leb (length image) room (omega arith))

pub write-accepted : WriteAccepted
write-accepted nodesize header sheet room image =
    record {
      only = write-only nodesize header sheet room image;
      enough = λ w. write-enough nodesize header sheet room image w.0 w.1 w.2;
    }

pub written-length : WrittenLength
written-length nodesize header sheet room image e =
    let w = write-only nodesize header sheet room image e in
    ap length w.2 ∙ length-image_bytes nodesize header w.0 w.1.lent w.1.fits

-- ---- written and read back

written_read : (nodesize : ℕ) (header sheet : List ℕ) (room : ℕ) (items : List Item) → WritesImage nodesize header sheet room items → T (all sane items)
    → sheet_bytes items ≡ sheet
    → read_image nodesize (image_bytes nodesize header items) ≡ accepted items
unfolding read_image
written_read nodesize header sheet room items w t back =
    ask-yes (nodesize_fits nodesize) 3 _ (nodesize-in nodesize w.least w.most)
    ∙ ask-yes (is_leaf nodesize (image_bytes nodesize header items)) 23 _ (leaf-back nodesize header items w.lent w.fits)
    ∙ bind-yes (items_in_image nodesize (image_bytes nodesize header items)) _ (items_back nodesize header items w.lent w.fits w.most t)
    ∙ ap read_sheet back
    ∙ w.reads

pub reads-back : ReadsBack
reads-back nodesize header sheet image room enough t e h =
    let w = write-only nodesize header sheet room image e in
    let items : List Item = w.0 in
    let q = w.1 in
    let s = sheet-sane sheet items t q.reads in
    let back : sheet_bytes items ≡ sheet = sheet_bytes-read sheet items t q.reads in
    let is : image ≡ image_bytes nodesize header items = w.2 in
    let few = s.1 in
    let small = s.3 in
    let size = sheet-size items in
    let long : length (sheet_bytes items) ≡ length sheet = ap length back in
    let holds : T (sheet_holds enough items) = holds-in enough items (omega arith) (omega arith) few (sane-fit items s.0) in
    let listed : read_image nodesize image ≡ accepted items = ap (read_image nodesize) is ∙ written_read nodesize header sheet room items q s.0 back in
    held-sheet-in enough (read_image nodesize image) items listed holds ∙ ap (λ (l : List ℕ). accepted l) back
