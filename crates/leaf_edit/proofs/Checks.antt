-- What `check` and `find` have shown, from their answers as code has them. Assumes nothing.
use mathlib.Core.Path.{◌≡◌, sym, ap, ◌∙◌}
use mathlib.Core.Bool.{Bool}
use mathlib.Core.List.{List}
use Prim.Native.Nat.{ℕ}
use lib.ListN.{get_or}
use mir.Syntax.{w8}
use mir.Val.{Fits}
use Rattle.std.specs.Prelude.{Option, Some, None, Result, Ok, Err}
use Rattle.std.specs.Result.{IsErrAnd}
use Rattle.std.specs.Result.{result_ok}
use Rattle.std.specs.Option.{ok_or}
use Rattle.fields.proofs.Numbers.{are_bytes-in}
use Rattle.format.proofs.Answers.{handed_on}
use Rattle.format.specs.declared.Refusal.{Refusal}
use Rattle.format.specs.Questions.{refused}
use Rattle.format.specs.Items.{Item, read_sheet}
use Rattle.item_list.specs.declared.ItemPlace.{ItemPlace}
use Rattle.item_list.specs.declared.Listing.{Listing}
use Rattle.item_list.specs.Steps.{checked_of}
use Rattle.item_list.specs.Seeks.{listing_of}
use Rattle.item_list.proofs.Reading.{Counted, counted, sheet-refused, found-is, Located, located, Lacking, lacking, listing-refused}

-- the bytes of a slice are bytes, as its type says
abbrev pub Bytes : List ℕ → Type 0
Bytes s = (i : ℕ) → Fits w8 (get_or s i 0)

pub good : {s : List ℕ} {r : Result ℕ Refusal} {n : ℕ} → r ≡ checked_of (read_sheet s) → Bytes s → r ≡ Ok n → Counted s n
good told f w = counted _ _ (are_bytes-in _ (λ i. (f i).fits)) (sym told ∙ w)

pub bad : (s : List ℕ) {r : Result ℕ Refusal} {e : Refusal} → r ≡ checked_of (read_sheet s) → r ≡ Err e → read_sheet s ≡ refused e.number
bad s told w = sheet-refused s _ (sym told ∙ w)

module _ (test : ℕ → Item → Bool) (s : List ℕ) {r : Result Listing Refusal} where
  pub found-bad : {e : Refusal} → r ≡ listing_of test (read_sheet s) → r ≡ Err e → read_sheet s ≡ refused e.number
  found-bad told w = listing-refused test s _ (sym told ∙ w)

  module _ (listing : Listing) (told : r ≡ listing_of test (read_sheet s)) (f : Bytes s) (w : r ≡ Ok listing) where
    pub found-good : Counted s listing.count
    found-good = counted s listing.count (are_bytes-in s (λ i. (f i).fits)) (found-is test (read_sheet s) listing (sym told ∙ w)).0

    pub hit : {place : ItemPlace} → listing.place ≡ Some place → Located test s listing.count place
    hit p = located test s listing (are_bytes-in s (λ i. (f i).fits)) (sym told ∙ w) _ p

    pub miss : listing.place ≡ None → Lacking test s listing.count
    miss p = lacking test s listing (are_bytes-in s (λ i. (f i).fits)) (sym told ∙ w) p

-- ---- what `ok_or` and a `?` make of an option

module _ {A : Type 0} {o : Option A} {r : Result A Refusal} (part : o ≡ result_ok r) where
  pub there : {x : A} → r ≡ Ok x → o ≡ Some x
  there w = part ∙ ap result_ok w

  pub gone : {e : Refusal} → r ≡ Err e → o ≡ None
  gone w = part ∙ ap result_ok w

-- the error of `ok_or` is the one that is handed on
pub missing : {A B : Type 0} {o : Option A} {r : Result A Refusal} {q : Result B Refusal} {d e : Refusal} → r ≡ ok_or o d → o ≡ result_ok r → r ≡ Err e
    → IsErrAnd q (λ x. x ≡ e) → q ≡ Err d
missing {A = A} {d = d} {e = e} v p w h =
    let f : ◌≡◌ {A = Result A Refusal} (Err e) (Err d) = sym w ∙ v ∙ ap (λ o. ok_or o d) (gone p w) in
    handed_on h ∙ ap Err (let z : e ≡ d = cc in z)
